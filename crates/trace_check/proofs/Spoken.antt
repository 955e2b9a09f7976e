-- A note's lines are read as the note.
use Rattle.std.proofs.Common.{◌≡◌, ℕ, ◌<◌, Bool, true, false, List, [], ◌∷◌, ◌++◌, length, refl, sym, subst, arith, append_assoc}
use Rattle.std.specs.Prelude.{◌&&◌, codes, Some}
use Rattle.std.specs.Fmt.{decimal}
use Rattle.std.specs.declared.cmp.Ordering.TheVariants.{Less}
use Rattle.std.proofs.lemmas.Bool.{lt-ltb}
use Rattle.upd_text.specs.Text.{IsName}
use Rattle.upd_text.specs.Order.{byte_cmp}
use Rattle.script_names.specs.Scripts.{IsScript, last_script}
use Rattle.device_model.specs.declared.calls.Event.{Event}
use Rattle.flow_table.specs.declared.position.Position.{Position}
use Rattle.flow_table.specs.declared.position.State.{State}
use Rattle.flow_table.specs.declared.position.State.TheVariants as at
use Rattle.flow_table.specs.declared.position.Outcome.{Outcome}
use Rattle.flow_table.specs.declared.position.Outcome.TheVariants.{Undecided, Kept, Committed, RolledBack, Inconsistent}
use Rattle.flow_table.specs.declared.position.Reboot.{Reboot as Rebooting}
use Rattle.flow_table.specs.declared.position.Reboot.TheVariants.{No, Yes, Automatic}
use Rattle.flow_table.specs.declared.table.TheConstants.{MOST_KINDS}
use Rattle.flow_table.specs.Names.{state_name, outcome_name, reboot_name}
use Rattle.flow_table.proofs.Named.{state-named, outcome-named, reboot-named}
use Rattle.trace_check.specs.declared.note.Deed.{Deed}
use Rattle.trace_check.specs.declared.note.Deed.TheVariants as deed
use Rattle.trace_check.specs.declared.note.Note.{Note}
use Rattle.trace_check.specs.declared.note.NoteEnd.{NoteEnd}
use Rattle.trace_check.specs.declared.note.NoteEnd.TheVariants as noted_end
use Rattle.trace_check.specs.declared.stage.Stage.{Stage}
use Rattle.trace_check.specs.declared.stage.Stage.TheVariants.{Between, Booted, Open}
use Rattle.trace_check.specs.Form.{is_place}
use Rattle.trace_check.specs.Texts.{deed_name, undoable_name, from_line}
use Rattle.trace_check.specs.Lines.{lacks, deed_in, undoable_named, fields_in, position_in, from_in, is_line}
use Rattle.trace_check.specs.Stages.{with_kind, with_script, with_own, more_step, step}
use Rattle.trace_check.proofs.Same.{and-made}
use Rattle.trace_check.proofs.Parted.{split-found}
use Rattle.trace_check.proofs.Spelled.{is-the-line}
use Rattle.trace_check.proofs.Backs.{number-back, name-back, only-back}

-- ---- the texts of the lines, without their newlines

abbrev pub boot_text : Deed → List ℕ
boot_text d = codes "boot " ++ deed_name d

abbrev pub words_text : Position → List ℕ
words_text p =
    state_name p.state ++ 32 ∷ (outcome_name p.outcome ++ 32 ∷ (undoable_name p.undoable ++ 32 ∷ (reboot_name p.reboot ++ 32 ∷ decimal p.n)))

abbrev pub from_text : Position → List ℕ
from_text p = codes "from " ++ words_text p

abbrev pub kind_text : List ℕ → List ℕ
kind_text name = codes "kind " ++ name

abbrev pub script_text : List ℕ → List ℕ
script_text name = codes "script " ++ name

abbrev pub site_text : List ℕ → List ℕ
site_text name = codes "site " ++ name

abbrev pub end_text : NoteEnd → List ℕ
end_text noted_end.Nothing = codes "end none"
end_text (noted_end.Ended o) = codes "end ended " ++ outcome_name o
end_text noted_end.Waits = codes "end waits"
end_text noted_end.RebootNeeded = codes "end reboot-needed"
end_text noted_end.Halted = codes "end halted"

pub from-line : (p : Position) → from_line p ≡ from_text p ++ 10 ∷ []
from-line p = simp append_assoc

-- ---- the first two lines

deed-back : (d : Deed) → deed_in (boot_text d) ≡ Some d
unfolding deed_in
deed-back deed.Install = refl
deed-back deed.Resume = refl
deed-back deed.ResumeStop = refl
deed-back deed.Commit = refl
deed-back deed.Rollback = refl

state-lacks : (s : State) → lacks 32 (state_name s) ≡ true
unfolding state_name
state-lacks at.Idle = refl
state-lacks at.Download = refl
state-lacks at.Install = refl
state-lacks at.Reboot = refl
state-lacks at.VerifyReboot = refl
state-lacks at.Commit = refl
state-lacks at.CommitLeave = refl
state-lacks at.Rollback = refl
state-lacks at.RollbackReboot = refl
state-lacks at.VerifyRollbackReboot = refl
state-lacks at.Failure = refl
state-lacks at.Cleanup = refl
state-lacks at.Wait = refl

outcome-lacks : (o : Outcome) → lacks 32 (outcome_name o) ≡ true
unfolding outcome_name
outcome-lacks Undecided = refl
outcome-lacks Kept = refl
outcome-lacks Committed = refl
outcome-lacks RolledBack = refl
outcome-lacks Inconsistent = refl

undoable-lacks : (u : Bool) → lacks 32 (undoable_name u) ≡ true
undoable-lacks true = refl
undoable-lacks false = refl

reboot-lacks : (r : Rebooting) → lacks 32 (reboot_name r) ≡ true
unfolding reboot_name
reboot-lacks No = refl
reboot-lacks Yes = refl
reboot-lacks Automatic = refl

undoable-back : (u : Bool) → undoable_named (undoable_name u) ≡ Some u
undoable-back true = refl
undoable-back false = refl

fields-back : (p : Position) → p.n < 256 → fields_in (state_name p.state) (outcome_name p.outcome) (undoable_name p.undoable) (reboot_name p.reboot) (decimal p.n) ≡ Some p
unfolding fields_in
fields-back p small =
    let e1 = state-named p.state in
    let e2 = outcome-named p.outcome in
    let e3 = undoable-back p.undoable in
    let e4 = reboot-named p.reboot in
    let e5 = number-back 255 p.n (omega arith) (omega arith) in
    rw (e1, e2, e3, e4, e5)

position-back : (p : Position) → p.n < 256 → position_in (words_text p) ≡ Some p
unfolding position_in
position-back p small =
    let e4 = split-found (reboot_name p.reboot) (decimal p.n) (reboot-lacks p.reboot) in
    let e3 = split-found (undoable_name p.undoable) (reboot_name p.reboot ++ 32 ∷ decimal p.n) (undoable-lacks p.undoable) in
    let e2 = split-found (outcome_name p.outcome) (undoable_name p.undoable ++ 32 ∷ (reboot_name p.reboot ++ 32 ∷ decimal p.n)) (outcome-lacks p.outcome) in
    let e1 = split-found (state_name p.state) (outcome_name p.outcome ++ 32 ∷ (undoable_name p.undoable ++ 32 ∷ (reboot_name p.reboot ++ 32 ∷ decimal p.n))) (state-lacks p.state) in
    rw (e1, e2, e3, e4) (fields-back p small)

from-back : (p : Position) → is_place p ≡ true → p.n < 256 → from_in (from_text p) ≡ Some p
unfolding from_in
from-back p place small =
    only-back (λ (q : Position). is_place q && is_line (from_line q) (from_text p)) (position_in (words_text p)) p (position-back p small)
    (and-made (is_place p) (is_line (from_line p) (from_text p)) place (subst (λ (l : List ℕ). is_line l (from_text p) ≡ true) (sym (from-line p)) (is-the-line (from_text p))))

-- ---- what is open

abbrev pub opened : Deed → Position → List (List ℕ) → List (List ℕ) → List (List ℕ) → List Event → Stage
opened d p ks ss os es = Open (record { deed = d; from = p; kinds = ks; scripts = ss; site = os }) (record { events = es; room = 0 })

pub boot-step : (d : Deed) (notes : List Note) → step Between notes (boot_text d) ≡ Some (Booted d, notes)
unfolding step
boot-step d notes = let e = deed-back d in rw e

pub from-step : (d : Deed) (p : Position) (notes : List Note) → is_place p ≡ true → p.n < 256 → step (Booted d) notes (from_text p) ≡ Some (opened d p [] [] [] [], notes)
unfolding step
from-step d p notes place small = let e = from-back p place small in rw e

module _ (d : Deed) (p : Position) (notes : List Note) where
  pub kind-step : (ks : List (List ℕ)) (k : List ℕ) → IsName k → length ks < 8 → step (opened d p ks [] [] []) notes (kind_text k) ≡ Some (opened d p (ks ++ k ∷ []) [] [] [], notes)
  unfolding step more_step with_kind
  kind-step ks k name few =
      let e1 = name-back k name in
      let e2 = lt-ltb (length ks) MOST_KINDS few in
      rw (e1, e2)

  pub script-step : (ks ss : List (List ℕ)) (s : List ℕ) → 0 < length ks → IsScript s → length ss < 64 → byte_cmp (last_script ss) s ≡ Less → step (opened d p ks ss [] []) notes (script_text s) ≡ Some (opened d p ks (ss ++ s ∷ []) [] [], notes)
  unfolding step more_step with_script
  script-step ks ss s any is few above =
      let e1 = name-back s is.0 in
      let e2 = is.1 in
      let e3 = lt-ltb 0 (length ks) any in
      let e4 = lt-ltb (length ss) 64 few in
      rw (e1, e2, e3, e4, above)

  pub own-step : (ks ss os : List (List ℕ)) (s : List ℕ) → 0 < length ks → IsScript s → length os < 64 → byte_cmp (last_script os) s ≡ Less → step (opened d p ks ss os []) notes (site_text s) ≡ Some (opened d p ks ss (os ++ s ∷ []) [], notes)
  unfolding step more_step with_own
  own-step ks ss os s any is few above =
      let e1 = name-back s is.0 in
      let e2 = is.1 in
      let e3 = lt-ltb 0 (length ks) any in
      let e4 = lt-ltb (length os) 64 few in
      rw (e1, e2, e3, e4, above)
