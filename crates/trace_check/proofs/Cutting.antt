-- The text of notes, cut into lines.
use Rattle.std.proofs.Common.{◌≡◌, ℕ, zero, suc, ◌/◌, ◌%◌, ◌<◌, Bool, true, false, List, [], ◌∷◌, ◌++◌, map, refl, sym, ap, ◌∙◌, arith, append_assoc, append-nil}
use Rattle.std.specs.Prelude.{◌==◌, not}
use Rattle.std.specs.Fmt.{decimal}
use Rattle.std.specs.List.{flat_map, slice_index, AllByRecursion}
use Rattle.std.proofs.lemmas.List.Folds.{flat_map-map}
use Rattle.std.proofs.lemmas.Grind.{flat_map-append}
use Rattle.hex.specs.Hex.{encode_lower, encode_with, lower_digits}
use Rattle.upd_text.specs.Text.{IsName}
use Rattle.script_names.specs.Scripts.{IsScript}
use Rattle.device_model.specs.declared.calls.Answer.TheVariants.{Exit, Reply, NotStarted}
use Rattle.device_model.specs.declared.calls.Call.TheVariants.{Module, Ask, Script, SystemReboot}
use Rattle.device_model.specs.declared.calls.Event.{Event}
use Rattle.device_model.specs.declared.calls.Event.TheVariants.{Start, End, Pause, Loss}
use Rattle.device_model.specs.declared.calls.ModState.{ModState}
use Rattle.device_model.specs.declared.calls.ModState.TheVariants as state
use Rattle.device_model.specs.declared.calls.Query.{Query}
use Rattle.device_model.specs.declared.calls.Query.TheVariants as query
use Rattle.device_model.specs.Names.{mod_state_name, query_name}
use Rattle.event_text.specs.Lines.{event_text, reply_text, line}
use Rattle.flow_table.specs.declared.position.Position.{Position}
use Rattle.flow_table.specs.declared.position.State.{State}
use Rattle.flow_table.specs.declared.position.State.TheVariants as at
use Rattle.flow_table.specs.declared.position.Outcome.{Outcome}
use Rattle.flow_table.specs.declared.position.Outcome.TheVariants.{Undecided, Kept, Committed, RolledBack, Inconsistent}
use Rattle.flow_table.specs.declared.position.Reboot.{Reboot as Rebooting}
use Rattle.flow_table.specs.declared.position.Reboot.TheVariants.{No, Yes, Automatic}
use Rattle.flow_table.specs.Names.{state_name, outcome_name, reboot_name}
use Rattle.trace_check.specs.declared.note.Deed.{Deed}
use Rattle.trace_check.specs.declared.note.Deed.TheVariants as deed
use Rattle.trace_check.specs.declared.note.Note.{Note}
use Rattle.trace_check.specs.declared.note.NoteEnd.{NoteEnd}
use Rattle.trace_check.specs.declared.note.NoteEnd.TheVariants as noted_end
use Rattle.trace_check.specs.Texts.{undoable_name, boot_line, from_line, kind_line, script_line, site_line, end_line, text_of, texts_of}
use Rattle.trace_check.specs.Lines.{lacks}
use Rattle.trace_check.specs.Reads.{IsEventText, IsRight}
use Rattle.trace_check.proofs.Same.{both-parts, and-made}
use Rattle.trace_check.proofs.Lined.{ended, unlines, AreLineTexts}
use Rattle.trace_check.proofs.Backs.{digits-lack, name-lacks}
use Rattle.trace_check.proofs.Spoken.{boot_text, from_text, kind_text, script_text, site_text, end_text, from-line}
use Rattle.trace_check.proofs.Retold.{note_lines}

-- ---- the text is that of the lines

regroup : (a b k s o t : List ℕ) → a ++ (b ++ (k ++ (s ++ (o ++ t)))) ≡ (a ++ b) ++ ((k ++ (s ++ o)) ++ t)
regroup a b k s o t = simp append_assoc

end-line : (e : NoteEnd) → ended (end_text e) ++ [] ≡ end_line e
end-line noted_end.Nothing = refl
end-line (noted_end.Ended o) = append-nil (end_line (noted_end.Ended o))
end-line noted_end.Waits = refl
end-line noted_end.RebootNeeded = refl
end-line noted_end.Halted = refl

lines-of : {A : Type 0} (text : A → List ℕ) (xs : List A) (rest : List (List ℕ)) (t : List ℕ) → unlines rest ≡ t → unlines (map text xs ++ rest) ≡ flat_map (λ x. ended (text x)) xs ++ t
lines-of text xs rest t is =
    flat_map-append ended (map text xs) rest ∙ ap (λ (l : List ℕ). l ++ unlines rest) (flat_map-map ended text xs) ∙ ap (λ (l : List ℕ). flat_map (λ x. ended (text x)) xs ++ l) is

note-text : (n : Note) → unlines (note_lines n) ≡ text_of n
note-text n =
    let fourth = lines-of event_text n.events.events (end_text n.end ∷ []) (end_line n.end) (end-line n.end) in
    let third = lines-of site_text n.head.site _ _ fourth in
    let second = lines-of script_text n.head.scripts _ _ third in
    let first = lines-of kind_text n.head.kinds _ _ second in
    ap (λ (l : List ℕ). boot_line n.head.deed ++ (ended (from_text n.head.from) ++ l)) first
    ∙ ap (λ (l : List ℕ). boot_line n.head.deed ++ (l ++ (flat_map kind_line n.head.kinds ++ (flat_map script_line n.head.scripts ++ (flat_map site_line n.head.site ++ (flat_map line n.events.events ++ end_line n.end)))))) (sym (from-line n.head.from))
    ∙ regroup (boot_line n.head.deed) (from_line n.head.from) (flat_map kind_line n.head.kinds) (flat_map script_line n.head.scripts) (flat_map site_line n.head.site) (flat_map line n.events.events ++ end_line n.end)

pub notes-text : (ns : List Note) → unlines (flat_map note_lines ns) ≡ texts_of ns
notes-text [] = refl
notes-text (n ∷ ns) =
    flat_map-append ended (note_lines n) (flat_map note_lines ns) ∙ ap (λ (l : List ℕ). l ++ unlines (flat_map note_lines ns)) (note-text n) ∙ ap (λ (l : List ℕ). text_of n ++ l) (notes-text ns)

-- ---- no line has a newline inside

lacks-both : (mark : ℕ) (a b : List ℕ) → lacks mark a ≡ true → lacks mark b ≡ true → lacks mark (a ++ b) ≡ true
lacks-both mark [] b la lb = lb
lacks-both mark (c ∷ a) b la lb =
    let p = both-parts (not (c == mark)) (lacks mark a) la in
    and-made (not (c == mark)) (lacks mark (a ++ b)) p.0 (lacks-both mark a b p.1 lb)

deed-lacks : (d : Deed) → lacks 10 (boot_text d) ≡ true
deed-lacks deed.Install = refl
deed-lacks deed.Resume = refl
deed-lacks deed.ResumeStop = refl
deed-lacks deed.Commit = refl
deed-lacks deed.Rollback = refl

state-lacks : (s : State) → lacks 10 (state_name s) ≡ true
unfolding state_name
state-lacks at.Idle = refl
state-lacks at.Download = refl
state-lacks at.Install = refl
state-lacks at.Reboot = refl
state-lacks at.VerifyReboot = refl
state-lacks at.Commit = refl
state-lacks at.CommitLeave = refl
state-lacks at.Rollback = refl
state-lacks at.RollbackReboot = refl
state-lacks at.VerifyRollbackReboot = refl
state-lacks at.Failure = refl
state-lacks at.Cleanup = refl
state-lacks at.Wait = refl

outcome-lacks : (o : Outcome) → lacks 10 (outcome_name o) ≡ true
unfolding outcome_name
outcome-lacks Undecided = refl
outcome-lacks Kept = refl
outcome-lacks Committed = refl
outcome-lacks RolledBack = refl
outcome-lacks Inconsistent = refl

undoable-lacks : (u : Bool) → lacks 10 (undoable_name u) ≡ true
undoable-lacks true = refl
undoable-lacks false = refl

reboot-lacks : (r : Rebooting) → lacks 10 (reboot_name r) ≡ true
unfolding reboot_name
reboot-lacks No = refl
reboot-lacks Yes = refl
reboot-lacks Automatic = refl

from-lacks : (p : Position) → p.n < 256 → lacks 10 (from_text p) ≡ true
from-lacks p small =
    lacks-both 10 (state_name p.state) _ (state-lacks p.state)
    (lacks-both 10 (outcome_name p.outcome) _ (outcome-lacks p.outcome)
    (lacks-both 10 (undoable_name p.undoable) _ (undoable-lacks p.undoable)
    (lacks-both 10 (reboot_name p.reboot) _ (reboot-lacks p.reboot) (digits-lack 10 p.n refl (omega arith)))))

end-lacks : (e : NoteEnd) → lacks 10 (end_text e) ≡ true
end-lacks noted_end.Nothing = refl
end-lacks (noted_end.Ended o) = outcome-lacks o
end-lacks noted_end.Waits = refl
end-lacks noted_end.RebootNeeded = refl
end-lacks noted_end.Halted = refl

module-lacks : (s : ModState) → lacks 10 (mod_state_name s) ≡ true
module-lacks state.Download = refl
module-lacks state.ArtifactInstall = refl
module-lacks state.ArtifactReboot = refl
module-lacks state.ArtifactVerifyReboot = refl
module-lacks state.ArtifactCommit = refl
module-lacks state.ArtifactRollback = refl
module-lacks state.ArtifactRollbackReboot = refl
module-lacks state.ArtifactVerifyRollbackReboot = refl
module-lacks state.ArtifactFailure = refl
module-lacks state.Cleanup = refl

query-lacks : (q : Query) → lacks 10 (query_name q) ≡ true
query-lacks query.SupportsRollback = refl
query-lacks query.NeedsArtifactReboot = refl

digit-lacks : (xs : List ℕ) (k : ℕ) → lacks 10 xs ≡ true → not (slice_index xs k == 10) ≡ true
digit-lacks [] k h = refl
digit-lacks (x ∷ xs) zero h = (both-parts (not (x == 10)) (lacks 10 xs) h).0
digit-lacks (x ∷ xs) (suc k) h = digit-lacks xs k (both-parts (not (x == 10)) (lacks 10 xs) h).1

hex-lacks : (bytes : List ℕ) → lacks 10 (encode_lower bytes) ≡ true
unfolding encode_with
hex-lacks [] = refl
hex-lacks (b ∷ bytes) =
    and-made (not (slice_index lower_digits (b / 16) == 10)) _ (digit-lacks lower_digits (b / 16) refl)
    (and-made (not (slice_index lower_digits (b % 16) == 10)) _ (digit-lacks lower_digits (b % 16) refl) (hex-lacks bytes))

reply-lacks : (text : List ℕ) → lacks 10 (reply_text text) ≡ true
reply-lacks [] = refl
reply-lacks (b ∷ text) = hex-lacks (b ∷ text)

event-lacks : (e : Event) → IsEventText e → lacks 10 (event_text e) ≡ true
event-lacks (Start (Module k kind s)) right = lacks-both 10 (decimal k) (32 ∷ mod_state_name s) (digits-lack 10 k refl (omega arith)) (module-lacks s)
event-lacks (Start (Ask k kind q)) right = lacks-both 10 (decimal k) (32 ∷ query_name q) (digits-lack 10 k refl (omega arith)) (query-lacks q)
event-lacks (Start (Script name)) right = name-lacks name right
event-lacks (Start SystemReboot) right = refl
event-lacks (End (Exit code)) right = digits-lack 10 code refl (omega arith)
event-lacks (End (Reply code text)) right = lacks-both 10 (decimal code) (32 ∷ reply_text text) (digits-lack 10 code refl (let h = right.0 in omega arith)) (reply-lacks text)
event-lacks (End NotStarted) right = refl
event-lacks (Pause seconds) right = digits-lack 10 seconds refl (omega arith)
event-lacks Loss right = refl

-- ---- so all lines are

pub both-lines : (xs ys : List (List ℕ)) → AreLineTexts xs → AreLineTexts ys → AreLineTexts (xs ++ ys)
both-lines [] ys a b = b
both-lines (x ∷ xs) ys a b = (a.0, both-lines xs ys a.1 b)

mapped-lines : {A : Type 0} (P : A → Type 0) (text : A → List ℕ) → ((x : A) → P x → lacks 10 (text x) ≡ true) → (xs : List A) → AllByRecursion P xs → AreLineTexts (map text xs)
mapped-lines P text lack [] all = tt
mapped-lines P text lack (x ∷ xs) all = (lack x all.0, mapped-lines P text lack xs all.1)

note-lines : (n : Note) → IsRight n → AreLineTexts (note_lines n)
note-lines n right = (
  deed-lacks n.head.deed,
  (
    from-lacks n.head.from right.count,
    both-lines (map kind_text n.head.kinds) _ (mapped-lines IsName kind_text name-lacks n.head.kinds right.kinds)
        (both-lines (map script_text n.head.scripts) _ (mapped-lines IsScript script_text (λ s is. name-lacks s is.0) n.head.scripts right.scripts.scripts)
        (both-lines (map site_text n.head.site) _ (mapped-lines IsScript site_text (λ s is. name-lacks s is.0) n.head.site right.site.scripts)
        (both-lines (map event_text n.events.events) _ (mapped-lines IsEventText event_text event-lacks n.events.events right.events) (end-lacks n.end, tt)))),
  ),
)

pub notes-lines : (ns : List Note) → AllByRecursion IsRight ns → AreLineTexts (flat_map note_lines ns)
notes-lines [] right = tt
notes-lines (n ∷ ns) right = both-lines (note_lines n) (flat_map note_lines ns) (note-lines n right.0) (notes-lines ns right.1)
