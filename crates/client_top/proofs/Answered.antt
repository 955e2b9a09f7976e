-- What an answer says is held.
use Rattle.std.proofs.Common.{◌≡◌, inl, inr, List, refl, sym, ap, ◌∙◌, subst}
use Rattle.std.specs.Prelude.{Option, Some, None, Bool, true, IsTrue}
use Rattle.device_model.specs.declared.calls.Event.{Event}
use Rattle.flow_table.specs.Valid.{is_valid, is_outcome}
use Rattle.flow_table.specs.Table.{fresh_position}
use Rattle.flow_table.specs.declared.position.State.{State}
use Rattle.flow_table.specs.declared.position.State.TheVariants as at_state
use Rattle.flow_table.specs.declared.position.Outcome.{Outcome}
use Rattle.flow_table.specs.declared.position.Outcome.TheVariants as outcome
use Rattle.flow_table.specs.declared.position.Position.{Position}
use Rattle.flow_table.proofs.Steps.{fits_of, first_entered}
use Rattle.flow_words.specs.Pieces.{End, Ended, Waits, Halted}
use Rattle.flow_words.specs.Pieces as flow
use Rattle.flow_words.specs.Decided.{StandsAt, IsRebooting}
use Rattle.flow_words.proofs.PieceLemmas.{pieces-valid, pieces-stand}
use Rattle.flow_drive.specs.Drive.{Leads, at}
use Rattle.record_codec.specs.declared.entry.Entry.{Entry}
use Rattle.record_codec.specs.declared.entry.Db.{Db}
use Rattle.record_codec.specs.declared.entry.Db.TheVariants.{Empty, Full}
use Rattle.record_codec.specs.Held.{held, held_of}
use Rattle.record_codec.specs.Spelling.{IsRight, IfFull}
use Rattle.client_top.specs.declared.status.Status.{Status}
use Rattle.client_top.specs.declared.status.Status.TheVariants.{Done, Inconsistent, RebootNeeded, NotInstalled}
use Rattle.client_top.specs.declared.status.Good.TheVariants.{Committed, Waiting, RolledBack}
use Rattle.client_top.specs.Finds.{Request, begun}
use Rattle.client_top.specs.Boot.{Boot, nothing, stays, runs, begins as begins_untold, breaks_off, is_stop}
use Rattle.client_top.specs.Answers.{Words, row_of, end_of}
use Rattle.client_top.specs.Promises.{IsOver, IsFrom, TellsHeld, told_by}
use Rattle.client_top.proofs.Starts.{Started, goes_on, begins, started}
use Rattle.client_top.proofs.Rights.{fresh-valid}
use Rattle.client_top.proofs.Waits.{waiting}

-- ---- nothing is decided where it waits, and where it reboots

undecided : (o : Outcome) → is_outcome at_state.Wait o ≡ true → o ≡ outcome.Undecided
unfolding is_outcome
undecided outcome.Undecided e = refl
undecided outcome.Kept e = absurd cc
undecided outcome.Committed e = absurd cc
undecided outcome.RolledBack e = absurd cc
undecided outcome.Inconsistent e = absurd cc

rebooting : (s : State) (o : Outcome) → IsRebooting s → is_outcome s o ≡ true → o ≡ outcome.Undecided
unfolding is_outcome
rebooting at_state.Reboot o r e = undecided o e
rebooting at_state.RollbackReboot o r e = undecided o e
rebooting s o r e = absurd r

-- ---- by the answer

end-is : {a b : End} → Some a ≡ Some b → b ≡ a
end-is h = cc

module _ (e : Entry) (q : Position) (valid : is_valid q ≡ true) where
  held-is : (o : Outcome) → q.outcome ≡ o → Some (held_of o e.before e.new) ≡ Some (held (at e q))
  held-is o is = ap (λ (x : Outcome). Some (held_of x e.before e.new)) (sym is)

  ended : (o : Outcome) (end : End) → Some (Ended o) ≡ Some end → StandsAt end q → Some (held_of o e.before e.new) ≡ Some (held (at e q))
  ended o end is stands = let at_end : StandsAt (Ended o) q = subst (λ (x : End). StandsAt x q) (end-is is) stands in held-is o at_end.1

  waits : (end : End) → Some Waits ≡ Some end → StandsAt end q → Some e.before ≡ Some (held (at e q))
  waits end is stands =
      let at_end : q.state ≡ at_state.Wait = subst (λ (x : End). StandsAt x q) (end-is is) stands in
      held-is outcome.Undecided (undecided q.outcome (subst (λ (s : State). is_outcome s q.outcome ≡ true) at_end (fits_of q valid).outcome))

  reboots : (end : End) → Some flow.RebootNeeded ≡ Some end → StandsAt end q → Some e.before ≡ Some (held (at e q))
  reboots end is stands =
      let at_end : IsRebooting q.state = subst (λ (x : End). StandsAt x q) (end-is is) stands in
      held-is outcome.Undecided (rebooting q.state q.outcome at_end (fits_of q valid).outcome)

  by-status : (w : Words) (status : Status) (end : End) → IsTrue ((row_of status).whose w) → end_of status ≡ Some end → StandsAt end q → IsOver (end_of status) → told_by status e ≡ Some (held (at e q))
  by-status w (Done Committed) end whose is stands over = ended outcome.Committed end is stands
  by-status w (Done Waiting) end whose is stands over = waits end is stands
  by-status w (Done RolledBack) end whose is stands over = ended outcome.RolledBack end is stands
  by-status w Inconsistent end whose is stands over = ended outcome.Inconsistent end is stands
  by-status w RebootNeeded end whose is stands over = reboots end is stands
  by-status w (NotInstalled outcome.Kept) end whose is stands over = ended outcome.Kept end is stands
  by-status w (NotInstalled outcome.RolledBack) end whose is stands over = ended outcome.RolledBack end is stands
  by-status w (NotInstalled outcome.Committed) end whose is stands over = absurd cc
  by-status w (NotInstalled outcome.Undecided) end whose is stands over = absurd cc
  by-status w (NotInstalled outcome.Inconsistent) end whose is stands over = absurd cc
  by-status w status end whose is stands over = absurd over

-- ---- by the boot

-- the database has a valid position
abbrev pub IsValidAt : Db → Type 0
IsValidAt c = IfFull (λ e. is_valid e.position ≡ true) c

entered-valid : (c : Db) (e : Entry) (p : Position) → IsValidAt c → Started c e p → is_valid p ≡ true
entered-valid c e p valid (goes_on o is enters) = (first_entered e.position p o (subst IsValidAt is valid) enters).valid
entered-valid c e p valid (begins plan is fresh) = subst (λ (q : Position). is_valid q ≡ true) (sym fresh) fresh-valid

from : (c : Db) (e : Entry) (p : Position) → Started c e p → IsFrom c e
from c e p (goes_on o is enters) = inl is
from c e p (begins plan is fresh) = inr (plan, is)

module _ (asked : Request) (c : Db) (status : Status) (whose : IsTrue ((row_of status).whose asked.command)) (over : IsOver (end_of status)) where
  led : (e : Entry) (p : Position) {events : List Event} {end : End} {d : Db} → IsFrom c e → is_valid p ≡ true → Some end ≡ end_of status → Leads asked.site e (is_stop asked.command) p events end d → TellsHeld c status d
  led e p {end} own valid is l = record {
    deployment = e;
    position = l.last;
    from = own;
    stands = l.stands;
    holds = by-status e l.last (pieces-valid l.goes valid) asked.command status end whose (sym is) (pieces-stand l.goes) over ∙ ap (λ (x : Db). Some (held x)) (sym l.stands);
  }

  nothing-told : {A : Type 0} → None ≡ end_of status → A
  nothing-told is = absurd (subst IsOver (sym is) over)

  by-boot : {events : List Event} {end : Option End} {d : Db} → IsValidAt c → end ≡ end_of status → Boot asked c events end d → TellsHeld c status d
  by-boot valid is nothing = nothing-told is
  by-boot valid is (stays h) =
      let w = waiting asked.command asked.site asked.content c h in
      let at_wait : is_valid w.entry.position ≡ true = subst IsValidAt w.is valid in
      record {
        deployment = w.entry;
        position = w.entry.position;
        from = inl w.is;
        stands = w.is;
        holds = by-status w.entry w.entry.position at_wait asked.command status Waits whose (sym is) w.waits over ∙ ap (λ (x : Db). Some (held x)) (sym w.is);
      }
  by-boot valid is (runs e p found l) =
      let how = started asked.command asked.site asked.content c e p found in
      led e p (from c e p how) (entered-valid c e p valid how) is l
  by-boot {events} {d} valid is (begins_untold {end} plan install found fits l) =
      led (begun c plan) fresh_position (inr (plan, refl)) fresh-valid is
      (subst (λ (s : Bool). Leads asked.site (begun c plan) s fresh_position events end d) (sym (ap is_stop install)) l)
  by-boot valid is breaks_off = absurd (subst IsOver (sym is) over)

pub answered : (asked : Request) (c d : Db) (events : List Event) (status : Status) → IsValidAt c → IsTrue ((row_of status).whose asked.command) → Boot asked c events (end_of status) d → IsOver (end_of status) → TellsHeld c status d
answered asked c d events status valid whose boot over = by-boot asked c status whose over valid refl boot

pub right-valid : (c : Db) → IfFull IsRight c → IsValidAt c
right-valid Empty right = right
right-valid (Full e) right = right.position
