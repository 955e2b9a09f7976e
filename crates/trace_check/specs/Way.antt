-- Where the events of a boot lead from its first position.
use Rattle.std.specs.Prelude.{◌≡◌, ℕ, ◌==◌, ◌&&◌, Bool, true, false, not, ◌+◌, ◌<◌, ◌≤◌, IsTrue, List, [], ◌∷◌, length, take, Option, Some, None}
use Rattle.device_model.specs.declared.calls.Event.{Event}
use Rattle.flow_table.specs.declared.position.Position.{Position}
use Rattle.flow_table.specs.declared.position.State.{State}
use Rattle.flow_table.specs.declared.position.State.TheVariants as at
use Rattle.flow_table.specs.declared.position.Outcome.{Outcome}
use Rattle.flow_table.specs.declared.position.Outcome.TheVariants.{Undecided, Kept, Committed, RolledBack, Inconsistent}
use Rattle.flow_table.specs.declared.position.Reboot.{Reboot as Rebooting}
use Rattle.flow_table.specs.declared.position.Reboot.TheVariants.{No, Yes, Automatic}
use Rattle.flow_words.specs.Decided.{IsThrough}
use Rattle.flow_words.specs.Pieces.{End}
use Rattle.flow_words.specs.Pieces.{Halted}
use Rattle.trace_check.specs.declared.note.NoteEnd.{NoteEnd}
use Rattle.trace_check.specs.declared.note.NoteHead.{NoteHead}
use Rattle.trace_check.specs.declared.way.Way.{Way}
use Rattle.trace_check.specs.Follows.{Goes, noted, opening_of}
use Rattle.trace_check.specs.declared.note.NoteEnd.TheVariants as noted_end
use Rattle.flow_table.specs.declared.table.Opening.{Opening}
use Rattle.flow_table.specs.declared.table.Opening.TheVariants as opening

-- ---- positions

abbrev pub state_code : State → ℕ
state_code at.Idle = 0
state_code at.Download = 1
state_code at.Install = 2
state_code at.Reboot = 3
state_code at.VerifyReboot = 4
state_code at.Commit = 5
state_code at.CommitLeave = 6
state_code at.Rollback = 7
state_code at.RollbackReboot = 8
state_code at.VerifyRollbackReboot = 9
state_code at.Failure = 10
state_code at.Cleanup = 11
state_code at.Wait = 12

abbrev pub outcome_code : Outcome → ℕ
outcome_code Undecided = 0
outcome_code Kept = 1
outcome_code Committed = 2
outcome_code RolledBack = 3
outcome_code Inconsistent = 4

abbrev pub reboot_code : Rebooting → ℕ
reboot_code No = 0
reboot_code Yes = 1
reboot_code Automatic = 2

abbrev pub same_bool : Bool → Bool → Bool
same_bool true b = b
same_bool false b = not b

abbrev pub same_position : Position → Position → Bool
same_position p q =
    (state_code p.state == state_code q.state) && ((outcome_code p.outcome == outcome_code q.outcome)
    && (same_bool p.undoable q.undoable && ((reboot_code p.reboot == reboot_code q.reboot) && (p.n == q.n))))

-- ---- the way

-- the flow came with all events to this end, at this position, and wasn't cut off
pub record Through (head : NoteHead) (first : Position) (events : List Event) (e : NoteEnd) (last : Position) : Type 0 where
  pub end : End
  pub is : noted end ≡ e
  pub through : IsThrough end
  pub goes : Goes head first events end last

-- what a walk tells: how many of the events may come, how all of them end and where, and whether they may have been cut off
-- at the position that was asked about
pub record IsWay (head : NoteHead) (first : Position) (events : List Event) (target : Position) (way : Way) : Type 0 where
  pub within : way.good ≤ length events
  pub begins : (last : Position) × Goes head first (take way.good events) Halted last
  pub no_more : way.good < length events → (last : Position) → Goes head first (take (way.good + 1) events) Halted last → ⊥
  pub through : (e : NoteEnd) (last : Position) → Through head first events e last → way.through ≡ Some (e, last)
  pub is_through : (e : NoteEnd) (last : Position) → way.through ≡ Some (e, last) → Through head first events e last
  pub meets : IsTrue way.meets → Goes head first events Halted target
  pub is_met : Goes head first events Halted target → IsTrue way.meets

-- ---- a boot in which no position was put

abbrev pub is_stay : Opening → Bool
is_stay opening.Stay = true
is_stay (opening.Enter p) = false
is_stay opening.NoUpdate = false
is_stay (opening.MustResume s) = false
is_stay (opening.NoRollback s) = false

abbrev pub can_stand : NoteHead → NoteEnd → Bool
can_stand head noted_end.Nothing = true
can_stand head noted_end.Halted = true
can_stand head noted_end.Waits = is_stay (opening_of head)
can_stand head (noted_end.Ended o) = false
can_stand head noted_end.RebootNeeded = false

abbrev pub stands_still : NoteHead → List Event → NoteEnd → Bool
stands_still head [] e = can_stand head e
stands_still head (event ∷ events) e = false

-- ---- ends

abbrev pub same_end : NoteEnd → NoteEnd → Bool
same_end noted_end.Nothing noted_end.Nothing = true
same_end (noted_end.Ended o) (noted_end.Ended q) = outcome_code o == outcome_code q
same_end noted_end.Waits noted_end.Waits = true
same_end noted_end.RebootNeeded noted_end.RebootNeeded = true
same_end noted_end.Halted noted_end.Halted = true
same_end e f = false

abbrev pub ends_as : Option (NoteEnd × Position) → NoteEnd → Bool
ends_as None e = false
ends_as (Some x) e = same_end x.0 e

abbrev pub ends_at : Option (NoteEnd × Position) → NoteEnd → Position → Bool
ends_at None e p = false
ends_at (Some x) e p = same_end x.0 e && same_position x.1 p

-- ---- a boot that went through states

-- from its first position on
pub record Ran (head : NoteHead) (first : Position) (events : List Event) (e : NoteEnd) (p : Position) : Type 0 where
  pub end : End
  pub is : noted end ≡ e
  pub goes : Goes head first events end p

pub record RanTo (head : NoteHead) (events : List Event) (e : NoteEnd) (p : Position) : Type 0 where
  pub first : Position
  pub opens : opening_of head ≡ opening.Enter first
  pub ran : Ran head first events e p
