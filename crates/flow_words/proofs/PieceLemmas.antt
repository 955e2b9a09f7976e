-- What holds along the states of a deployment.
use Rattle.std.proofs.Common.{◌≡◌, ℕ, ◌+◌, ◌≤◌, Bool, List, IsTrue, arith}
use Rattle.device_model.specs.declared.calls.Event.{Event}
use Rattle.flow_table.specs.declared.position.Position.{Position}
use Rattle.flow_table.specs.declared.position.State.{State}
use Rattle.flow_table.specs.declared.position.State.TheVariants.{Idle, Download, Install, Reboot, VerifyReboot, Commit, CommitLeave, Rollback, RollbackReboot, VerifyRollbackReboot, Failure, Cleanup, Wait}
use Rattle.flow_table.specs.declared.table.Heard.{Heard}
use Rattle.flow_table.specs.declared.table.Heard.TheVariants.{Fine, Undoable, Needs}
use Rattle.flow_table.specs.declared.table.Step.TheVariants.{Stop}
use Rattle.flow_table.specs.declared.table.Order.{Order}
use Rattle.flow_table.specs.declared.table.Opening.TheVariants as opening
use Rattle.flow_table.specs.Table.{IsRunning, next_by, first_of}
use Rattle.flow_table.specs.Valid.{is_valid}
use Rattle.flow_table.specs.Laws.{Counted, entered, ended}
use Rattle.flow_table.specs.Bound.{Follows, here, next, Nearer, Resumed}
use Rattle.flow_table.specs.Bound as bound
use Rattle.flow_table.proofs.Counts.{next_counted}
use Rattle.flow_table.proofs.Steps.{next_entered}
use Rattle.flow_table.proofs.Resuming.{nearer, resumed-bound}
use Rattle.flow_words.specs.Course.{Course}
use Rattle.flow_words.specs.Pieces.{End, Pieces, goes_on, reboots, ends, waits, halts}
use Rattle.flow_words.specs.Counting.{Resumptions, never, again}
use Rattle.flow_words.specs.Decided.{IsRebooting, StandsAt}

-- each position is valid
pub pieces-valid : {words : Position → Course Heard} {stop : Bool} {p q : Position} {events : List Event} {end : End} → Pieces words stop p events end q → IsTrue (is_valid p) → IsTrue (is_valid q)
pieces-valid {stop} {p} (goes_on {q} w v h z f n g eq) valid = pieces-valid g (next_entered p q h stop valid n).valid
pieces-valid (reboots h z f n) valid = valid
pieces-valid (ends s o) valid = valid
pieces-valid (waits s) valid = valid
pieces-valid (halts f) valid = valid

counted-keeps : (p q : Position) → Counted p q → p.n ≤ q.n
counted-keeps p q (entered s l n) = omega (arith, n)
counted-keeps p q (ended s n) = omega (arith, n)

-- the count of states never falls
pub pieces-keep : {words : Position → Course Heard} {stop : Bool} {p q : Position} {events : List Event} {end : End} → Pieces words stop p events end q → p.n ≤ q.n
pieces-keep {stop} {p} (goes_on {q} w v h z f n g eq) =
    let k : p.n ≤ q.n = counted-keeps p q (next_counted p q h stop n) in
    let r = pieces-keep g in
    omega arith
pieces-keep (reboots h z f n) = omega arith
pieces-keep (ends s o) = omega arith
pieces-keep (waits s) = omega arith
pieces-keep (halts f) = omega arith

-- each position follows the one before
pub pieces-follow : {words : Position → Course Heard} {stop : Bool} {p q : Position} {events : List Event} {end : End} → Pieces words stop p events end q → Follows stop p q
pieces-follow (goes_on w v h z f n g eq) = next h n (pieces-follow g)
pieces-follow (reboots h z f n) = here
pieces-follow (ends s o) = here
pieces-follow (waits s) = here
pieces-follow (halts f) = here

-- an order that enters a position leads to more states, or to the end
pub orders-go-on : {words : Position → Course Heard} {stop : Bool} {p q : Position} {events : List Event} {end : End} (c : Position) (order : Order) → first_of c order ≡ opening.Enter p → Pieces words stop p events end q → Nearer c q
orders-go-on {stop} {p} {q} c order is g = nearer order stop c q (record { entered = p; opens = is; follows = pieces-follow g })

-- so many resumptions of the table
resumed-of : {words : Position → Course Heard} {c q : Position} {times : ℕ} → Resumptions words c times q → Resumed c times q
resumed-of never = bound.never
resumed-of (again p events end before running is g) = bound.again (resumed-of before) running (record { entered = p; opens = is; follows = pieces-follow g })

pub resumptions-end : {words : Position → Course Heard} {c q : Position} {times : ℕ} → c.n ≤ 28 → Resumptions words c times q → times + c.n ≤ 29
resumptions-end {c} {q} {times} few r = resumed-bound times c q few (resumed-of r)

-- the client stops behind Reboot and RollbackReboot
stops-at : (s : State) (h : Heard) (stop : Bool) (p : Position) → IsRunning s → next_by s h stop p ≡ Stop → IsRebooting s
stops-at Idle h stop p z n = absurd z
stops-at Download (Undoable can) stop p z n = absurd cc
stops-at Download h stop p z n = absurd cc
stops-at Install (Needs r) stop p z n = absurd cc
stops-at Install h stop p z n = absurd cc
stops-at Reboot h stop p z n = tt
stops-at VerifyReboot Fine stop p z n = absurd cc
stops-at VerifyReboot h stop p z n = absurd cc
stops-at Commit Fine stop p z n = absurd cc
stops-at Commit h stop p z n = absurd cc
stops-at CommitLeave h stop p z n = absurd cc
stops-at Rollback Fine stop p z n = absurd cc
stops-at Rollback h stop p z n = absurd cc
stops-at RollbackReboot h stop p z n = tt
stops-at VerifyRollbackReboot Fine stop p z n = absurd cc
stops-at VerifyRollbackReboot h stop p z n = absurd cc
stops-at Failure h stop p z n = absurd cc
stops-at Cleanup h stop p z n = absurd cc
stops-at Wait h stop p z n = absurd z

-- where it stands at its end
pub pieces-stand : {words : Position → Course Heard} {stop : Bool} {p q : Position} {events : List Event} {end : End} → Pieces words stop p events end q → StandsAt end q
pieces-stand (goes_on w v h z f n g eq) = pieces-stand g
pieces-stand {stop} {p} (reboots h z f n) = stops-at p.state h stop p z n
pieces-stand (ends s o) = (s, o)
pieces-stand (waits s) = s
pieces-stand (halts f) = tt
