-- Words for the laws of the tables: what a step counts, and why a deployment becomes inconsistent.
use Rattle.std.specs.Prelude.{◌≡◌, ◌≢◌, ◌+◌, ◌<◌, Bool, true, false, IsFalse, ⊤}
use Rattle.flow_table.specs.declared.position.State.{State}
use Rattle.flow_table.specs.declared.position.State.TheVariants.{Idle, Download, Install, Reboot, VerifyReboot, Commit, Rollback}
use Rattle.flow_table.specs.declared.position.Outcome.TheVariants.{Undecided, Inconsistent}
use Rattle.flow_table.specs.declared.position.Position.{Position}
use Rattle.flow_table.specs.declared.table.Heard.{Heard}
use Rattle.flow_table.specs.declared.table.Heard.TheVariants.{Fine, Undoable, Needs}

-- whether the state went well; all else that it hears counts as failed
abbrev pub is_fine : State → Heard → Bool
is_fine Download (Undoable can) = true
is_fine Download heard = false
is_fine Install (Needs reboot) = true
is_fine Install heard = false
is_fine state Fine = true
is_fine state heard = false

-- the states after which something is installed and nothing decided: what was installed is taken back where they fail
abbrev pub IsTrial : State → Type 0
IsTrial Install = ⊤
IsTrial Reboot = ⊤
IsTrial VerifyReboot = ⊤
IsTrial Commit = ⊤
IsTrial _ = ⊥

-- the states in which a loss of power takes back what was installed
abbrev pub IsUndoneAtLoss : State → Type 0
IsUndoneAtLoss Install = ⊤
IsUndoneAtLoss VerifyReboot = ⊤
IsUndoneAtLoss Commit = ⊤
IsUndoneAtLoss _ = ⊥

-- a state was entered and counted, or the deployment ended
pub data Counted (p q : Position) : Type 0 where
  entered : q.state ≢ Idle → p.n < 28 → q.n ≡ p.n + 1 → Counted p q
  ended : q.state ≡ Idle → q.n ≡ p.n → Counted p q

-- why the deployment is inconsistent after a state was run
pub data Breaks (p : Position) (heard : Heard) : Type 0 where
  -- it was so before
  already : p.outcome ≡ Inconsistent → Breaks p heard
  -- it can't be rolled back
  no_rollback : IsTrial p.state → IsFalse (is_fine p.state heard) → p.undoable ≡ false → Breaks p heard
  -- the rollback failed
  rollback_failed : p.state ≡ Rollback → IsFalse (is_fine p.state heard) → Breaks p heard
  -- nothing was decided, and no further state may be entered
  limit : p.n ≡ 28 → p.outcome ≡ Undecided → Breaks p heard

-- why the deployment is inconsistent after the power was lost in a state, or an order was given
pub data BreaksAtLoss (p : Position) : Type 0 where
  already_at_loss : p.outcome ≡ Inconsistent → BreaksAtLoss p
  no_rollback_at_loss : IsUndoneAtLoss p.state → p.undoable ≡ false → BreaksAtLoss p
  limit_at_loss : p.n ≡ 28 → p.outcome ≡ Undecided → BreaksAtLoss p
