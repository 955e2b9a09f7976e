-- What is known of a valid position, for the proofs of crates above.
use Rattle.std.proofs.Common.{◌≡◌, ◌≢◌, ℕ, ◌≤◌, true, IsTrue, refl, subst}
use Rattle.flow_table.specs.declared.position.Position.{Position}
use Rattle.flow_table.specs.declared.position.State.{State}
use Rattle.flow_table.specs.declared.position.State.TheVariants.{Idle, Wait}
use Rattle.flow_table.specs.declared.position.Outcome.{Outcome}
use Rattle.flow_table.specs.declared.position.Outcome.TheVariants.{Undecided, Kept, Committed, RolledBack, Inconsistent}
use Rattle.flow_table.specs.Table.{IsRunning}
use Rattle.flow_table.specs.Valid.{is_valid, is_outcome}
use Rattle.flow_table.proofs.Steps.{fits_of, in_range}

-- at least one state was entered, and at most 28
pub valid-few : (p : Position) → IsTrue (is_valid p) → (1 ≤ p.n) × (p.n ≤ 28)
valid-few p valid = in_range p.state p.n (fits_of p valid).count

outcome-decided : (o : Outcome) → is_outcome Idle o ≡ true → o ≢ Undecided
unfolding is_outcome
outcome-decided Undecided h = cc
outcome-decided Kept h = λ e. cc
outcome-decided Committed h = λ e. cc
outcome-decided RolledBack h = λ e. cc
outcome-decided Inconsistent h = λ e. cc

-- a deployment that ended has an outcome
pub idle-decided : (p : Position) → IsTrue (is_valid p) → p.state ≡ Idle → p.outcome ≢ Undecided
idle-decided p valid idle = outcome-decided p.outcome (subst (λ (s : State). is_outcome s p.outcome ≡ true) idle (fits_of p valid).outcome)

-- calls are made at all states but two
pub running : (s : State) → s ≢ Idle → s ≢ Wait → IsRunning s
running Idle a b = absurd (a refl)
running Wait a b = absurd (b refl)
running _ a b = tt
