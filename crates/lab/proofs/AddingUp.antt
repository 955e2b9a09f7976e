-- The counts of a simulation add up.
use Rattle.std.proofs.Common.{◌≡◌, ℕ, ◌+◌, refl, arith}
use Rattle.flow_table.specs.declared.position.Outcome.{Outcome}
use Rattle.flow_table.specs.declared.position.Outcome.TheVariants.{Undecided, Kept, Committed, RolledBack, Inconsistent}
use Rattle.std.specs.Prelude.{◌≢◌}
use Rattle.lab.specs.declared.counts.Counts.{Counts}
use Rattle.lab.specs.Simulation.{Simulated, none, more, AddsUp, one_more}

adds-one : (rounds : ℕ) (outcome : Outcome) (counts : Counts) → outcome ≢ Undecided → AddsUp counts → counts.rounds ≡ rounds → AddsUp (one_more outcome counts) × ((one_more outcome counts).rounds ≡ rounds + 1)
adds-one rounds Undecided counts decided sum all = absurd (decided refl)
adds-one rounds Kept counts decided sum all = (omega (arith, sum), omega (arith, all))
adds-one rounds Committed counts decided sum all = (omega (arith, sum), omega (arith, all))
adds-one rounds RolledBack counts decided sum all = (omega (arith, sum), omega (arith, all))
adds-one rounds Inconsistent counts decided sum all = (omega (arith, sum), omega (arith, all))

pub adds-up : (seed rounds : ℕ) (counts : Counts) → Simulated seed rounds counts → AddsUp counts × (counts.rounds ≡ rounds)
adds-up seed rounds counts none = (refl, refl)
adds-up seed rounds counts (more {rounds = k} {counts = before} outcome rest played) = let r = adds-up seed k before rest in adds-one k outcome before played.decided r.0 r.1
