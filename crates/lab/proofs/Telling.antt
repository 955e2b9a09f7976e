-- What a simulation tells.
use Rattle.std.proofs.Common.{◌≡◌, ℕ, List, subst}
use Rattle.std.specs.Prelude.{codes}
use Rattle.io_model.specs.Sink.{Written, Writes, WritesFront}
use Rattle.client_top.specs.Did.{whole, cut}
use Rattle.client_top.specs.declared.status.Good.TheVariants.{Simulated}
use Rattle.client_top.specs.declared.status.Status.TheVariants.{Done, NoMemory, SinkFault}
use Rattle.lab.specs.declared.counts.Counts.{Counts}
use Rattle.lab.specs.Simulation.{Simulates}
use Rattle.lab.specs.Top.{SimulatedTo, counted, wanting, counts_text}

module _ (seed rounds : ℕ) (before behind : Written) (text : List ℕ) where
  pub tells-counts : (counts : Counts) → Simulates seed rounds counts → text ≡ counts_text counts → Writes before text behind → SimulatedTo seed rounds before behind (Done Simulated)
  tells-counts counts s is w = record { meant = Done Simulated; text = counts_text counts; tells = counted counts s; said = whole (subst (λ (t : List ℕ). Writes before t behind) is w) }

  pub cuts-counts : (counts : Counts) → Simulates seed rounds counts → text ≡ counts_text counts → WritesFront before text behind → SimulatedTo seed rounds before behind SinkFault
  cuts-counts counts s is w = record { meant = Done Simulated; text = counts_text counts; tells = counted counts s; said = cut (subst (λ (t : List ℕ). WritesFront before t behind) is w) }

module _ (seed rounds : ℕ) (before behind : Written) where
  pub tells-want : Writes before (codes "no memory\n") behind → SimulatedTo seed rounds before behind NoMemory
  tells-want w = record { meant = NoMemory; text = codes "no memory\n"; tells = wanting; said = whole w }

  pub cuts-want : WritesFront before (codes "no memory\n") behind → SimulatedTo seed rounds before behind SinkFault
  cuts-want w = record { meant = NoMemory; text = codes "no memory\n"; tells = wanting; said = cut w }
