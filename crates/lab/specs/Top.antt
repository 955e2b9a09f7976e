-- What a simulation writes, and what it answers.
use Rattle.std.specs.Prelude.{ℕ, List, ◌++◌, codes, Ok, ⊤}
use Rattle.std.specs.Fmt.{decimal}
use Rattle.io_model.specs.Sink.{Written}
use Rattle.client_words.specs.declared.command.Command.TheVariants.{Simulate}
use Rattle.client_top.specs.declared.status.Good.TheVariants.{Simulated}
use Rattle.client_top.specs.declared.status.Status.{Status}
use Rattle.client_top.specs.declared.status.Status.TheVariants.{Done, NoMemory}
use Rattle.client_top.specs.Answers.{Words}
use Rattle.client_top.specs.Did.{Said}
use Rattle.lab.specs.declared.counts.Counts.{Counts}
use Rattle.lab.specs.Simulation.{Simulates}

-- the words ask for a simulation
abbrev pub IsSimulation : Words → Type 0
IsSimulation (Ok (Simulate seed rounds)) = ⊤
IsSimulation words = ⊥

-- the line of the counts
abbrev pub counts_text : Counts → List ℕ
counts_text c =
    codes "rounds " ++ decimal c.rounds ++ codes " committed " ++ decimal c.committed ++ codes " rolled-back " ++ decimal c.rolled_back
    ++ codes " inconsistent " ++ decimal c.inconsistent ++ codes " kept " ++ decimal c.kept ++ codes "\n"

-- what a simulation is to answer, and its text: the counts, or that memory is wanting
pub data Tells (seed rounds : ℕ) : Status → List ℕ → Type 0 where
  counted : (counts : Counts) → Simulates seed rounds counts → Tells seed rounds (Done Simulated) (counts_text counts)
  wanting : Tells seed rounds NoMemory (codes "no memory\n")

-- A simulation was told, or the sink failed.
pub record SimulatedTo (seed rounds : ℕ) (before behind : Written) (result : Status) : Type 0 where
  pub meant : Status
  pub text : List ℕ
  pub tells : Tells seed rounds meant text
  pub said : Said meant text before behind result
