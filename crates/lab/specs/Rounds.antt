-- What comes behind a boot of a round.
use Rattle.std.specs.Prelude.{⊤}
use Rattle.client_top.specs.declared.status.Status.{Status}
use Rattle.client_top.specs.declared.status.Status.TheVariants as status
use Rattle.client_top.specs.declared.status.Good.TheVariants as good
use Rattle.lab.specs.declared.play.Turn.{Turn}
use Rattle.lab.specs.declared.play.Turn.TheVariants as turn
use Rattle.lab.specs.Simulation.{GoesOn, EndsAs}

-- a round can't be played to its end: the answer neither says that another boot is to come, nor tells an end
abbrev pub GivesUp : Status → Type 0
GivesUp (status.Done good.Waiting) = ⊥
GivesUp (status.Done good.Committed) = ⊥
GivesUp (status.Done good.RolledBack) = ⊥
GivesUp status.RebootNeeded = ⊥
GivesUp status.PowerOff = ⊥
GivesUp status.Inconsistent = ⊥
GivesUp (status.NotInstalled o) = ⊥
GivesUp _ = ⊤

-- what comes behind a boot, by its answer
abbrev pub IsTurn : Status → Turn → Type 0
IsTurn answer turn.GoesOn = GoesOn answer
IsTurn answer (turn.Ends o) = EndsAs o answer
IsTurn answer turn.Fails = GivesUp answer
