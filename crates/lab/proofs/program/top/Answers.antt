use Rattle.std.proofs.Common.{sym, ap, ◌∙◌}
use Rattle.std.specs.Prelude.{Ok}
use Rattle.client_words.specs.declared.command.Command.{Command}
use Rattle.lab.proofs.FewRounds.{few-rounds}
use Rattle.lab.proofs.program.top.Goals as goal

pub tell_simulated-requires : goal.tell_simulated-requires
tell_simulated-requires g c = few-rounds c.args.words.now c.in-Ok-Simulate.seed c.in-Ok-Simulate.rounds (sym c.read_words.ensures ∙ c.in-Ok-Simulate.is ∙ ap (λ (k : Command). Ok k) c.in-Ok-Simulate.field-0-is)
