use Rattle.client_top.proofs.Fulfilled.{fulfilled}
use Rattle.client_top.proofs.laws.commands_are_fulfilled.Goals as goal

pub returns : goal.returns
returns c = λ asked from status old new source source_after db did calm told stands. fulfilled asked from status old new source source_after db did calm told stands
