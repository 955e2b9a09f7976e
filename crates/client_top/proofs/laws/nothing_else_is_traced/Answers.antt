use Rattle.client_top.proofs.Noting.{untraced}
use Rattle.client_top.proofs.laws.nothing_else_is_traced.Goals as goal

pub returns : goal.returns
returns c = λ asked old new source source_after before behind status traced. untraced traced
