use Rattle.std.proofs.Common.{◌∙◌, sym, ap}
use Rattle.trace_check.specs.Follows.{without_loss}
use Rattle.trace_check.proofs.Judging.{loss-last, kept-last}
use Rattle.trace_check.proofs.verdict.without_loss.Goals as goal

pub returns-then-is_loss : goal.returns-then-is_loss
returns-then-is_loss c = sym (ap without_loss c.in-Some.ensures.cases.0 ∙ loss-last c.in-Some.front.now c.in-Some.last.now (cc))

pub returns-else-is_loss : goal.returns-else-is_loss
returns-else-is_loss c = c.in-Some.ensures.cases.0 ∙ sym (ap without_loss c.in-Some.ensures.cases.0 ∙ kept-last c.in-Some.front.now c.in-Some.last.now (cc))
