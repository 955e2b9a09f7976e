use Rattle.std.proofs.Common.{ℕ, List, subst}
use Rattle.trace_check.specs.Checked.{Weighed}
use Rattle.trace_check.proofs.Checking.{weighed-finds}
use Rattle.trace_check.proofs.check.answer.Goals as goal

pub returns-in-Ok-clause-finds : goal.returns-in-Ok-clause-finds
returns-in-Ok-clause-finds g c =
    weighed-finds (g.S.Source.content c.args.source.now) c.in-Ok.text.items c.weigh.result c.in-Ok.ensures.text c.in-Ok.ensures.few
    (subst (λ (bytes : List ℕ). Weighed bytes c.weigh.result) c.as_slice.ensures.value c.weigh.ensures)
