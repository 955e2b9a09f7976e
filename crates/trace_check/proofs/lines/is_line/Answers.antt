use Rattle.std.proofs.Common.{◌∙◌, sym}
use Rattle.trace_check.proofs.Spelled.{ends-so, ends-else}
use Rattle.trace_check.proofs.lines.is_line.Goals as goal

pub returns-then-last-eq10 : goal.returns-then-last-eq10
returns-then-last-eq10 c =
    c.eq.ensures
    ∙ ends-so c.args.line.now c.in-Some.front.now c.args.text.now c.in-Some.last.now (sym c.bytes.ensures.bytes ∙ c.in-Some.ensures.cases.0) c.if-last-eq10.true

pub returns-else-last-eq10 : goal.returns-else-last-eq10
returns-else-last-eq10 c =
    ends-else c.args.line.now c.in-Some.front.now c.args.text.now c.in-Some.last.now (sym c.bytes.ensures.bytes ∙ c.in-Some.ensures.cases.0) c.if-last-eq10.false
