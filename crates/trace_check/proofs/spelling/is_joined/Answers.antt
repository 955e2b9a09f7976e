use Rattle.std.proofs.Common.{◌∙◌}
use Rattle.trace_check.proofs.Spelled.{joined-so, joined-else}
use Rattle.trace_check.proofs.spelling.is_joined.Goals as goal

pub returns-in-None : goal.returns-in-None
returns-in-None c = joined-else c.args.word.now c.args.name.now c.args.text.now c.in-None.ensures

pub returns-in-Some : goal.returns-in-Some
returns-in-Some c = c.eq.ensures ∙ joined-so c.args.word.now c.args.name.now c.args.text.now c.in-Some.rest.now c.in-Some.ensures
