use Rattle.std.proofs.Common.{true, ◌∙◌, sym}
use Rattle.flow_words.specs.Course.{done}
use Rattle.flow_words.specs.Scripts.{block}
use Rattle.trace_check.proofs.Readings.{then-ok, then-err, err-is}
use Rattle.trace_check.proofs.read.read_step.Goals as goal

pub returns-in_err-next-in-Ignored : goal.returns-in_err-next-in-Ignored
returns-in_err-next-in-Ignored c = rw c.in-Ignored.is
    (err-is c.from_residual.result _ c.from_residual.ensures.1
    ∙ sym (then-err c.args.events.now (block c.args.name.now 30) (λ _. done true) c.args.at _ (sym c.in_err-next-in-Ignored.ensures)))

pub returns-in_ok-next-in-Ignored : goal.returns-in_ok-next-in-Ignored
returns-in_ok-next-in-Ignored c = rw c.in-Ignored.is
    (sym (then-ok c.args.events.now (block c.args.name.now 30) (λ _. done true) c.args.at _ _ (sym c.in_ok-next-in-Ignored.ensures)))
