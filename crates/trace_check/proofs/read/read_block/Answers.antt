use Rattle.std.proofs.Common.{◌≡◌, ◌∙◌, sym, ap, arith}
use Rattle.std.specs.Prelude.{Ok}
use Rattle.device_model.specs.declared.calls.Call.TheVariants.{Script}
use Rattle.flow_words.specs.Course.{child}
use Rattle.trace_check.specs.Reading.{read}
use Rattle.trace_check.proofs.Readings.{err-is}
use Rattle.trace_check.proofs.Steps.{block-err, block-ends, block-last, block-again, block-cut}
use Rattle.trace_check.proofs.read.read_block.Goals as goal
use Rattle.trace_check.proofs.read.read_block.Goals.{then-left-eq0-via-then-left-eq0, then-left-eq0-via-else-left-eq0+then-not-is_retry}

pub returns-in_err-answer : goal.returns-in_err-answer
returns-in_err-answer c =
    err-is c.from_residual.result _ c.from_residual.ensures.1
    ∙ sym (c.tries.invariant.so_far ∙ block-err c.args.events.now c.args.name.now c.tries.at c.tries.left _ (rw (sym c.twin.ensures) (sym c.in_err-answer.ensures)))

pub returns-then-left-eq0 : goal.returns-then-left-eq0
returns-then-left-eq0 c =
    let a = c.in_ok-answer.answer in
    let heard : read c.args.events.now (child (Script c.args.name.now)) c.tries.at ≡ Ok (a, c.in_ok-answer.next) = rw (sym c.twin.ensures) (sym c.in_ok-answer.ensures) in
    ap (λ b. Ok (b, c.in_ok-answer.next)) c.is_success.ensures ∙ sym (c.tries.invariant.so_far ∙
    elim c.then-left-eq0.branch [
      | then-left-eq0-via-then-left-eq0 w ↦ block-last c.args.events.now c.args.name.now c.tries.at c.tries.left a _ (cc) heard
      | then-left-eq0-via-else-left-eq0+then-not-is_retry w ↦ block-ends c.args.events.now c.args.name.now c.tries.at c.tries.left a _ (cc) heard
    ])

pub returns-in_err-next : goal.returns-in_err-next
returns-in_err-next c =
    err-is c.from_residual-in_err-next.result _ c.from_residual-in_err-next.ensures.1
    ∙ sym (c.tries.invariant.so_far ∙ block-cut c.args.events.now c.args.name.now c.tries.at c.tries.left c.in_ok-answer.answer _ _ (omega (arith, c.if-left-eq0.false)) (cc) (rw (sym c.twin.ensures) (sym c.in_ok-answer.ensures)) (sym c.in_err-next.ensures))

pub tries-preserved : goal.tries-preserved
tries-preserved c = record {
  few = omega (arith, c.tries.invariant.few);
  so_far = c.tries.invariant.so_far ∙ block-again c.args.events.now c.args.name.now c.tries.at c.tries.left c.in_ok-answer.answer _ _ _ (omega (arith, c.if-left-eq0.false)) (cc) (rw (sym c.twin.ensures) (sym c.in_ok-answer.ensures)) (sym c.in_ok-next.ensures);
}
