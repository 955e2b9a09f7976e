use Rattle.std.proofs.Common.{ℕ, List, ◌∷◌, ◌∙◌, sym, ap}
use Rattle.script_names.specs.Left.{left}
use Rattle.trace_check.proofs.Readings.{err-is}
use Rattle.trace_check.proofs.Steps.{run-err, run-fails, run-more}
use Rattle.trace_check.proofs.read.read_run.Goals as goal

pub returns-in_err-good : goal.returns-in_err-good
returns-in_err-good c =
    let rest = left c.next.new.self in
    let goes = c.in-Some.ensures.steps ∙ ap (λ (n : List ℕ). n ∷ rest) (sym c.name.ensures) in
    err-is c.from_residual.result _ c.from_residual.ensures.1
    ∙ sym (c.loop-script.invariant ∙ run-err c.args.events.now (left c.loop-script.script-iterator) c.args.mode c.name.result.now rest c.loop-script.at goes _ (sym c.in_err-good.ensures))

pub returns-then-not-good : goal.returns-then-not-good
returns-then-not-good c =
    let rest = left c.next.new.self in
    let goes = c.in-Some.ensures.steps ∙ ap (λ (n : List ℕ). n ∷ rest) (sym c.name.ensures) in
    sym (c.loop-script.invariant ∙ run-fails c.args.events.now (left c.loop-script.script-iterator) c.args.mode c.name.result.now rest c.loop-script.at goes c.in_ok-good.good _ (cc) (sym c.in_ok-good.ensures))

pub loop-script-preserved : goal.loop-script-preserved
loop-script-preserved c =
    let rest = left c.next.new.self in
    let goes = c.in-Some.ensures.steps ∙ ap (λ (n : List ℕ). n ∷ rest) (sym c.name.ensures) in
    c.loop-script.invariant ∙ run-more c.args.events.now (left c.loop-script.script-iterator) c.args.mode c.name.result.now rest c.loop-script.at goes c.in_ok-good.good _ (cc) (sym c.in_ok-good.ensures)
