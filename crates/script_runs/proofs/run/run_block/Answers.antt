use Rattle.std.proofs.Common.{◌≡◌, ℕ, ◌-◌, true, false, refl, ap, ◌∙◌, arith}
use Rattle.std.proofs.lemmas.Bool.Decides.{nat_tests}
use Rattle.device_model.specs.State.{State}
use Rattle.device_model.specs.declared.calls.Answer.TheVariants.{Exit, NotStarted}
use Rattle.flow_words.proofs.Blocks.{block-stop, block-ends, block-last, block-again}
use Rattle.flow_words.proofs.Reach.{Reaches-pause, Stops-pause, pause-done, pause-off}
use Rattle.script_runs.proofs.run.run_block.Goals as goal
use Rattle.script_runs.proofs.run.run_block.Goals.{then-code-ne-AGAIN-via-then-code-ne-AGAIN, then-code-ne-AGAIN-via-else-code-ne-AGAIN+then-left-eq0}

pub returns-in-Off-clause-ran : goal.returns-in-Off-clause-ran
returns-in-Off-clause-ran g c = block-stop c.args.name.now c.tries.left c.tries.invariant.so_far c.in-Off.ensures.ran

pub returns-in-NotStarted-clause-ran : goal.returns-in-NotStarted-clause-ran
returns-in-NotStarted-clause-ran g c = block-ends c.args.name.now c.tries.left NotStarted false c.tries.invariant.so_far c.in-NotStarted.ensures.ran refl refl

pub returns-in-Exit-eq0-clause-ran : goal.returns-in-Exit-eq0-clause-ran
returns-in-Exit-eq0-clause-ran g c =
    block-ends c.args.name.now c.tries.left _ true c.tries.invariant.so_far c.in-Exit-eq0.ensures.ran (grind (arith, nat_tests)) (grind (arith, nat_tests))

pub returns-then-code-ne-AGAIN-clause-ran : goal.returns-then-code-ne-AGAIN-clause-ran
returns-then-code-ne-AGAIN-clause-ran g c =
    elim c.then-code-ne-AGAIN.branch [
      | then-code-ne-AGAIN-via-then-code-ne-AGAIN w ↦ block-ends c.args.name.now c.tries.left _ false c.tries.invariant.so_far c.in-Exit.ensures.ran (grind (arith, nat_tests)) (grind (arith, nat_tests))
      | then-code-ne-AGAIN-via-else-code-ne-AGAIN+then-left-eq0 w ↦ block-last c.args.name.now c.tries.left _ false (omega arith) c.tries.invariant.so_far c.in-Exit.ensures.ran (grind (arith, nat_tests))
    ]

pub returns-in-Err-clause-ran : goal.returns-in-Err-clause-ran
returns-in-Err-clause-ran g c =
    let mid = g.D.Device.means c.try_script.new.device in
    let new = g.D.Device.means c.pause.new.self in
    Stops-pause (block-again c.args.name.now c.tries.left _ (omega arith) c.tries.invariant.so_far c.in-Exit.ensures.ran (grind (arith, nat_tests)))
    (pause-off 60 mid new c.in-Exit.ensures.ran.stretch.passed.ends.on c.in-Err.ensures.ends c.in-Err.ensures.leaves)

pub tries-preserved : goal.tries-preserved
tries-preserved g c =
    let mid = g.D.Device.means c.try_script.new.device in
    let new = g.D.Device.means c.pause.new.self in
    let on : mid.on ≡ true = c.in-Exit.ensures.ran.stretch.passed.ends.on in
    let paused = pause-done 60 mid new on c.in-Ok.ensures.ends.1 c.in-Ok.ensures.leaves in
    let left : new.room ≡ mid.room - 1 = ap (λ (s : State). s.room) c.in-Ok.ensures.ends.1 in
    record {
      few = omega arith;
      on = paused.stretch.passed.ends.on;
      plan = c.in-Ok.ensures.plan ∙ c.in-Exit.ensures.plan ∙ c.tries.invariant.plan;
      so_far = Reaches-pause (block-again c.args.name.now c.tries.left _ (omega arith) c.tries.invariant.so_far c.in-Exit.ensures.ran (grind (arith, nat_tests))) paused;
      room = omega (arith, c.in-Exit.ensures.room, c.tries.invariant.room);
    }
