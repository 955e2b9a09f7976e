use Rattle.std.proofs.Common.{◌≡◌, ◌∷◌, List, ℕ, ◌∙◌, sym, ap, arith, length, subst}
use Rattle.flow_words.proofs.Runs.{run-more, run-fails, run-stop}
use Rattle.flow_words.specs.Scripts.{step}
use Rattle.script_names.specs.Left.{left}
use Rattle.script_runs.specs.Ends.{EndsRun}
use Rattle.script_runs.specs.declared.run.RunEnd.TheVariants.{Done, Failed, Off}
use Rattle.script_runs.proofs.run.run_due.Goals as goal

pub returns-in-Off-clause-ran : goal.returns-in-Off-clause-ran
returns-in-Off-clause-ran g c =
    run-stop (left c.loop-script.script-iterator) c.args.mode c.name.result.now (left c.next.new.self) (c.in-Some.ensures.steps ∙ ap (λ (n : List ℕ). n ∷ left c.next.new.self) (sym c.name.ensures)) c.loop-script.invariant.so_far c.in-Off.ensures.ran

pub returns-in-Failed-clause-ran : goal.returns-in-Failed-clause-ran
returns-in-Failed-clause-ran g c =
    run-fails (left c.loop-script.script-iterator) c.args.mode c.name.result.now (left c.next.new.self) (c.in-Some.ensures.steps ∙ ap (λ (n : List ℕ). n ∷ left c.next.new.self) (sym c.name.ensures)) c.loop-script.invariant.so_far c.in-Failed.ensures.ran

pub loop-script-preserved : goal.loop-script-preserved
loop-script-preserved g c =
    let goes : left c.loop-script.script-iterator ≡ c.name.result.now ∷ left c.next.new.self = c.in-Some.ensures.steps ∙ ap (λ (n : List ℕ). n ∷ left c.next.new.self) (sym c.name.ensures) in
    let shorter = ap length goes in
    record {
      on = c.in-Done.ensures.ran.stretch.passed.ends.on;
      plan = c.in-Done.ensures.plan ∙ c.loop-script.invariant.plan;
      so_far = run-more (left c.loop-script.script-iterator) c.args.mode c.name.result.now (left c.next.new.self) goes c.loop-script.invariant.so_far c.in-Done.ensures.ran;
      room = omega (arith, shorter, c.in-Done.ensures.room, c.loop-script.invariant.room);
      taken = omega (arith, shorter, c.in-Done.ensures.room, c.loop-script.invariant.taken);
    }
