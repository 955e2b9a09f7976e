use Rattle.std.proofs.Common.{true}
use Rattle.flow_words.specs.Course.{done}
use Rattle.flow_words.proofs.Reach.{Finishes-and_then, Stops-front, Finishes-done}
use Rattle.script_runs.proofs.run.run_step.Goals as goal

pub returns-in-Off-clause-ran : goal.returns-in-Off-clause-ran
returns-in-Off-clause-ran g c = rw c.in-Ignored.is (Stops-front (λ _. done true) c.in-Off.ensures.ran)

pub returns-in-Done-clause-ran : goal.returns-in-Done-clause-ran
returns-in-Done-clause-ran g c = rw c.in-Ignored.is (Finishes-and_then (λ _. done true) c.in-Done.ensures.ran (Finishes-done true _ c.in-Done.ensures.ran.stretch.passed.ends.on))

pub returns-in-Failed-clause-ran : goal.returns-in-Failed-clause-ran
returns-in-Failed-clause-ran g c = rw c.in-Ignored.is (Finishes-and_then (λ _. done true) c.in-Failed.ensures.ran (Finishes-done true _ c.in-Failed.ensures.ran.stretch.passed.ends.on))

pub returns-in-Off-try_script-clause-ran : goal.returns-in-Off-try_script-clause-ran
returns-in-Off-try_script-clause-ran g c = rw c.in-Once.is (Stops-front (λ _. done true) c.in-Off-try_script.ensures.ran)
