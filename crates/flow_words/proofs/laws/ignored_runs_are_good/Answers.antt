use Rattle.flow_words.proofs.Courses.{Ignored-good}
use Rattle.flow_words.proofs.laws.ignored_runs_are_good.Goals as goal

pub returns : goal.returns
returns c = λ names mode w good is h. Ignored-good names mode w good is h
