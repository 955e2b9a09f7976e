use Rattle.flow_words.proofs.Plays.{Whole-played, Part-played}
use Rattle.flow_words.proofs.laws.answers_decide.Goals as goal

pub returns : goal.returns
returns g c = record { whole = Whole-played; part = Part-played }
