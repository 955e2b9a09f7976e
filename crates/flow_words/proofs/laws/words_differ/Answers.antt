use Rattle.flow_words.proofs.Courses.{Whole-one}
use Rattle.flow_words.proofs.laws.words_differ.Goals as goal

pub returns : goal.returns
returns g c = λ t w v x y r s h i e. Whole-one t w x y v r s h i e
