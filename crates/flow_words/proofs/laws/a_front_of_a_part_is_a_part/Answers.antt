use Rattle.flow_words.proofs.Courses.{Part-prefix}
use Rattle.flow_words.proofs.laws.a_front_of_a_part_is_a_part.Goals as goal

pub returns : goal.returns
returns g c = Part-prefix
