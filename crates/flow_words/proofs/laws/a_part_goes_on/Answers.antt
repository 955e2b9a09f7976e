use Rattle.flow_words.proofs.Courses.{Part-follows, Follows-part}
use Rattle.flow_words.proofs.laws.a_part_goes_on.Goals as goal

pub returns : goal.returns
returns g c = λ t w e p. (Part-follows t w e p, Follows-part t w e)
