use Rattle.flow_words.proofs.Courses.{Part-empty, Part-whole}
use Rattle.flow_words.proofs.laws.nothing_is_a_part.Goals as goal

pub returns : goal.returns
returns g c = record { none = Part-empty; whole = Part-whole }
