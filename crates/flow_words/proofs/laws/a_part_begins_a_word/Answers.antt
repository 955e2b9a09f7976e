use Rattle.std.proofs.Common.{◌++◌}
use Rattle.flow_words.proofs.Courses.{Whole-from_part, Part-whole, Part-prefix}
use Rattle.flow_words.proofs.laws.a_part_begins_a_word.Goals as goal

pub returns : goal.returns
returns g c = record { begins = Whole-from_part; is_part = λ t w v r h. Part-prefix t w v (Part-whole t (w ++ v) r h) }
