use Rattle.record_codec.proofs.Marks.{broken_marks}
use Rattle.record_codec.proofs.laws.broken_marks_the_name.Goals as goal

pub returns : goal.returns
returns c = broken_marks
