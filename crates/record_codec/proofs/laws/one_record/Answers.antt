use Rattle.record_codec.proofs.Again.{one_record}
use Rattle.record_codec.proofs.laws.one_record.Goals as goal

pub returns : goal.returns
returns c = one_record
