use Rattle.record_codec.proofs.Puts.{Puts-mid}
use Rattle.record_codec.proofs.writer.put.Goals as goal

pub returns : goal.returns
returns c = Puts-mid c.args.into.now c.args.at c.args.bytes.now c.copy_from_slice.new.self c.requires c.copy_from_slice.ensures.after
