use Rattle.record_codec.specs.Spelling.{long_text}
use Rattle.record_codec.proofs.Puts.{Puts-then}
use Rattle.record_codec.proofs.writer.put_long.Goals as goal

pub returns : goal.returns
unfolding long_text
returns c = Puts-then _ _ _ _ _ _ _ _ (rw c.to_be_bytes.ensures at c.put-at.ensures) c.put.ensures
