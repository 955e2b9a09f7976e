use Rattle.record_codec.specs.Spelling.{pairs}
use Rattle.record_codec.proofs.Puts.{Puts-then}
use Rattle.record_codec.proofs.writer.put_map.Goals as goal

pub returns : goal.returns
unfolding pairs
returns c = Puts-then _ _ _ _ _ _ _ _ (rw (c.to_be_bytes.ensures, c.len.ensures.value) at c.put-at.ensures) c.put_pairs.ensures
