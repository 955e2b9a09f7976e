use Rattle.record_codec.specs.Spelling.{pair}
use Rattle.record_codec.proofs.Puts.{Puts-then}
use Rattle.record_codec.proofs.writer.put_pair.Goals as goal

pub returns : goal.returns
unfolding pair
returns c = Puts-then _ _ _ _ _ _ _ _ c.put_long-at.ensures c.put_long.ensures
