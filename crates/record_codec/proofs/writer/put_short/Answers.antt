use Rattle.record_codec.specs.Spelling.{short_text}
use Rattle.record_codec.proofs.Puts.{Puts-then}
use Rattle.record_codec.proofs.writer.put_short.Goals as goal

pub returns : goal.returns
unfolding short_text
returns c = Puts-then _ _ _ _ _ _ _ _ c.put-at.ensures c.put.ensures
