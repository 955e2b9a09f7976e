use Rattle.record_codec.specs.Spelling.{scripts}
use Rattle.record_codec.proofs.Puts.{Puts-then}
use Rattle.record_codec.proofs.writer.put_scripts.Goals as goal

pub returns : goal.returns
unfolding scripts
returns c = Puts-then _ _ _ _ _ _ _ _ (rw c.as_slice-names.ensures.names at c.put-at.ensures) (rw c.as_slice-names.ensures.names at c.put_names.ensures)
