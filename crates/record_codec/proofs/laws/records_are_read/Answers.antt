use Rattle.std.proofs.Common.{ap, ◌∙◌, drop}
use Rattle.record_codec.specs.Reading.{database}
use Rattle.record_codec.specs.Spelling.{record_length}
use Rattle.record_codec.proofs.Again.{all_again}
use Rattle.record_codec.proofs.Whole.{database_found}
use Rattle.record_codec.proofs.laws.records_are_read.Goals as goal

pub returns : goal.returns
returns c = λ e bytes fits. (
  λ is. database_found bytes e fits is,
  λ found. ap database found.begins ∙ all_again found.version e (drop (record_length e) bytes) found.right found.of_version found.fits,
)
