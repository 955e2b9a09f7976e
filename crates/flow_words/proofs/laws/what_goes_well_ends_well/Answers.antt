use Rattle.std.proofs.Common.{refl}
use Rattle.flow_words.proofs.WellLemmas.{pieces-well}
use Rattle.flow_words.proofs.laws.what_goes_well_ends_well.Goals as goal

pub returns : goal.returns
returns c = λ who can stop q events end some g well. pieces-well can who some g refl well
