use Rattle.flow_words.proofs.PieceLemmas.{pieces-stand}
use Rattle.flow_words.proofs.laws.ends_tell_the_position.Goals as goal

pub returns : goal.returns
returns c = λ words stop p q events end g. pieces-stand g
