use Rattle.flow_words.proofs.BlockForm.{IsBlock-from_whole, Whole-from_block}
use Rattle.flow_words.proofs.laws.a_block_is_tries.Goals as goal

pub returns : goal.returns
returns c = λ name w good. (IsBlock-from_whole name w good, Whole-from_block name w good)
