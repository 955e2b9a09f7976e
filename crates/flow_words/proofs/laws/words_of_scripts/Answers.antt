use Rattle.std.proofs.Common.{refl}
use Rattle.flow_words.specs.Scripts.{block}
use Rattle.flow_words.proofs.laws.words_of_scripts.Goals as goal

pub returns-clause-tries : goal.returns-clause-tries
unfolding block
returns-clause-tries c = (refl, refl, refl, refl, refl)

pub returns-clause-checked : goal.returns-clause-checked
unfolding block
returns-clause-checked c = (refl, refl, refl, refl)

pub returns-clause-ignored : goal.returns-clause-ignored
unfolding block
returns-clause-ignored c = (refl, refl)

pub returns-clause-once : goal.returns-clause-once
returns-clause-once c = (refl, refl)
