use Rattle.std.proofs.Common.{refl}
use Rattle.flow_table.specs.Names.{state_name}
use Rattle.client_top.specs.Texts.{about_now, about_words, not_installed}
use Rattle.client_top.proofs.laws.worked_answers.Goals as goal

pub returns-clause-texts : goal.returns-clause-texts
unfolding about_now state_name about_words not_installed
returns-clause-texts c = (refl, refl, refl, refl, refl, refl, refl, refl, refl, refl, refl, refl)
