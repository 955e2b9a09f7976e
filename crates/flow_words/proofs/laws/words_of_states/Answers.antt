use Rattle.std.proofs.Common.{refl}
use Rattle.script_names.specs.Scripts.{place_of}
use Rattle.flow_words.proofs.laws.words_of_states.Goals as goal

pub returns-clause-download : goal.returns-clause-download
returns-clause-download c = (refl, refl)

pub returns-clause-install : goal.returns-clause-install
unfolding place_of
returns-clause-install c = (refl, refl, refl, refl)

pub returns-clause-reboot : goal.returns-clause-reboot
returns-clause-reboot c = (refl, refl, refl, refl)

pub returns-clause-nothing : goal.returns-clause-nothing
returns-clause-nothing c = (refl, refl, refl)

pub returns-clause-asks_both : goal.returns-clause-asks_both
returns-clause-asks_both c = (refl, refl, refl)

pub returns-clause-hears_both : goal.returns-clause-hears_both
returns-clause-hears_both c = (refl, refl, refl)

pub returns-clause-failure : goal.returns-clause-failure
returns-clause-failure c = (refl, refl, refl, refl, refl)
