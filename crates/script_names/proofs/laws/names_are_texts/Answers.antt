use Rattle.script_names.proofs.FormLemmas.{says_place}
use Rattle.script_names.proofs.laws.names_are_texts.Goals as goal

pub returns : goal.returns
returns c = says_place
