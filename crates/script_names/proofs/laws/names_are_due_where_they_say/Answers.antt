use Rattle.script_names.proofs.DueLemmas.{due_says}
use Rattle.script_names.proofs.laws.names_are_due_where_they_say.Goals as goal

pub returns : goal.returns
returns c = due_says
