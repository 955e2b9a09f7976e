use Rattle.script_names.proofs.Inserted.{contains_inserted}
use Rattle.script_names.proofs.laws.added_names_are_held.Goals as goal

pub returns : goal.returns
returns c = contains_inserted
