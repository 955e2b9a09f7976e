use Rattle.tree_writer.proofs.Admitted.{paths_ascend}
use Rattle.tree_writer.proofs.laws.written_trees_are_in_order.Goals as goal

pub returns : goal.returns
returns c = paths_ascend
