use Rattle.tree_writer.proofs.MakeSteps.{all_named}
use Rattle.tree_writer.proofs.making.make.Goals as goal

pub add_files-requires : goal.add_files-requires
add_files-requires g c = all_named c.in-Ok-ask.spec c.in-Ok-write_tree.files c.in-Ok-write_tree.ensures.exact
