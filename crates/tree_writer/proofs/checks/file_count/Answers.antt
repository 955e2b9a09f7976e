use Rattle.std.proofs.Common.{arith}
use Rattle.std.proofs.lemmas.Grind.{common_steps}
use Rattle.tree_writer.proofs.Shape.{tree_length}
use Rattle.tree_writer.proofs.checks.file_count.Goals as goal

pub returns : goal.returns
returns c = rw (tree_length c.args.spec.now) (grind (arith, common_steps))
