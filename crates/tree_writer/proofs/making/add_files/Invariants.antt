use Rattle.std.proofs.Common.{take}
use Rattle.tree_writer.specs.Sink.{TakesAll}
use Rattle.tree_writer.proofs.making.add_files.Given as goal

abbrev pub invariant-loop-i : goal.invariant-loop-i
invariant-loop-i g l = TakesAll (g.T.TreeSink.means l.initial.tree) (take l.i l.files) (g.T.TreeSink.means l.tree)
