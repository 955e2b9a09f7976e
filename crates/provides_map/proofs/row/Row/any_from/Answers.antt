use Rattle.std.proofs.Common.{arith}
use Rattle.provides_map.proofs.Rows.{gathered_begins, gathered_step, gathered_ends}
use Rattle.provides_map.proofs.row.Row.any_from.Goals as goal

pub loop-j-init : goal.loop-j-init
loop-j-init c = gathered_begins c.args.self.now c.args.start

pub loop-j-preserved : goal.loop-j-preserved
loop-j-preserved c = gathered_step c.args.self.now c.args.start c.loop-j.any c.loop-j.j (omega arith) c.loop-j.invariant

pub returns : goal.returns
returns c = gathered_ends c.args.self.now c.args.start c.loop-j.any c.loop-j.j (omega arith) c.loop-j.invariant
