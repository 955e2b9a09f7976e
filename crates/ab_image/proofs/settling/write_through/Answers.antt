use Rattle.std.proofs.lemmas.Result.{err_from_is_err_and}
use Rattle.ab_image.proofs.Steps.{sets-failed, sets-then}
use Rattle.ab_image.proofs.settling.write_through.Goals as goal

pub returns-in_err-write : goal.returns-in_err-write
returns-in_err-write g c =
    let old = g.B.Blocks.means c.args.blocks.now in
    let new = g.B.Blocks.means c.write.new.self in
    let p = err_from_is_err_and c.from_residual.result c.from_residual.ensures.1 in
    rw (p.1, p.2) (record {
      sets = sets-failed (Unit {0}) c.args.at c.args.bytes.now old _ new c.requires.range (g.met.B.Blocks.whole c.args.blocks.now).disk c.requires.on c.in_err-write.ensures.ends;
    })

pub returns : goal.returns
returns g c =
    let old = g.B.Blocks.means c.args.blocks.now in
    let new = g.B.Blocks.means c.sync.new.self in
    record {
      sets = sets-then (Unit {0}) c.args.at c.args.bytes.now _ old (g.B.Blocks.means c.write.new.self) c.sync.result new c.requires.range (g.met.B.Blocks.whole c.args.blocks.now).disk c.requires.on c.in_ok-write.ensures.ends c.sync.ensures.ends c.sync.ensures.leaves;
    }
