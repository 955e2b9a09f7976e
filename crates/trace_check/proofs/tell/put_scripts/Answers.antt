use Rattle.trace_check.specs.Texts.{script_line}
use Rattle.std.specs.List.{flat_map}
use Rattle.trace_check.proofs.Puts.{stops-at, list-more, list-cut}
use Rattle.trace_check.proofs.tell.put_scripts.Goals as goal

pub returns-in_err-put_script : goal.returns-in_err-put_script
returns-in_err-put_script g c =
    let means = g.O.Sink.means in
    stops-at (means c.args.out.now) (means c.put_script.new.out) (flat_map script_line c.args.scripts.now) c.from_residual.result _ c.from_residual.ensures.1
    (list-cut script_line c.args.scripts.now c.loop-i.i c.at.result.now c.at.ensures (means c.args.out.now) (means c.loop-i.out) (means c.put_script.new.out) c.loop-i.invariant c.in_err-put_script.ensures)

pub loop-i-preserved : goal.loop-i-preserved
loop-i-preserved g c =
    let means = g.O.Sink.means in
    list-more script_line c.args.scripts.now c.loop-i.i c.at.result.now c.at.ensures (means c.args.out.now) (means c.loop-i.out) (means c.put_script.new.out) c.loop-i.invariant c.in_ok-put_script.ensures
