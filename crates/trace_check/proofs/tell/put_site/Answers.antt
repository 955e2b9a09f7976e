use Rattle.trace_check.specs.Texts.{site_line}
use Rattle.std.specs.List.{flat_map}
use Rattle.trace_check.proofs.Puts.{stops-at, list-more, list-cut}
use Rattle.trace_check.proofs.tell.put_site.Goals as goal

pub returns-in_err-put_own : goal.returns-in_err-put_own
returns-in_err-put_own g c =
    let means = g.O.Sink.means in
    stops-at (means c.args.out.now) (means c.put_own.new.out) (flat_map site_line c.args.scripts.now) c.from_residual.result _ c.from_residual.ensures.1
    (list-cut site_line c.args.scripts.now c.loop-i.i c.at.result.now c.at.ensures (means c.args.out.now) (means c.loop-i.out) (means c.put_own.new.out) c.loop-i.invariant c.in_err-put_own.ensures)

pub loop-i-preserved : goal.loop-i-preserved
loop-i-preserved g c =
    let means = g.O.Sink.means in
    list-more site_line c.args.scripts.now c.loop-i.i c.at.result.now c.at.ensures (means c.args.out.now) (means c.loop-i.out) (means c.put_own.new.out) c.loop-i.invariant c.in_ok-put_own.ensures
