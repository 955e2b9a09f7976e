use Rattle.trace_check.specs.Texts.{kind_line}
use Rattle.std.specs.List.{flat_map}
use Rattle.trace_check.proofs.Puts.{stops-at, list-more, list-cut}
use Rattle.trace_check.proofs.tell.put_kinds.Goals as goal

pub returns-in_err-put_kind : goal.returns-in_err-put_kind
returns-in_err-put_kind g c =
    let means = g.O.Sink.means in
    stops-at (means c.args.out.now) (means c.put_kind.new.out) (flat_map kind_line c.args.kinds.now) c.from_residual.result _ c.from_residual.ensures.1
    (list-cut kind_line c.args.kinds.now c.loop-i.i c.at.result.now c.at.ensures (means c.args.out.now) (means c.loop-i.out) (means c.put_kind.new.out) c.loop-i.invariant c.in_err-put_kind.ensures)

pub loop-i-preserved : goal.loop-i-preserved
loop-i-preserved g c =
    let means = g.O.Sink.means in
    list-more kind_line c.args.kinds.now c.loop-i.i c.at.result.now c.at.ensures (means c.args.out.now) (means c.loop-i.out) (means c.put_kind.new.out) c.loop-i.invariant c.in_ok-put_kind.ensures
