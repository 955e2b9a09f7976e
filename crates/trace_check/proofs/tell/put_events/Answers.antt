use Rattle.event_text.specs.Lines.{line}
use Rattle.std.specs.List.{flat_map}
use Rattle.trace_check.proofs.Puts.{stops-at, list-more, list-cut}
use Rattle.trace_check.proofs.tell.put_events.Goals as goal

pub returns-in_err-put_event : goal.returns-in_err-put_event
returns-in_err-put_event g c =
    let means = g.O.Sink.means in
    stops-at (means c.args.out.now) (means c.put_event.new.out) (flat_map line c.args.events.now.events) c.from_residual.result _ c.from_residual.ensures.1
    (list-cut line c.args.events.now.events c.loop-i.i c.at.result.now c.at.ensures (means c.args.out.now) (means c.loop-i.out) (means c.put_event.new.out) c.loop-i.invariant c.in_err-put_event.ensures)

pub loop-i-preserved : goal.loop-i-preserved
loop-i-preserved g c =
    let means = g.O.Sink.means in
    list-more line c.args.events.now.events c.loop-i.i c.at.result.now c.at.ensures (means c.args.out.now) (means c.loop-i.out) (means c.put_event.new.out) c.loop-i.invariant c.in_ok-put_event.ensures
