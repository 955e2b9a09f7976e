use Rattle.std.proofs.Common.{◌++◌}
use Rattle.std.specs.List.{flat_map}
use Rattle.event_text.specs.Lines.{line}
use Rattle.trace_check.specs.Texts.{end_line}
use Rattle.trace_check.proofs.Puts.{stops-at, front-first, puts-second}
use Rattle.trace_check.proofs.tell.put_rest.Goals as goal

pub returns-in_err-put_events : goal.returns-in_err-put_events
returns-in_err-put_events g c =
    let means = g.O.Sink.means in
    stops-at (means c.args.out.now) (means c.put_events.new.out) (flat_map line c.args.events.now.events ++ end_line c.args.end) c.from_residual.result _ c.from_residual.ensures.1
    (front-first (means c.args.out.now) (means c.put_events.new.out) (flat_map line c.args.events.now.events) (end_line c.args.end) c.in_err-put_events.ensures)

pub returns : goal.returns
returns g c =
    let means = g.O.Sink.means in
    puts-second (means c.args.out.now) (means c.put_events.new.out) (means c.put_end.new.out) (flat_map line c.args.events.now.events) (end_line c.args.end) c.put_end.result c.in_ok-put_events.ensures c.put_end.ensures
