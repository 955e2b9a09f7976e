use Rattle.std.proofs.Common.{◌++◌}
use Rattle.std.specs.List.{flat_map}
use Rattle.event_text.specs.Lines.{line}
use Rattle.trace_check.specs.Texts.{end_line, start_text, lists_text}
use Rattle.trace_check.proofs.Puts.{stops-at, front-first, front-second, puts-second}
use Rattle.trace_check.proofs.tell.put_note.Goals as goal

pub returns-in_err-put_start : goal.returns-in_err-put_start
returns-in_err-put_start g c =
    let means = g.O.Sink.means in
    stops-at (means c.args.out.now) (means c.put_start.new.out) (start_text c.args.head.now ++ (lists_text c.args.head.now ++ (flat_map line c.args.events.now.events ++ end_line c.args.end))) c.from_residual.result _ c.from_residual.ensures.1
    (front-first (means c.args.out.now) (means c.put_start.new.out) (start_text c.args.head.now) (lists_text c.args.head.now ++ (flat_map line c.args.events.now.events ++ end_line c.args.end)) c.in_err-put_start.ensures)

pub returns-in_err-put_lists : goal.returns-in_err-put_lists
returns-in_err-put_lists g c =
    let means = g.O.Sink.means in
    stops-at (means c.args.out.now) (means c.put_lists.new.out) (start_text c.args.head.now ++ (lists_text c.args.head.now ++ (flat_map line c.args.events.now.events ++ end_line c.args.end))) c.from_residual-in_err-put_lists.result _ c.from_residual-in_err-put_lists.ensures.1
    (front-second (means c.args.out.now) (means c.put_start.new.out) (means c.put_lists.new.out) (start_text c.args.head.now) (lists_text c.args.head.now ++ (flat_map line c.args.events.now.events ++ end_line c.args.end)) c.in_ok-put_start.ensures
    (front-first (means c.put_start.new.out) (means c.put_lists.new.out) (lists_text c.args.head.now) ((flat_map line c.args.events.now.events ++ end_line c.args.end)) c.in_err-put_lists.ensures))

pub returns : goal.returns
returns g c =
    let means = g.O.Sink.means in
    puts-second (means c.args.out.now) (means c.put_start.new.out) (means c.put_rest.new.out) (start_text c.args.head.now) (lists_text c.args.head.now ++ (flat_map line c.args.events.now.events ++ end_line c.args.end)) c.put_rest.result c.in_ok-put_start.ensures
    (puts-second (means c.put_start.new.out) (means c.put_lists.new.out) (means c.put_rest.new.out) (lists_text c.args.head.now) ((flat_map line c.args.events.now.events ++ end_line c.args.end)) c.put_rest.result c.in_ok-put_lists.ensures c.put_rest.ensures)
