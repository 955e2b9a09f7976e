use Rattle.std.proofs.Common.{◌++◌}
use Rattle.trace_check.specs.Texts.{boot_line, from_line}
use Rattle.trace_check.proofs.Puts.{stops-at, front-first, puts-second}
use Rattle.trace_check.proofs.tell.put_start.Goals as goal

pub returns-in_err-put_boot : goal.returns-in_err-put_boot
returns-in_err-put_boot g c =
    let means = g.O.Sink.means in
    stops-at (means c.args.out.now) (means c.put_boot.new.out) (boot_line c.args.deed ++ from_line c.args.from.now) c.from_residual.result _ c.from_residual.ensures.1
    (front-first (means c.args.out.now) (means c.put_boot.new.out) (boot_line c.args.deed) (from_line c.args.from.now) c.in_err-put_boot.ensures)

pub returns : goal.returns
returns g c =
    let means = g.O.Sink.means in
    puts-second (means c.args.out.now) (means c.put_boot.new.out) (means c.put_from.new.out) (boot_line c.args.deed) (from_line c.args.from.now) c.put_from.result c.in_ok-put_boot.ensures c.put_from.ensures
