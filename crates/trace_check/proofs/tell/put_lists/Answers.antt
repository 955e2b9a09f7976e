use Rattle.std.proofs.Common.{◌++◌}
use Rattle.std.specs.List.{flat_map}
use Rattle.trace_check.specs.Texts.{kind_line, script_line, site_line, lists_text}
use Rattle.trace_check.proofs.Puts.{stops-at, front-first, front-second, puts-second}
use Rattle.trace_check.proofs.tell.put_lists.Goals as goal

pub returns-in_err-put_kinds : goal.returns-in_err-put_kinds
returns-in_err-put_kinds g c =
    let means = g.O.Sink.means in
    stops-at (means c.args.out.now) (means c.put_kinds.new.out) (lists_text c.args.head.now) c.from_residual.result _ c.from_residual.ensures.1
    (front-first (means c.args.out.now) (means c.put_kinds.new.out) (flat_map kind_line c.args.head.now.kinds) (flat_map script_line c.args.head.now.scripts ++ flat_map site_line c.args.head.now.site) c.in_err-put_kinds.ensures)

pub returns-in_err-put_scripts : goal.returns-in_err-put_scripts
returns-in_err-put_scripts g c =
    let means = g.O.Sink.means in
    stops-at (means c.args.out.now) (means c.put_scripts.new.out) (lists_text c.args.head.now) c.from_residual-in_err-put_scripts.result _ c.from_residual-in_err-put_scripts.ensures.1
    (front-second (means c.args.out.now) (means c.put_kinds.new.out) (means c.put_scripts.new.out) (flat_map kind_line c.args.head.now.kinds) (flat_map script_line c.args.head.now.scripts ++ flat_map site_line c.args.head.now.site) c.in_ok-put_kinds.ensures
    (front-first (means c.put_kinds.new.out) (means c.put_scripts.new.out) (flat_map script_line c.args.head.now.scripts) (flat_map site_line c.args.head.now.site) c.in_err-put_scripts.ensures))

pub returns : goal.returns
returns g c =
    let means = g.O.Sink.means in
    puts-second (means c.args.out.now) (means c.put_kinds.new.out) (means c.put_site.new.out) (flat_map kind_line c.args.head.now.kinds) (flat_map script_line c.args.head.now.scripts ++ flat_map site_line c.args.head.now.site) c.put_site.result c.in_ok-put_kinds.ensures
    (puts-second (means c.put_kinds.new.out) (means c.put_scripts.new.out) (means c.put_site.new.out) (flat_map script_line c.args.head.now.scripts) (flat_map site_line c.args.head.now.site) c.put_site.result c.in_ok-put_scripts.ensures c.put_site.ensures)
