use Rattle.std.proofs.Common.{refl, subst, sym}
use Rattle.std.specs.Prelude.{IsTrue}
use Rattle.client_top.specs.Answers.{Words, reads}
use Rattle.client_top.specs.Finds.{Request}
use Rattle.client_top.specs.Did.{Shelf}
use Rattle.client_top.proofs.Mounts.{not-mounted-tells}
use Rattle.client_top.proofs.Says.{simulates-tells, wrong-tells}
use Rattle.client_top.proofs.act.act.Goals as goal

pub returns-then-simulates-clause-acted : goal.returns-then-simulates-clause-acted
returns-then-simulates-clause-acted g c =
    let asked : Request = record { command = c.args.asked; site = c.args.site.now; content = g.S.Source.content c.args.source.now } in
    let shelf : Shelf = record { faults = g.S.Source.faults c.args.source.now; given = g.S.Source.given c.args.source.now } in
    simulates-tells asked c.in-Ok.command (g.D.Device.means c.args.device.now) shelf c.requires.on c.in-Ok.is (c.simulates.ensures.yes c.if-simulates.true)

pub returns-in-Err-clause-acted : goal.returns-in-Err-clause-acted
returns-in-Err-clause-acted g c =
    let asked : Request = record { command = c.args.asked; site = c.args.site.now; content = g.S.Source.content c.args.source.now } in
    let shelf : Shelf = record { faults = g.S.Source.faults c.args.source.now; given = g.S.Source.given c.args.source.now } in
    wrong-tells asked c.in-Err.fault (g.D.Device.means c.args.device.now) shelf c.requires.on c.in-Err.is

pub returns-in-Err-mount : goal.returns-in-Err-mount
returns-in-Err-mount g c =
    let asked : Request = record { command = c.args.asked; site = c.args.site.now; content = g.S.Source.content c.args.source.now } in
    let shelf : Shelf = record { faults = g.S.Source.faults c.args.source.now; given = g.S.Source.given c.args.source.now } in
    let reading = subst (λ (w : Words). IsTrue (reads w)) (sym c.in-Ok.is) (c.simulates.ensures.no c.if-simulates.false) in
    record {
      plan = c.in-Err-mount.ensures.plan;
      tree = refl;
      source = refl;
      acted = rw c.not_mounted.ensures (not-mounted-tells asked c.in-Err-mount.fault (g.D.Device.means c.args.device.now) (g.D.Device.means c.mount.new.device) shelf reading c.in-Err-mount.ensures.wrote c.in-Err-mount.ensures.adds c.in-Err-mount.ensures.ends);
    }
