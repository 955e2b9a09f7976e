use Rattle.std.proofs.Common.{refl, sym, subst}
use Rattle.std.specs.Prelude.{Option, Result}
use Rattle.trace_check.specs.declared.note.NoteHead.{NoteHead}
use Rattle.client_top.specs.declared.status.Status.{Status}
use Rattle.client_top.specs.Did.{Shelf}
use Rattle.client_top.specs.Looks.{Looks}
use Rattle.client_top.proofs.Heads.{unmounted-looks}
use Rattle.client_top.proofs.trace.look.Goals as goal

pub returns-in-Err : goal.returns-in-Err
returns-in-Err g c = record {
  plan = c.in-Err.ensures.plan;
  tree = refl;
  source = refl;
  looks = λ asked noted site content.
      let old = g.D.Device.means c.args.device.now in
      let mid = g.D.Device.means c.mount.new.device in
      let shelf : Shelf = record { faults = g.S.Source.faults c.args.source.now; given = g.S.Source.given c.args.source.now } in
      subst (λ (r : Result (Option NoteHead) Status). Looks c.args.deed asked old mid shelf shelf r) (sym c.unmounted.ensures)
      (unmounted-looks asked c.args.deed noted old mid shelf c.in-Err.fault c.in-Err.ensures.wrote c.in-Err.ensures.adds c.in-Err.ensures.ends);
}
