use Rattle.std.proofs.Common.{◌∙◌, length, arith}
use Rattle.io_model.proofs.Readings.{given_none}
use Rattle.work_folder.proofs.Copied.{inside}
use Rattle.work_folder.proofs.Touched.{touches_nothing}
use Rattle.work_folder.proofs.copy.copy_piece.Goals as goal

pub returns-in-Err-clause-stopped : goal.returns-in-Err-clause-stopped
returns-in-Err-clause-stopped g c = record {
  count = 0;
  within = inside (g.S.Source.content c.args.source.now) c.args.i c.args.at (length c.args.into.now) 0 c.requires.inside (omega arith);
  is = c.in-Err.ensures.given ∙ given_none c.args.i (g.S.Source.given c.args.source.now);
}

pub returns-in-Err-append-clause-stopped : goal.returns-in-Err-append-clause-stopped
returns-in-Err-append-clause-stopped g c = record {
  count = c.in-Ok.count;
  within = inside (g.S.Source.content c.args.source.now) c.args.i c.args.at (length c.args.into.now) c.in-Ok.count c.requires.inside c.in-Ok.ensures.most;
  is = c.in-Ok.ensures.given;
}

pub returns-in-Err-clause-touches : goal.returns-in-Err-clause-touches
returns-in-Err-clause-touches g c = touches_nothing (g.D.Device.means c.args.device.now) c.requires.ready
