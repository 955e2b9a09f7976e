use Rattle.std.proofs.Common.{rules, ◌∙◌, ◌+◌, subst}
use Rattle.device_model.specs.How.{Through}
use Rattle.io_model.specs.Source.{Content}
use Rattle.io_model.specs.Reading.{IsAtMost}
use Rattle.io_model.proofs.Readings.{given_more, gave_of}
use Rattle.work_folder.specs.Adding.{CopiesPiece}
use Rattle.work_folder.proofs.Copying.{SoFar-more}
use Rattle.work_folder.proofs.Steps.{touches_then}
use Rattle.work_folder.proofs.copy.copy_file.Goals as goal

pub pieces-preserved : goal.pieces-preserved
pieces-preserved g c =
    let means = g.D.Device.means in
    let content = g.S.Source.content c.args.source.now in
    let inv = c.pieces.invariant in
    let told = c.in-Ok-copy_piece.ensures in
    let piece : CopiesPiece c.args.part c.args.path.now content c.args.i c.pieces.at c.in-Ok-copy_piece.n (means c.pieces.device) (means c.copy_piece.new.device) c.pieces.summing c.copy_piece.new.summing
    = subst (λ (t : Content). CopiesPiece c.args.part c.args.path.now t c.args.i c.pieces.at c.in-Ok-copy_piece.n (means c.pieces.device) (means c.copy_piece.new.device) c.pieces.summing c.copy_piece.new.summing) inv.same told.piece in
    record {
      so_far = SoFar-more c.args.part c.args.path.now content c.args.i c.pieces.at c.in-Ok-copy_piece.n (means c.args.device.now) (means c.pieces.device) (means c.copy_piece.new.device) c.pieces.summing c.copy_piece.new.summing inv.so_far piece;
      size = inv.size;
      given = given_more c.args.i c.pieces.at c.in-Ok-copy_piece.n (g.S.Source.given c.args.source.now) (g.S.Source.given c.pieces.source) (g.S.Source.given c.copy_piece.new.source) inv.given told.given;
      numbered = inv.numbered;
      within = search rules;
      short = inv.short;
      buffer = search rules;
      touches = touches_then Through (means c.args.device.now) (means c.pieces.device) (means c.copy_piece.new.device) inv.touches told.touches;
      ready = search rules;
      plan = c.copy_piece.ensures.plan ∙ inv.plan;
      source_plan = c.copy_piece.ensures.source_plan ∙ inv.source_plan;
      same = c.copy_piece.ensures.same ∙ inv.same;
      faults = told.counts ∙ inv.faults;
    }

pub returns-in-Err-copy_piece-clause-stopped : goal.returns-in-Err-copy_piece-clause-stopped
returns-in-Err-copy_piece-clause-stopped g c =
    let content = g.S.Source.content c.args.source.now in
    let given = g.S.Source.given in
    let inv = c.pieces.invariant in
    let part = c.in-Err-copy_piece.ensures.stopped in
    gave_of c.args.i (c.pieces.at + part.count) (IsAtMost content c.args.i) (given c.args.source.now) (given c.copy_piece.new.source) (subst (λ (t : Content). IsAtMost t c.args.i (c.pieces.at + part.count)) inv.same part.within) inv.numbered (given_more c.args.i c.pieces.at part.count (given c.args.source.now) (given c.pieces.source) (given c.copy_piece.new.source) inv.given part.is)
