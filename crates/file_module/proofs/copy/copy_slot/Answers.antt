use Rattle.std.proofs.Common.{rules, ◌∙◌}
use Rattle.file_module.specs.declared.answer.FileAct.TheVariants.{Done}
use Rattle.file_module.specs.Contents.{content}
use Rattle.file_module.proofs.Touches.{touches_then, content_same}
use Rattle.file_module.proofs.Pieces.{pieces_step}
use Rattle.file_module.proofs.copy.copy_slot.Goals as goal

pub pieces-preserved : goal.pieces-preserved
pieces-preserved g c =
    let means = g.P.Place.means in
    let inv = c.pieces.invariant in
    let told = c.in_ok-copy_piece.ensures in
    let same = content_same Done c.args.slot (means c.args.place.now) (means c.pieces.place) c.requires.other inv.touches in
    record {
      touches = touches_then Done (means c.args.place.now) (means c.pieces.place) (means c.copy_piece.new.place) inv.touches told.touches;
      above = search rules;
      within = search rules;
      adds = λ is. pieces_step (content c.args.slot (means c.args.place.now)) (content c.args.slot (means c.pieces.place)) c.args.from c.pieces.at c.min-count.result _ (means c.args.place.now) (means c.pieces.place) (means c.copy_piece.new.place) inv.above same (search rules) (inv.adds is) (told.adds (inv.touches.counts.told ∙ is));
      buffer = search rules;
    }
