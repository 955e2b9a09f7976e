use Rattle.std.proofs.Common.{◌≡◌, true, rules, sym, subst}
use Rattle.file_module.specs.Contents.{Contents}
use Rattle.file_module.proofs.Comparing.{compared_step, refilled}
use Rattle.file_module.proofs.compare.has_saved_bytes.Goals as goal

pub pieces-preserved : goal.pieces-preserved
pieces-preserved g c =
    let means = g.P.Place.means in
    let inv = c.pieces.invariant in
    let told = c.in_ok-is_same_piece.ensures in
    record {
      still = search rules;
      past = search rules;
      within = search rules;
      same = λ is. compared_step (means c.args.place.now) (means c.pieces.place) _ c.pieces.at c.min-count.result _ inv.past inv.still (search rules) (search rules) (inv.same is) (told.same (subst (λ (m : Contents). m.told ≡ true) (sym inv.still) is));
      buffer = search rules;
      beside = refilled c.is_same_piece.new.beside c.pieces.beside c.min-count.result 4096 told.beside (search rules) inv.beside;
    }
