use Rattle.std.proofs.Common.{◌≡◌, ◌∙◌, ℕ, ◌+◌, ◌≤◌, List, ◌++◌, length, take, drop, arith}
use Rattle.std.specs.Prelude.{IfSome}
use Rattle.std.proofs.lemmas.List.{length-append, length-drop, length-take-le}
use Rattle.manifest_sums.specs.Message.{Has}
use Rattle.device_model.specs.Disk.{area_of}
use Rattle.ab_image.proofs.Fronts.{front-more}
use Rattle.ab_image.proofs.readiness.sum_front.Goals as goal

pub loop-at-preserved : goal.loop-at-preserved
loop-at-preserved g c =
    let inv = c.loop-at.invariant in
    let step = c.in_ok-sum_piece.ensures in
    let disk = (g.B.Blocks.means c.args.blocks.now).disk in
    let want = c.least-want.result in
    let start = c.partition_at-start.result in
    let fits : want ≤ length c.loop-at.buffer = c.least-want.ensures.fits in
    let long : length (take want c.loop-at.buffer) ≡ want = length-take-le want c.loop-at.buffer fits in
    let next : IfSome (area_of disk) (λ area. (message : List ℕ) → Has c.loop-at.summing message → Has c.sum_piece.new.summing (message ++ take want (drop (start + c.loop-at.at) area))) = simp (long, inv.same) at step.next in
    record {
      same = step.same ∙ inv.same;
      size = inv.size;
      within = omega arith;
      room = omega (arith, length-append c.sum_piece.new.into (drop want c.loop-at.buffer), length-drop want c.loop-at.buffer, c.sum_piece.auto.into, long, fits, inv.room);
      front = front-more disk start c.loop-at.at want c.loop-at.summing c.sum_piece.new.summing inv.front next;
    }
