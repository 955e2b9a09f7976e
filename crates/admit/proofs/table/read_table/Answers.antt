use Rattle.std.proofs.Common.{◌≡◌, ◌∙◌, ◌∷◌, [], length-append, arith}
use Rattle.admit.proofs.Rows.{next_head}
use Rattle.admit.proofs.table.read_table.Goals as goal

pub loop-i-preserved : goal.loop-i-preserved
loop-i-preserved g c =
    let at_path : g.S.Source.content c.loop-i.source ≡ g.S.Source.content c.args.source.now = c.loop-i.invariant.same in
    let at_length : g.S.Source.content c.path.new.self ≡ g.S.Source.content c.args.source.now = c.in_ok-path.ensures.same ∙ at_path in
    rw (c.in_ok-push.ensures.ok, c.new.ensures) (record {
      same = c.in_ok-length.ensures.same ∙ at_length;
      plan = c.in_ok-length.ensures.plan ∙ c.in_ok-path.ensures.plan ∙ c.loop-i.invariant.plan;
      faults = c.in_ok-length.ensures.counts ∙ c.in_ok-path.ensures.counts ∙ c.loop-i.invariant.faults;
      given = c.in_ok-length.ensures.given ∙ c.in_ok-path.ensures.given ∙ c.loop-i.invariant.given;
      count = omega (arith, length-append c.loop-i.heads (record { path = c.in_ok-path.path; length = c.in_ok-length.length } ∷ []), c.loop-i.invariant.count);
      heads = next_head (g.S.Source.content c.args.source.now) c.loop-i.i c.loop-i.heads c.in_ok-path.path c.in_ok-length.length (omega (arith, c.files-i-end.ensures)) (rw at_path at c.in_ok-path.ensures.value) (rw at_length at c.in_ok-length.ensures.value) c.loop-i.invariant.heads;
    })
