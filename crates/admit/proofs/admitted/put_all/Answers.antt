use Rattle.std.proofs.Common.{◌≡◌, ◌∙◌, ℕ, List, ap}
use Rattle.provides_map.specs.Pairs.{Pairs, put, put_all}
use Rattle.admit.proofs.Provided.{put_more}
use Rattle.admit.proofs.admitted.put_all.Goals as goal

pub loop-i-preserved : goal.loop-i-preserved
loop-i-preserved c =
    let key = c.pair.result.0.now in
    let value = c.pair.result.1.now in
    let is : c.insert.new.self ≡ put c.loop-i.all key value = c.in_ok-insert.ensures.ok ∙ ap (λ (k : List ℕ). put c.loop-i.all k c.twin-in-loop-i.result) c.twin.ensures ∙ ap (λ (v : List ℕ). put c.loop-i.all key v) c.twin-in-loop-i.ensures in
    put_more c.loop-i.all c.insert.new.self c.args.provides.now (put_all c.args.all.now c.args.provides.now) c.loop-i.i key value c.pair.ensures is c.loop-i.invariant
