use Rattle.std.proofs.Common.{◌≡◌, ◌<◌, ℕ, List, length, take, arith, ap}
use Rattle.std.specs.List.{flat_map}
use Rattle.std.proofs.Math.Seq.{take_all}
use Rattle.record_codec.specs.Spelling.{pair}
use Rattle.record_codec.proofs.Puts.{item_is}
use Rattle.record_codec.proofs.Sizes.{pair_more, pairs_size}
use Rattle.record_codec.proofs.length.map_length.Goals as goal

pub loop-i-preserved : goal.loop-i-preserved
loop-i-preserved c =
    let one : List ℕ × List ℕ = (c.pair.result.0.now, c.pair.result.1.now) in
    let within : c.loop-i.i < length c.args.map.now = omega (arith, c.len-i-end.ensures.value, c.loop-i-test.true) in
    let more = pair_more c.args.map.now c.loop-i.i one within (item_is c.args.map.now c.loop-i.i one c.pair.ensures) in
    let key = ap length c.bytes.ensures.bytes in
    let value = ap length c.bytes-in-loop-i.ensures.bytes in
    record {
      sum = omega (arith, more, key, value, c.loop-i.invariant.sum);
      few = omega (arith, key, value, c.bytes.ensures.short, c.bytes-in-loop-i.ensures.short, c.loop-i.invariant.few);
    }

pub returns-clause-exact : goal.returns-clause-exact
returns-clause-exact c =
    let all : take c.loop-i.i c.args.map.now ≡ c.args.map.now = take_all c.loop-i.i c.args.map.now (omega (arith, c.len-i-end.ensures.value, c.loop-i-test.false)) in
    let same = ap (λ (ps : List (List ℕ × List ℕ)). length (flat_map pair ps)) all in
    omega (arith, c.loop-i.invariant.sum, same, pairs_size c.args.map.now)
