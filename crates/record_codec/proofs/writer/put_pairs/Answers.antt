use Rattle.std.proofs.Common.{◌<◌, ℕ, List, length, arith}
use Rattle.record_codec.specs.Spelling.{pair}
use Rattle.record_codec.proofs.Puts.{Puts-more, room-more, item_is}
use Rattle.record_codec.proofs.writer.put_pairs.Goals as goal

pub put_pair-at-requires-clause-fits : goal.put_pair-at-requires-clause-fits
put_pair-at-requires-clause-fits c =
    let one : List ℕ × List ℕ = (c.pair.result.0.now, c.pair.result.1.now) in
    let within : c.loop-i.i < length c.args.map.now = omega (arith, c.len-i-end.ensures.value, c.loop-i-test.true) in
    rw (c.loop-i.auto.into, c.bytes.ensures.bytes, c.bytes-in-loop-i.ensures.bytes) (room-more pair c.args.map.now c.loop-i.i one within (item_is c.args.map.now c.loop-i.i one c.pair.ensures) c.args.into.now c.args.at c.loop-i.into c.loop-i.at c.loop-i.invariant c.requires)

pub loop-i-preserved : goal.loop-i-preserved
loop-i-preserved c =
    let one : List ℕ × List ℕ = (c.pair.result.0.now, c.pair.result.1.now) in
    let within : c.loop-i.i < length c.args.map.now = omega (arith, c.len-i-end.ensures.value, c.loop-i-test.true) in
    Puts-more pair c.args.map.now c.loop-i.i one within (item_is c.args.map.now c.loop-i.i one c.pair.ensures) c.args.into.now c.args.at c.loop-i.into c.loop-i.at _ _ c.loop-i.invariant (rw (c.bytes.ensures.bytes, c.bytes-in-loop-i.ensures.bytes) at c.put_pair-at.ensures)
