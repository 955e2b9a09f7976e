use Rattle.std.proofs.Common.{◌≡◌, ◌+◌, ◌++◌, length, ap, length-append, arith}
use Rattle.provides_map.specs.After.{after}
use Rattle.provides_map.specs.declared.length.MapLength.{MapLength}
use Rattle.record_codec.specs.Spelling.{pairs, kinds, scripts, body}
use Rattle.record_codec.proofs.Sizes.{pairs_length}
use Rattle.record_codec.proofs.length.begun_length.Goals as goal

pub returns : goal.returns
unfolding body
returns c = λ position id.
    let before = pairs c.args.before.now in
    let new = pairs (after c.args.before.now c.args.change.now) in
    let types = kinds c.args.kinds.now in
    let names = scripts c.args.scripts.now in
    let bytes = ap (λ (m : MapLength). m.bytes) c.after_length.ensures.exact in
    let a = length-append (before ++ new ++ types) names in
    let b = length-append (before ++ new) types in
    let d = length-append before new in
    omega (arith, pairs_length (after c.args.before.now c.args.change.now), bytes, a, b, d, c.map_length.ensures.exact, c.kinds_length.ensures.exact, c.scripts_length.ensures.exact)
