use Rattle.std.proofs.Common.{◌≡◌, ℕ, List, length, take, arith, ap, ◌∙◌}
use Rattle.std.specs.List.{flat_map}
use Rattle.std.proofs.Math.Seq.{take_all}
use Rattle.record_codec.specs.Spelling.{short_text, scripts}
use Rattle.record_codec.proofs.Sizes.{name_more, scripts_size}
use Rattle.record_codec.proofs.length.scripts_length.Goals as goal

pub loop-name-preserved : goal.loop-name-preserved
loop-name-preserved c =
    let more = name_more c.as_slice-name-items.result.now c.loop-name.name-index c.name-item.result c.loop-name-test.true c.name-item.is in
    let size = ap length (c.bytes.ensures.bytes ∙ c.name.ensures) in
    let short = ap length c.name.ensures in
    record {
      sum = omega (arith, more, size, c.loop-name.invariant.sum);
      few = omega (arith, size, short, c.bytes.ensures.short, c.loop-name.invariant.few);
    }

pub returns-clause-exact : goal.returns-clause-exact
returns-clause-exact c =
    let names : List (List ℕ) = c.as_slice-name-items.result.now in
    let all : take c.loop-name.name-index names ≡ names = take_all c.loop-name.name-index names (omega (arith, c.loop-name-test.false)) in
    let same = ap (λ (xs : List (List ℕ)). length (flat_map short_text xs)) all in
    let list = ap (λ (xs : List (List ℕ)). length (scripts xs)) c.as_slice-name-items.ensures.names in
    omega (arith, c.loop-name.invariant.sum, same, scripts_size names, list)
