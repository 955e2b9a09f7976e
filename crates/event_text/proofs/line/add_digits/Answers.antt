use Rattle.std.proofs.Common.{◌≡◌, ◌∙◌, sym, ap, arith, append-nil, ◌++◌, List, ℕ, length, length-append, ◌∷◌, []}
use Rattle.hex.specs.Hex.{encode_lower}
use Rattle.event_text.proofs.Digits.{hex-none, hex-step}
use Rattle.event_text.proofs.line.add_digits.Goals as goal

pub loop-byte-init : goal.loop-byte-init
loop-byte-init c = record { text = sym (ap (λ (l : List ℕ). c.args.line.now ++ l) hex-none ∙ append-nil c.args.line.now); long = omega arith }

pub add-requires : goal.add-requires
add-requires c = let l = c.loop-byte.invariant.long in let r = c.requires in let t = c.loop-byte-test.true in omega (arith, l, r, t)

pub loop-byte-preserved : goal.loop-byte-preserved
loop-byte-preserved c = record {
  text = hex-step c.args.line.now c.loop-byte.line c.add.new.self c.args.bytes.now c.loop-byte.byte-index c.digit.result c.digit-in-loop-byte.result c.loop-byte-test.true c.loop-byte.invariant.text c.add.ensures c.digit.ensures c.digit-in-loop-byte.ensures;
  long = let l = c.loop-byte.invariant.long in let a = ap length c.add.ensures ∙ length-append c.loop-byte.line (c.digit.result ∷ c.digit-in-loop-byte.result ∷ []) in omega (arith, l, a);
}
