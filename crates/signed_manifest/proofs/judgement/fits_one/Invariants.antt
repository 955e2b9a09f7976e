use Rattle.std.proofs.Common.{◌≡◌, ℕ, ◌<◌, List, get_or}
use Rattle.rsa_signature.specs.Message.{IsSignature}
use Rattle.signed_manifest.proofs.judgement.fits_one.Given as goal

abbrev pub invariant-loop-key : goal.invariant-loop-key
invariant-loop-key l = (k : ℕ) (modulus : List ℕ) → k < l.key-index → get_or l.keys k modulus ≡ modulus → ¬ (IsSignature modulus l.sum l.signature)
