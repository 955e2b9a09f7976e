-- The verdict of each answer of the readers.
use Rattle.std.proofs.Common.{◌≡◌, ℕ, Bool, true, false, ◌⊎◌, List, sym, ap, subst, ◌∙◌, inl, inr}
use Rattle.std.proofs.lemmas.Bool.{both_ways}
use Rattle.sha2.specs.Sha256.{sha256}
use Rattle.key_text.specs.Pem.{IsBase64}
use Rattle.key_text.specs.Keys.{SpellsKeys, IsWrongKeys}
use Rattle.key_text.specs.declared.fault.KeyFault.{KeyFault}
use Rattle.key_text.specs.declared.fault.KeyFault.TheVariants.{NotPem, NotRsa, OtherExponent, OtherSize, NoMemory}
use Rattle.key_text.proofs.PemLemmas.{same_bytes}
use Rattle.key_text.proofs.KeysLemmas.{same_keys, keys_apart}
use Rattle.signed_manifest.specs.Signed.{FitsOne, IsSigned}
use Rattle.signed_manifest.specs.Verdict.{Tells, verdict_of}
use Rattle.signed_manifest.specs.declared.verdict.Verdict.TheVariants as verdict

pub wrong_told : (key manifest signature : List ℕ) (fault : KeyFault) → (fault ≡ NoMemory) ⊎ IsWrongKeys key fault → Tells key manifest signature (verdict_of fault)
wrong_told key manifest signature NotPem (inl e) = absurd cc
wrong_told key manifest signature NotPem (inr w) = w
wrong_told key manifest signature NotRsa (inl e) = absurd cc
wrong_told key manifest signature NotRsa (inr w) = w
wrong_told key manifest signature OtherExponent (inl e) = absurd cc
wrong_told key manifest signature OtherExponent (inr w) = w
wrong_told key manifest signature OtherSize (inl e) = absurd cc
wrong_told key manifest signature OtherSize (inr w) = w
wrong_told key manifest signature NoMemory w = tt

-- right keys that are refused were refused for memory
pub wrong_signed : (key : List ℕ) (moduli : List (List ℕ)) (fault : KeyFault) → SpellsKeys key moduli → (fault ≡ NoMemory) ⊎ IsWrongKeys key fault → (verdict_of fault ≡ verdict.Signed) ⊎ (verdict_of fault ≡ verdict.NoMemory)
wrong_signed key moduli fault spelled (inl memory) = inr (ap verdict_of memory)
wrong_signed key moduli fault spelled (inr wrong) = absurd (keys_apart key moduli fault spelled wrong)

-- a signed manifest is found so
pub found : (key manifest signature : List ℕ) (moduli given : List (List ℕ)) (octets sum read : List ℕ) (r : Bool) (s : IsSigned key manifest signature)
    → SpellsKeys key moduli → given ≡ moduli → IsBase64 signature octets → read ≡ octets → sum ≡ sha256 manifest → (FitsOne given sum read → r ≡ true) → r ≡ false → ⊥
found key manifest signature moduli given octets sum read r s spelled handed base64 same summed verified not_found =
    let keys : given ≡ s.moduli = handed ∙ same_keys key moduli s.moduli spelled s.spelled in
    let bytes : read ≡ s.octets = same ∙ same_bytes signature octets s.octets base64 s.base64 in
    let one : FitsOne given (sha256 manifest) s.octets = subst (λ (l : List (List ℕ)). FitsOne l (sha256 manifest) s.octets) (sym keys) s.verified in
    let two : FitsOne given sum s.octets = subst (λ (l : List ℕ). FitsOne given l s.octets) (sym summed) one in
    both_ways r not_found (verified (subst (λ (l : List ℕ). FitsOne given sum l) (sym bytes) two))
