-- What a signed manifest is.
use Rattle.std.specs.Prelude.{ℕ, List}
use Rattle.std.specs.List.{Any}
use Rattle.sha2.specs.Sha256.{sha256}
use Rattle.rsa_signature.specs.Message.{IsSignature}
use Rattle.key_text.specs.Pem.{IsBase64}
use Rattle.key_text.specs.Keys.{SpellsKeys}

-- the octets are a signature of the sum under one of the keys
abbrev pub FitsOne : List (List ℕ) → List ℕ → List ℕ → Type 0
FitsOne moduli sum octets = Any (λ modulus. IsSignature modulus sum octets) moduli

-- the signature's text is the base64 of a signature of the manifest's SHA-256 sum, under one of the keys that the key's text spells
pub record IsSigned (key manifest signature : List ℕ) : Type 0 where
  pub moduli : List (List ℕ)
  pub octets : List ℕ
  pub spelled : SpellsKeys key moduli
  pub base64 : IsBase64 signature octets
  pub verified : FitsOne moduli (sha256 manifest) octets
