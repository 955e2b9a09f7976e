-- A key as a text, and several.
use Rattle.std.specs.Prelude.{◌≡◌, ◌≢◌, ◌⊎◌, ℕ, List, [], ◌∷◌}
use Rattle.rsa_signature.specs.Message.{IsModulus}
use Rattle.key_text.specs.Der.{IsKey}
use Rattle.key_text.specs.Pem.{IsPem}
use Rattle.key_text.specs.declared.fault.KeyFault.{KeyFault}
use Rattle.key_text.specs.declared.fault.KeyFault.TheVariants.{NotPem, NotRsa, OtherExponent, OtherSize, NoMemory}

-- 65,537
abbrev pub usual_exponent : List ℕ
usual_exponent = 1 ∷ 0 ∷ 1 ∷ []

-- the text begins with the PEM form of a key with this modulus, of a right size, and the exponent 65,537; the rest follows
pub record SpellsKey (text modulus rest : List ℕ) : Type 0 where
  pub octets : List ℕ
  pub pem : IsPem text octets rest
  pub key : IsKey octets modulus usual_exponent
  pub size : IsModulus modulus

-- the text begins with these keys, one behind the other
abbrev pub BeginsWithKeys : List ℕ → List (List ℕ) → List ℕ → Type 0
BeginsWithKeys text [] rest = text ≡ rest
BeginsWithKeys text (modulus ∷ moduli) rest = (behind : List ℕ) × SpellsKey text modulus behind × BeginsWithKeys behind moduli rest

-- the text is a key, or several
pub record SpellsKeys (text : List ℕ) (moduli : List (List ℕ)) : Type 0 where
  pub all : BeginsWithKeys text moduli []
  pub some : moduli ≢ []

-- why octets are no such key
abbrev pub IsWrongForm : List ℕ → KeyFault → Type 0
IsWrongForm octets NotRsa = (modulus exponent : List ℕ) → ¬ (IsKey octets modulus exponent)
IsWrongForm octets OtherExponent = (modulus exponent : List ℕ) × IsKey octets modulus exponent × (exponent ≢ usual_exponent)
IsWrongForm octets OtherSize = (modulus : List ℕ) × IsKey octets modulus usual_exponent × ¬ (IsModulus modulus)
IsWrongForm octets NotPem = ⊥
IsWrongForm octets NoMemory = ⊥

-- why a text begins with none: with no PEM form, or with a wrong one. Want of memory is no fault of the text.
abbrev pub IsWrongKey : List ℕ → KeyFault → Type 0
IsWrongKey text NotPem = (octets rest : List ℕ) → ¬ (IsPem text octets rest)
IsWrongKey text fault = (octets rest : List ℕ) × IsPem text octets rest × IsWrongForm octets fault

-- why a text isn't a key or several: what is at fault is the first of them, or what stands behind right ones
pub record IsWrongKeys (text : List ℕ) (fault : KeyFault) : Type 0 where
  pub before : List (List ℕ)
  pub rest : List ℕ
  pub right : BeginsWithKeys text before rest
  pub more : (before ≡ []) ⊎ (rest ≢ [])
  pub wrong : IsWrongKey rest fault
