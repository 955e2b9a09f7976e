-- Texts in base64, and between the lines of a public key.
use Rattle.std.specs.Prelude.{◌≡◌, ℕ, ◌==◌, ◌||◌, Bool, false, not, List, ◌++◌, codes, filter, slice_index}
use Rattle.std.specs.List.{AllPass}
use Rattle.base64.specs.GeneralPurpose.{IsBytes, encode_of}
use Rattle.base64.specs.Engines.{standard}

-- a newline or a carriage return
abbrev pub is_line_end : ℕ → Bool
is_line_end b = b == 10 || b == 13

abbrev pub is_dash : ℕ → Bool
is_dash b = b == 45

-- the text is the base64 of the bytes, with line ends anywhere in it
pub record IsBase64 (text bytes : List ℕ) : Type 0 where
  pub octets : IsBytes bytes
  pub spelled : filter (λ b. not (is_line_end b)) text ≡ encode_of standard bytes

-- the text begins with both lines of a public key and this body between them; the rest is what stands behind all line ends that follow
pub record IsFramed (text body rest : List ℕ) : Type 0 where
  pub ends : List ℕ
  pub parts : text ≡ codes "-----BEGIN PUBLIC KEY-----" ++ body ++ codes "-----END PUBLIC KEY-----" ++ ends ++ rest
  pub no_dash : AllPass (λ b. not (is_dash b)) body
  pub line_ends : AllPass is_line_end ends
  pub behind : is_line_end (slice_index rest 0) ≡ false

-- the text begins with the PEM form of these octets
pub record IsPem (text octets rest : List ℕ) : Type 0 where
  pub body : List ℕ
  pub framed : IsFramed text body rest
  pub base64 : IsBase64 body octets
