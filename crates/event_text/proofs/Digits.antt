-- The digits of bytes, one behind another.
use Rattle.std.proofs.Common.{◌≡◌, ℕ, ◌+◌, ◌/◌, ◌%◌, ◌<◌, List, [], ◌∷◌, ◌++◌, length, take, get_or, refl, sym, ap, ◌∙◌, append_assoc}
use Rattle.std.specs.List.{slice_index}
use Rattle.std.proofs.lemmas.List.{take_more}
use Rattle.hex.specs.Hex.{encode_lower, encode_with, lower_digits}

pub hex-none : encode_lower [] ≡ []
unfolding encode_with
hex-none = refl

hex-more : (xs : List ℕ) (b : ℕ) → encode_lower (xs ++ b ∷ []) ≡ encode_lower xs ++ slice_index lower_digits (b / 16) ∷ slice_index lower_digits (b % 16) ∷ []
unfolding encode_with
hex-more [] b = refl
hex-more (x ∷ xs) b = ap (λ (l : List ℕ). slice_index lower_digits (x / 16) ∷ slice_index lower_digits (x % 16) ∷ l) (hex-more xs b)

pub hex-step : (old line new bytes : List ℕ) (i : ℕ) (high low : ℕ) → i < length bytes → line ≡ old ++ encode_lower (take i bytes) → new ≡ line ++ high ∷ low ∷ [] → high ≡ slice_index lower_digits (get_or bytes i 0 / 16) → low ≡ slice_index lower_digits (get_or bytes i 0 % 16) → new ≡ old ++ encode_lower (take (i + 1) bytes)
hex-step old line new bytes i high low less is added a b =
    added ∙ ap (λ (h : ℕ). line ++ h ∷ low ∷ []) a ∙ ap (λ (h : ℕ). line ++ slice_index lower_digits (get_or bytes i 0 / 16) ∷ h ∷ []) b
    ∙ ap (λ (l : List ℕ). l ++ slice_index lower_digits (get_or bytes i 0 / 16) ∷ slice_index lower_digits (get_or bytes i 0 % 16) ∷ []) is
    ∙ append_assoc old (encode_lower (take i bytes)) (slice_index lower_digits (get_or bytes i 0 / 16) ∷ slice_index lower_digits (get_or bytes i 0 % 16) ∷ [])
    ∙ ap (λ (l : List ℕ). old ++ l) (sym (hex-more (take i bytes) (get_or bytes i 0)) ∙ ap encode_lower (sym (take_more bytes i 0 less)))
