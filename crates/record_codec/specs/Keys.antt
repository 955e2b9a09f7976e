-- Tests on texts, and items whose keys ascend.
use Rattle.std.specs.Prelude.{ℕ, Bool, true, ◌&&◌, List, [], ◌∷◌, is_ok}
use Rattle.upd_text.specs.Text.{name_of, value_of}
use Rattle.upd_text.specs.Order.{is_below}

-- whether the bytes are a name
unfoldable pub is_name : List ℕ → Bool
is_name bytes = is_ok (name_of bytes)

-- whether the bytes are a value
unfoldable pub is_value : List ℕ → Bool
is_value bytes = is_ok (value_of bytes)

abbrev pub is_pair : List ℕ × List ℕ → Bool
is_pair p = is_name p.0 && is_value p.1

-- right items with strictly ascending keys, all above `last`
abbrev pub ascend : {A : Type 0} → (A → List ℕ) → (A → Bool) → List ℕ → List A → Bool
ascend key right last [] = true
ascend key right last (x ∷ xs) = right x && is_below last (key x) && ascend key right (key x) xs
