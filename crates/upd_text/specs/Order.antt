-- Byte order, and what comes last in it.
use Rattle.std.specs.Prelude.{ℕ, Bool, List, [], ◌∷◌}
use Rattle.std.specs.Ordering.{is_lt, nat_cmp}
use Rattle.std.specs.Cmp.Lexicographic.{slice_cmp}
use Rattle.std.specs.declared.cmp.Ordering.{Ordering}

-- from the left, a prefix first
abbrev pub byte_cmp : List ℕ → List ℕ → Ordering
byte_cmp = slice_cmp nat_cmp

abbrev pub is_below : List ℕ → List ℕ → Bool
is_below a b = is_lt (byte_cmp a b)

-- the key of the last item, or `last` where there is none
abbrev pub last_from : {A : Type 0} → (A → List ℕ) → List ℕ → List A → List ℕ
last_from key last [] = last
last_from key last (x ∷ xs) = last_from key (key x) xs

abbrev pub itself : List ℕ → List ℕ
itself name = name
