-- Patterns: `*` stands for any bytes, also none, and every other byte for itself.
use Rattle.std.specs.Prelude.{◌≡◌, ◌⊎◌, ℕ, ◌==◌, ◌||◌, ◌&&◌, Bool, false, if◌then◌else◌, List, [], ◌∷◌, ◌++◌, length}

-- ---- what a pattern means

-- what a byte of a pattern stands for: `*`, which is 42, for any bytes, and every other byte for itself
abbrev pub StandsFor : ℕ → List ℕ → Type 0
StandsFor p piece = (p ≡ 42) ⊎ (piece ≡ p ∷ [])

-- the key is such pieces in a row, one for each byte of the pattern
abbrev pub Matches : List ℕ → List ℕ → Type 0
Matches [] key = key ≡ []
Matches (p ∷ ps) key = (piece : List ℕ) × (rest : List ℕ) × StandsFor p piece × Matches ps rest × (key ≡ piece ++ rest)

-- ---- a test that decides it

-- whether the test holds of some suffix
abbrev pub some_suffix : (List ℕ → Bool) → List ℕ → Bool
some_suffix test [] = test []
some_suffix test (b ∷ bs) = test (b ∷ bs) || some_suffix test bs

-- whether the byte comes first, and the test holds of what follows
abbrev pub first_then : ℕ → (List ℕ → Bool) → List ℕ → Bool
first_then p test [] = false
first_then p test (b ∷ bs) = b == p && test bs

-- the test of a pattern that begins with the byte, from that of its rest
abbrev pub one_byte : ℕ → (List ℕ → Bool) → List ℕ → Bool
one_byte p rest key = if p == 42 then some_suffix rest key else first_then p rest key

-- whether the pattern matches the key
abbrev pub is_match : List ℕ → List ℕ → Bool
is_match [] key = length key == 0
is_match (p ∷ ps) key = one_byte p (is_match ps) key
