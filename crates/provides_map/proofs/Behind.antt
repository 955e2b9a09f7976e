-- Tests of what is behind so many bytes of a key, a byte at a time.
use Rattle.std.proofs.Common.{◌≡◌, ℕ, zero, suc, ◌+◌, ◌-◌, ◌<◌, ◌≤◌, Bool, true, false, ◌&&◌, ◌||◌, ◌==◌, eqb, List, [], ◌∷◌, ◌++◌, length, refl, sym, ap, ◌∙◌, arith, add-one}
use Rattle.std.proofs.lemmas.Bool.{ne_eqb}
use Rattle.provides_map.specs.Match.{some_suffix, first_then, is_match}
use Rattle.provides_map.specs.Window.{behind, has_byte}

and_swapped : (x y : Bool) → (x && y) ≡ (y && (x && true))
and_swapped true true = refl
and_swapped true false = refl
and_swapped false true = refl
and_swapped false false = refl

-- a byte, and what the test says behind it
pub behind_byte : (byte j : ℕ) (test : List ℕ → Bool) (key : List ℕ) → behind j (first_then byte test) key ≡ (behind (j + 1) test key && has_byte byte j key)
behind_byte byte j test key = rw (add-one j) (go j key)
  where
    go : (j : ℕ) (key : List ℕ) → behind j (first_then byte test) key ≡ (behind (suc j) test key && has_byte byte j key)
    go zero [] = refl
    go zero (b ∷ bs) = and_swapped (eqb b byte) (test bs)
    go (suc j) [] = refl
    go (suc j) (b ∷ bs) = go j bs

or_false : (x : Bool) → x ≡ (x || false)
or_false true = refl
or_false false = refl

-- some end from here on: this one, or one from the next place on
pub behind_star : (j : ℕ) (test : List ℕ → Bool) (key : List ℕ) → behind j (some_suffix test) key ≡ (behind j test key || behind (j + 1) (some_suffix test) key)
behind_star j test key = rw (add-one j) (go j key)
  where
    go : (j : ℕ) (key : List ℕ) → behind j (some_suffix test) key ≡ (behind j test key || behind (suc j) (some_suffix test) key)
    go zero [] = or_false (test [])
    go zero (b ∷ bs) = refl
    go (suc j) [] = refl
    go (suc j) (b ∷ bs) = go j bs

-- no end from here on
pub star_past : (places : ℕ) (test : List ℕ → Bool) (key : List ℕ) → ((j : ℕ) → places ≤ j → behind j test key ≡ false)
    → (j : ℕ) → places ≤ j → behind j (some_suffix test) key ≡ false
star_past places test [] none zero le = none 0 le
star_past places test [] none (suc j) le = refl
star_past places test (b ∷ bs) none zero le = rw (none 0 le) (star_past 0 test bs (λ j _. none (suc j) (omega arith)) 0 (omega arith))
star_past places test (b ∷ bs) none (suc j) le = star_past (places - 1) test bs (λ i from. none (suc i) (omega arith)) j (omega arith)

-- no byte is behind the key's last one
pub behind_past : (j : ℕ) (test : List ℕ → Bool) (key : List ℕ) → length key < j → behind j test key ≡ false
behind_past zero test key lt = absurd (omega arith)
behind_past (suc j) test [] lt = refl
behind_past (suc j) test (b ∷ bs) lt = behind_past j test bs (omega arith)

-- nothing is behind all of its bytes
pub behind_end : (j : ℕ) (key : List ℕ) → behind j (is_match []) key ≡ (length key == j)
behind_end zero key = refl
behind_end (suc j) [] = sym (ne_eqb 0 (suc j) (λ e. absurd (omega arith)))
behind_end (suc j) (b ∷ bs) =
    let same : (length bs == j) ≡ (length (b ∷ bs) == suc j) = grind arith in
    behind_end j bs ∙ same

-- ---- a key with one byte more

pub has_byte-none : (byte j : ℕ) → has_byte byte j [] ≡ false
has_byte-none byte zero = refl
has_byte-none byte (suc j) = refl

pub has_byte-push : (byte j : ℕ) (key : List ℕ) (b : ℕ) → has_byte byte j (key ++ b ∷ []) ≡ (has_byte byte j key || ((j == length key) && (b == byte)))
has_byte-push byte zero [] b = and_true (eqb b byte)
  where
    and_true : (x : Bool) → (x && true) ≡ (false || (true && x))
    and_true true = refl
    and_true false = refl
has_byte-push byte zero (k ∷ ks) b = rw (ne_eqb 0 (length (k ∷ ks)) (λ e. absurd (omega arith))) (or_false (eqb k byte && true))
has_byte-push byte (suc j) [] b = rw (ne_eqb (suc j) 0 (λ e. absurd (omega arith))) (has_byte-none byte j)
has_byte-push byte (suc j) (k ∷ ks) b = has_byte-push byte j ks b ∙ ap (λ (x : Bool). has_byte byte j ks || (x && eqb b byte)) (grind arith)
