-- A pattern whose first or last byte is no star, and lists that end so.
use Rattle.std.proofs.Common.{◌≡◌, ◌≢◌, ℕ, ◌+◌, ◌-◌, ◌<◌, ◌≤◌, Bool, true, false, cond, eqb, List, [], ◌∷◌, ◌++◌, length, get_or, take, refl, ap, ◌∙◌, arith}
use Rattle.std.specs.Prelude.{◌||◌, ◌&&◌}
use Rattle.std.proofs.lemmas.Bool.{ne_eqb, eq-eqb}
use Rattle.std.proofs.lemmas.List.{take_more}
use Rattle.provides_map.specs.Match.{some_suffix, first_then, one_byte, is_match}

pub byte_first : (p : ℕ) (test : List ℕ → Bool) (key : List ℕ) → p ≢ 42 → one_byte p test key ≡ first_then p test key
byte_first p test key other = rw (ne_eqb p 42 other) refl

and_true : (x : Bool) → (x && true) ≡ x
and_true true = refl
and_true false = refl

and_false : (x : Bool) → (x && false) ≡ false
and_false true = refl
and_false false = refl

or_false : (x : Bool) → (x || false) ≡ x
or_false true = refl
or_false false = refl

and_either : (x y z : Bool) → ((x && z) || (y && z)) ≡ ((x || y) && z)
and_either x true true = or_true x
  where
    or_true : (x : Bool) → ((x && true) || true) ≡ ((x || true) && true)
    or_true true = refl
    or_true false = refl
and_either true y z = or_all y z
  where
    or_all : (y z : Bool) → (z || (y && z)) ≡ z
    or_all true true = refl
    or_all true false = refl
    or_all false true = refl
    or_all false false = refl
and_either false y z = refl

and_assoc : (x y z : Bool) → (x && (y && z)) ≡ ((x && y) && z)
and_assoc true y z = refl
and_assoc false y z = refl

-- a test of lists with one byte more at the end, that wants it to be a certain one, and no list without
module _ (b : ℕ) (same : Bool) (more less : List ℕ → Bool) (none : more [] ≡ false) (one : (key : List ℕ) → more (key ++ b ∷ []) ≡ (less key && same)) where
  suffix_last : (key : List ℕ) → some_suffix more (key ++ b ∷ []) ≡ (some_suffix less key && same)
  suffix_last [] = rw (one []) (rw none (or_false (less [] && same)))
  suffix_last (k ∷ ks) = rw (one (k ∷ ks)) (rw (suffix_last ks) (and_either (less (k ∷ ks)) (some_suffix less ks) same))

  then_last : (p : ℕ) (key : List ℕ) → first_then p more (key ++ b ∷ []) ≡ (first_then p less key && same)
  then_last p [] = rw none (and_false (eqb b p))
  then_last p (k ∷ ks) = rw (one ks) (and_assoc (eqb k p) (less ks) same)

  byte_last : (p : ℕ) (key : List ℕ) (star : Bool) → cond star (some_suffix more (key ++ b ∷ [])) (first_then p more (key ++ b ∷ [])) ≡ (cond star (some_suffix less key) (first_then p less key) && same)
  byte_last p key true = suffix_last key
  byte_last p key false = then_last p key

pub not_empty : (k : ℕ) (ks : List ℕ) → is_match [] (k ∷ ks) ≡ false
not_empty k ks = ne_eqb (length (k ∷ ks)) 0 (λ e. absurd (omega arith))

module _ (q : ℕ) (other : q ≢ 42) where
  no_key : (ps : List ℕ) → is_match (ps ++ q ∷ []) [] ≡ false
  no_key [] = byte_first q (is_match []) [] other
  no_key (p ∷ ps) = none (is_match (ps ++ q ∷ []) []) (no_key ps) (eqb p 42)
    where
      none : (test : Bool) → test ≡ false → (star : Bool) → cond star test false ≡ false
      none test is true = is
      none test is false = refl

  last_byte : (ps key : List ℕ) (b : ℕ) → is_match (ps ++ q ∷ []) (key ++ b ∷ []) ≡ (is_match ps key && eqb b q)
  last_byte [] [] b = byte_first q (is_match []) (b ∷ []) other ∙ and_true (eqb b q)
  last_byte [] (k ∷ ks) b = byte_first q (is_match []) (k ∷ ks ++ b ∷ []) other ∙ longer (eqb k q) ks
    where
      longer : (x : Bool) (ks : List ℕ) → (x && is_match [] (ks ++ b ∷ [])) ≡ (is_match [] (k ∷ ks) && eqb b q)
      longer x [] = rw (not_empty b []) (rw (not_empty k []) (and_false x))
      longer x (k2 ∷ more) = rw (not_empty k2 (more ++ b ∷ [])) (rw (not_empty k (k2 ∷ more)) (and_false x))
  last_byte (p ∷ ps) key b = byte_last b (eqb b q) (is_match (ps ++ q ∷ [])) (is_match ps) (no_key ps) (λ key. last_byte ps key b) p key (eqb p 42)

-- ---- the last byte of what is behind a star

module _ (pattern key : List ℕ) (i j : ℕ) (some : 0 < i) (in_pattern : i ≤ length pattern) (other : get_or pattern (i - 1) 0 ≢ 42) where
  one_taken : take i pattern ≡ take (i - 1) pattern ++ get_or pattern (i - 1) 0 ∷ []
  one_taken = let e : i ≡ i - 1 + 1 = omega arith in ap (λ (n : ℕ). take n pattern) e ∙ take_more pattern (i - 1) 0 (omega arith)

  step : 0 < j → j ≤ length key → some_suffix (is_match (take i pattern)) (take j key)
      ≡ (some_suffix (is_match (take (i - 1) pattern)) (take (j - 1) key) && eqb (get_or key (j - 1) 0) (get_or pattern (i - 1) 0))
  step left in_key =
      let e : j ≡ j - 1 + 1 = omega arith in
      let taken : take j key ≡ take (j - 1) key ++ get_or key (j - 1) 0 ∷ [] = ap (λ (n : ℕ). take n key) e ∙ take_more key (j - 1) 0 (omega arith) in
      let p = get_or pattern (i - 1) 0 in
      let b = get_or key (j - 1) 0 in
      let ps = take (i - 1) pattern in
      rw one_taken (rw taken (suffix_last b (eqb b p) (is_match (ps ++ p ∷ [])) (is_match ps) (no_key p other ps) (λ key. last_byte p other ps key b) (take (j - 1) key)))

  -- the same last bytes
  pub back_step : 0 < j → j ≤ length key → get_or key (j - 1) 0 ≡ get_or pattern (i - 1) 0
      → some_suffix (is_match (take i pattern)) (take j key) ≡ some_suffix (is_match (take (i - 1) pattern)) (take (j - 1) key)
  back_step left in_key same = step left in_key ∙ rw (eq-eqb (get_or key (j - 1) 0) (get_or pattern (i - 1) 0) same) (and_true (some_suffix (is_match (take (i - 1) pattern)) (take (j - 1) key)))

  pub back_differs : 0 < j → j ≤ length key → get_or key (j - 1) 0 ≢ get_or pattern (i - 1) 0 → some_suffix (is_match (take i pattern)) (take j key) ≡ false
  back_differs left in_key differs = step left in_key ∙ rw (ne_eqb (get_or key (j - 1) 0) (get_or pattern (i - 1) 0) differs) (and_false (some_suffix (is_match (take (i - 1) pattern)) (take (j - 1) key)))

  pub back_lacks : j ≡ 0 → some_suffix (is_match (take i pattern)) (take j key) ≡ false
  back_lacks none = rw none (rw one_taken (no_key (get_or pattern (i - 1) 0) other (take (i - 1) pattern)))

-- the empty end of the key
pub suffix_empty : (key : List ℕ) → some_suffix (is_match []) key ≡ true
suffix_empty [] = refl
suffix_empty (b ∷ bs) = rw (suffix_empty bs) (or_true (is_match [] (b ∷ bs)))
  where
    or_true : (x : Bool) → (x || true) ≡ true
    or_true true = refl
    or_true false = refl
