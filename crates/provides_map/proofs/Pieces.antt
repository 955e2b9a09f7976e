-- The test of a pattern decides its meaning.
use Rattle.std.proofs.Common.{◌≡◌, ℕ, Bool, true, false, cond, eqb, List, [], ◌∷◌, ◌++◌, length, refl, sym, ap, arith, inl, inr}
use Rattle.std.specs.Prelude.{◌↔◌, IsTrue}
use Rattle.std.proofs.lemmas.Bool.{and_parts, and_from, or_cases, or_left, or_right, eqb-true, eqb-false, eq-eqb, true≢false}
use Rattle.provides_map.specs.Match.{some_suffix, first_then, is_match, StandsFor, Matches}

-- a suffix for which the test holds, and what is before it
record HasSuffix (test : List ℕ → Bool) (key : List ℕ) : Type 0 where
  front : List ℕ
  rest : List ℕ
  holds : test rest ≡ true
  whole : key ≡ front ++ rest

suffix_found : (test : List ℕ → Bool) (key : List ℕ) → some_suffix test key ≡ true → HasSuffix test key
suffix_found test [] h = record { front = []; rest = []; holds = h; whole = refl }
suffix_found test (b ∷ bs) h = elim (or_cases (test (b ∷ bs)) (some_suffix test bs) h) [
  | inl here ↦ record { front = []; rest = b ∷ bs; holds = here; whole = refl }
  | inr later ↦ (let s = suffix_found test bs later in record { front = b ∷ s.front; rest = s.rest; holds = s.holds; whole = ap (λ (l : List ℕ). b ∷ l) s.whole })
]

-- the test holds of the key itself
pub suffix_whole : (test : List ℕ → Bool) (key : List ℕ) → test key ≡ true → some_suffix test key ≡ true
suffix_whole test [] h = h
suffix_whole test (b ∷ bs) h = or_left (test (b ∷ bs)) (some_suffix test bs) h

suffix_behind : (test : List ℕ → Bool) (front rest : List ℕ) → test rest ≡ true → some_suffix test (front ++ rest) ≡ true
suffix_behind test [] rest h = suffix_whole test rest h
suffix_behind test (b ∷ front) rest h = or_right (test ((b ∷ front) ++ rest)) (some_suffix test (front ++ rest)) (suffix_behind test front rest h)

module _ (p : ℕ) (ps : List ℕ) where
  star_means : (key : List ℕ) → p ≡ 42 → ((rest : List ℕ) → is_match ps rest ≡ true → Matches ps rest) → some_suffix (is_match ps) key ≡ true → Matches (p ∷ ps) key
  star_means key star means h = let s = suffix_found (is_match ps) key h in (s.front, s.rest, inl star, means s.rest s.holds, s.whole)

  byte_means : (key : List ℕ) → ((rest : List ℕ) → is_match ps rest ≡ true → Matches ps rest) → first_then p (is_match ps) key ≡ true → Matches (p ∷ ps) key
  byte_means [] means h = absurd (true≢false (sym h))
  byte_means (b ∷ bs) means h =
      let both = and_parts (eqb b p) (is_match ps bs) h in
      let same : b ≡ p = eqb-true b p both.0 in
      (p ∷ [], bs, inr refl, means bs both.1, ap (λ (q : ℕ). q ∷ bs) same)

  one_means : (key : List ℕ) (star : Bool) → eqb p 42 ≡ star → ((rest : List ℕ) → is_match ps rest ≡ true → Matches ps rest)
      → cond star (some_suffix (is_match ps) key) (first_then p (is_match ps) key) ≡ true → Matches (p ∷ ps) key
  one_means key true is means h = star_means key (eqb-true p 42 is) means h
  one_means key false is means h = byte_means key means h

-- what passes the test is matched
pub means_match : (pattern key : List ℕ) → is_match pattern key ≡ true → Matches pattern key
means_match [] [] h = refl
means_match [] (b ∷ bs) h = absurd (omega (arith, eqb-true (length (b ∷ bs)) 0 h))
means_match (p ∷ ps) key h = one_means p ps key (eqb p 42) refl (means_match ps) h

module _ (p : ℕ) (ps piece rest : List ℕ) (test : is_match ps rest ≡ true) where
  one_is : (star : Bool) → eqb p 42 ≡ star → StandsFor p piece → cond star (some_suffix (is_match ps) (piece ++ rest)) (first_then p (is_match ps) (piece ++ rest)) ≡ true
  one_is true is stands = suffix_behind (is_match ps) piece rest test
  one_is false is (inl star) = absurd (eqb-false p 42 is star)
  one_is false is (inr itself) = rw itself (and_from (eqb p p) (is_match ps rest) (eq-eqb p p refl) test)

-- what is matched passes the test
pub match_is : (pattern key : List ℕ) → Matches pattern key → is_match pattern key ≡ true
match_is [] key m = rw m refl
match_is (p ∷ ps) key m = rw m.4 (one_is p ps m.0 m.1 (match_is ps m.1 m.3) (eqb p 42) refl m.2)

pub decides_match : (pattern key : List ℕ) → IsTrue (is_match pattern key) ↔ Matches pattern key
decides_match pattern key = (means_match pattern key, match_is pattern key)
