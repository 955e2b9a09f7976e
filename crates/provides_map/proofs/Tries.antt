-- What is behind a star, tried at one place of the key after another.
use Rattle.std.proofs.Common.{◌≡◌, ◌≢◌, ℕ, ◌+◌, ◌*◌, ◌<◌, ◌≤◌, Bool, true, false, eqb, List, [], ◌∷◌, length, get_or, drop, refl, sym, ap, ◌∙◌, arith, inl, inr}
use Rattle.std.specs.Prelude.{◌||◌}
use Rattle.std.proofs.lemmas.Bool.{ne_eqb, eq-eqb, or_right, or_cases, and_parts, true≢false, cases_lt}
use Rattle.std.proofs.lemmas.List.{drop_more, drop_all}
use Rattle.std.proofs.lemmas.Nat.{mul-add-lt}
use Rattle.std.proofs.Math.Nat.{mul-le-mul_right}
use Rattle.provides_map.specs.Match.{some_suffix, first_then, is_match}
use Rattle.provides_map.proofs.Ends.{byte_first, not_empty}
use Rattle.provides_map.proofs.Pieces.{suffix_whole}

-- the answer, and what is left to try at a later place, where the rest of the pattern is at i and the key's at j
pub record Tried (answer : Bool) (pattern key : List ℕ) (star start i j : ℕ) : Type 0 where
  pub left : answer ≡ (is_match (drop i pattern) (drop j key) || some_suffix (is_match (drop star pattern)) (drop (start + 1) key))
  pub later : some_suffix (is_match (drop star pattern)) (drop (start + 1) key) ≡ true → some_suffix (is_match (drop i pattern)) (drop j key) ≡ true

or_self : (x : Bool) → x ≡ (x || x)
or_self true = refl
or_self false = refl

-- the first end of a list, and the others
suffix_at : (test : List ℕ → Bool) (key : List ℕ) (j : ℕ) → some_suffix test (drop j key) ≡ (test (drop j key) || some_suffix test (drop (j + 1) key))
suffix_at test key j = elim (cases_lt j (length key)) [
  | inl lt ↦ rw (drop_more key j 0 lt) refl
  | inr past ↦ rw (drop_all j key past) (rw (drop_all (j + 1) key (omega arith)) (or_self (test [])))
]

-- a first try at a place
tried_at : (answer : Bool) (pattern key : List ℕ) (star start : ℕ) → answer ≡ some_suffix (is_match (drop star pattern)) (drop start key) → Tried answer pattern key star start star start
tried_at answer pattern key star start is = record {
  left = is ∙ suffix_at (is_match (drop star pattern)) key start;
  later = λ h. suffix_at (is_match (drop star pattern)) key start ∙ or_right (is_match (drop star pattern) (drop start key)) (some_suffix (is_match (drop star pattern)) (drop (start + 1) key)) h;
}

pub tried_begins : (pattern key : List ℕ) → Tried (some_suffix (is_match pattern) key) pattern key 0 0 0 0
tried_begins pattern key = tried_at (some_suffix (is_match pattern) key) pattern key 0 0 refl

-- an end of an end
suffix_twice : (test : List ℕ → Bool) (key : List ℕ) → some_suffix (some_suffix test) key ≡ true → some_suffix test key ≡ true
suffix_twice test [] h = h
suffix_twice test (b ∷ bs) h = elim (or_cases (some_suffix test (b ∷ bs)) (some_suffix (some_suffix test) bs) h) [
  | inl here ↦ here
  | inr later ↦ or_right (test (b ∷ bs)) (some_suffix test bs) (suffix_twice test bs later)
]

-- where the second implies the first
or_first : (x y : Bool) → (y ≡ true → x ≡ true) → (x || y) ≡ x
or_first true y h = refl
or_first false true h = sym (h refl)
or_first false false h = refl

star_first : (pattern : List ℕ) (i : ℕ) (key : List ℕ) → i < length pattern → get_or pattern i 0 ≡ 42 → is_match (drop i pattern) key ≡ some_suffix (is_match (drop (i + 1) pattern)) key
star_first pattern i key lt star = rw (drop_more pattern i 0 lt) (rw (eq-eqb (get_or pattern i 0) 42 star) refl)

-- the test of the rest, behind a byte
module _ (p : ℕ) (test rest : List ℕ → Bool) (is : (l : List ℕ) → test l ≡ first_then p rest l) where
  then_whole : (b : ℕ) (bs : List ℕ) → test (b ∷ bs) ≡ true → some_suffix rest bs ≡ true
  then_whole b bs h = let both = and_parts (eqb b p) (rest bs) (sym (is (b ∷ bs)) ∙ h) in suffix_whole rest bs both.1

  suffix_then : (b : ℕ) (bs : List ℕ) → some_suffix test (b ∷ bs) ≡ true → some_suffix rest bs ≡ true
  suffix_then b [] h = elim (or_cases (test (b ∷ [])) (test []) h) [
    | inl here ↦ then_whole b [] here
    | inr none ↦ absurd (true≢false (sym none ∙ is []))
  ]
  suffix_then b (c ∷ cs) h = elim (or_cases (test (b ∷ c ∷ cs)) (some_suffix test (c ∷ cs)) h) [
    | inl here ↦ then_whole b (c ∷ cs) here
    | inr later ↦ or_right (rest (c ∷ cs)) (some_suffix rest cs) (suffix_then c cs later)
  ]

module _ (answer : Bool) (pattern key : List ℕ) (star start i j : ℕ) (h : Tried answer pattern key star start i j) where
  pub tried_star : i < length pattern → get_or pattern i 0 ≡ 42 → Tried answer pattern key (i + 1) j (i + 1) j
  tried_star lt is = tried_at answer pattern key (i + 1) j (
      h.left
      ∙ or_first (is_match (drop i pattern) (drop j key)) (some_suffix (is_match (drop star pattern)) (drop (start + 1) key)) (λ more. whole (drop j key) ∙ suffix_twice (is_match (drop (i + 1) pattern)) (drop j key) (sym (twice (drop j key)) ∙ h.later more))
      ∙ whole (drop j key))
    where
      whole : (rest : List ℕ) → is_match (drop i pattern) rest ≡ some_suffix (is_match (drop (i + 1) pattern)) rest
      whole rest = star_first pattern i rest lt is

      twice : (rest : List ℕ) → some_suffix (is_match (drop i pattern)) rest ≡ some_suffix (some_suffix (is_match (drop (i + 1) pattern))) rest
      twice [] = whole []
      twice (b ∷ bs) = rw (whole (b ∷ bs)) (rw (twice bs) refl)

  byte_at : (rest : List ℕ) → i < length pattern → get_or pattern i 0 ≢ 42 → is_match (drop i pattern) rest ≡ first_then (get_or pattern i 0) (is_match (drop (i + 1) pattern)) rest
  byte_at rest lt other = rw (drop_more pattern i 0 lt) (byte_first (get_or pattern i 0) (is_match (drop (i + 1) pattern)) rest other)

  tried_fails : is_match (drop i pattern) (drop j key) ≡ false → Tried answer pattern key star (start + 1) star (start + 1)
  tried_fails differs = tried_at answer pattern key star (start + 1) (h.left ∙ ap (λ (x : Bool). x || some_suffix (is_match (drop star pattern)) (drop (start + 1) key)) differs)

  pub tried_byte : i < length pattern → get_or pattern i 0 ≢ 42 → j < length key → get_or pattern i 0 ≡ get_or key j 0 → Tried answer pattern key star start (i + 1) (j + 1)
  tried_byte lt other in_key same = record { left = h.left ∙ ap (λ (x : Bool). x || some_suffix (is_match (drop star pattern)) (drop (start + 1) key)) here; later = λ more. next (h.later more) }
    where
      rest : List ℕ
      rest = drop (j + 1) key

      here : is_match (drop i pattern) (drop j key) ≡ is_match (drop (i + 1) pattern) rest
      here = byte_at (drop j key) lt other ∙ rw (drop_more key j 0 in_key) (rw (eq-eqb (get_or key j 0) (get_or pattern i 0) (sym same)) refl)

      next : some_suffix (is_match (drop i pattern)) (drop j key) ≡ true → some_suffix (is_match (drop (i + 1) pattern)) rest ≡ true
      next more = suffix_then (get_or pattern i 0) (is_match (drop i pattern)) (is_match (drop (i + 1) pattern)) (λ r. byte_at r lt other) (get_or key j 0) rest (ap (λ (l : List ℕ). some_suffix (is_match (drop i pattern)) l) (sym (drop_more key j 0 in_key)) ∙ more)

  -- another byte, and no pattern left
  pub tried_differs : i < length pattern → get_or pattern i 0 ≢ 42 → j < length key → get_or pattern i 0 ≢ get_or key j 0 → Tried answer pattern key star (start + 1) star (start + 1)
  tried_differs lt other in_key differs = tried_fails (byte_at (drop j key) lt other ∙ rw (drop_more key j 0 in_key) (rw (ne_eqb (get_or key j 0) (get_or pattern i 0) (λ e. differs (sym e))) refl))

  pub tried_past : length pattern ≤ i → j < length key → Tried answer pattern key star (start + 1) star (start + 1)
  tried_past past in_key = tried_fails (rw (drop_all i pattern past) (rw (drop_more key j 0 in_key) (not_empty (get_or key j 0) (drop (j + 1) key))))

  pub tried_ends : length key ≤ j → answer ≡ is_match (drop i pattern) []
  tried_ends past =
      let none : drop j key ≡ [] = drop_all j key past in
      h.left
      ∙ or_first (is_match (drop i pattern) (drop j key)) (some_suffix (is_match (drop star pattern)) (drop (start + 1) key)) (λ more. rw none (ap (λ (l : List ℕ). some_suffix (is_match (drop i pattern)) l) (sym none) ∙ h.later more))
      ∙ ap (λ (l : List ℕ). is_match (drop i pattern) l) none

-- ---- the loop ends

pub later_star : (a b c x y : ℕ) → a ≤ b → x < y → a * c + x < b * c + y
later_star a b c x y le lt = omega (arith, mul-le-mul_right c le)

pub later_start : (a b c x y : ℕ) → a < b → x < c → a * c + x < b * c + y
later_start a b c x y lt less = omega (arith, mul-add-lt a c x b lt less)
