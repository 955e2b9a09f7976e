use Rattle.std.proofs.Common.{◌≡◌, ℕ, ◌+◌, ◌-◌, ◌*◌, ◌^◌, ◌<◌, ◌≤◌, Bool, true, false, cond, eqb, ltb, leb, List, [], ◌∷◌, ◌++◌, length, take, length-append, Option, Some, None, Ok, Err, refl, zero-add, suc, sym, arith, inl, inr}
use Rattle.std.proofs.lemmas.Grind.{common_steps}
use Rattle.std.proofs.lemmas.Bool.{eqb-false, ltb-false, le-ltb, lt-ltb, cases_lt}
use Rattle.std.proofs.lemmas.List.{take_all}
use Rattle.std.proofs.lemmas.Bool.Decides.{nat_tests}
use Rattle.std.specs.Prelude.{position, not}
use Rattle.std.specs.List.{list_all, before_first, position_or_len, prefix_len}
use Rattle.upd_text.specs.declared.fault.NameFault.TheVariants.{Empty, TooLong}
use Rattle.upd_text.specs.Text.{name_of, value_of, unless_bad, is_bad, is_digit, IsName, IsValue, number_after, decimal_of}

name_tests : (a b : Bool) (p : Option ℕ) (bytes : List ℕ) → cond a (Err Empty) (cond b (Err TooLong) (unless_bad bytes p)) ≡ Ok bytes → (a ≡ false) × (b ≡ false) × (p ≡ None)
name_tests true b p bytes h = absurd cc
name_tests false true p bytes h = absurd cc
name_tests false false (Some i) bytes h = absurd cc
name_tests false false None bytes h = (refl, refl, refl)

-- what a name is
pub record NameParts (bytes : List ℕ) : Type 0 where
  pub some : 0 < length bytes
  pub short : length bytes ≤ 128
  pub good : position is_bad bytes ≡ None

pub name_parts : (bytes : List ℕ) → IsName bytes → NameParts bytes
unfolding name_of
name_parts bytes h =
    let t = name_tests (eqb (length bytes) 0) (ltb 128 (length bytes)) (position is_bad bytes) bytes h in
    let ne = eqb-false _ _ t.0 in
    record { some = omega (arith, ne); short = ltb-false _ _ t.1; good = t.2 }

value_tests : (b : Bool) (p : Option ℕ) (bytes : List ℕ) → cond b (Err TooLong) (unless_bad bytes p) ≡ Ok bytes → (b ≡ false) × (p ≡ None)
value_tests true p bytes h = absurd cc
value_tests false (Some i) bytes h = absurd cc
value_tests false None bytes h = (refl, refl)

-- what a value is
pub record ValueParts (bytes : List ℕ) : Type 0 where
  pub short : length bytes ≤ 1024
  pub good : position is_bad bytes ≡ None

pub value_parts : (bytes : List ℕ) → IsValue bytes → ValueParts bytes
unfolding value_of
value_parts bytes h =
    let t = value_tests (ltb 1024 (length bytes)) (position is_bad bytes) bytes h in
    record { short = ltb-false _ _ t.0; good = t.1 }

pub value_from : (bytes : List ℕ) → length bytes ≤ 1024 → position is_bad bytes ≡ None → IsValue bytes
unfolding value_of
value_from bytes short good = rw (le-ltb 1024 (length bytes) short, good) refl

-- a name is a value
pub value_from_name : (bytes : List ℕ) → IsName bytes → IsValue bytes
value_from_name bytes h = let p = name_parts bytes h in value_from bytes (omega (arith, p.short)) p.good

-- the digits that follow make a number no smaller
pub number_after-ge : (n : ℕ) (bs : List ℕ) → n ≤ number_after n bs
number_after-ge n [] = omega arith
number_after-ge n (b ∷ bs) = omega (arith, number_after-ge (n * 10 + (b - 48)) bs)

-- a front that is too large already is not read
pub decimal_too_large : (all bs : List ℕ) (n b : ℕ) → number_after n (b ∷ bs) ≡ number_after 0 all → 2 ^ 64 ≤ n * 10 + (b - 48) → None ≡ decimal_of all
unfolding decimal_of
decimal_too_large all bs n b same large = rw (le-ltb (number_after 0 all) (2 ^ 64) (omega (arith, same, number_after-ge (n * 10 + (b - 48)) bs))) refl

leb-yes : (a b : ℕ) → a ≤ b → leb a b ≡ true
leb-yes a b h = grind (arith, nat_tests)

-- digits that were all read give their number
pub decimal_read : (all : List ℕ) (n : ℕ) → list_all is_digit all ≡ true → number_after 0 all ≡ n → 0 < length all → length all ≤ 20 → n < 2 ^ 64 → Some n ≡ decimal_of all
unfolding decimal_of
decimal_read all n digits same some short lt = rw (same, lt-ltb n (2 ^ 64) lt, digits, leb-yes 1 (length all) some, leb-yes (length all) 20 short) refl

pub line_some : (p : ℕ → Bool) (xs : List ℕ) (i : ℕ) → position p xs ≡ Some i → take i xs ≡ before_first p xs
line_some p xs i h = grind (arith, common_steps)

pub line_none : (p : ℕ → Bool) (xs : List ℕ) → position p xs ≡ None → xs ≡ before_first p xs
line_none p xs h = sym (take_all (position_or_len p xs) xs (not_below _ _ _ h))
  where
    not_below : (m n k : ℕ) → cond (ltb m n) (Some k) None ≡ None → n ≤ m
    not_below m n k h = elim (cases_lt m n) [ inl lt ↦ absurd (let e = lt-ltb m n lt in cc (rw e at h)) | inr le ↦ le ]

pub ruleset lines = (line_some, line_none)

pub not_below : (m n k : ℕ) → cond (ltb m n) (Some k) None ≡ None → n ≤ m
not_below m n k h = elim (cases_lt m n) [ inl lt ↦ absurd (let e = lt-ltb m n lt in cc (rw e at h)) | inr le ↦ le ]

all_pass : (p : ℕ → Bool) (xs ys : List ℕ) → length xs ≤ prefix_len p xs → prefix_len p (xs ++ ys) ≡ length xs + prefix_len p ys
all_pass p [] ys h = sym (zero-add (prefix_len p ys))
all_pass p (x ∷ xs) ys h = elim (p x) as (λ b. suc (length xs) ≤ cond b (1 + prefix_len p xs) 0 → cond b (1 + prefix_len p (xs ++ ys)) 0 ≡ suc (length xs) + prefix_len p ys) [
  | true ↦ λ le. omega (arith, all_pass p xs ys (omega arith))
  | false ↦ λ le. absurd (omega arith)
] h

-- two good lists in a row are good
good_append : (xs ys : List ℕ) → position is_bad xs ≡ None → position is_bad ys ≡ None → position is_bad (xs ++ ys) ≡ None
good_append xs ys g h =
    let good = λ (b : ℕ). not (is_bad b) in
    let all_xs : length xs ≤ prefix_len good xs = not_below _ _ _ g in
    let all_ys : length ys ≤ prefix_len good ys = not_below _ _ _ h in
    let e : prefix_len good (xs ++ ys) ≡ length xs + prefix_len good ys = all_pass good xs ys all_xs in
    let none : ltb (prefix_len good (xs ++ ys)) (length (xs ++ ys)) ≡ false = le-ltb _ _ (omega (arith, e, length-append xs ys)) in
    rw none refl

-- a value and a name behind it are a value, where they are short
pub value_joined : (xs ys : List ℕ) → IsValue xs → IsName ys → length xs + length ys ≤ 1024 → IsValue (xs ++ ys)
value_joined xs ys v n short = let p = value_parts xs v in let q = name_parts ys n in value_from (xs ++ ys) (omega (arith, length-append xs ys)) (good_append xs ys p.good q.good)
