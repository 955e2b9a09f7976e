-- Names, values and numbers in the words of their subject.
use Rattle.std.proofs.Common.{◌≡◌, ◌≢◌, ℕ, ◌^◌, ◌<◌, ◌≤◌, ◌&&◌, Bool, true, false, cond, eqb, ltb, leb, List, length, get_or, Some, None, refl, sym, ◌∙◌, arith, rules}
use Rattle.std.specs.Prelude.{◌↔◌, position, decimal}
use Rattle.std.specs.List.{All, list_all, position_or_len}
use Rattle.std.proofs.lemmas.Bool.{le-ltb}
use Rattle.std.proofs.lemmas.Bool.Decides.{nat_tests}
use Rattle.std.proofs.lemmas.List.Sums.{position_or_len_is, fails_before_first}
use Rattle.std.proofs.lemmas.Str.Parse.{IsNumeralModel, numerals_by_fold}
use Rattle.std.proofs.lemmas.Fmt.{digits_decimal, digits_value-decimal, decimal_nonempty, length-decimal-le}
use Rattle.upd_text.specs.Text.{is_bad, is_digit, number_after, decimal_of, name_of, IsName, IsValue}
use Rattle.upd_text.specs.Forms.{IsText, Spells}
use Rattle.upd_text.proofs.TextLemmas.{name_parts, value_parts, value_from, value_from_name, decimal_read, not_below}

good_byte : (b : ℕ) → is_bad b ≡ false → (32 ≤ b) × (b ≢ 127)
good_byte b h = grind (arith, nat_tests)

passes : (b : ℕ) → 32 ≤ b → b ≢ 127 → is_bad b ≡ false
passes b low other = grind (arith, nat_tests)

-- no bad byte, as a fact on each byte
good_bytes : (bytes : List ℕ) → position is_bad bytes ≡ None → All (λ b. (32 ≤ b) × (b ≢ 127)) bytes
good_bytes bytes h k d lt =
    let all : length bytes ≤ position_or_len is_bad bytes = not_below _ _ _ h in
    good_byte (get_or bytes k d) (fails_before_first is_bad bytes k d (omega (arith, all)))

none_bad : (bytes : List ℕ) → All (λ b. (32 ≤ b) × (b ≢ 127)) bytes → position is_bad bytes ≡ None
none_bad bytes h =
    let good : (k : ℕ) → k < length bytes → is_bad (get_or bytes k 0) ≡ false = λ k lt. passes _ (h k 0 lt).0 (h k 0 lt).1 in
    let e : position_or_len is_bad bytes ≡ length bytes = position_or_len_is is_bad bytes (length bytes) 0 (omega arith) good (λ lt. absurd (omega (arith, lt))) in
    rw (e, le-ltb (length bytes) (length bytes) (omega arith)) refl

name_from : (bytes : List ℕ) → 0 < length bytes → length bytes ≤ 128 → position is_bad bytes ≡ None → IsName bytes
unfolding name_of
name_from bytes some short good =
    let ne : eqb (length bytes) 0 ≡ false = grind (arith, nat_tests) in
    rw (ne, le-ltb 128 (length bytes) short, good) refl

pub name_is : (bytes : List ℕ) → IsName bytes ↔ IsText 1 128 bytes
name_is bytes = (
  λ h. let p = name_parts bytes h in record { some = p.some; short = p.short; good = good_bytes bytes p.good },
  λ t. name_from bytes t.some t.short (none_bad bytes t.good),
)

pub value_is : (bytes : List ℕ) → IsValue bytes ↔ IsText 0 1024 bytes
value_is bytes = (
  λ h. let p = value_parts bytes h in record { some = omega arith; short = p.short; good = good_bytes bytes p.good },
  λ t. value_from bytes t.short (none_bad bytes t.good),
)

pub ruleset name_forms = (name_is, value_is, value_from_name)

-- ---- numbers

own : IsNumeralModel (λ ds. list_all is_digit ds ≡ true) (number_after 0)
own = numerals_by_fold _ (search rules) number_after (search rules)

decimal_tests : (a b c d : Bool) (m n : ℕ) → cond (a && (b && (c && d))) (Some m) None ≡ Some n → (a ≡ true) × (b ≡ true) × (c ≡ true) × (d ≡ true) × (m ≡ n)
decimal_tests true true true true m n h = (refl, refl, refl, refl, cc h)
decimal_tests true true true false m n h = absurd cc
decimal_tests true true false d m n h = absurd cc
decimal_tests true false c d m n h = absurd cc
decimal_tests false b c d m n h = absurd cc

spelled : (bytes : List ℕ) (n : ℕ) → decimal_of bytes ≡ Some n → Spells bytes n
unfolding decimal_of
spelled bytes n h =
    let t = decimal_tests (ltb (number_after 0 bytes) (2 ^ 64)) (list_all is_digit bytes) (leb 1 (length bytes)) (leb (length bytes) 20) (number_after 0 bytes) n h in
    let fits : number_after 0 bytes < 2 ^ 64 = grind (arith, nat_tests, t.0) in
    let some : 0 < length bytes = grind (arith, nat_tests, t.2) in
    let short : length bytes ≤ 20 = grind (arith, nat_tests, t.3) in
    let digits = own.to bytes t.1 in
    let same = own.same bytes digits in
    record { digits = (some, digits); short = short; value = sym same ∙ t.4; fits = omega (arith, fits, t.4) }

read : (bytes : List ℕ) (n : ℕ) → Spells bytes n → decimal_of bytes ≡ Some n
read bytes n s = sym (decimal_read bytes n (own.from bytes s.digits.1) (own.same bytes s.digits.1 ∙ s.value) s.digits.0 s.short s.fits)

pub decimal_spelled : (bytes : List ℕ) (n : ℕ) → (decimal_of bytes ≡ Some n) ↔ Spells bytes n
decimal_spelled bytes n = (λ h. spelled bytes n h, λ s. read bytes n s)

pub decimal_back : (n : ℕ) → n < 2 ^ 64 → decimal_of (decimal n) ≡ Some n
decimal_back n h = sym (decimal_read (decimal n) n (digits_decimal own n h) (digits_value-decimal own n h) (decimal_nonempty n h) (length-decimal-le 20 n (omega arith) (omega arith) h) h)

pub ruleset number_forms = (decimal_spelled, decimal_back)
