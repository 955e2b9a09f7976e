-- One bit of a word as a Bool, through each operation.
use Rattle.std.proofs.Common.{◌≡◌, ℕ, zero, suc, ◌-◌, ◌*◌, ◌/◌, ◌%◌, ◌^◌, ◌<◌, min, max, true, false, not, ◌&&◌, ◌||◌, ◌==◌, refl, sym, ap, ◌∙◌, arith, inl, inr, w64}
use Rattle.std.specs.Prelude.{bit_and, bit_or}
use Rattle.std.specs.Int.{bit_at}
use Rattle.std.proofs.lemmas.Nat.{one_shl}
use Rattle.std.proofs.lemmas.Nat.Bits.{bit_at_and, bit_at_or, bit_at_not, bit_at-zero, bit_at-lt, bit_at_ones, bit_at-pow_same, bit_at-pow_other, shr_and_one}
use Rattle.std.proofs.lemmas.Bool.{ne_eqb, eq-eqb, cases_eq}
use Rattle.provides_map.specs.Marks.{has_bit}

by_bit : (P : ℕ → Type 0) → P 0 → P 1 → (x : ℕ) → x < 2 → P x
by_bit P p q zero h = p
by_bit P p q (suc zero) h = q
by_bit P p q (suc (suc r)) h = absurd (omega arith)

by_bits : (P : ℕ → ℕ → Type 0) → P 0 0 → P 0 1 → P 1 0 → P 1 1 → (a b k : ℕ) → P (bit_at a k) (bit_at b k)
by_bits P p q r s a b k =
    by_bit (λ x. P x (bit_at b k)) (by_bit (P 0) p q (bit_at b k) (bit_at-lt b k)) (by_bit (P 1) r s (bit_at b k) (bit_at-lt b k)) (bit_at a k) (bit_at-lt a k)

pub has_bit-and : (a b k : ℕ) → has_bit (bit_and a b) k ≡ (has_bit a k && has_bit b k)
unfolding has_bit
has_bit-and a b k = ap (λ n. n == 1) (bit_at_and a b k) ∙ by_bits (λ x y. (min x y == 1) ≡ ((x == 1) && (y == 1))) refl refl refl refl a b k

pub has_bit-or : (a b k : ℕ) → has_bit (bit_or a b) k ≡ (has_bit a k || has_bit b k)
unfolding has_bit
has_bit-or a b k = ap (λ n. n == 1) (bit_at_or a b k) ∙ by_bits (λ x y. (max x y == 1) ≡ ((x == 1) || (y == 1))) refl refl refl refl a b k

pub has_bit-not : (a k : ℕ) → a < 2 ^ 64 → k < 64 → has_bit (2 ^ 64 - 1 - a) k ≡ not (has_bit a k)
unfolding has_bit
has_bit-not a k fits room = ap (λ n. n == 1) (bit_at_not w64 a k fits room) ∙ by_bit (λ x. ((1 - x) == 1) ≡ not (x == 1)) refl refl (bit_at a k) (bit_at-lt a k)

pub has_bit-zero : (k : ℕ) → has_bit 0 k ≡ false
unfolding has_bit
has_bit-zero k = ap (λ n. n == 1) (bit_at-zero k)

pub has_bit-ones : (k : ℕ) → k < 64 → has_bit (2 ^ 64 - 1) k ≡ true
unfolding has_bit
has_bit-ones k room = ap (λ n. n == 1) (bit_at_ones 64 k room)

pub has_bit-one : (k i : ℕ) → k < 64 → has_bit (1 * 2 ^ k % 2 ^ 64) i ≡ (i == k)
unfolding has_bit
has_bit-one k i room = ap (λ n. bit_at n i == 1) (one_shl k 64 room) ∙ elim (cases_eq i k) [
  | inl same ↦ rw same (ap (λ n. n == 1) (bit_at-pow_same k) ∙ sym (eq-eqb k k refl))
  | inr other ↦ ap (λ n. n == 1) (bit_at-pow_other k i other) ∙ sym (ne_eqb i k other)
]

-- the test of a bit that a shift makes
pub has_bit-shifted : (a k : ℕ) → (bit_and (a / 2 ^ k) 1 == 0) ≡ not (has_bit a k)
unfolding has_bit
has_bit-shifted a k = ap (λ n. n == 0) (shr_and_one a k) ∙ by_bit (λ x. (x == 0) ≡ not (x == 1)) refl refl (bit_at a k) (bit_at-lt a k)
