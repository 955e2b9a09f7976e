-- The numbers of payloads, one after the other.
use Rattle.std.proofs.Common.{◌≡◌, ◌∙◌, ℕ, ◌+◌, ◌-◌, ◌<◌, ◌≤◌, suc, Bool, true, false, List, ◌∷◌, Option, Some, None, cond, sym, ap, arith}
use Rattle.std.specs.Prelude.{find}
use Rattle.std.specs.List.{range_with_len}

-- the numbers from i on below n are i and those behind it
pub first_of_range : (i n : ℕ) → i < n → range_with_len i (n - i) ≡ i ∷ range_with_len (i + 1) (n - (i + 1))
first_of_range i n lt =
    let e : n - i ≡ suc (n - (i + 1)) = omega arith in
    ap (λ (k : ℕ). range_with_len i k) e

pub none_left : (p : ℕ → Bool) (i n : ℕ) → n ≤ i → find p (range_with_len i (n - i)) ≡ None
none_left p i n le =
    let e : n - i ≡ 0 = omega arith in
    ap (λ (k : ℕ). find p (range_with_len i k)) e

pub passed_one : (p : ℕ → Bool) (i n : ℕ) → i < n → p i ≡ false → find p (range_with_len (i + 1) (n - (i + 1))) ≡ find p (range_with_len i (n - i))
passed_one p i n lt fails =
    let rest : List ℕ = range_with_len (i + 1) (n - (i + 1)) in
    sym (ap (find p) (first_of_range i n lt) ∙ ap (λ (b : Bool). cond b (Some i) (find p rest)) fails)

pub found_one : (p : ℕ → Bool) (i n : ℕ) → i < n → p i ≡ true → find p (range_with_len i (n - i)) ≡ Some i
found_one p i n lt passes =
    let rest : List ℕ = range_with_len (i + 1) (n - (i + 1)) in
    ap (find p) (first_of_range i n lt) ∙ ap (λ (b : Bool). cond b (Some i) (find p rest)) passes
