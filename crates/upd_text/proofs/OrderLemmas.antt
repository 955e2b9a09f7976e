-- Items behind all others.
use Rattle.std.proofs.Common.{◌≡◌, ℕ, ◌-◌, ◌<◌, ◌≤◌, true, List, [], ◌∷◌, ◌++◌, length, Some, Ordering, Less, Equal, Greater, refl, ap, IsTrue, arith}
use Rattle.std.specs.Prelude.{slice_get}
use Rattle.std.specs.List.{AllByRecursion}
use Rattle.std.specs.List.Sorted.{IsStrictlySortedBy}
use Rattle.std.specs.Ordering.{is_lt}
use Rattle.std.proofs.lemmas.Cmp.{nat_list_cmp_total}
use native.Mathlib.Numerals.{unary_clauses}
use Rattle.upd_text.specs.Order.{byte_cmp, is_below, last_from, itself}

pub last_from-push : {A : Type 0} (key : A → List ℕ) (last : List ℕ) (xs : List A) (x : A) → last_from key last (xs ++ x ∷ []) ≡ key x
last_from-push key last [] x = refl
last_from-push key last (y ∷ xs) x = last_from-push key (key y) xs x

-- the last of some items has the last key
pub last_from-is : {A : Type 0} (key : A → List ℕ) (last : List ℕ) (xs : List A) (x : A) → slice_get xs (length xs - 1) ≡ Some x → last_from key last xs ≡ key x
last_from-is key last [] x h = absurd cc
last_from-is key last (y ∷ []) x h = let e : y ≡ x = cc in ap key e
last_from-is key last (y ∷ (z ∷ xs)) x h = last_from-is key (key y) (z ∷ xs) x (simp unary_clauses (simp unary_clauses at h))

-- the empty list is below all others
pub last_none : {A : Type 0} (key : A → List ℕ) (xs : List A) (k : List ℕ) → length xs ≤ 0 → 0 < length k → true ≡ is_below (last_from key [] xs) k
last_none key [] [] h n = absurd (omega arith)
last_none key [] (b ∷ k) h n = refl
last_none key (x ∷ xs) k h n = absurd (omega arith)

pub less : (o : Ordering) → IsTrue (is_lt o) → o ≡ Less
less Less h = refl
less Equal h = absurd cc
less Greater h = absurd cc

pub all_push : {A : Type 0} (P : A → Type 0) (xs : List A) (x : A) → AllByRecursion P xs → P x → AllByRecursion P (xs ++ x ∷ [])
all_push P [] x h p = (p, tt)
all_push P (y ∷ xs) x h p = (h.0, all_push P xs x h.1 p)

-- below the first key is below the last
below_last : (x : List ℕ) (xs : List (List ℕ)) (k : List ℕ) → AllByRecursion (λ y. byte_cmp x y ≡ Less) xs → IsStrictlySortedBy byte_cmp xs → byte_cmp (last_from itself x xs) k ≡ Less → byte_cmp x k ≡ Less
unfolding IsStrictlySortedBy
below_last x [] k above sorted h = h
below_last x (y ∷ ys) k above sorted h = nat_list_cmp_total.trans x y k above.0 (below_last y ys k sorted.0 sorted.1 h)

-- a name above the last one keeps the order
pub sorted_push : (last : List ℕ) (xs : List (List ℕ)) (k : List ℕ) → IsStrictlySortedBy byte_cmp xs → byte_cmp (last_from itself last xs) k ≡ Less → IsStrictlySortedBy byte_cmp (xs ++ k ∷ [])
unfolding IsStrictlySortedBy
sorted_push last [] k sorted h = (tt, tt)
sorted_push last (x ∷ xs) k sorted h = (all_push (λ y. byte_cmp x y ≡ Less) xs k sorted.0 (below_last x xs k sorted.0 sorted.1 h), sorted_push x xs k sorted.1 h)
