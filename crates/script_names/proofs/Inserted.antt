-- A script at its place among others.
use Rattle.std.proofs.Common.{◌≡◌, ◌⊎◌, ◌↔◌, ℕ, ◌+◌, ◌<◌, ◌≤◌, ◌∙◌, zero, suc, List, [], ◌∷◌, length, Ordering, Less, Equal, Greater, refl, sym, ap, inl, inr, arith}
use Rattle.std.specs.List.{AllByRecursion, Contains, insert}
use Rattle.std.specs.List.Sorted.{IsStrictlySortedBy}
use Rattle.std.specs.Ordering.{match_ordering, ordering_reverse}
use Rattle.std.specs.BTreeSet.{insert_key}
use Rattle.std.proofs.lemmas.Cmp.{nat_list_cmp_total, tied_itself}
use Rattle.std.proofs.lemmas.Map.Lookups.{exact_bytes}
use Rattle.std.proofs.lemmas.List.Edits.{length-insert}
use Rattle.upd_text.specs.Order.{byte_cmp}
use Rattle.script_names.specs.Scripts.{IsScript, AreScripts}

below : (a b : List ℕ) → byte_cmp a b ≡ Greater → byte_cmp b a ≡ Less
below a b h = nat_list_cmp_total.antisymm b a ∙ ap ordering_reverse h

above : (a b : List ℕ) → byte_cmp a b ≡ Less → byte_cmp b a ≡ Greater
above a b h = nat_list_cmp_total.antisymm b a ∙ ap ordering_reverse h

all_insert_at : (P : List ℕ → Type 0) (o : Ordering) (x : List ℕ) (xs rest : List (List ℕ)) (k : List ℕ) → P k → P x → AllByRecursion P xs → AllByRecursion P rest → AllByRecursion P (match_ordering o (k ∷ x ∷ xs) (x ∷ xs) (x ∷ rest))
all_insert_at P Less x xs rest k p h a b = (p, (h, a))
all_insert_at P Equal x xs rest k p h a b = (h, a)
all_insert_at P Greater x xs rest k p h a b = (h, b)

pub all_insert : (P : List ℕ → Type 0) (xs : List (List ℕ)) (k : List ℕ) → P k → AllByRecursion P xs → AllByRecursion P (insert_key byte_cmp xs k)
all_insert P [] k p h = (p, tt)
all_insert P (x ∷ xs) k p h = all_insert_at P (byte_cmp k x) x xs (insert_key byte_cmp xs k) k p h.0 h.1 (all_insert P xs k p h.1)

all_below : (a b : List ℕ) (xs : List (List ℕ)) → byte_cmp a b ≡ Less → AllByRecursion (λ y. byte_cmp b y ≡ Less) xs → AllByRecursion (λ y. byte_cmp a y ≡ Less) xs
all_below a b [] lt h = tt
all_below a b (x ∷ xs) lt h = (nat_list_cmp_total.trans a b x lt h.0, all_below a b xs lt h.1)

sorted_insert_at : (o : Ordering) (x : List ℕ) (xs rest : List (List ℕ)) (k : List ℕ) → byte_cmp k x ≡ o → IsStrictlySortedBy byte_cmp (x ∷ xs) → IsStrictlySortedBy byte_cmp rest
    → (byte_cmp x k ≡ Less → AllByRecursion (λ y. byte_cmp x y ≡ Less) rest) → IsStrictlySortedBy byte_cmp (match_ordering o (k ∷ x ∷ xs) (x ∷ xs) (x ∷ rest))
unfolding IsStrictlySortedBy
sorted_insert_at Less x xs rest k is s r a = ((is, all_below k x xs is s.0), s)
sorted_insert_at Equal x xs rest k is s r a = s
sorted_insert_at Greater x xs rest k is s r a = (a (below k x is), r)

-- the list stays in order
pub sorted_insert : (xs : List (List ℕ)) (k : List ℕ) → IsStrictlySortedBy byte_cmp xs → IsStrictlySortedBy byte_cmp (insert_key byte_cmp xs k)
unfolding IsStrictlySortedBy
sorted_insert [] k s = (tt, tt)
sorted_insert (x ∷ xs) k s = sorted_insert_at (byte_cmp k x) x xs (insert_key byte_cmp xs k) k refl s (sorted_insert xs k s.1) (λ lt. all_insert (λ y. byte_cmp x y ≡ Less) xs k lt s.0)

length_insert_at : (o : Ordering) (x : List ℕ) (xs rest : List (List ℕ)) (k : List ℕ) → length rest ≤ length xs + 1 → length (match_ordering o (k ∷ x ∷ xs) (x ∷ xs) (x ∷ rest)) ≤ length (x ∷ xs) + 1
length_insert_at Less x xs rest k h = omega arith
length_insert_at Equal x xs rest k h = omega arith
length_insert_at Greater x xs rest k h = omega arith

-- ---- whether the name was there

pub there_cons : (x : List ℕ) (xs : List (List ℕ)) (k : List ℕ) → Contains (x ∷ xs) k → (x ≡ k) ⊎ Contains xs k
there_cons x xs k (zero, lt, e) = inl e
there_cons x xs k (suc i, lt, e) = let within : i < length xs = omega arith in inr (i, within, e)

pub contains_head : (x : List ℕ) (xs : List (List ℕ)) (k : List ℕ) → x ≡ k → Contains (x ∷ xs) k
contains_head x xs k e = (0, omega arith, e)

pub contains_tail : (x : List ℕ) (xs : List (List ℕ)) (k : List ℕ) → Contains xs k → Contains (x ∷ xs) k
contains_tail x xs k h = (suc h.0, omega (arith, h.1), h.2)

above_all : (x : List ℕ) (xs : List (List ℕ)) (k : List ℕ) → AllByRecursion (λ y. byte_cmp x y ≡ Less) xs → Contains xs k → byte_cmp x k ≡ Less
above_all x [] k a h = absurd (omega (arith, h.1))
above_all x (y ∷ ys) k a h = elim (there_cons y ys k h) [
  | inl e ↦ (rw (← e) a.0)
  | inr t ↦ above_all x ys k a.1 t
]

-- a name that is there changes nothing
pub insert_there : (xs : List (List ℕ)) (k : List ℕ) → IsStrictlySortedBy byte_cmp xs → Contains xs k → insert_key byte_cmp xs k ≡ xs
unfolding IsStrictlySortedBy
insert_there [] k s h = absurd (omega (arith, h.1))
insert_there (x ∷ xs) k s h = elim (there_cons x xs k h) [
  | inl e ↦ (rw (e, tied_itself nat_list_cmp_total k) refl)
  | inr t ↦ (rw (above x k (above_all x xs k s.0 t)) (ap (λ (ys : List (List ℕ)). x ∷ ys) (insert_there xs k s.1 t)))
]

there_at : (o : Ordering) (x : List ℕ) (xs rest : List (List ℕ)) (k : List ℕ) → byte_cmp k x ≡ o → (rest ≡ xs → Contains xs k) → match_ordering o (k ∷ x ∷ xs) (x ∷ xs) (x ∷ rest) ≡ x ∷ xs → Contains (x ∷ xs) k
there_at Less x xs rest k is h e = let len : length (k ∷ x ∷ xs) ≡ length (x ∷ xs) = ap length e in absurd (omega (arith, len))
there_at Equal x xs rest k is h e = contains_head x xs k (sym (exact_bytes k x is))
there_at Greater x xs rest k is h e = let same : rest ≡ xs = cc in contains_tail x xs k (h same)

-- a name that changes nothing is there
pub there_if_same : (xs : List (List ℕ)) (k : List ℕ) → insert_key byte_cmp xs k ≡ xs → Contains xs k
there_if_same [] k e = absurd cc
there_if_same (x ∷ xs) k e = there_at (byte_cmp k x) x xs (insert_key byte_cmp xs k) k refl (there_if_same xs k) e

-- a name that goes between others isn't there
pub absent_if_longer : (xs : List (List ℕ)) (k : List ℕ) (i : ℕ) → IsStrictlySortedBy byte_cmp xs → i ≤ length xs → insert_key byte_cmp xs k ≡ insert xs i k → ¬ Contains xs k
absent_if_longer xs k i s within e there =
    let same : insert xs i k ≡ xs = sym e ∙ insert_there xs k s there in
    let len : length (insert xs i k) ≡ length xs = ap length same in
    omega (arith, length-insert xs i k within)

-- ---- which names are there then

held_at : (o : Ordering) (x : List ℕ) (xs rest : List (List ℕ)) (k n : List ℕ) → (Contains rest n → (k ≡ n) ⊎ Contains xs n) → Contains (match_ordering o (k ∷ x ∷ xs) (x ∷ xs) (x ∷ rest)) n → (k ≡ n) ⊎ Contains (x ∷ xs) n
held_at Less x xs rest k n more h = there_cons k (x ∷ xs) n h
held_at Equal x xs rest k n more h = inr h
held_at Greater x xs rest k n more h = elim (there_cons x rest n h) [
  | inl e ↦ (inr (contains_head x xs n e))
  | inr t ↦ elim (more t) [ inl e ↦ inl e | inr u ↦ (inr (contains_tail x xs n u)) ]
]

stays_at : (o : Ordering) (x : List ℕ) (xs rest : List (List ℕ)) (k n : List ℕ) → byte_cmp k x ≡ o → ((k ≡ n) ⊎ Contains xs n → Contains rest n) → (k ≡ n) ⊎ Contains (x ∷ xs) n → Contains (match_ordering o (k ∷ x ∷ xs) (x ∷ xs) (x ∷ rest)) n
stays_at Less x xs rest k n is more (inl e) = contains_head k (x ∷ xs) n e
stays_at Less x xs rest k n is more (inr t) = contains_tail k (x ∷ xs) n t
stays_at Equal x xs rest k n is more (inl e) = contains_head x xs n (sym (exact_bytes k x is) ∙ e)
stays_at Equal x xs rest k n is more (inr t) = t
stays_at Greater x xs rest k n is more (inl e) = contains_tail x rest n (more (inl e))
stays_at Greater x xs rest k n is more (inr t) = elim (there_cons x xs n t) [
  | inl e ↦ contains_head x rest n e
  | inr u ↦ (contains_tail x rest n (more (inr u)))
]

pub none_there : (n : List ℕ) → Contains [] n → ⊥
none_there n h = omega (arith, h.1)

-- a list with one more name holds that name and those that it held
pub contains_inserted : (xs : List (List ℕ)) (k n : List ℕ) → Contains (insert_key byte_cmp xs k) n ↔ ((k ≡ n) ⊎ Contains xs n)
contains_inserted [] k n = (there_cons k [] n, λ h. elim h [ inl e ↦ contains_head k [] n e | inr t ↦ absurd (none_there n t) ])
contains_inserted (x ∷ xs) k n =
    let more = contains_inserted xs k n in
    (held_at (byte_cmp k x) x xs (insert_key byte_cmp xs k) k n more.0, stays_at (byte_cmp k x) x xs (insert_key byte_cmp xs k) k n refl more.1)

-- and is at most one longer
pub length-insert_key : (xs : List (List ℕ)) (k : List ℕ) → length (insert_key byte_cmp xs k) ≤ length xs + 1
length-insert_key [] k = omega arith
length-insert_key (x ∷ xs) k = length_insert_at (byte_cmp k x) x xs (insert_key byte_cmp xs k) k (length-insert_key xs k)

pub scripts_insert : (names : List (List ℕ)) (name : List ℕ) → AreScripts names → length names < 64 → IsScript name → AreScripts (insert_key byte_cmp names name)
scripts_insert names name are room is = record {
  sorted = sorted_insert names name are.sorted;
  few = omega (arith, length-insert_key names name);
  scripts = all_insert IsScript names name is are.scripts;
}
