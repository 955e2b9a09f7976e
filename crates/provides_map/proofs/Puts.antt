-- What an edit at a key's place makes of pairs in order.
use Rattle.std.proofs.Common.{◌≡◌, ◌≢◌, ℕ, zero, suc, ◌+◌, ◌<◌, ◌≤◌, Bool, true, false, cond, drop, slice_get, List, [], ◌∷◌, length, get_or, set, Option, Some, None, Ordering, Less, Equal, Greater, refl, sym, ap, ◌∙◌, arith, inl, inr}
use Rattle.std.specs.List.{insert, filter, AllByRecursion}
use Rattle.std.specs.List.Sorted.{IsStrictlySortedBy}
use Rattle.std.specs.Map.{keys_of}
use Rattle.std.specs.Ordering.{match_ordering, ordering_reverse, is_eq}
use Rattle.std.proofs.lemmas.Cmp.{nat_list_cmp_total, tied_itself}
use Rattle.std.proofs.lemmas.Map.Lookups.{exact_bytes}
use Rattle.std.proofs.lemmas.Map.Keys.{Less-from_sorted}
use Rattle.std.proofs.lemmas.Bool.{cases_lt}
use Rattle.std.proofs.lemmas.List.Edits.{length-insert}
use Rattle.std.proofs.Math.ListN.{length-set}
use Rattle.std.proofs.lemmas.List.{drop_more}
use Rattle.provides_map.specs.Pairs.{Pairs, byte_cmp, get, put, put_all, IsPair, IsMap}
use Rattle.upd_text.specs.Text.{IsName, IsValue}
use Rattle.provides_map.specs.Place.{key_at, IsAt, IsGap}

abbrev Pair : Type 0
Pair = List ℕ × List ℕ

pub above : (a b : List ℕ) → byte_cmp a b ≡ Less → byte_cmp b a ≡ Greater
above a b h = nat_list_cmp_total.antisymm b a ∙ ap ordering_reverse h

pub below : (a b : List ℕ) → byte_cmp a b ≡ Greater → byte_cmp b a ≡ Less
below a b h = nat_list_cmp_total.antisymm b a ∙ ap ordering_reverse h

at_tail : (p : Pair) (ps : Pairs) (key : List ℕ) (i : ℕ) → IsAt (p ∷ ps) key (suc i) → IsAt ps key i
at_tail p ps key i h = record { within = omega (arith, h.within); here = h.here; before = λ j lt. h.before (suc j) (omega arith) }

gap_tail : (p : Pair) (ps : Pairs) (key : List ℕ) (i : ℕ) → IsGap (p ∷ ps) key (suc i) → IsGap ps key i
gap_tail p ps key i h = record { within = omega (arith, h.within); before = λ j lt. h.before (suc j) (omega arith); after = λ j le lt. h.after (suc j) (omega arith) (omega arith) }

-- a value is written over the one at the key
pub put_at : (ps : Pairs) (key value : List ℕ) (i : ℕ) → IsAt ps key i → set ps i (key, value) ≡ put ps key value
put_at [] key value i h = absurd (omega (arith, h.within))
put_at (p ∷ ps) key value zero h = rw (h.here, tied_itself nat_list_cmp_total key) refl
put_at (p ∷ ps) key value (suc i) h = rw (above p.0 key (h.before 0 (omega arith))) (ap (λ (qs : Pairs). p ∷ qs) (put_at ps key value i (at_tail p ps key i h)))

-- a new pair goes into the gap
pub put_gap : (ps : Pairs) (key value : List ℕ) (i : ℕ) → IsGap ps key i → insert ps i (key, value) ≡ put ps key value
put_gap [] key value zero h = refl
put_gap [] key value (suc i) h = absurd (omega (arith, h.within))
put_gap (p ∷ ps) key value zero h = rw (h.after 0 (omega arith) (omega arith)) refl
put_gap (p ∷ ps) key value (suc i) h = rw (above p.0 key (h.before 0 (omega arith))) (ap (λ (qs : Pairs). p ∷ qs) (put_gap ps key value i (gap_tail p ps key i h)))

-- the value at a place
pub get_at : (ps : Pairs) (key : List ℕ) (i : ℕ) → IsAt ps key i → let p = get_or ps i ([], []) in get ps key ≡ Some p.1
get_at [] key i h = absurd (omega (arith, h.within))
get_at (p ∷ ps) key zero h = rw (h.here, tied_itself nat_list_cmp_total key) refl
get_at (p ∷ ps) key (suc i) h = rw (above p.0 key (h.before 0 (omega arith))) (get_at ps key i (at_tail p ps key i h))

-- a key that has a gap is not there
pub get_gap : (ps : Pairs) (key : List ℕ) (i : ℕ) → IsGap ps key i → get ps key ≡ None
get_gap [] key i h = refl
get_gap (p ∷ ps) key zero h = rw (h.after 0 (omega arith) (omega arith)) (get_gap ps key zero (record { within = omega arith; before = λ j lt. absurd (omega arith); after = λ j le lt. h.after (suc j) (omega arith) (omega arith) }))
get_gap (p ∷ ps) key (suc i) h = rw (above p.0 key (h.before 0 (omega arith))) (get_gap ps key i (gap_tail p ps key i h))

-- ---- a put keeps the order

all_put_at : (P : List ℕ → Type 0) (o : Ordering) (p : Pair) (ps rest : Pairs) (key value : List ℕ) → P key → P p.0 → AllByRecursion P (keys_of ps) → AllByRecursion P (keys_of rest)
    → AllByRecursion P (keys_of (match_ordering o ((key, value) ∷ p ∷ ps) ((p.0, value) ∷ ps) (p ∷ rest)))
all_put_at P Less p ps rest key value k h a b = (k, (h, a))
all_put_at P Equal p ps rest key value k h a b = (h, a)
all_put_at P Greater p ps rest key value k h a b = (h, b)

pub all_put : (P : List ℕ → Type 0) (ps : Pairs) (key value : List ℕ) → P key → AllByRecursion P (keys_of ps) → AllByRecursion P (keys_of (put ps key value))
all_put P [] key value k h = (k, tt)
all_put P (p ∷ ps) key value k h = all_put_at P (byte_cmp key p.0) p ps (put ps key value) key value k h.0 h.1 (all_put P ps key value k h.1)

pub all_below : (a b : List ℕ) (ps : Pairs) → byte_cmp a b ≡ Less → AllByRecursion (λ y. byte_cmp b y ≡ Less) (keys_of ps) → AllByRecursion (λ y. byte_cmp a y ≡ Less) (keys_of ps)
all_below a b [] lt h = tt
all_below a b (p ∷ ps) lt h = (nat_list_cmp_total.trans a b p.0 lt h.0, all_below a b ps lt h.1)

sorted_put_at : (o : Ordering) (p : Pair) (ps rest : Pairs) (key value : List ℕ) → byte_cmp key p.0 ≡ o → IsStrictlySortedBy byte_cmp (keys_of (p ∷ ps)) → IsStrictlySortedBy byte_cmp (keys_of rest)
    → (byte_cmp p.0 key ≡ Less → AllByRecursion (λ y. byte_cmp p.0 y ≡ Less) (keys_of rest)) → IsStrictlySortedBy byte_cmp (keys_of (match_ordering o ((key, value) ∷ p ∷ ps) ((p.0, value) ∷ ps) (p ∷ rest)))
unfolding IsStrictlySortedBy
sorted_put_at Less p ps rest key value is s r a = ((is, all_below key p.0 ps is s.0), s)
sorted_put_at Equal p ps rest key value is s r a = s
sorted_put_at Greater p ps rest key value is s r a = (a (below key p.0 is), r)

pub sorted_put : (ps : Pairs) (key value : List ℕ) → IsStrictlySortedBy byte_cmp (keys_of ps) → IsStrictlySortedBy byte_cmp (keys_of (put ps key value))
unfolding IsStrictlySortedBy
sorted_put [] key value s = (tt, tt)
sorted_put (p ∷ ps) key value s = sorted_put_at (byte_cmp key p.0) p ps (put ps key value) key value refl s (sorted_put ps key value s.1) (λ lt. all_put (λ y. byte_cmp p.0 y ≡ Less) ps key value lt s.0)

-- ---- a search

length-keys : (ps : Pairs) → length (keys_of ps) ≡ length ps
length-keys [] = refl
length-keys (p ∷ ps) = ap suc (length-keys ps)

key_is : (ps : Pairs) (i : ℕ) → get_or (keys_of ps) i [] ≡ key_at ps i
key_is [] i = refl
key_is (p ∷ ps) zero = refl
key_is (p ∷ ps) (suc i) = key_is ps i

keys_rise : (ps : Pairs) (i j : ℕ) → IsStrictlySortedBy byte_cmp (keys_of ps) → i < j → j < length ps → byte_cmp (key_at ps i) (key_at ps j) ≡ Less
keys_rise ps i j s lt within = rw (← key_is ps i, ← key_is ps j) (Less-from_sorted byte_cmp (keys_of ps) i j [] s lt (omega (arith, length-keys ps)))

module _ (ps : Pairs) (s : IsStrictlySortedBy byte_cmp (keys_of ps)) (key : List ℕ) (mid : ℕ) (within : mid < length ps) where
  -- the keys up to a smaller one are smaller
  pub smaller_up_to : byte_cmp (key_at ps mid) key ≡ Less → (j : ℕ) → j < mid + 1 → byte_cmp (key_at ps j) key ≡ Less
  smaller_up_to h j lt = elim (cases_lt j mid) [
    | inl less ↦ nat_list_cmp_total.trans (key_at ps j) (key_at ps mid) key (keys_rise ps j mid s less within) h
    | inr same ↦ (let j-is : j ≡ mid = omega arith in rw j-is h)
  ]

  -- the keys from a greater one on are greater
  pub greater_from : byte_cmp (key_at ps mid) key ≡ Greater → (j : ℕ) → mid ≤ j → j < length ps → byte_cmp key (key_at ps j) ≡ Less
  greater_from h j le lt = elim (cases_lt mid j) [
    | inl more ↦ nat_list_cmp_total.trans key (key_at ps mid) (key_at ps j) (below (key_at ps mid) key h) (keys_rise ps mid j s more lt)
    | inr same ↦ (let j-is : j ≡ mid = omega arith in rw j-is (below (key_at ps mid) key h))
  ]

  pub is_at_equal : byte_cmp (key_at ps mid) key ≡ Equal → IsAt ps key mid
  is_at_equal h =
      let same = exact_bytes (key_at ps mid) key h in
      record { within = within; here = same; before = λ j lt. rw (← same) (keys_rise ps j mid s lt within) }

-- ---- both edits keep a map

pairs_put_at : (o : Ordering) (p : Pair) (ps rest : Pairs) (key value : List ℕ) → IsPair (key, value) → IsPair p → AllByRecursion IsPair ps → AllByRecursion IsPair rest
    → AllByRecursion IsPair (match_ordering o ((key, value) ∷ p ∷ ps) ((p.0, value) ∷ ps) (p ∷ rest))
pairs_put_at Less p ps rest key value q h a b = (q, (h, a))
pairs_put_at Equal p ps rest key value q h a b = ((h.0, q.1), a)
pairs_put_at Greater p ps rest key value q h a b = (h, b)

pairs_put : (ps : Pairs) (key value : List ℕ) → IsPair (key, value) → AllByRecursion IsPair ps → AllByRecursion IsPair (put ps key value)
pairs_put [] key value q a = (q, tt)
pairs_put (p ∷ ps) key value q a = pairs_put_at (byte_cmp key p.0) p ps (put ps key value) key value q a.0 a.1 (pairs_put ps key value q a.1)

pub map_set : (ps : Pairs) (key value : List ℕ) (i : ℕ) → IsMap ps → IsAt ps key i → IsName key → IsValue value → IsMap (set ps i (key, value))
map_set ps key value i m at n v =
    let e = put_at ps key value i at in
    record { sorted = rw e (sorted_put ps key value m.sorted); pairs = rw e (pairs_put ps key value (n, v) m.pairs); few = simp length-set m.few }

pub map_insert : (ps : Pairs) (key value : List ℕ) (i : ℕ) → IsMap ps → IsGap ps key i → length ps < 4294967295 → IsName key → IsValue value → IsMap (insert ps i (key, value))
map_insert ps key value i m gap room n v =
    let e = put_gap ps key value i gap in
    record { sorted = rw e (sorted_put ps key value m.sorted); pairs = rw e (pairs_put ps key value (n, v) m.pairs); few = omega (arith, length-insert ps i (key, value) gap.within) }

-- ---- some of the pairs are a map

all_filter : (P : List ℕ → Type 0) (test : Pair → Bool) (ps : Pairs) → AllByRecursion P (keys_of ps) → AllByRecursion P (keys_of (filter test ps))
all_filter P test [] h = tt
all_filter P test (p ∷ ps) h = elim (test p) as (λ b. AllByRecursion P (keys_of (cond b (p ∷ filter test ps) (filter test ps)))) [ true ↦ (h.0, all_filter P test ps h.1) | false ↦ all_filter P test ps h.1 ]

pub sorted_filter : (test : Pair → Bool) (ps : Pairs) → IsStrictlySortedBy byte_cmp (keys_of ps) → IsStrictlySortedBy byte_cmp (keys_of (filter test ps))
unfolding IsStrictlySortedBy
sorted_filter test [] s = tt
sorted_filter test (p ∷ ps) s = elim (test p) as (λ b. IsStrictlySortedBy byte_cmp (keys_of (cond b (p ∷ filter test ps) (filter test ps)))) [ true ↦ (all_filter (λ y. byte_cmp p.0 y ≡ Less) test ps s.0, sorted_filter test ps s.1) | false ↦ sorted_filter test ps s.1 ]

length-filter-le : (test : Pair → Bool) (ps : Pairs) → length (filter test ps) ≤ length ps
length-filter-le test [] = omega arith
length-filter-le test (p ∷ ps) = elim (test p) as (λ b. length (cond b (p ∷ filter test ps) (filter test ps)) ≤ suc (length ps)) [ true ↦ omega (arith, length-filter-le test ps) | false ↦ omega (arith, length-filter-le test ps) ]

pairs_filter : (test : Pair → Bool) (ps : Pairs) → AllByRecursion IsPair ps → AllByRecursion IsPair (filter test ps)
pairs_filter test [] a = tt
pairs_filter test (p ∷ ps) a = elim (test p) as (λ b. AllByRecursion IsPair (cond b (p ∷ filter test ps) (filter test ps))) [ true ↦ (a.0, pairs_filter test ps a.1) | false ↦ pairs_filter test ps a.1 ]

pub map_filter : (test : Pair → Bool) (ps : Pairs) → IsMap ps → IsMap (filter test ps)
map_filter test ps m = record { sorted = sorted_filter test ps m.sorted; pairs = pairs_filter test ps m.pairs; few = omega (arith, m.few, length-filter-le test ps) }

pub got : (ps : Pairs) (i : ℕ) (p : Pair) → slice_get ps i ≡ Some p → get_or ps i p ≡ p
got [] i p is = absurd cc
got (q ∷ ps) zero p is = cc
got (q ∷ ps) (suc i) p is = got ps i p is

-- one pair of many is put
pub put_all_more : (held ps : Pairs) (i : ℕ) (p : Pair) → i < length ps → slice_get ps i ≡ Some p → put_all held (drop i ps) ≡ put_all (put held p.0 p.1) (drop (i + 1) ps)
put_all_more held ps i p lt is = rw (drop_more ps i p lt, got ps i p is) refl

-- ---- the laws of a finite map

get_put_at : (o : Ordering) (p : Pair) (ps : Pairs) (key value : List ℕ) → byte_cmp key p.0 ≡ o → get (put ps key value) key ≡ Some value
    → get (match_ordering o ((key, value) ∷ p ∷ ps) ((p.0, value) ∷ ps) (p ∷ put ps key value)) key ≡ Some value
get_put_at Less p ps key value is h = rw (tied_itself nat_list_cmp_total key) refl
get_put_at Equal p ps key value is h = rw is refl
get_put_at Greater p ps key value is h = rw is h

-- the value that was put is there
pub get_put : (ps : Pairs) (key value : List ℕ) → get (put ps key value) key ≡ Some value
get_put [] key value = rw (tied_itself nat_list_cmp_total key) refl
get_put (p ∷ ps) key value = get_put_at (byte_cmp key p.0) p ps key value refl (get_put ps key value)

unlike : (q key : List ℕ) (o : Ordering) → byte_cmp q key ≡ o → (q ≡ key → ⊥) → is_eq o ≡ false
unlike q key Less is other = refl
unlike q key Equal is other = absurd (other (exact_bytes q key is))
unlike q key Greater is other = refl

get_other_at : (o : Ordering) (p : Pair) (ps : Pairs) (key value q : List ℕ) → byte_cmp key p.0 ≡ o → (q ≡ key → ⊥) → get (put ps key value) q ≡ get ps q
    → get (match_ordering o ((key, value) ∷ p ∷ ps) ((p.0, value) ∷ ps) (p ∷ put ps key value)) q ≡ get (p ∷ ps) q
get_other_at Less p ps key value q is other h = rw (unlike q key (byte_cmp q key) refl other) refl
get_other_at Equal p ps key value q is other h =
    let same : key ≡ p.0 = exact_bytes key p.0 is in
    let e : is_eq (byte_cmp q p.0) ≡ false = unlike q p.0 (byte_cmp q p.0) refl (λ r. other (r ∙ sym same)) in
    rw e refl
get_other_at Greater p ps key value q is other h = ap (λ (r : Option (List ℕ)). cond (is_eq (byte_cmp q p.0)) (Some p.1) r) h

-- every other key keeps its value
pub get_other : (ps : Pairs) (key value q : List ℕ) → q ≢ key → get (put ps key value) q ≡ get ps q
get_other [] key value q other = rw (unlike q key (byte_cmp q key) refl other) refl
get_other (p ∷ ps) key value q other = get_other_at (byte_cmp key p.0) p ps key value q refl other (get_other ps key value q other)
