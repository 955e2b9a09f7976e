-- The next pair of two lists in key order.
use Rattle.std.proofs.Common.{◌≡◌, ℕ, ◌+◌, ◌<◌, ◌≤◌, Bool, true, false, cond, drop, slice_get, List, [], ◌∷◌, ◌++◌, length, get_or, Some, None, zero, suc, inl, inr, Ordering, Less, Equal, Greater, refl, sym, ap, ◌∙◌, arith}
use Rattle.std.specs.List.{filter, AllByRecursion}
use Rattle.std.specs.List.Sorted.{IsStrictlySortedBy}
use Rattle.std.specs.Map.{keys_of}
use Rattle.std.specs.Ordering.{match_ordering, is_lt}
use Rattle.std.proofs.lemmas.Map.Lookups.{exact_bytes}
use Rattle.std.proofs.lemmas.Bool.{cases_lt}
use Rattle.std.proofs.lemmas.Option.{slice_get_within}
use Rattle.std.proofs.lemmas.List.{drop_more, drop_all}
use Rattle.upd_text.specs.Order.{is_below, last_from}
use Rattle.provides_map.specs.Pairs.{Pairs, byte_cmp, put, put_all, IsMap}
use Rattle.provides_map.specs.Last.{key_of, last_key}
use Rattle.provides_map.specs.After.{stays}
use Rattle.provides_map.specs.Merge.{lesser, side_of}
use Rattle.provides_map.specs.declared.merge.Side.TheVariants.{Held, Brought, Both}
use Rattle.provides_map.proofs.Puts.{above, below, all_below, got, sorted_put, sorted_filter}

abbrev Pair : Type 0
Pair = List ℕ × List ℕ

-- a first key below all that is put stays first
put_all_past : (p : Pair) (ps qs : Pairs) → AllByRecursion (λ y. byte_cmp p.0 y ≡ Less) (keys_of qs) → put_all (p ∷ ps) qs ≡ p ∷ put_all ps qs
put_all_past p ps [] h = refl
put_all_past p ps (q ∷ qs) h =
    let e : put (p ∷ ps) q.0 q.1 ≡ p ∷ put ps q.0 q.1 = rw (above p.0 q.0 h.0) refl in
    ap (λ (l : Pairs). put_all l qs) e ∙ put_all_past p (put ps q.0 q.1) qs h.1

module _ (p q : Pair) (ps qs : Pairs) (sorted : IsStrictlySortedBy byte_cmp (keys_of (q ∷ qs))) where
  first_held : byte_cmp p.0 q.0 ≡ Less → put_all (p ∷ ps) (q ∷ qs) ≡ p ∷ put_all ps (q ∷ qs)
  unfolding IsStrictlySortedBy
  first_held h = put_all_past p ps (q ∷ qs) (h, all_below p.0 q.0 qs h sorted.0)

  first_both : byte_cmp p.0 q.0 ≡ Equal → put_all (p ∷ ps) (q ∷ qs) ≡ q ∷ put_all ps qs
  unfolding IsStrictlySortedBy
  first_both h =
      let same = exact_bytes p.0 q.0 h in
      let turned : byte_cmp q.0 p.0 ≡ Equal = ap (λ (k : List ℕ). byte_cmp q.0 k) same ∙ ap (λ (k : List ℕ). byte_cmp k q.0) (sym same) ∙ h in
      let e : put (p ∷ ps) q.0 q.1 ≡ q ∷ ps = rw turned (λ i. (same i, q.1) ∷ ps) in
      ap (λ (l : Pairs). put_all l qs) e ∙ put_all_past q ps qs sorted.0

  first_brought : byte_cmp p.0 q.0 ≡ Greater → put_all (p ∷ ps) (q ∷ qs) ≡ q ∷ put_all (p ∷ ps) qs
  unfolding IsStrictlySortedBy
  first_brought h =
      let turned = below p.0 q.0 h in
      let e : put (p ∷ ps) q.0 q.1 ≡ q ∷ p ∷ ps = rw turned refl in
      ap (λ (l : Pairs). put_all l qs) e ∙ put_all_past q (p ∷ ps) qs sorted.0

only_brought : (q : Pair) (qs : Pairs) → IsStrictlySortedBy byte_cmp (keys_of (q ∷ qs)) → put_all [] (q ∷ qs) ≡ q ∷ put_all [] qs
unfolding IsStrictlySortedBy
only_brought q qs sorted = put_all_past q [] qs sorted.0

-- ---- at two places

pub drop_got : (ps : Pairs) (i : ℕ) (p : Pair) → slice_get ps i ≡ Some p → drop i ps ≡ p ∷ drop (i + 1) ps
drop_got ps i p is = let lt = slice_get_within ps i p is in drop_more ps i p lt ∙ ap (λ (q : Pair). q ∷ drop (i + 1) ps) (got ps i p is)

-- a place within has a pair
pub get_within : (ps : Pairs) (i : ℕ) → i < length ps → slice_get ps i ≡ Some (get_or ps i ([], []))
get_within [] i lt = absurd (omega arith)
get_within (p ∷ ps) zero lt = refl
get_within (p ∷ ps) (suc i) lt = get_within ps i (omega arith)

module _ (ps qs : Pairs) (i j : ℕ) where
  pub no_side : length ps ≤ i → length qs ≤ j → side_of (drop i ps) (drop j qs) ≡ None
  no_side a b = rw (drop_all i ps a, drop_all j qs b) refl

  pub side_brought : length ps ≤ i → j < length qs → side_of (drop i ps) (drop j qs) ≡ Some Brought
  side_brought a b = rw (drop_all i ps a, drop_got qs j (get_or qs j ([], [])) (get_within qs j b)) refl

  pub side_held : i < length ps → length qs ≤ j → side_of (drop i ps) (drop j qs) ≡ Some Held
  side_held a b = rw (drop_all j qs b, drop_got ps i (get_or ps i ([], [])) (get_within ps i a)) refl

  pub side_at : (p q : Pair) → slice_get ps i ≡ Some p → slice_get qs j ≡ Some q → side_of (drop i ps) (drop j qs) ≡ Some (lesser p.0 q.0)
  side_at p q a b = rw (drop_got ps i p a, drop_got qs j q b) refl

pub ruleset side_rules = (no_side, side_brought, side_held)

-- a pair that doesn't stay is passed over
pub filter_skip : (test : Pair → Bool) (ps : Pairs) (i : ℕ) (p : Pair) → slice_get ps i ≡ Some p → test p ≡ false → filter test (drop (i + 1) ps) ≡ filter test (drop i ps)
filter_skip test ps i p is out = sym (ap (filter test) (drop_got ps i p is) ∙ ap (λ (b : Bool). cond b (p ∷ filter test (drop (i + 1) ps)) (filter test (drop (i + 1) ps))) out)

filter_take : (test : Pair → Bool) (ps : Pairs) (i : ℕ) (p : Pair) → slice_get ps i ≡ Some p → test p ≡ true → filter test (drop i ps) ≡ p ∷ filter test (drop (i + 1) ps)
filter_take test ps i p is kept = ap (filter test) (drop_got ps i p is) ∙ ap (λ (b : Bool). cond b (p ∷ filter test (drop (i + 1) ps)) (filter test (drop (i + 1) ps))) kept

keys_of-drop : (ps : Pairs) (i : ℕ) → keys_of (drop i ps) ≡ drop i (keys_of ps)
keys_of-drop ps zero = refl
keys_of-drop [] (suc i) = refl
keys_of-drop (p ∷ ps) (suc i) = keys_of-drop ps i

sorted_drop : (ks : List (List ℕ)) (i : ℕ) → IsStrictlySortedBy byte_cmp ks → IsStrictlySortedBy byte_cmp (drop i ks)
unfolding IsStrictlySortedBy
sorted_drop ks zero s = s
sorted_drop [] (suc i) s = s
sorted_drop (k ∷ ks) (suc i) s = sorted_drop ks i s.1

sorted_from : (ps : Pairs) (i : ℕ) (p : Pair) → IsMap ps → slice_get ps i ≡ Some p → IsStrictlySortedBy byte_cmp (keys_of (p ∷ drop (i + 1) ps))
sorted_from ps i p map is =
    let e : keys_of (p ∷ drop (i + 1) ps) ≡ drop i (keys_of ps) = ap (λ (l : Pairs). keys_of l) (sym (drop_got ps i p is)) ∙ keys_of-drop ps i in
    rw e (sorted_drop (keys_of ps) i map.sorted)

-- the sides differ
by_told : (o s : Ordering) → Some (match_ordering o Held Both Brought) ≡ Some (match_ordering s Held Both Brought) → o ≡ s
by_told Less Less h = refl
by_told Less Equal h = absurd cc
by_told Less Greater h = absurd cc
by_told Equal Less h = absurd cc
by_told Equal Equal h = refl
by_told Equal Greater h = absurd cc
by_told Greater Less h = absurd cc
by_told Greater Equal h = absurd cc
by_told Greater Greater h = refl

module _ (test : Pair → Bool) (ps qs : Pairs) (i j : ℕ) (map : IsMap qs) where
  -- no pair is left
  pub none_left : side_of (drop i ps) (drop j qs) ≡ None → put_all (filter test (drop i ps)) (drop j qs) ≡ []
  none_left h = none_of (drop i ps) (drop j qs) h
    where
      none_of : (rs ss : Pairs) → side_of rs ss ≡ None → put_all (filter test rs) ss ≡ []
      none_of [] [] h = refl
      none_of [] (s ∷ ss) h = absurd cc
      none_of (r ∷ rs) [] h = absurd cc
      none_of (r ∷ rs) (s ∷ ss) h = absurd cc

  -- the next pair is one that is held
  pub next_held : (p : Pair) → slice_get ps i ≡ Some p → test p ≡ true → side_of (drop i ps) (drop j qs) ≡ Some Held
      → put_all (filter test (drop i ps)) (drop j qs) ≡ p ∷ put_all (filter test (drop (i + 1) ps)) (drop j qs)
  next_held p is kept h = rw (filter_take test ps i p is kept) (elim (cases_lt j (length qs)) [ inl lt ↦ with_more lt | inr le ↦ with_none le ])
    where
      with_none : length qs ≤ j → put_all (p ∷ filter test (drop (i + 1) ps)) (drop j qs) ≡ p ∷ put_all (filter test (drop (i + 1) ps)) (drop j qs)
      with_none le = rw (drop_all j qs le) refl

      with_more : j < length qs → put_all (p ∷ filter test (drop (i + 1) ps)) (drop j qs) ≡ p ∷ put_all (filter test (drop (i + 1) ps)) (drop j qs)
      with_more lt =
          let q : Pair = get_or qs j ([], []) in
          let there : slice_get qs j ≡ Some q = get_within qs j lt in
          let less : byte_cmp p.0 q.0 ≡ Less = by_told (byte_cmp p.0 q.0) Less (sym (side_at ps qs i j p q is there) ∙ h) in
          rw (drop_got qs j q there) (first_held p q (filter test (drop (i + 1) ps)) (drop (j + 1) qs) (sorted_from qs j q map there) less)

  -- one that is brought, over the one that is held
  pub next_both : (p q : Pair) → slice_get ps i ≡ Some p → slice_get qs j ≡ Some q → test p ≡ true → side_of (drop i ps) (drop j qs) ≡ Some Both
      → put_all (filter test (drop i ps)) (drop j qs) ≡ q ∷ put_all (filter test (drop (i + 1) ps)) (drop (j + 1) qs)
  next_both p q is there kept h =
      let same : byte_cmp p.0 q.0 ≡ Equal = by_told (byte_cmp p.0 q.0) Equal (sym (side_at ps qs i j p q is there) ∙ h) in
      rw (filter_take test ps i p is kept, drop_got qs j q there) (first_both p q (filter test (drop (i + 1) ps)) (drop (j + 1) qs) (sorted_from qs j q map there) same)

  -- one that is brought alone
  pub next_brought : (q : Pair) → slice_get qs j ≡ Some q → ((p : Pair) → slice_get ps i ≡ Some p → test p ≡ true) → side_of (drop i ps) (drop j qs) ≡ Some Brought
      → put_all (filter test (drop i ps)) (drop j qs) ≡ q ∷ put_all (filter test (drop i ps)) (drop (j + 1) qs)
  next_brought q there stays h = elim (cases_lt i (length ps)) [ inl lt ↦ with_more lt | inr le ↦ with_none le ]
    where
      with_none : length ps ≤ i → put_all (filter test (drop i ps)) (drop j qs) ≡ q ∷ put_all (filter test (drop i ps)) (drop (j + 1) qs)
      with_none le = rw (drop_all i ps le, drop_got qs j q there) (only_brought q (drop (j + 1) qs) (sorted_from qs j q map there))

      with_more : i < length ps → put_all (filter test (drop i ps)) (drop j qs) ≡ q ∷ put_all (filter test (drop i ps)) (drop (j + 1) qs)
      with_more lt =
          let p : Pair = get_or ps i ([], []) in
          let is : slice_get ps i ≡ Some p = get_within ps i lt in
          let more : byte_cmp p.0 q.0 ≡ Greater = by_told (byte_cmp p.0 q.0) Greater (sym (side_at ps qs i j p q is there) ∙ h) in
          rw (filter_take test ps i p is (stays p is), drop_got qs j q there) (first_brought p q (filter test (drop (i + 1) ps)) (drop (j + 1) qs) (sorted_from qs j q map there) more)

-- ---- a list in order

pub sorted_put_all : (ps qs : Pairs) → IsStrictlySortedBy byte_cmp (keys_of ps) → IsStrictlySortedBy byte_cmp (keys_of (put_all ps qs))
sorted_put_all ps [] s = s
sorted_put_all ps (q ∷ qs) s = sorted_put_all (put ps q.0 q.1) qs (sorted_put ps q.0 q.1 s)

-- the last key before a pair is below its key
last_below : (last : List ℕ) (ps : Pairs) (p : Pair) (qs : Pairs) → byte_cmp last p.0 ≡ Less → IsStrictlySortedBy byte_cmp (keys_of (ps ++ p ∷ qs)) → byte_cmp (last_from key_of last ps) p.0 ≡ Less
unfolding IsStrictlySortedBy
last_below last [] p qs h s = h
last_below last (r ∷ ps) p qs h s = last_below r.0 ps p qs (above_all ps s.0) s.1
  where
    above_all : (rs : Pairs) → AllByRecursion (λ y. byte_cmp r.0 y ≡ Less) (keys_of (rs ++ p ∷ qs)) → byte_cmp r.0 p.0 ≡ Less
    above_all [] a = a.0
    above_all (t ∷ rs) a = above_all rs a.1

none_less : (key : List ℕ) → 0 < length key → byte_cmp [] key ≡ Less
none_less [] n = absurd (omega arith)
none_less (b ∷ bs) n = refl

module _ (test : Pair → Bool) (held brought new left : Pairs) (p : Pair) where
  -- the next pair is behind those that were taken
  pub next_is_last : IsMap held → new ++ p ∷ left ≡ put_all (filter test held) brought → 0 < length p.0 → is_below (last_key new) p.0 ≡ true
  next_is_last map whole some =
      let sorted = sorted_put_all (filter test held) brought (sorted_filter test held map.sorted) in
      let all : IsStrictlySortedBy byte_cmp (keys_of (new ++ p ∷ left)) = rw whole sorted in
      ap is_lt (last_below [] new p left (none_less p.0 some) all)
