-- Maps by the value that they have at each key.
use Rattle.std.proofs.Common.{◌≡◌, ◌≢◌, ℕ, true, false, List, [], ◌∷◌, Option, Some, None, Ordering, Less, Equal, Greater, refl, sym, ap, ◌∙◌, inl, inr}
use Rattle.std.specs.List.{AllByRecursion}
use Rattle.std.specs.List.Sorted.{IsStrictlySortedBy}
use Rattle.std.specs.Map.{keys_of}
use Rattle.std.specs.BTreeMap.{is_at}
use Rattle.std.specs.Cmp.{eq_by_cmp_equiv}
use Rattle.std.specs.Ordering.{is_eq}
use Rattle.std.proofs.lemmas.Bool.{cases_Bool, true≢false}
use Rattle.std.proofs.lemmas.Cmp.{nat_list_cmp_total, tied_itself}
use Rattle.std.proofs.lemmas.Map.{lookup-none}
use Rattle.std.proofs.lemmas.Map.Entries.{lookup_head, lookup_tail, none_past_head, none_below_head}
use Rattle.std.proofs.lemmas.Map.Keys.{IsDistinct-from_sorted, sorted_tail}
use Rattle.std.proofs.lemmas.Map.Lookups.{exact_bytes}
use Rattle.upd_text.specs.Text.{IsName}
use Rattle.provides_map.specs.Pairs.{Pairs, byte_cmp, get, put, put_all, IsPair, IsMap}
use Rattle.provides_map.proofs.Puts.{below, get_put, get_other}

abbrev Pair : Type 0
Pair = List ℕ × List ℕ

-- the key is the one that is asked for
same_key_at : (q key : List ℕ) (o : Ordering) → byte_cmp q key ≡ o → is_eq o ≡ true → q ≡ key
same_key_at q key Less is h = absurd (true≢false (sym h))
same_key_at q key Equal is h = exact_bytes q key is
same_key_at q key Greater is h = absurd (true≢false (sym h))

pub same_key : (q key : List ℕ) → is_eq (byte_cmp q key) ≡ true → q ≡ key
same_key q key h = same_key_at q key (byte_cmp q key) refl h

other_key : (q key : List ℕ) → is_eq (byte_cmp q key) ≡ false → q ≢ key
other_key q key h e = true≢false (sym (ap is_eq (ap (byte_cmp q) (sym e) ∙ tied_itself nat_list_cmp_total q)) ∙ h)

no_value : (v : List ℕ) → Some v ≡ None → ⊥
no_value v h = cc

get_head : (p : Pair) (ps : Pairs) → get (p ∷ ps) p.0 ≡ Some p.1
get_head p ps = lookup_head (is_at (byte_cmp p.0)) p ps (ap is_eq (tied_itself nat_list_cmp_total p.0))

-- ---- many puts

-- a key that the second pairs lack keeps its value
pub get_put_all_none : (ps qs : Pairs) (key : List ℕ) → get qs key ≡ None → get (put_all ps qs) key ≡ get ps key
get_put_all_none ps [] key h = refl
get_put_all_none ps (q ∷ qs) key h = elim (cases_Bool (is_eq (byte_cmp key q.0))) [
  | inl here ↦ absurd (no_value q.1 (sym (lookup_head (is_at (byte_cmp key)) q qs here) ∙ h))
  | inr other ↦ get_put_all_none (put ps q.0 q.1) qs key (sym (lookup_tail (is_at (byte_cmp key)) q qs other) ∙ h) ∙ get_other ps q.0 q.1 key (other_key key q.0 other)
]

-- no later pair has the key of the first
past_head : (q : Pair) (qs : Pairs) (key : List ℕ) → IsStrictlySortedBy byte_cmp (keys_of (q ∷ qs)) → is_eq (byte_cmp key q.0) ≡ true → get qs key ≡ None
past_head q qs key s here = lookup-none (is_at (byte_cmp key)) qs (none_past_head (eq_by_cmp_equiv nat_list_cmp_total) key q qs (IsDistinct-from_sorted byte_cmp (keys_of (q ∷ qs)) s) here)

-- a key that the second pairs have gets their value
pub get_put_all_some : (ps qs : Pairs) (key value : List ℕ) → IsStrictlySortedBy byte_cmp (keys_of qs) → get qs key ≡ Some value → get (put_all ps qs) key ≡ Some value
get_put_all_some ps [] key value s h = absurd (no_value value (sym h))
get_put_all_some ps (q ∷ qs) key value s h = elim (cases_Bool (is_eq (byte_cmp key q.0))) [
  | inl here ↦ (
      let same : key ≡ q.0 = same_key key q.0 here in
      let there : get (put ps q.0 q.1) key ≡ Some q.1 = rw same (get_put ps q.0 q.1) in
      get_put_all_none (put ps q.0 q.1) qs key (past_head q qs key s here) ∙ there ∙ sym (lookup_head (is_at (byte_cmp key)) q qs here) ∙ h)
  | inr other ↦ get_put_all_some (put ps q.0 q.1) qs key value (sorted_tail byte_cmp q.0 (keys_of qs) s) (sym (lookup_tail (is_at (byte_cmp key)) q qs other) ∙ h)
]

-- ---- the same look-ups, the same map

-- a key that has a value is a name
named : (ps : Pairs) (key value : List ℕ) → AllByRecursion IsPair ps → get ps key ≡ Some value → IsName key
named [] key value a h = absurd (no_value value (sym h))
named (p ∷ ps) key value a h = elim (cases_Bool (is_eq (byte_cmp key p.0))) [
  | inl here ↦ (let pair : IsPair p = a.0 in rw (same_key key p.0 here) pair.0)
  | inr other ↦ named ps key value a.1 (sym (lookup_tail (is_at (byte_cmp key)) p ps other) ∙ h)
]

module _ (p q : Pair) (ps qs : Pairs) (s : IsStrictlySortedBy byte_cmp (keys_of (p ∷ ps))) (t : IsStrictlySortedBy byte_cmp (keys_of (q ∷ qs)))
    (same : (key : List ℕ) → get (p ∷ ps) key ≡ get (q ∷ qs) key) where
  -- a smaller key than all is not there
  absent : (r : Pair) (rs : Pairs) (key : List ℕ) → IsStrictlySortedBy byte_cmp (keys_of (r ∷ rs)) → byte_cmp key r.0 ≡ Less → get (r ∷ rs) key ≡ None
  absent r rs key sorted less = lookup-none (is_at (byte_cmp key)) (r ∷ rs) (none_below_head nat_list_cmp_total key r rs sorted less)

  first : (o : Ordering) → byte_cmp p.0 q.0 ≡ o → p.0 ≡ q.0
  first Less is = absurd (no_value p.1 (sym (get_head p ps) ∙ same p.0 ∙ absent q qs p.0 t is))
  first Equal is = exact_bytes p.0 q.0 is
  first Greater is = absurd (no_value q.1 (sym (get_head q qs) ∙ sym (same q.0) ∙ absent p ps q.0 s (below p.0 q.0 is)))

  key_is : p.0 ≡ q.0
  key_is = first (byte_cmp p.0 q.0) refl

  value_is : p.1 ≡ q.1
  value_is = (let e : Some p.1 ≡ Some q.1 = sym (get_head p ps) ∙ same p.0 ∙ ap (get (q ∷ qs)) key_is ∙ get_head q qs in cc)

  rest_is : (key : List ℕ) → get ps key ≡ get qs key
  rest_is key = elim (cases_Bool (is_eq (byte_cmp key p.0))) [
    | inl here ↦ past_head p ps key s here ∙ sym (past_head q qs key t (rw (← key_is) here))
    | inr other ↦ sym (lookup_tail (is_at (byte_cmp key)) p ps other) ∙ same key ∙ lookup_tail (is_at (byte_cmp key)) q qs (rw (← key_is) other)
  ]

same_pairs : (ps qs : Pairs) → IsStrictlySortedBy byte_cmp (keys_of ps) → IsStrictlySortedBy byte_cmp (keys_of qs) → ((key : List ℕ) → get ps key ≡ get qs key) → ps ≡ qs
same_pairs [] [] s t same = refl
same_pairs [] (q ∷ qs) s t same = absurd (no_value q.1 (sym (get_head q qs) ∙ sym (same q.0)))
same_pairs (p ∷ ps) [] s t same = absurd (no_value p.1 (sym (get_head p ps) ∙ same p.0))
same_pairs (p ∷ ps) (q ∷ qs) s t same =
    let rest = same_pairs ps qs (sorted_tail byte_cmp p.0 (keys_of ps) s) (sorted_tail byte_cmp q.0 (keys_of qs) t) (rest_is p q ps qs s t same) in
    let key = key_is p q ps qs s t same in
    let value = value_is p q ps qs s t same in
    λ i. (key i, value i) ∷ rest i

module _ (ps qs : Pairs) (a : IsMap ps) (b : IsMap qs) (same : (key : List ℕ) → IsName key → get ps key ≡ get qs key) where
  both : (key : List ℕ) (v w : Option (List ℕ)) → get ps key ≡ v → get qs key ≡ w → get ps key ≡ get qs key
  both key (Some v) w p q = same key (named ps key v a.pairs p)
  both key None (Some w) p q = same key (named qs key w b.pairs q)
  both key None None p q = p ∙ sym q

  pub same_map : ps ≡ qs
  same_map = same_pairs ps qs a.sorted b.sorted (λ key. both key (get ps key) (get qs key) refl refl)
