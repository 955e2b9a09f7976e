-- A broken map, pair by pair.
use Rattle.std.proofs.Common.{◌≡◌, ℕ, Bool, true, false, cond, List, [], ◌∷◌, ◌++◌, map, Option, Some, None, Ordering, Less, Equal, Greater, refl, sym, ap}
use Rattle.std.specs.Prelude.{option_map, codes}
use Rattle.std.specs.Str.{bytes_eq}
use Rattle.std.specs.List.{AllByRecursion}
use Rattle.std.specs.List.Sorted.{IsStrictlySortedBy}
use Rattle.std.specs.Map.{keys_of}
use Rattle.std.specs.Ordering.{is_eq}
use Rattle.std.specs.Cmp.Lexicographic.{bytes_decides}
use Rattle.std.proofs.lemmas.Cmp.{nat_list_cmp_total, tied_itself}
use Rattle.std.proofs.lemmas.Map.Lookups.{exact_bytes}
use Rattle.upd_text.specs.Order.{byte_cmp}
use Rattle.provides_map.specs.Pairs.{Pairs, get, IsMap}
use Rattle.provides_map.specs.After.{broken, put_some, artifact_name}
use Rattle.record_codec.specs.Held.{marked}

abbrev Pair : Type 0
Pair = List ℕ × List ℕ

unequal : (k name : List ℕ) (b : Bool) → (bytes_eq k name ≡ b) → (k ≡ name → ⊥) → bytes_eq k name ≡ false
unequal k name true is other = absurd (other ((bytes_decides k name).0 is))
unequal k name false is other = is

-- another key than the name
differs : (o : Ordering) (k name : List ℕ) → byte_cmp name k ≡ o → is_eq o ≡ false → bytes_eq k name ≡ false
differs o k name is not_equal = unequal k name (bytes_eq k name) refl (λ same. let tied : is_eq (byte_cmp name k) ≡ true = rw same (ap is_eq (tied_itself nat_list_cmp_total name)) in cc (tied, ap is_eq is))

module _ (name suffix : List ℕ) where
  abbrev mark : Pair → Pair
  mark p = cond (bytes_eq p.0 name) (p.0, p.1 ++ suffix) p

  abbrev with_suffix : List ℕ → List ℕ
  with_suffix value = value ++ suffix

  other : (o : Ordering) (p : Pair) → byte_cmp name p.0 ≡ o → is_eq o ≡ false → mark p ≡ p
  other o p is not_equal = rw (differs o p.0 name is not_equal) refl

  -- behind the name's place nothing is marked
  others : (ps : Pairs) → AllByRecursion (λ k. byte_cmp name k ≡ Less) (keys_of ps) → map mark ps ≡ ps
  others [] above = refl
  others (p ∷ ps) above = rw (other Less p above.0 refl) (ap (λ (qs : Pairs). p ∷ qs) (others ps above.1))

  absent : (ps : Pairs) → AllByRecursion (λ k. byte_cmp name k ≡ Less) (keys_of ps) → get ps name ≡ None
  absent [] above = refl
  absent (p ∷ ps) above = rw above.0 (absent ps above.1)

  all_above : (k : List ℕ) (ps : Pairs) → byte_cmp name k ≡ Less → AllByRecursion (λ y. byte_cmp k y ≡ Less) (keys_of ps) → AllByRecursion (λ y. byte_cmp name y ≡ Less) (keys_of ps)
  all_above k [] lt above = tt
  all_above k (p ∷ ps) lt above = (nat_list_cmp_total.trans name k p.0 lt above.0, all_above k ps lt above.1)

  -- the name comes later
  later : (p : Pair) (ps ms : Pairs) (new : Option (List ℕ)) → byte_cmp name p.0 ≡ Greater → put_some ps name new ≡ ms → put_some (p ∷ ps) name new ≡ p ∷ ms
  later p ps ms None is h = ap (λ (qs : Pairs). p ∷ qs) h
  later p ps ms (Some value) is h = rw is (ap (λ (qs : Pairs). p ∷ qs) h)

  at_head : (o : Ordering) (p : Pair) (ps : Pairs) → byte_cmp name p.0 ≡ o → AllByRecursion (λ y. byte_cmp p.0 y ≡ Less) (keys_of ps)
      → put_some ps name (option_map with_suffix (get ps name)) ≡ map mark ps
      → put_some (p ∷ ps) name (option_map with_suffix (cond (is_eq o) (Some p.1) (get ps name))) ≡ mark p ∷ map mark ps
  at_head Less p ps is above h =
      let rest = all_above p.0 ps is above in
      rw (absent ps rest, other Less p is refl, others ps rest) refl
  at_head Equal p ps is above h =
      let same : name ≡ p.0 = exact_bytes name p.0 is in
      let rest : AllByRecursion (λ y. byte_cmp name y ≡ Less) (keys_of ps) = rw same above in
      let here : bytes_eq p.0 name ≡ true = (bytes_decides p.0 name).1 (sym same) in
      rw (is, here, others ps rest) refl
  at_head Greater p ps is above h = rw (other Greater p is refl) (later p ps (map mark ps) (option_map with_suffix (get ps name)) is h)

  pub put_marks : (ps : Pairs) → IsStrictlySortedBy byte_cmp (keys_of ps) → put_some ps name (option_map with_suffix (get ps name)) ≡ map mark ps
  unfolding IsStrictlySortedBy
  put_marks [] sorted = refl
  put_marks (p ∷ ps) sorted = at_head (byte_cmp name p.0) p ps refl sorted.0 (put_marks ps sorted.1)

pub broken_marks : (ps : Pairs) → IsMap ps → broken ps ≡ map marked ps
unfolding broken
broken_marks ps is = put_marks artifact_name (codes "_INCONSISTENT") ps is.sorted
