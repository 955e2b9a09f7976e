-- Sums over the pairs of a map in which some values were put.
use Rattle.std.proofs.Common.{◌≡◌, ℕ, ◌+◌, Bool, true, false, cond, List, [], ◌∷◌, length, Option, Some, None, Ordering, Less, Equal, Greater, refl, sym, ap, ◌∙◌, arith}
use Rattle.std.specs.Prelude.{is_some, ◌||◌, ◌&&◌}
use Rattle.std.specs.List.{filter, sum_by, AllByRecursion}
use Rattle.std.specs.List.Sorted.{IsStrictlySortedBy}
use Rattle.std.specs.Map.{keys_of}
use Rattle.std.specs.Str.{bytes_eq}
use Rattle.std.specs.Ordering.{match_ordering}
use Rattle.std.proofs.lemmas.Bool.{false_from_ne_true}
use Rattle.std.proofs.lemmas.Cmp.{nat_list_cmp_total, tied_itself}
use Rattle.std.proofs.lemmas.Map.Lookups.{exact_bytes}
use Rattle.std.proofs.lemmas.List.Sums.{sum_by-cons}
use Rattle.std.proofs.lemmas.Slice.Eq.{bytes_eq-Decides}
use Rattle.provides_map.specs.Pairs.{Pairs, byte_cmp, put, put_all, IsMap}
use Rattle.provides_map.specs.After.{after, stays, put_some, artifact_name, artifact_group}
use Rattle.provides_map.specs.Merge.{if_not_own, own_sum, group_sum, pair_length, map_length}
use Rattle.provides_map.specs.declared.length.MapLength.{MapLength}
use Rattle.provides_map.specs.declared.change.Change.{Change}
use Rattle.provides_map.proofs.Puts.{all_below, sorted_put, sorted_filter}
use Rattle.provides_map.proofs.MergeLemmas.{sorted_put_all}

abbrev Pair : Type 0
Pair = List ℕ × List ℕ

-- the weight of a pair, none at the key
abbrev without : List ℕ → (Pair → ℕ) → Pair → ℕ
without key w p = cond (bytes_eq p.0 key) 0 (w p)

same_sum : (v w : Pair → ℕ) (ps : Pairs) → ((p : Pair) → v p ≡ w p) → sum_by v ps ≡ sum_by w ps
same_sum v w [] same = refl
same_sum v w (p ∷ ps) same = sum_by-cons v p ps ∙ ap (λ (n : ℕ). n + sum_by v ps) (same p) ∙ ap (λ (n : ℕ). w p + n) (same_sum v w ps same) ∙ sym (sum_by-cons w p ps)

unlike : (key k : List ℕ) (o : Ordering) → byte_cmp key k ≡ o → (o ≡ Equal → ⊥) → bytes_eq k key ≡ false
unlike key k o is other = false_from_ne_true (bytes_eq k key) (λ h. other (sym is ∙ ap (byte_cmp key) ((bytes_eq-Decides k key).0 h) ∙ tied_itself nat_list_cmp_total key))

module _ (w : Pair → ℕ) (key value : List ℕ) where
  -- no pair above the key is at it
  sum_above : (ps : Pairs) → AllByRecursion (λ y. byte_cmp key y ≡ Less) (keys_of ps) → sum_by (without key w) ps ≡ sum_by w ps
  sum_above [] a = refl
  sum_above (p ∷ ps) a =
      let e : without key w p ≡ w p = ap (λ (b : Bool). cond b 0 (w p)) (unlike key p.0 Less a.0 (λ h. cc)) in
      sum_by-cons (without key w) p ps ∙ ap (λ (n : ℕ). n + sum_by (without key w) ps) e ∙ ap (λ (n : ℕ). w p + n) (sum_above ps a.1) ∙ sym (sum_by-cons w p ps)

  sum_put_at : (o : Ordering) (p : Pair) (ps more : Pairs) → byte_cmp key p.0 ≡ o → IsStrictlySortedBy byte_cmp (keys_of (p ∷ ps)) → sum_by w more ≡ w (key, value) + sum_by (without key w) ps
      → sum_by w (match_ordering o ((key, value) ∷ p ∷ ps) ((p.0, value) ∷ ps) (p ∷ more)) ≡ w (key, value) + sum_by (without key w) (p ∷ ps)
  unfolding IsStrictlySortedBy
  sum_put_at Less p ps more is s h =
      sum_by-cons w (key, value) (p ∷ ps) ∙ ap (λ (n : ℕ). w (key, value) + n) (sym (sum_above (p ∷ ps) (is, all_below key p.0 ps is s.0)))
  sum_put_at Equal p ps more is s h =
      let same : key ≡ p.0 = exact_bytes key p.0 is in
      let at : bytes_eq p.0 key ≡ true = (bytes_eq-Decides p.0 key).1 (sym same) in
      let none : without key w p ≡ 0 = ap (λ (b : Bool). cond b 0 (w p)) at in
      let here : w (p.0, value) ≡ w (key, value) = ap (λ (k : List ℕ). w (k, value)) (sym same) in
      let later = sum_above ps (rw same s.0) in
      let a = sum_by-cons w (p.0, value) ps in
      let b = sum_by-cons (without key w) p ps in
      omega (arith, a, b, none, here, later)
  sum_put_at Greater p ps more is s h =
      let other : without key w p ≡ w p = ap (λ (b : Bool). cond b 0 (w p)) (unlike key p.0 Greater is (λ e. cc)) in
      let a = sum_by-cons w p more in
      let b = sum_by-cons (without key w) p ps in
      omega (arith, a, b, other, h)

  -- a put adds its pair, and takes the one that was at the key away
  sum_put : (ps : Pairs) → IsStrictlySortedBy byte_cmp (keys_of ps) → sum_by w (put ps key value) ≡ w (key, value) + sum_by (without key w) ps
  unfolding IsStrictlySortedBy
  sum_put [] s = sum_by-cons w (key, value) []
  sum_put (p ∷ ps) s = sum_put_at (byte_cmp key p.0) p ps (put ps key value) refl s (sum_put ps s.1)

cond_or : (a b : Bool) (n : ℕ) → cond b 0 (cond a 0 n) ≡ cond (a || b) 0 n
cond_or true true n = refl
cond_or true false n = refl
cond_or false true n = refl
cond_or false false n = refl

cond_or_none : (a b : Bool) (n : ℕ) → cond a 0 n ≡ cond (a || (false && b)) 0 n
cond_or_none true b n = refl
cond_or_none false b n = refl

module _ (f : Pair → ℕ) (change : Change) (ps : Pairs) (sorted : IsStrictlySortedBy byte_cmp (keys_of ps)) where
  sum_own_at : (group : Option (List ℕ)) → change.group ≡ group
      → f (artifact_name, change.name) + group_sum f group + sum_by (if_not_own change f) ps ≡ sum_by f (put (put_some ps artifact_group group) artifact_name change.name)
  sum_own_at None is =
      let same = same_sum (without artifact_name f) (if_not_own change f) ps (λ p. cond_or_none (bytes_eq p.0 artifact_name) (bytes_eq p.0 artifact_group) (f p) ∙ ap (λ (g : Option (List ℕ)). cond (bytes_eq p.0 artifact_name || (is_some g && bytes_eq p.0 artifact_group)) 0 (f p)) (sym is)) in
      let put = sum_put f artifact_name change.name ps sorted in
      omega (arith, same, put)
  sum_own_at (Some group) is =
      let same = same_sum (without artifact_group (without artifact_name f)) (if_not_own change f) ps (λ p. cond_or (bytes_eq p.0 artifact_name) (bytes_eq p.0 artifact_group) (f p) ∙ ap (λ (g : Option (List ℕ)). cond (bytes_eq p.0 artifact_name || (is_some g && bytes_eq p.0 artifact_group)) 0 (f p)) (sym is)) in
      let inner = sum_put (without artifact_name f) artifact_group group ps sorted in
      let outer = sum_put f artifact_name change.name (put ps artifact_group group) (sorted_put ps artifact_group group sorted) in
      omega (arith, same, inner, outer)

-- what the change sets itself, and the rest of the pairs
pub sum_after : (f : Pair → ℕ) (held : Pairs) (change : Change) → IsMap held
    → own_sum f change + sum_by (if_not_own change f) (put_all (filter (stays change.clears) held) change.provides) ≡ sum_by f (after held change)
unfolding after
sum_after f held change map =
    let base = put_all (filter (stays change.clears) held) change.provides in
    sum_own_at f change base (sorted_put_all (filter (stays change.clears) held) change.provides (sorted_filter (stays change.clears) held map.sorted)) change.group refl

pub sum_ones : (ps : Pairs) → sum_by (λ (p : Pair). 1) ps ≡ length ps
sum_ones [] = refl
sum_ones (p ∷ ps) = sum_by-cons (λ (q : Pair). 1) p ps ∙ omega (arith, sum_ones ps)

module _ (sum : MapLength) (held left : Pairs) (change : Change) (map : IsMap held) (none : left ≡ []) where
  all_summed : (f : Pair → ℕ) (n : ℕ) → n + sum_by (if_not_own change f) left ≡ own_sum f change + sum_by (if_not_own change f) (put_all (filter (stays change.clears) held) change.provides) → n ≡ sum_by f (after held change)
  all_summed f n h =
      let e : sum_by (if_not_own change f) left ≡ 0 = ap (λ (ps : Pairs). sum_by (if_not_own change f) ps) none in
      let whole = sum_after f held change map in
      omega (arith, h, e, whole)

  -- no pair is left, so both sums are those of the map
  pub sum_is : sum.pairs + sum_by (if_not_own change (λ p. 1)) left ≡ own_sum (λ p. 1) change + sum_by (if_not_own change (λ p. 1)) (put_all (filter (stays change.clears) held) change.provides)
      → sum.bytes + sum_by (if_not_own change pair_length) left ≡ own_sum pair_length change + sum_by (if_not_own change pair_length) (put_all (filter (stays change.clears) held) change.provides)
      → sum ≡ map_length (after held change)
  sum_is a b =
      let pairs : sum.pairs ≡ length (after held change) = all_summed (λ p. 1) sum.pairs a ∙ sum_ones (after held change) in
      let bytes : sum.bytes ≡ sum_by pair_length (after held change) = all_summed pair_length sum.bytes b in
      λ i. record { pairs = pairs i; bytes = bytes i }
