-- What the tests on names, values, maps and scripts say.
use Rattle.std.proofs.Common.{◌≡◌, ℕ, ◌<◌, ◌≤◌, ◌^◌, Bool, true, false, cond, eqb, ltb, List, [], ◌∷◌, length, Option, Some, None, Result, Ok, Err, Less, refl, ap, IsTrue, arith}
use Rattle.std.specs.Prelude.{position, is_ok, IsSomeAnd}
use Rattle.std.specs.Result.{result_ok}
use Rattle.std.specs.Option.{is_some}
use Rattle.std.specs.List.{AllByRecursion}
use Rattle.std.specs.List.Sorted.{IsStrictlySortedBy}
use Rattle.std.specs.Map.{keys_of}
use Rattle.std.specs.Ordering.{is_lt}
use Rattle.std.proofs.lemmas.Bool.{and_parts, and_from, le-leb, leb-true}
use Rattle.std.proofs.lemmas.Cmp.{nat_list_cmp_total}
use Rattle.upd_text.specs.declared.fault.NameFault.{NameFault}
use Rattle.upd_text.specs.declared.fault.NameFault.TheVariants.{Empty, TooLong}
use Rattle.upd_text.specs.Text.{name_of, value_of, unless_bad, is_bad, IsName, IsValue}
use Rattle.upd_text.specs.Order.{byte_cmp, is_below, itself}
use Rattle.upd_text.proofs.TextLemmas.{name_parts, value_parts}
use Rattle.upd_text.proofs.OrderLemmas.{less}
use Rattle.provides_map.specs.Pairs.{Pairs, IsPair, IsMap, get}
use Rattle.provides_map.specs.After.{artifact_name, HasName}
use Rattle.provides_map.specs.Last.{key_of}
use Rattle.script_names.specs.declared.place.Place.{Place}
use Rattle.script_names.specs.Scripts.{place_of, IsScript, AreScripts, is_artifact_place, is_artifact_script}
use Rattle.record_codec.specs.Keys.{is_name, is_value, is_pair, ascend}
use Rattle.record_codec.specs.Spelling.{is_script, is_named, has_length}

-- ---- names and values

-- what reading gives is the text itself
abbrev IsSame : List ℕ → Result (List ℕ) NameFault → Type 0
IsSame bytes read = result_ok read ≡ cond (is_ok read) (Some bytes) None

same_name : (a b : Bool) (p : Option ℕ) (bytes : List ℕ) → IsSame bytes (cond a (Err Empty) (cond b (Err TooLong) (unless_bad bytes p)))
same_name true b p bytes = refl
same_name false true p bytes = refl
same_name false false None bytes = refl
same_name false false (Some i) bytes = refl

pub name_given : (bytes : List ℕ) → result_ok (name_of bytes) ≡ cond (is_name bytes) (Some bytes) None
unfolding name_of is_name
name_given bytes = same_name (eqb (length bytes) 0) (ltb 128 (length bytes)) (position is_bad bytes) bytes

same_value : (b : Bool) (p : Option ℕ) (bytes : List ℕ) → IsSame bytes (cond b (Err TooLong) (unless_bad bytes p))
same_value true p bytes = refl
same_value false None bytes = refl
same_value false (Some i) bytes = refl

pub value_given : (bytes : List ℕ) → result_ok (value_of bytes) ≡ cond (is_value bytes) (Some bytes) None
unfolding value_of is_value
value_given bytes = same_value (ltb 1024 (length bytes)) (position is_bad bytes) bytes

pub name_true : (bytes : List ℕ) → IsName bytes → is_name bytes ≡ true
unfolding is_name
name_true bytes h = rw h refl

pub value_true : (bytes : List ℕ) → IsValue bytes → is_value bytes ≡ true
unfolding is_value
value_true bytes h = rw h refl

given_is : {E : Type 0} (bytes : List ℕ) (read : Result (List ℕ) E) → result_ok read ≡ cond (is_ok read) (Some bytes) None → is_ok read ≡ true → read ≡ Ok bytes
given_is bytes (Ok x) same ok = let e : x ≡ bytes = cc in ap (λ (t : List ℕ). Ok t) e
given_is bytes (Err e) same ok = absurd cc

pub name_is : (bytes : List ℕ) → is_name bytes ≡ true → IsName bytes
unfolding is_name
name_is bytes h = given_is bytes (name_of bytes) (name_given bytes) h

pub value_is : (bytes : List ℕ) → is_value bytes ≡ true → IsValue bytes
unfolding is_value
value_is bytes h = given_is bytes (value_of bytes) (value_given bytes) h

pub name_small : (k : List ℕ) → is_name k ≡ true → length k < 2 ^ 8
name_small k h = let p = name_parts k (name_is k h) in omega (arith, p.short)

pub value_small : (v : List ℕ) → is_value v ≡ true → length v < 2 ^ 16
value_small v h = let p = value_parts v (value_is v h) in omega (arith, p.short)

-- ---- scripts

no_stage : (place : Option Place) → is_some place ≡ false → is_artifact_place place ≡ false
no_stage None h = refl
no_stage (Some place) h = absurd cc

-- what says no place is no artifact's script
pub no_place : (name : List ℕ) → is_some (place_of name) ≡ false → is_artifact_script name ≡ false
no_place name h = no_stage (place_of name) h

-- ---- lists in order

lt_true : (a b : List ℕ) → byte_cmp a b ≡ Less → is_below a b ≡ true
lt_true a b h = ap is_lt h

pairs_ascend : (last : List ℕ) (ps : Pairs) → AllByRecursion (λ k. byte_cmp last k ≡ Less) (keys_of ps) → IsStrictlySortedBy byte_cmp (keys_of ps) → AllByRecursion IsPair ps → IsTrue (ascend key_of is_pair last ps)
unfolding IsStrictlySortedBy
pairs_ascend last [] above sorted right = refl
pairs_ascend last (p ∷ ps) above sorted right =
    and_from _ _ (and_from _ _ (and_from _ _ (name_true p.0 right.0.0) (value_true p.1 right.0.1)) (lt_true last p.0 above.0)) (pairs_ascend p.0 ps sorted.0 sorted.1 right.1)

above_none : (k : List ℕ) → IsName k → byte_cmp [] k ≡ Less
above_none [] h = let p = name_parts [] h in absurd (omega (arith, p.some))
above_none (b ∷ k) h = refl

names_above : (ps : Pairs) → AllByRecursion IsPair ps → AllByRecursion (λ k. byte_cmp [] k ≡ Less) (keys_of ps)
names_above [] right = tt
names_above (p ∷ ps) right = (above_none p.0 right.0.0, names_above ps right.1)

pub map_ascends : (ps : Pairs) → IsMap ps → IsTrue (ascend key_of is_pair [] ps)
map_ascends ps map = pairs_ascend [] ps (names_above ps map.pairs) map.sorted map.pairs

names_ascend : (last : List ℕ) (names : List (List ℕ)) → AllByRecursion (λ k. byte_cmp last k ≡ Less) names → IsStrictlySortedBy byte_cmp names → AllByRecursion IsScript names → AllByRecursion (λ name. IsTrue (is_artifact_script name)) names → IsTrue (ascend itself is_script last names)
unfolding IsStrictlySortedBy is_script
names_ascend last [] above sorted right brought = refl
names_ascend last (n ∷ names) above sorted right brought =
    and_from _ _ (and_from _ _ (and_from _ _ (name_true n right.0.0) brought.0) (lt_true last n above.0)) (names_ascend n names sorted.0 sorted.1 right.1 brought.1)

scripts_above : (names : List (List ℕ)) → AllByRecursion IsScript names → AllByRecursion (λ k. byte_cmp [] k ≡ Less) names
scripts_above [] right = tt
scripts_above (n ∷ names) right = (above_none n right.0.0, scripts_above names right.1)

pub scripts_ascend : (names : List (List ℕ)) → AreScripts names → AllByRecursion (λ name. IsTrue (is_artifact_script name)) names → IsTrue (ascend itself is_script [] names)
scripts_ascend names are brought = names_ascend [] names (scripts_above names are.scripts) are.sorted are.scripts brought

-- ---- a map with its name

length_fits : (o : Option (List ℕ)) → (IsSomeAnd o (λ value. (1 ≤ length value) × (length value ≤ 128))) → has_length o ≡ true
length_fits None h = absurd h
length_fits (Some value) h = and_from _ _ (le-leb 1 (length value) h.0) (le-leb (length value) 128 h.1)

pub is_named-true : (ps : Pairs) → HasName ps → is_named ps ≡ true
unfolding is_named
is_named-true ps h = length_fits (get ps artifact_name) h

-- ---- back from the tests

fits_length : (o : Option (List ℕ)) → has_length o ≡ true → IsSomeAnd o (λ value. (1 ≤ length value) × (length value ≤ 128))
fits_length None h = absurd cc
fits_length (Some value) h = let parts = and_parts _ _ h in (leb-true 1 (length value) parts.0, leb-true (length value) 128 parts.1)

pub HasName-from : (ps : Pairs) → is_named ps ≡ true → HasName ps
unfolding is_named
HasName-from ps h = fits_length (get ps artifact_name) h

all_below : (a b : List ℕ) (ks : List (List ℕ)) → byte_cmp a b ≡ Less → AllByRecursion (λ k. byte_cmp b k ≡ Less) ks → AllByRecursion (λ k. byte_cmp a k ≡ Less) ks
all_below a b [] lt h = tt
all_below a b (k ∷ ks) lt h = (nat_list_cmp_total.trans a b k lt h.0, all_below a b ks lt h.1)

-- what ascends is above the last key, and in order
record Ascends (last : List ℕ) (ks : List (List ℕ)) : Type 0 where
  above : AllByRecursion (λ k. byte_cmp last k ≡ Less) ks
  sorted : IsStrictlySortedBy byte_cmp ks

ascends_cons : (last k : List ℕ) (ks : List (List ℕ)) → byte_cmp last k ≡ Less → Ascends k ks → Ascends last (k ∷ ks)
unfolding IsStrictlySortedBy
ascends_cons last k ks lt h = record { above = (lt, all_below last k ks lt h.above); sorted = (h.above, h.sorted) }

ascends_none : (last : List ℕ) → Ascends last []
unfolding IsStrictlySortedBy
ascends_none last = record { above = tt; sorted = tt }

pairs_in_order : (last : List ℕ) (ps : Pairs) → IsTrue (ascend key_of is_pair last ps) → Ascends last (keys_of ps) × AllByRecursion IsPair ps
pairs_in_order last [] h = (ascends_none last, tt)
pairs_in_order last (p ∷ ps) h =
    let parts = and_parts _ _ h in
    let front = and_parts _ _ parts.0 in
    let pair = and_parts _ _ front.0 in
    let rest = pairs_in_order p.0 ps parts.1 in
    (ascends_cons last p.0 (keys_of ps) (less (byte_cmp last p.0) front.1) rest.0, ((name_is p.0 pair.0, value_is p.1 pair.1), rest.1))

pub IsMap-from : (ps : Pairs) → length ps < 2 ^ 16 → IsTrue (ascend key_of is_pair [] ps) → IsMap ps
IsMap-from ps few h =
    let p = pairs_in_order [] ps h in
    record { sorted = p.0.sorted; pairs = p.1; few = omega (arith, few) }

has_place : (place : Option Place) → is_artifact_place place ≡ true → is_some place ≡ true
has_place None h = absurd cc
has_place (Some place) h = refl

names_in_order : (last : List ℕ) (names : List (List ℕ)) → IsTrue (ascend itself is_script last names) → Ascends last names × AllByRecursion IsScript names × AllByRecursion (λ name. IsTrue (is_artifact_script name)) names
unfolding is_script
names_in_order last [] h = (ascends_none last, tt, tt)
names_in_order last (n ∷ names) h =
    let parts = and_parts _ _ h in
    let front = and_parts _ _ parts.0 in
    let script = and_parts _ _ front.0 in
    let rest = names_in_order n names parts.1 in
    (ascends_cons last n names (less (byte_cmp last n) front.1) rest.0, ((name_is n script.0, has_place (place_of n) script.1), rest.1), (script.1, rest.2))

-- scripts that were read in order
pub record Listed (names : List (List ℕ)) : Type 0 where
  pub scripts : AreScripts names
  pub brought : AllByRecursion (λ name. IsTrue (is_artifact_script name)) names

pub Listed-from : (names : List (List ℕ)) → length names ≤ 64 → IsTrue (ascend itself is_script [] names) → Listed names
Listed-from names few h =
    let p = names_in_order [] names h in
    record { scripts = record { sorted = p.0.sorted; few = few; scripts = p.1 }; brought = p.2 }
