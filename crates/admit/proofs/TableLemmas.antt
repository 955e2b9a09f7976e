-- What a table that is accepted says of its files.
use Rattle.std.proofs.Common.{◌≡◌, ◌∙◌, ℕ, ◌<◌, ◌≤◌, ◌&&◌, Bool, true, false, cond, ltb, List, [], ◌∷◌, length, get_or, take, Option, Some, None, Result, Ok, Err, refl, sym, ap, subst, inl, inr, arith}
use Rattle.std.specs.Prelude.{not, fold, slice_get, codes, IsSome}
use Rattle.std.specs.List.{All, list_any, filter_map, cons_option, enumerate_from}
use Rattle.std.specs.Option.{ok_or, option_map, option_and_then}
use Rattle.std.proofs.lemmas.Bool.Decides.{nat_tests}
use Rattle.std.proofs.lemmas.List.Elements.{All-nil, All-cons}
use Rattle.std.proofs.lemmas.List.Quantifiers.{position-Some}
use Rattle.std.proofs.lemmas.List.FromFn.{length-enumerate_from, get_or-enumerate_from}
use Rattle.std.proofs.lemmas.Option.{slice_get_cases, get_or_from_slice_get}
use Rattle.std.proofs.lemmas.Slice.Eq.{bytes_eq-Decides}
use Rattle.upd_text.specs.Order.{is_below}
use Rattle.upd_text.specs.Results.{◌>>=◌}
use Rattle.admit.specs.Places.{place_of, place_at, is_allowed, is_barred, is_header, info_at}
use Rattle.admit.specs.Table.{unless, first_some, is_named, has_path, place_in, bad_path, first_bad_path, path_of, needed, long_path, lesser, least, too_long, info_in, IsShortAt, AreIn, table_of}
use Rattle.admit.specs.Table.{FileHead}
use Rattle.admit.specs.declared.table.Places.{Places}
use Rattle.admit.specs.declared.refusal.Refusal.{Refusal}
use Rattle.admit.specs.declared.refusal.Refusal.TheVariants.{HeaderTooLong}
use Rattle.admit.specs.declared.refusal.Which.{Which}
use Rattle.admit.specs.declared.refusal.Which.TheVariants as which
use Rattle.admit.proofs.Placed.{info_header}

-- ---- checks in a row

pub bind_ok : {A B : Type 0} (m : Result A Refusal) (f : A → Result B Refusal) (y : B) → (m >>= f) ≡ Ok y → (x : A) × (m ≡ Ok x) × (f x ≡ Ok y)
bind_ok (Ok x) f y h = (x, refl, h)
bind_ok (Err e) f y h = absurd cc

pub unless_ok : (o : Option Refusal) (u : Unit {0}) → unless o ≡ Ok u → o ≡ None
unless_ok None u h = refl
unless_ok (Some refusal) u h = absurd cc

pub map_none : {A : Type 0} (why : A → Refusal) (o : Option A) → option_map why o ≡ None → o ≡ None
map_none why None h = refl
map_none why (Some x) h = absurd cc

-- ---- the first of what is found

none_first : {B : Type 0} (o : Option B) (rest : List B) → slice_get (cons_option o rest) 0 ≡ None → (o ≡ None) × (slice_get rest 0 ≡ None)
none_first None rest h = (refl, h)
none_first (Some y) rest h = absurd cc

-- nothing is found where nothing is the first
pub all_none : {A B : Type 0} (f : A → Option B) (xs : List A) → first_some f xs ≡ None → All (λ x. f x ≡ None) xs
all_none f [] h = All-nil (λ x. f x ≡ None)
all_none f (x ∷ xs) h = let t = none_first (f x) (filter_map f xs) h in All-cons (λ x. f x ≡ None) x xs t.0 (all_none f xs t.1)

some_least : (paths : List (List ℕ)) (path : List ℕ) → fold lesser (Some path) paths ≡ None → ⊥
some_least [] path h = cc
some_least (q ∷ paths) path h = elim (is_below q path) as (λ b. fold lesser (cond b (Some q) (Some path)) paths ≡ None → ⊥) [ true ↦ some_least paths q | false ↦ some_least paths path ] h

none_least : (paths : List (List ℕ)) → least paths ≡ None → paths ≡ []
none_least [] h = refl
none_least (path ∷ paths) h = absurd (some_least paths path h)

cons_none : {B : Type 0} (o : Option B) (rest : List B) → cons_option o rest ≡ [] → (o ≡ None) × (rest ≡ [])
cons_none None rest h = (refl, h)
cons_none (Some y) rest h = absurd cc

pub none_mapped : {A B : Type 0} (f : A → Option B) (xs : List A) → filter_map f xs ≡ [] → All (λ x. f x ≡ None) xs
none_mapped f [] h = All-nil (λ x. f x ≡ None)
none_mapped f (x ∷ xs) h = let t = cons_none (f x) (filter_map f xs) h in All-cons (λ x. f x ≡ None) x xs t.0 (none_mapped f xs t.1)

-- nothing is found where nothing is the least
pub none_at_all : {A : Type 0} (why : List ℕ → Refusal) (f : A → Option (List ℕ)) (xs : List A) → option_map why (least (filter_map f xs)) ≡ None → All (λ x. f x ≡ None) xs
none_at_all why f xs h = none_mapped f xs (none_least (filter_map f xs) (map_none why (least (filter_map f xs)) h))

-- ---- paths

pub record GoodPath (earlier : List FileHead) (found : Option (List ℕ)) : Type 0 where
  pub path : List ℕ
  pub is : found ≡ Some path
  pub allowed : is_allowed (place_of path) ≡ true
  pub fresh : list_any (has_path path) earlier ≡ false

path_tests : (a b c : Bool) (x y z : Refusal) → cond a (Some x) (cond (not b) (Some y) (cond c (Some z) None)) ≡ None → (b ≡ true) × (c ≡ false)
path_tests true b c x y z h = absurd cc
path_tests false true true x y z h = absurd cc
path_tests false true false x y z h = (refl, refl)
path_tests false false c x y z h = absurd cc

good_path : (earlier : List FileHead) (found : Option (List ℕ)) → bad_path earlier found ≡ None → GoodPath earlier found
unfolding bad_path
good_path earlier None h = absurd cc
good_path earlier (Some path) h =
    let t = path_tests (is_barred (place_of path)) (is_allowed (place_of path)) (list_any (has_path path) earlier) _ _ _ h in
    record { path = path; is = refl; allowed = t.0; fresh = t.1 }

-- each path is allowed, and that of no earlier file
pub good_paths : (heads : List FileHead) → first_bad_path heads ≡ None → (i : ℕ) (d : FileHead) → i < length heads → GoodPath (take i heads) (get_or heads i d).path
unfolding first_bad_path
good_paths heads h i d lt =
    let f : ℕ × FileHead → Option Refusal = λ file. bad_path (take file.0 heads) file.1.path in
    let long : i < length (enumerate_from 0 heads) = omega (arith, length-enumerate_from 0 heads) in
    let here : f (get_or (enumerate_from 0 heads) i (i, d)) ≡ None = all_none f (enumerate_from 0 heads) h i (i, d) long in
    let same : get_or (enumerate_from 0 heads) i (i, d) ≡ (i, get_or heads i d) = get_or-enumerate_from 0 heads i (i, d) lt ∙ ap (λ k. (k, get_or heads i d)) (omega arith) in
    good_path (take i heads) (get_or heads i d).path (sym (ap f same) ∙ here)

named : (path : List ℕ) (found : Option (List ℕ)) → is_named path found ≡ true → found ≡ Some path
named path None h = absurd cc
named path (Some name) h = ap Some ((bytes_eq-Decides name path).0 h)

pub record IsPlace (heads : List FileHead) (path : List ℕ) (i : ℕ) : Type 0 where
  pub within : i < length heads
  pub here : (d : FileHead) → (get_or heads i d).path ≡ Some path
  pub before : (d : FileHead) (k : ℕ) → k < i → has_path path (get_or heads k d) ≡ false

-- the first file with the path
pub is_place : (heads : List FileHead) (path : List ℕ) (i : ℕ) → place_in heads path ≡ Some i → IsPlace heads path i
is_place heads path i h =
    let at = λ (d : FileHead). position-Some (has_path path) heads i d h in
    let none : FileHead = record { path = None; length = 0 } in
    record {
      within = (at none).0;
      here = λ d. named path (get_or heads i d).path (at d).1;
      before = λ d k lt. (at d).2 k lt;
    }

-- ---- the files that must be there

ok_some : {A : Type 0} (o : Option A) (e : Refusal) (x : A) → ok_or o e ≡ Ok x → o ≡ Some x
ok_some None e x h = absurd cc
ok_some (Some y) e x h = cc

pub place_of_needed : (heads : List FileHead) (w : Which) (i : ℕ) → needed heads w ≡ Ok i → IsPlace heads (path_of w) i
unfolding needed
place_of_needed heads w i h = is_place heads (path_of w) i (ok_some (place_in heads (path_of w)) _ i h)

short_path : (path : List ℕ) (len : ℕ) → is_header (place_of path) ≡ true → long_path (Some path) len ≡ None → len ≤ 65536
short_path path len header h = elim (ltb 65536 len) as (λ b. b ≡ ltb 65536 len → cond (b && is_header (place_of path)) (Some path) None ≡ None → len ≤ 65536) [
  | true ↦ (λ e n. absurd cc)
  | false ↦ (λ e n. grind (arith, nat_tests))
] refl h

short_at : (heads : List FileHead) (path : List ℕ) (i : ℕ) → too_long heads ≡ None → is_header (place_of path) ≡ true → IsPlace heads path i → IsShortAt heads i
unfolding too_long
short_at heads path i h header p = record {
  within = p.within;
  short = λ d. let e : long_path (get_or heads i d).path (get_or heads i d).length ≡ None = none_at_all HeaderTooLong (λ (head : FileHead). long_path head.path head.length) heads h i d p.within in
      short_path path (get_or heads i d).length header (ap (λ o. long_path o (get_or heads i d).length) (sym (p.here d)) ∙ e);
}

pub record Accepted (heads : List FileHead) (places : Places) : Type 0 where
  pub paths : first_bad_path heads ≡ None
  pub version : IsPlace heads (codes "version") places.version
  pub manifest : IsPlace heads (codes "manifest") places.manifest
  pub header_info : IsPlace heads (codes "header/header-info") places.header_info
  pub type_info : (i : ℕ) × IsPlace heads (codes "header/headers/0000/type-info") i
  pub lengths : too_long heads ≡ None

pub accepted : (heads : List FileHead) (places : Places) → table_of heads ≡ Ok places → Accepted heads places
unfolding table_of
accepted heads places h =
    let a = bind_ok (unless (first_bad_path heads)) _ places h in
    let version = bind_ok (needed heads which.Version) _ places a.2 in
    let manifest = bind_ok (needed heads which.Manifest) _ places version.2 in
    let header_info = bind_ok (needed heads which.HeaderInfo) _ places manifest.2 in
    let type_info = bind_ok (needed heads which.TypeInfo) _ places header_info.2 in
    let b = bind_ok (unless (too_long heads)) _ places type_info.2 in
    let places_of : Places = record { version = version.0; manifest = manifest.0; header_info = header_info.0 } in
    let same : places_of ≡ places = cc (b.2) in
    let at = λ (w : Which) (f : Places → ℕ) (e : needed heads w ≡ Ok (f places_of)). place_of_needed heads w (f places) (e ∙ ap (λ p. Ok (f p)) same) in
    record {
      paths = unless_ok (first_bad_path heads) a.0 a.1;
      version = at which.Version (λ p. p.version) version.1;
      manifest = at which.Manifest (λ p. p.manifest) manifest.1;
      header_info = at which.HeaderInfo (λ p. p.header_info) header_info.1;
      type_info = (type_info.0, place_of_needed heads which.TypeInfo type_info.0 type_info.1);
      lengths = unless_ok (too_long heads) b.0 b.1;
    }

short_info : (heads : List FileHead) (i : ℕ) → too_long heads ≡ None → IsSome (info_in heads i) → IsShortAt heads i
unfolding too_long
short_info heads i h some = elim (slice_get_cases heads i).1 [
  | inl (head, within, at, same) ↦ (
      let there : IsSome (info_at (place_at head.path)) = subst (λ (o : Option FileHead). IsSome (option_and_then (λ (x : FileHead). info_at (place_at x.path)) o)) at some in
      record {
        within = within;
        short = λ d.
            let e : long_path (get_or heads i d).path (get_or heads i d).length ≡ None = none_at_all HeaderTooLong (λ (x : FileHead). long_path x.path x.length) heads h i d within in
            let is : get_or heads i d ≡ head = get_or_from_slice_get heads i head d at in
            info_short head (info_at (place_at head.path)) refl there (ap (λ (x : FileHead). long_path x.path x.length) (sym is) ∙ e) is;
      })
  | inr (past, at) ↦ (absurd (nothing (subst (λ (o : Option FileHead). IsSome (option_and_then (λ (x : FileHead). info_at (place_at x.path)) o)) at some)))
]
  where
    nothing : IsSome {T = ℕ} None → ⊥
    nothing e = cc

    info_short : (head : FileHead) (o : Option ℕ) → info_at (place_at head.path) ≡ o → IsSome o → long_path head.path head.length ≡ None → {x : FileHead} → x ≡ head → x.length ≤ 65536
    info_short head None is there none same = absurd (nothing there)
    info_short head (Some k) is there none same =
        let p = info_header head.path k is in
        let len : head.length ≤ 65536 = short_path p.path head.length p.header (ap (λ o. long_path o head.length) (sym p.is) ∙ none) in
        rw same len

-- the files that are read whole are there and short
pub are_in : (heads : List FileHead) (places : Places) → table_of heads ≡ Ok places → AreIn heads places
unfolding place_of
are_in heads places h =
    let a = accepted heads places h in
    record {
      version = short_at heads (codes "version") places.version a.lengths refl a.version;
      manifest = short_at heads (codes "manifest") places.manifest a.lengths refl a.manifest;
      header_info = short_at heads (codes "header/header-info") places.header_info a.lengths refl a.header_info;
      type_infos = λ i some. short_info heads i a.lengths some;
    }
