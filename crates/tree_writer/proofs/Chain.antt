-- What each check of the admission finds in a written tree.
use Rattle.std.proofs.Common.{◌≡◌, ℕ, suc, ◌+◌, ◌≤◌, ◌||◌, Bool, true, false, cond, List, [], ◌∷◌, ◌++◌, length, map, Option, Some, None, refl, sym, ap, ◌∙◌, arith, append-nil, append_assoc, length-append}
use Rattle.std.specs.Prelude.{find, slice_get}
use Rattle.std.specs.Option.{option_map, is_none}
use Rattle.std.specs.List.{AllByRecursion, list_any, filter_map, cons_option, range_with_len, zip}
use Rattle.std.specs.Str.{bytes_eq}
use Rattle.std.proofs.lemmas.List.Elements.{filter_map-append}
use Rattle.std.proofs.lemmas.Slice.Eq.{bytes_eq-Decides}
use Rattle.std.proofs.lemmas.List.Folds.{list_any-append}
use Rattle.sha2.specs.Sha256.{sha256}
use Rattle.io_model.specs.Source.{Tree, bytes_at}
use Rattle.manifest_sums.specs.declared.manifest.Line.{Line}
use Rattle.admit.specs.Places.{place_of, spelled, is_manifest}
use Rattle.admit.specs.Table.{FileHead, place_in}
use Rattle.admit.specs.Admit.{line_has, has_line, unlisted_path, not_listed, number_of, absent}
use Rattle.admit.specs.Differing.{differing_in, first_differing}
use Rattle.admit.specs.declared.place.TreePlace.{TreePlace}
use Rattle.admit.specs.declared.place.TreePlace.TheVariants.{Manifest}
use Rattle.admit.specs.declared.refusal.Refusal.TheVariants.{NotListed, Absent}
use Rattle.admit.specs.declared.refusal.Differs.{Differs}
use Rattle.admit.proofs.Placed.{place_spelled}
use Rattle.tree_writer.specs.Files.{Entry, as_file}
use Rattle.tree_writer.specs.Plan.{line_of}
use Rattle.tree_writer.proofs.ManifestBack.{IsEntry, AreDistinct, all_append}
use Rattle.tree_writer.proofs.Heads.{head, Lacks, apart_next, placed_at, bytes-placed}
use Rattle.std.proofs.lemmas.List.{map-append}

-- ---- small facts

pub or_true : (b : Bool) → b || true ≡ true
or_true true = refl
or_true false = refl

any_behind : {A : Type 0} (p : A → Bool) (before : List A) (x : A) (behind : List A) → p x ≡ true → list_any p (before ++ x ∷ behind) ≡ true
any_behind p before x behind h = list_any-append p before (x ∷ behind) ∙ rw h (or_true (list_any p before))

-- not the manifest, nor its signature
abbrev pub IsListed : Entry → Type 0
IsListed e = is_manifest e.0 ≡ false

-- ---- the manifest lists all files

unlisted : (lines : List Line) (e : Entry) → IsEntry e → has_line lines (spelled e.0) ≡ true → unlisted_path lines (Some (spelled e.0)) ≡ None
unlisted lines e he h = rw (h, place_spelled e.0 he.place) (either (is_manifest e.0))
  where
    either : (b : Bool) → cond (b || true) None (Some (spelled e.0)) ≡ None
    either true = refl
    either false = refl

manifest_unlisted : (lines : List Line) → unlisted_path lines (Some (spelled Manifest)) ≡ None
unfolding place_of
manifest_unlisted lines = refl

module _ (lines : List Line) where
  abbrev lacks_line : FileHead → Option (List ℕ)
  lacks_line h = unlisted_path lines h.path

  all_listed : (before es behind : List Entry) → lines ≡ map line_of (before ++ (es ++ behind)) → AllByRecursion IsEntry es → filter_map lacks_line (map head es) ≡ []
  all_listed before [] behind is h = refl
  all_listed before (e ∷ es) behind is h =
      let itself : line_has (spelled e.0) (line_of e) ≡ true = (bytes_eq-Decides (spelled e.0) (spelled e.0)).1 refl in
      let here : has_line lines (spelled e.0) ≡ true =
      ap (λ (ls : List Line). has_line ls (spelled e.0)) (is ∙ map-append line_of before (e ∷ (es ++ behind))) ∙ any_behind (line_has (spelled e.0)) (map line_of before) (line_of e) (map line_of (es ++ behind)) itself in
      ap (λ (o : Option (List ℕ)). cons_option o (filter_map lacks_line (map head es))) (unlisted lines e h.0 here)
      ∙ all_listed (before ++ e ∷ []) es behind (is ∙ ap (map line_of) (sym (append_assoc before (e ∷ []) (es ++ behind)))) h.1

pub none-unlisted : (front : List Entry) (manifest version : Entry) → manifest.0 ≡ Manifest → AllByRecursion IsEntry front → IsEntry version
    → not_listed (map line_of (front ++ version ∷ [])) (map head (front ++ manifest ∷ version ∷ [])) ≡ None
unfolding not_listed
none-unlisted front manifest version is h hv =
    let lines : List Line = map line_of (front ++ version ∷ []) in
    let f = lacks_line lines in
    let one : filter_map f (map head front) ≡ [] = all_listed lines [] front (version ∷ []) refl h in
    let two : f (head manifest) ≡ None = ap (λ (p : TreePlace). unlisted_path lines (Some (spelled p))) is ∙ manifest_unlisted lines in
    let three : filter_map f (map head (version ∷ [])) ≡ [] = all_listed lines front (version ∷ []) [] (ap (λ (es : List Entry). map line_of (front ++ es)) (sym (append-nil (version ∷ [])))) (hv, tt) in
    let whole : filter_map f (map head (front ++ manifest ∷ version ∷ [])) ≡ [] =
    ap (filter_map f) (map-append head front (manifest ∷ version ∷ [])) ∙ filter_map-append f (map head front) (map head (manifest ∷ version ∷ []))
    ∙ ap (λ (xs : List (List ℕ)). xs ++ filter_map f (map head (manifest ∷ version ∷ []))) one
    ∙ ap (λ (o : Option (List ℕ)). cons_option o (filter_map f (map head (version ∷ [])))) two ∙ three in
    ap (λ (xs : List (List ℕ)). option_map NotListed (slice_get xs 0)) whole

-- ---- each line has a file, and its number is known

pub number_is : (heads : List FileHead) (e : Entry) (n : ℕ) → IsEntry e → IsListed e → place_in heads (spelled e.0) ≡ Some n → number_of heads (line_of e) ≡ Some n
number_is heads e n he listed at = rw (place_spelled e.0 he.place, listed) at

module _ (heads : List FileHead) where
  -- the numbers of the entries of a part, from its first one on
  pub numbers-are : (before es behind : List Entry) (n : ℕ) → n ≡ length before → heads ≡ map head (before ++ (es ++ behind)) → AllByRecursion IsEntry before → AllByRecursion IsEntry es → AllByRecursion IsListed es
      → AllByRecursion (λ (e : Entry). Lacks e.0 before) es → AreDistinct es → (rest : List Line) (tail : List ℕ) → filter_map (number_of heads) rest ≡ tail
      → filter_map (number_of heads) (map line_of es ++ rest) ≡ range_with_len n (length es) ++ tail
  numbers-are before [] behind n long is hb h l apart d rest tail more = more
  numbers-are before (e ∷ es) behind n long is hb h l apart d rest tail more =
      let at : place_in heads (spelled e.0) ≡ Some n = ap (λ (hs : List FileHead). place_in hs (spelled e.0)) is ∙ placed_at before e (es ++ behind) hb h.0 apart.0 ∙ ap Some (sym long) in
      let next : n + 1 ≡ length (before ++ e ∷ []) = omega (arith, long, length-append before (e ∷ [])) in
      ap (λ (o : Option ℕ). cons_option o (filter_map (number_of heads) (map line_of es ++ rest))) (number_is heads e n h.0 l.0 at)
      ∙ ap (λ (ns : List ℕ). n ∷ ns)
      (numbers-are (before ++ e ∷ []) es behind (n + 1) next (is ∙ ap (map head) (sym (append_assoc before (e ∷ []) (es ++ behind)))) (all_append IsEntry before (e ∷ []) hb (h.0, tt)) h.1 l.1
      (apart_next before e es apart.1 d.0) d.1 rest tail more)

-- no line is without a number where each has one
all-numbered : (heads : List FileHead) (lines : List Line) → length (filter_map (number_of heads) lines) ≡ length lines → find (λ (line : Line). is_none (number_of heads line)) lines ≡ None
all-numbered heads [] h = refl
all-numbered heads (line ∷ lines) h = by (number_of heads line) (all-numbered heads lines) h
  where
    at-most : (ls : List Line) → length (filter_map (number_of heads) ls) ≤ length ls
    at-most [] = omega arith
    at-most (l ∷ ls) = elim (number_of heads l) as (λ (o : Option ℕ). length (cons_option o (filter_map (number_of heads) ls)) ≤ suc (length ls)) [
      | None ↦ omega (arith, at-most ls)
      | Some n ↦ omega (arith, at-most ls)
    ]

    by : (o : Option ℕ) → (length (filter_map (number_of heads) lines) ≡ length lines → find (λ (l : Line). is_none (number_of heads l)) lines ≡ None) → length (cons_option o (filter_map (number_of heads) lines)) ≡ suc (length lines)
        → cond (is_none o) (Some line) (find (λ (l : Line). is_none (number_of heads l)) lines) ≡ None
    by None more e = absurd (omega (arith, e, at-most lines))
    by (Some n) more e = more (omega (arith, e))

pub none-absent : (heads : List FileHead) (lines : List Line) → length (filter_map (number_of heads) lines) ≡ length lines → absent heads lines ≡ None
unfolding absent
none-absent heads lines h = ap (option_map (λ (line : Line). Absent line.path)) (all-numbered heads lines h)

-- ---- all sums are right

either_none : (b : Bool) → ◌≡◌ {A = Option Differs} (cond b None None) None
either_none true = refl
either_none false = refl

right_sum : (picks : List ℕ → Bool) (t : Tree) (e : Entry) (n : ℕ) → bytes_at t n ≡ e.1 → differing_in picks t (line_of e, n) ≡ None
right_sum picks t e n at =
    let same : bytes_eq (sha256 e.1) (sha256 (bytes_at t n)) ≡ true = (bytes_eq-Decides (sha256 e.1) (sha256 (bytes_at t n))).1 (ap sha256 (sym at)) in
    rw same (either_none (picks (spelled e.0)))

sums-right : (picks : List ℕ → Bool) (t : Tree) (before es behind : List Entry) (n : ℕ) → n ≡ length before → t ≡ map as_file (before ++ (es ++ behind)) → (rest : List Line) (tail : List ℕ) → filter_map (differing_in picks t) (zip rest tail) ≡ []
    → filter_map (differing_in picks t) (zip (map line_of es ++ rest) (range_with_len n (length es) ++ tail)) ≡ []
sums-right picks t before [] behind n long is rest tail more = more
sums-right picks t before (e ∷ es) behind n long is rest tail more =
    let at : bytes_at t n ≡ e.1 = ap (bytes_at t) long ∙ ap (λ (u : Tree). bytes_at u (length before)) is ∙ bytes-placed before e (es ++ behind) in
    let next : n + 1 ≡ length (before ++ e ∷ []) = omega (arith, long, length-append before (e ∷ [])) in
    ap (λ (o : Option Differs). cons_option o (filter_map (differing_in picks t) (zip (map line_of es ++ rest) (range_with_len (n + 1) (length es) ++ tail)))) (right_sum picks t e n at)
    ∙ sums-right picks t (before ++ e ∷ []) es behind (n + 1) next (is ∙ ap (map as_file) (sym (append_assoc before (e ∷ []) (es ++ behind)))) rest tail more

pub none-differing : (picks : List ℕ → Bool) (front : List Entry) (manifest version : Entry) →
    first_differing picks (map as_file (front ++ manifest ∷ version ∷ [])) (zip (map line_of (front ++ version ∷ [])) (range_with_len 0 (length front) ++ (length front + 1) ∷ [])) ≡ None
none-differing picks front manifest version =
    let t : Tree = map as_file (front ++ manifest ∷ version ∷ []) in
    let last : bytes_at t (length front + 1) ≡ version.1 =
    ap (bytes_at t) (omega (arith, length-append front (manifest ∷ []))) ∙ ap (λ (es : List Entry). bytes_at (map as_file es) (length (front ++ manifest ∷ []))) (sym (append_assoc front (manifest ∷ []) (version ∷ []))) ∙ bytes-placed (front ++ manifest ∷ []) version [] in
    let end : filter_map (differing_in picks t) (zip (line_of version ∷ []) ((length front + 1) ∷ [])) ≡ [] = ap (λ (o : Option Differs). cons_option o []) (right_sum picks t version (length front + 1) last) in
    ap (λ (xs : List Differs). slice_get xs 0)
    (ap (λ (ls : List Line). filter_map (differing_in picks t) (zip ls (range_with_len 0 (length front) ++ (length front + 1) ∷ []))) (map-append line_of front (version ∷ []))
    ∙ sums-right picks t [] front (manifest ∷ version ∷ []) 0 refl refl (line_of version ∷ []) ((length front + 1) ∷ []) end)
