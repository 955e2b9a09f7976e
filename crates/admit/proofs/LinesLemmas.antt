-- The manifest's lines and the files.
use Rattle.std.proofs.Common.{◌≡◌, ◌∙◌, ◌⊎◌, ℕ, ◌<◌, ◌||◌, zero, suc, Bool, true, false, cond, List, [], ◌∷◌, length, get_or, take, Option, Some, None, Ok, refl, sym, ap, subst, inl, inr, arith}
use Rattle.std.specs.Prelude.{◌≢◌, position, find, AllPairs, Result, Err}
use Rattle.std.specs.List.{AllZip, list_any, filter_map, cons_option}
use Rattle.std.specs.Option.{is_none, option_map}
use Rattle.std.proofs.lemmas.Bool.{both_ways, cases_lt}
use Rattle.std.proofs.lemmas.List.{get_or-take, length-take-le}
use Rattle.std.proofs.lemmas.List.Folds.{Any-from_list_any, list_any_at}
use Rattle.std.proofs.lemmas.Slice.Zip.{AllZip-long}
use Rattle.std.proofs.lemmas.Slice.Eq.{bytes_eq-Decides}
use Rattle.manifest_sums.specs.Manifest.{manifest_of}
use Rattle.manifest_sums.specs.declared.manifest.Line.{Line}
use Rattle.manifest_sums.specs.declared.manifest.ManifestFault.{ManifestFault}
use Rattle.manifest_sums.proofs.SpellingLemmas.{manifest_text}
use Rattle.admit.specs.Places.{place_of, is_manifest}
use Rattle.admit.specs.Table.{unless, has_path}
use Rattle.admit.specs.Admit.{refuse_manifest, line_has, has_line, unlisted_path, not_listed, number_of, absent, lines_of}
use Rattle.admit.specs.IsOf.{HasLine}
use Rattle.admit.specs.Table.{FileHead}
use Rattle.admit.specs.declared.lines.Listing.{Listing}
use Rattle.admit.specs.declared.refusal.Refusal.TheVariants.{NotListed, Absent}
use Rattle.admit.proofs.TableLemmas.{bind_ok, unless_ok, map_none, all_none, IsPlace, is_place}

-- ---- two lists side by side

pub zip_at : {A B : Type 0} (R : A → B → Type 0) (xs : List A) (ys : List B) (k : ℕ) (d : A) (e : B) → AllZip R xs ys → k < length xs → R (get_or xs k d) (get_or ys k e)
zip_at R [] ys k d e z lt = absurd (omega arith)
zip_at R (x ∷ xs) [] k d e z lt = absurd z
zip_at R (x ∷ xs) (y ∷ ys) zero d e z lt = z.0
zip_at R (x ∷ xs) (y ∷ ys) (suc k) d e z lt = zip_at R xs ys k d e z.1 (omega arith)

pub zip_weaker : {A B : Type 0} (R Q : A → B → Type 0) (xs : List A) (ys : List B) → ((x : A) (y : B) → R x y → Q x y) → AllZip R xs ys → AllZip Q xs ys
zip_weaker R Q [] [] f z = tt
zip_weaker R Q [] (y ∷ ys) f z = absurd z
zip_weaker R Q (x ∷ xs) [] f z = absurd z
zip_weaker R Q (x ∷ xs) (y ∷ ys) f z = (f x y z.0, zip_weaker R Q xs ys f z.1)

-- ---- lines and their numbers

number_is : (heads : List FileHead) (line : Line) (n : ℕ) → number_of heads line ≡ Some n → IsPlace heads line.path n
number_is heads line n h = elim (is_manifest (place_of line.path)) as (λ b. cond b None (position (has_path line.path) heads) ≡ Some n → IsPlace heads line.path n) [
  | true ↦ (λ e. absurd cc)
  | false ↦ is_place heads line.path n
] h

zipped_at : (heads : List FileHead) (line : Line) (lines : List Line) (o : Option ℕ) (rest : List ℕ) → ((n : ℕ) → o ≡ Some n → IsPlace heads line.path n) → (find (λ l. is_none (number_of heads l)) lines ≡ None → AllZip (λ l n. IsPlace heads l.path n) lines rest)
    → cond (is_none o) (Some line) (find (λ l. is_none (number_of heads l)) lines) ≡ None → AllZip (λ l n. IsPlace heads l.path n) (line ∷ lines) (cons_option o rest)
zipped_at heads line lines None rest is more h = absurd cc
zipped_at heads line lines (Some n) rest is more h = (is n refl, more h)

zipped : (heads : List FileHead) (lines : List Line) → find (λ line. is_none (number_of heads line)) lines ≡ None → AllZip (λ line n. IsPlace heads line.path n) lines (filter_map (number_of heads) lines)
zipped heads [] h = tt
zipped heads (line ∷ lines) h = zipped_at heads line lines (number_of heads line) (filter_map (number_of heads) lines) (number_is heads line) (zipped heads lines) h

find_none : (o : Option Line) → option_map (λ line. Absent line.path) o ≡ None → o ≡ None
find_none None h = refl
find_none (Some line) h = absurd cc

pub record Listed (heads : List FileHead) (l : Listing) : Type 0 where
  pub lines : not_listed l.manifest heads ≡ None
  pub places : AllZip (λ line n. IsPlace heads line.path n) l.manifest l.numbers
  pub distinct : AllPairs (λ a b. a.path ≢ b.path) l.manifest

-- no path of a manifest stands twice
right_lines : (bytes : List ℕ) (r : Result (List Line) ManifestFault) (lines : List Line) → r ≡ manifest_of bytes → refuse_manifest r ≡ Ok lines → AllPairs (λ a b. a.path ≢ b.path) lines
right_lines bytes (Ok found) lines is h =
    let same : found ≡ lines = cc in
    let read : manifest_of bytes ≡ Ok lines = sym is ∙ ap Ok same in
    ((manifest_text bytes lines).0 read).right.distinct
right_lines bytes (Err fault) lines is h = absurd cc

pub listed : (heads : List FileHead) (bytes : List ℕ) (l : Listing) → lines_of heads bytes ≡ Ok l → Listed heads l
unfolding lines_of absent
listed heads bytes l h =
    let a = bind_ok (refuse_manifest (manifest_of bytes)) _ l h in
    let b = bind_ok (unless (not_listed a.0 heads)) _ l a.2 in
    let e = bind_ok (unless (absent heads a.0)) _ l b.2 in
    let made : Listing = record { manifest = a.0; numbers = filter_map (number_of heads) a.0 } in
    let same : made ≡ l = cc (e.2) in
    let none = find_none (find (λ line. is_none (number_of heads line)) a.0) (unless_ok (absent heads a.0) e.0 e.1) in
    let places : AllZip (λ line n. IsPlace heads line.path n) made.manifest made.numbers = zipped heads a.0 none in
    record {
      lines = ap (λ (x : Listing). not_listed x.manifest heads) (sym same) ∙ unless_ok (not_listed a.0 heads) b.0 b.1;
      places = subst (λ (x : Listing). AllZip (λ line n. IsPlace heads line.path n) x.manifest x.numbers) same places;
      distinct = subst (λ (x : Listing). AllPairs (λ a b. a.path ≢ b.path) x.manifest) same (right_lines bytes (manifest_of bytes) a.0 refl a.1);
    }

-- as many numbers as lines
pub numbered : (heads : List FileHead) (bytes : List ℕ) (l : Listing) → lines_of heads bytes ≡ Ok l → length l.numbers ≡ length l.manifest
numbered heads bytes l h = AllZip-long (λ line n. IsPlace heads line.path n) l.manifest l.numbers (listed heads bytes l h).places

-- ---- files and their lines

either : (m l : Bool) (path : List ℕ) → cond (m || l) None (Some path) ≡ None → (m ≡ true) ⊎ (l ≡ true)
either true l path h = inl refl
either false true path h = inr refl
either false false path h = absurd cc

pub or_true : (a b : Bool) → a || b ≡ true → (a ≡ true) ⊎ (b ≡ true)
or_true true b h = inl refl
or_true false b h = inr h

pub has_line_at : (heads : List FileHead) (lines : List Line) (path : List ℕ) (n : ℕ) (d : FileHead) → not_listed lines heads ≡ None → n < length heads → (get_or heads n d).path ≡ Some path → (is_manifest (place_of path) ≡ true) ⊎ HasLine path lines
unfolding not_listed
has_line_at heads lines path n d h lt here =
    let none : unlisted_path lines (get_or heads n d).path ≡ None = all_none (λ (head : FileHead). unlisted_path lines head.path) heads (map_none NotListed _ h) n d lt in
    let e : unlisted_path lines (Some path) ≡ None = ap (unlisted_path lines) (sym here) ∙ none in
    elim (either (is_manifest (place_of path)) (has_line lines path) path e) [
      | inl m ↦ inl m
      | inr t ↦ (let a = Any-from_list_any (line_has path) lines t in inr (a.0, a.1, a.2, a.3, (bytes_eq-Decides a.1.path path).0 a.4))
    ]

-- a file but the manifest has a line
pub line_of_file : (heads : List FileHead) (lines : List Line) (path : List ℕ) (n : ℕ) (d : FileHead) → not_listed lines heads ≡ None → is_manifest (place_of path) ≡ false → n < length heads → (get_or heads n d).path ≡ Some path → HasLine path lines
line_of_file heads lines path n d h other lt here = elim (has_line_at heads lines path n d h lt here) [
  | inl m ↦ (absurd (both_ways _ other m))
  | inr t ↦ t
]

pub header_line : (heads : List FileHead) (lines : List Line) (path : List ℕ) (n : ℕ) → not_listed lines heads ≡ None → is_manifest (place_of path) ≡ false → IsPlace heads path n → HasLine path lines
header_line heads lines path n h other p =
    let none : FileHead = record { path = None; length = 0 } in
    line_of_file heads lines path n none h other p.within (p.here none)

has_itself : (path : List ℕ) (found : Option (List ℕ)) (length : ℕ) → found ≡ Some path → has_path path (record { path = found; length = length }) ≡ true
has_itself path None len h = absurd cc
has_itself path (Some name) len h = let e : name ≡ path = cc in (bytes_eq-Decides name path).1 e

-- a line's number is that of each file with its path
pub number_there : (heads : List FileHead) (path : List ℕ) (m n : ℕ) (d : FileHead) → IsPlace heads path m → n < length heads → (get_or heads n d).path ≡ Some path → list_any (has_path path) (take n heads) ≡ false → m ≡ n
number_there heads path m n d p lt here fresh = elim (cases_lt m n) [
  | inl less ↦ (
      let long : length (take n heads) ≡ n = length-take-le n heads (omega arith) in
      let within : m < length (take n heads) = omega (arith, long) in
      let at : has_path path (get_or (take n heads) m d) ≡ true = ap (has_path path) (get_or-take n heads m d less) ∙ has_itself path (get_or heads m d).path (get_or heads m d).length (p.here d) in
      absurd (both_ways _ fresh (list_any_at (has_path path) (take n heads) m d within at)))
  | inr le ↦ elim (cases_lt n m) [
    | inl less ↦ (absurd (both_ways _ (p.before d n less) (has_itself path (get_or heads n d).path (get_or heads n d).length here)))
    | inr ge ↦ (omega arith)
  ]
]
