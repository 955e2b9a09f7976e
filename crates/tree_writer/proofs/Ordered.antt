-- Files in byte order of their names.
use Rattle.std.proofs.Common.{◌≡◌, ◌≢◌, ℕ, suc, ◌+◌, ◌||◌, Bool, true, false, cond, not, List, [], ◌∷◌, ◌++◌, length, map, Option, Some, None, Ordering, Less, Equal, Greater, refl, sym, ap, ◌∙◌, arith, append-nil, append_assoc}
use Rattle.std.specs.Prelude.{⊤, fold}
use Rattle.std.specs.List.{AllByRecursion, list_any}
use Rattle.std.specs.Ordering.{is_lt, is_eq, ordering_reverse}
use Rattle.std.specs.BTreeSet.{insert_key}
use Rattle.std.proofs.lemmas.Bool.{and_parts, both_ways}
use Rattle.std.proofs.lemmas.Cmp.{nat_list_cmp_total}
use Rattle.std.proofs.lemmas.Slice.Eq.{bytes_eq-Decides}
use Rattle.std.proofs.lemmas.List.{length-map}
use Rattle.std.proofs.lemmas.List.Folds.{list_any-append}
use Rattle.upd_text.specs.Order.{byte_cmp, is_below}
use Rattle.provides_map.proofs.Lookups.{same_key}
use Rattle.io_model.specs.Source.{Tree, File}
use Rattle.tree_writer.specs.Order.{Named, named, insert, by_name}
use Rattle.tree_writer.specs.Faults.{FilePath, same_path, is_fresh, first_stale}
use Rattle.tree_writer.proofs.ManifestBack.{all_append}

-- ---- what is kept when a file goes in

less_is : (o : Ordering) → is_lt o ≡ true → o ≡ Less
less_is Less h = refl
less_is Equal h = absurd cc
less_is Greater h = absurd cc

insert-all : (P : Named → Type 0) (fs : List Named) (f : Named) → P f → AllByRecursion P fs → AllByRecursion P (insert fs f)
insert-all P [] f p h = (p, tt)
insert-all P (g ∷ gs) f p h = elim (is_below f.0 g.0) as (λ b. AllByRecursion P (cond b (f ∷ g ∷ gs) (g ∷ insert gs f))) [
  | true ↦ (p, h)
  | false ↦ (h.0, insert-all P gs f p h.1)
]

insert-length : (fs : List Named) (f : Named) → length (insert fs f) ≡ suc (length fs)
insert-length [] f = refl
insert-length (g ∷ gs) f = elim (is_below f.0 g.0) as (λ b. length (cond b (f ∷ g ∷ gs) (g ∷ insert gs f)) ≡ suc (suc (length gs))) [
  | true ↦ refl
  | false ↦ ap suc (insert-length gs f)
]

-- each name is below those behind it
abbrev pub AllBelow : List ℕ → List Named → Type 0
AllBelow name fs = AllByRecursion (λ f. byte_cmp name f.0 ≡ Less) fs

abbrev pub AreSorted : List Named → Type 0
AreSorted [] = ⊤
AreSorted (f ∷ fs) = AllBelow f.0 fs × AreSorted fs

pub all_weaker : {A : Type 0} (P Q : A → Type 0) → ((x : A) → P x → Q x) → (xs : List A) → AllByRecursion P xs → AllByRecursion Q xs
all_weaker P Q f [] h = tt
all_weaker P Q f (x ∷ xs) h = (f x h.0, all_weaker P Q f xs h.1)

above_if : (f g : List ℕ) (o : Ordering) → byte_cmp f g ≡ o → is_lt o ≡ false → g ≢ f → byte_cmp g f ≡ Less
above_if f g Less e h other = absurd cc
above_if f g Equal e h other = absurd (other (sym (same_key f g (ap is_eq e))))
above_if f g Greater e h other = nat_list_cmp_total.antisymm g f ∙ ap ordering_reverse e

insert-sorted : (fs : List Named) (f : Named) → AllByRecursion (λ g. g.0 ≢ f.0) fs → AreSorted fs → AreSorted (insert fs f)
insert-sorted [] f fresh s = (tt, tt)
insert-sorted (g ∷ gs) f fresh s = by_test (insert-sorted gs f fresh.1 s.1) (is_below f.0 g.0) refl
  where
    by_test : AreSorted (insert gs f) → (b : Bool) → is_below f.0 g.0 ≡ b → AreSorted (cond b (f ∷ g ∷ gs) (g ∷ insert gs f))
    by_test more true e =
        let below : byte_cmp f.0 g.0 ≡ Less = less_is (byte_cmp f.0 g.0) e in
        let over : AllBelow f.0 gs = all_weaker (λ (h : Named). byte_cmp g.0 h.0 ≡ Less) (λ (h : Named). byte_cmp f.0 h.0 ≡ Less) (λ (h : Named) (k : byte_cmp g.0 h.0 ≡ Less). nat_list_cmp_total.trans f.0 g.0 h.0 below k) gs s.0 in
        ((below, over), s)
    by_test more false e =
        let above : byte_cmp g.0 f.0 ≡ Less = above_if f.0 g.0 (byte_cmp f.0 g.0) refl e fresh.0 in
        (insert-all (λ (h : Named). byte_cmp g.0 h.0 ≡ Less) gs f above s.0, more)

-- ---- all files, none of which is stale

fold-all : (P : Named → Type 0) (done fs : List Named) → AllByRecursion P done → AllByRecursion P fs → AllByRecursion P (fold insert done fs)
fold-all P done [] h k = h
fold-all P done (f ∷ fs) h k = fold-all P (insert done f) fs (insert-all P done f k.0 h) k.1

fold-length : (done fs : List Named) → length (fold insert done fs) ≡ length done + length fs
fold-length done [] = omega arith
fold-length done (f ∷ fs) = omega (arith, fold-length (insert done f) fs, insert-length done f)

pub length-by_name : (files : Tree) → length (by_name files) ≡ length files
length-by_name files = omega (arith, fold-length [] (map named files), length-map files named)

pub stale_tests : (test : List ℕ → Bool) (earlier : List FilePath) (name : FilePath) (n : ℕ) (rest : Option ℕ) → cond (is_fresh test earlier name) rest (Some n) ≡ None → (is_fresh test earlier name ≡ true) × (rest ≡ None)
stale_tests test earlier name n rest h = by_test (is_fresh test earlier name) h
  where
    by_test : (b : Bool) → cond b rest (Some n) ≡ None → (b ≡ true) × (rest ≡ None)
    by_test true k = (refl, k)
    by_test false k = absurd cc

-- a file's name is as the test wants it
abbrev Passes : (List ℕ → Bool) → File → Type 0
Passes test (None, bytes) = ⊥
Passes test (Some name, bytes) = test name ≡ true

not_true : (b : Bool) → not b ≡ true → b ≡ false
not_true true h = absurd cc
not_true false h = refl

any_push : (p : FilePath → Bool) (xs : List FilePath) (x : FilePath) → p x ≡ true → list_any p (xs ++ x ∷ []) ≡ true
any_push p xs x h = list_any-append p xs (x ∷ []) ∙ rw h (or_true (list_any p xs))
  where
    or_true : (b : Bool) → b || true ≡ true
    or_true true = refl
    or_true false = refl

any_kept : (p : FilePath → Bool) (xs : List FilePath) (x : FilePath) → list_any p xs ≡ true → list_any p (xs ++ x ∷ []) ≡ true
any_kept p xs x h = list_any-append p xs (x ∷ []) ∙ rw h refl

abbrev AreAmong : List FilePath → List Named → Type 0
AreAmong earlier fs = AllByRecursion (λ f. list_any (same_path f.0) earlier ≡ true) fs

pub record InOrder (test : List ℕ → Bool) (fs : List Named) : Type 0 where
  pub sorted : AreSorted fs
  pub pass : AllByRecursion (λ f. test f.0 ≡ true) fs

ordered_from : (test : List ℕ → Bool) (earlier : List FilePath) (done : List Named) (files : Tree) → AreAmong earlier done → InOrder test done → first_stale test earlier files ≡ None → InOrder test (fold insert done (map named files))
ordered_from test earlier done [] among o h = o
ordered_from test earlier done ((None, bytes) ∷ files) among o h = absurd cc
ordered_from test earlier done ((Some name, bytes) ∷ files) among o h =
    let t = stale_tests test earlier (Some name) (length earlier) (first_stale test (earlier ++ Some name ∷ []) files) h in
    let p = and_parts (test name) (not (list_any (same_path name) earlier)) t.0 in
    let absent : list_any (same_path name) earlier ≡ false = not_true _ p.1 in
    let f : Named = (name, bytes) in
    let fresh : AllByRecursion (λ (g : Named). g.0 ≢ name) done =
    all_weaker (λ (g : Named). list_any (same_path g.0) earlier ≡ true) (λ (g : Named). g.0 ≢ name) (λ (g : Named) (k : list_any (same_path g.0) earlier ≡ true) (same : g.0 ≡ name). both_ways _ absent (ap (λ (n : List ℕ). list_any (same_path n) earlier) (sym same) ∙ k)) done among in
    let more : AreAmong (earlier ++ Some name ∷ []) done = all_weaker (λ (g : Named). list_any (same_path g.0) earlier ≡ true) (λ (g : Named). list_any (same_path g.0) (earlier ++ Some name ∷ []) ≡ true) (λ (g : Named) (k : list_any (same_path g.0) earlier ≡ true). any_kept (same_path g.0) earlier (Some name) k) done among in
    let itself : list_any (same_path name) (earlier ++ Some name ∷ []) ≡ true = any_push (same_path name) earlier (Some name) ((bytes_eq-Decides name name).1 refl) in
    ordered_from test (earlier ++ Some name ∷ []) (insert done f) files
    (insert-all (λ (g : Named). list_any (same_path g.0) (earlier ++ Some name ∷ []) ≡ true) done f itself more)
    (record { sorted = insert-sorted done f fresh o.sorted; pass = insert-all (λ (g : Named). test g.0 ≡ true) done f p.0 o.pass })
    t.1

pub ordered : (test : List ℕ → Bool) (files : Tree) → first_stale test [] files ≡ None → InOrder test (by_name files)
ordered test files h = ordered_from test [] [] files tt (record { sorted = tt; pass = tt }) h

-- what is true of the files is true of them in order
pub by_name-all : (P : Named → Type 0) (files : Tree) → AllByRecursion (λ file. P (named file)) files → AllByRecursion P (by_name files)
by_name-all P files h = fold-all P [] (map named files) tt (all_map files h)
  where
    all_map : (fs : Tree) → AllByRecursion (λ file. P (named file)) fs → AllByRecursion P (map named fs)
    all_map [] k = tt
    all_map (f ∷ fs) k = (k.0, all_map fs k.1)

-- ---- names in order stay where they are

insert-last : (done : List (List ℕ)) (name : List ℕ) → AllByRecursion (λ n. byte_cmp n name ≡ Less) done → insert_key byte_cmp done name ≡ done ++ name ∷ []
insert-last [] name h = refl
insert-last (n ∷ done) name h =
    let over : byte_cmp name n ≡ Greater = nat_list_cmp_total.antisymm name n ∙ ap ordering_reverse h.0 in
    rw over (ap (λ (ns : List (List ℕ)). n ∷ ns) (insert-last done name h.1))

stay_behind : (done : List (List ℕ)) (fs : List Named) → AllByRecursion (λ n. AllBelow n fs) done → AreSorted fs → fold (insert_key byte_cmp) done (map (λ f. f.0) fs) ≡ done ++ map (λ f. f.0) fs
stay_behind done [] before s = sym (append-nil done)
stay_behind done (f ∷ fs) before s =
    let under : AllByRecursion (λ n. byte_cmp n f.0 ≡ Less) done = all_weaker (λ (n : List ℕ). AllBelow n (f ∷ fs)) (λ (n : List ℕ). byte_cmp n f.0 ≡ Less) (λ (n : List ℕ) (h : AllBelow n (f ∷ fs)). h.0) done before in
    let rest : AllByRecursion (λ n. AllBelow n fs) done = all_weaker (λ (n : List ℕ). AllBelow n (f ∷ fs)) (λ (n : List ℕ). AllBelow n fs) (λ (n : List ℕ) (h : AllBelow n (f ∷ fs)). h.1) done before in
    ap (λ (ns : List (List ℕ)). fold (insert_key byte_cmp) ns (map (λ (g : Named). g.0) fs)) (insert-last done f.0 under)
    ∙ stay_behind (done ++ f.0 ∷ []) fs (all_append (λ (n : List ℕ). AllBelow n fs) done (f.0 ∷ []) rest (s.0, tt)) s.1
    ∙ append_assoc done (f.0 ∷ []) (map (λ (g : Named). g.0) fs)

pub names_stay : (fs : List Named) → AreSorted fs → fold (insert_key byte_cmp) [] (map (λ f. f.0) fs) ≡ map (λ f. f.0) fs
names_stay fs s = stay_behind [] fs tt s
