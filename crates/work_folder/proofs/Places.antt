-- No two files of the folder stand at one place.
use Rattle.std.proofs.Common.{rules, ◌≡◌, ◌≢◌, ℕ, ◌+◌, ◌<◌, Bool, true, false, List, [], ◌∷◌, ◌++◌, Option, Some, None, refl, sym, ◌∙◌, ap, subst, arith, map, suc}
use Rattle.std.specs.Prelude.{◌&&◌, codes, find, nat_eq}
use Rattle.std.specs.List.{AllByRecursion, AllPairs, All, filter_map, cons_option, zip, starts_with}
use Rattle.std.specs.Option.{option_map}
use Rattle.std.specs.Str.{bytes_eq}
use Rattle.std.proofs.lemmas.Bool.Decides.{Decides-eqb, nat_tests}
use Rattle.std.proofs.lemmas.List.{append_cancel_left}
use Rattle.std.proofs.lemmas.Slice.Eq.{bytes_eq-Decides, starts_is}
use Rattle.manifest_sums.specs.declared.manifest.Line.{Line}
use Rattle.provides_map.specs.Pairs.{Pairs}
use Rattle.script_names.specs.declared.site.Site.{Site}
use Rattle.admit.specs.declared.admitted.Admitted.{Admitted}
use Rattle.device_model.specs.declared.calls.Part.{Part}
use Rattle.device_model.specs.declared.calls.Part.TheVariants.{Tree, Scripts}
use Rattle.device_model.specs.Work.{same_part}
use Rattle.work_folder.specs.declared.groups.Group.{Group}
use Rattle.work_folder.specs.declared.groups.Group.TheVariants as group
use Rattle.work_folder.specs.Rows.{Row, Value, Names, Copy, target_of, copied_to, copied_or_empty, header_row, row_in, payload_rows, payloads_rows, rows_of}
use Rattle.admit.specs.Places.{place_of, spelled, payload_at, script_at}
use Rattle.admit.specs.declared.place.TreePlace.TheVariants.{TypeInfo, MetaData}
use Rattle.admit.proofs.Placed.{payload_path, script_path}
use Rattle.admit.specs.Differing.{Listed, listed_of}

abbrev pub Place : Type 0
Place = Part × List ℕ

abbrev pub same_place : Place → Place → Bool
same_place p q = same_part p.0 q.0 && bytes_eq p.1 q.1

-- none of the others stands at the place
abbrev pub IsFree : Place → List Place → Type 0
IsFree p others = AllByRecursion (λ q. same_place q p ≡ false) others

abbrev pub AreApart : List Place → Type 0
AreApart [] = Unit {0}
AreApart (p ∷ ps) = IsFree p ps × AreApart ps

abbrev pub place_at : Row → Place
place_at (Value part path bytes) = (part, path)
place_at (Names part path names) = (part, path)
place_at (Copy part path n sum) = (part, path)

all_append : {A : Type 0} (P : A → Type 0) (xs ys : List A) → AllByRecursion P xs → AllByRecursion P ys → AllByRecursion P (xs ++ ys)
all_append P [] ys h k = k
all_append P (x ∷ xs) ys h k = (h.0, all_append P xs ys h.1 k)

apart_append : (ps qs : List Place) → AreApart ps → AreApart qs → AllByRecursion (λ p. IsFree p qs) ps → AreApart (ps ++ qs)
apart_append [] qs a b h = b
apart_append (p ∷ ps) qs a b h = (all_append (λ q. same_place q p ≡ false) ps qs a.0 h.0, apart_append ps qs a.1 b h.1)

map-append : (xs ys : List Row) → map place_at (xs ++ ys) ≡ map place_at xs ++ map place_at ys
map-append [] ys = refl
map-append (x ∷ xs) ys = ap (λ l. place_at x ∷ l) (map-append xs ys)

-- ---- the places of a group

-- where a payload's file goes
abbrev file_place : ℕ × List ℕ → Place
file_place file = (Tree file.0, codes "files/" ++ file.1)

-- a place that each file of the group might have
abbrev AtEach : Group → (Place → Type 0) → Type 0
AtEach group.Payload P = (k : ℕ) (name : List ℕ) → P (Tree k, codes "files/" ++ name)
AtEach group.Scripts P = (name : List ℕ) → P (Scripts, name)

at_some : {X : Type 0} (P : Place → Type 0) (f : X → Place) (o : Option X) (p : Place) → ((x : X) → P (f x)) → option_map f o ≡ Some p → P p
at_some P f None p h e = absurd cc
at_some P f (Some x) p h e = let same : f x ≡ p = cc in subst P same (h x)

at_place : (g : Group) (P : Place → Type 0) (path : List ℕ) (p : Place) → AtEach g P → target_of g path ≡ Some p → P p
at_place group.Payload P path p h e = at_some P file_place (payload_at (place_of path)) p (λ file. h file.0 file.1) e
at_place group.Scripts P path p h e = at_some P (λ name. (Scripts, name)) (script_at (place_of path)) p h e

-- what holds of the places of the lines, holds of those of the group
module _ (g : Group) (P : Place → Type 0) where
  one_more : (l : Listed) (o : Option Place) (rows : List Row) → target_of g l.0.path ≡ o → ((p : Place) → target_of g l.0.path ≡ Some p → P p) → AllByRecursion P (map place_at rows) → AllByRecursion P (map place_at (cons_option (option_map (copied_to l) o) rows))
  one_more l None rows e h k = k
  one_more l (Some p) rows e h k = (h p e, k)

  pub in_group : (listed : List Listed) → AllByRecursion (λ (l : Listed). (p : Place) → target_of g l.0.path ≡ Some p → P p) listed → AllByRecursion P (map place_at (filter_map (row_in g) listed))
  in_group [] h = tt
  in_group (l ∷ listed) h = one_more l (target_of g l.0.path) (filter_map (row_in g) listed) refl h.0 (in_group listed h.1)

each : (P : Listed → Type 0) → ((l : Listed) → P l) → (listed : List Listed) → AllByRecursion P listed
each P h [] = tt
each P h (l ∷ listed) = (h l, each P h listed)

pub all_in_group : (g : Group) (P : Place → Type 0) (listed : List Listed) → AtEach g P → AllByRecursion P (map place_at (filter_map (row_in g) listed))
all_in_group g P listed h = in_group g P listed (each (λ (l : Listed). (p : Place) → target_of g l.0.path ≡ Some p → P p) (λ l p e. at_place g P l.0.path p h e) listed)

-- ---- lines with paths of their own

same_payload : (path other : List ℕ) (k : ℕ) (name : List ℕ) → payload_at (place_of path) ≡ Some (k, name) → payload_at (place_of other) ≡ Some (k, name) → other ≡ path
same_payload path other k name h g = (payload_path other k name g).is ∙ sym (payload_path path k name h).is

same_script : (path other name : List ℕ) → script_at (place_of path) ≡ Some name → script_at (place_of other) ≡ Some name → other ≡ path
same_script path other name h k = script_path other name k ∙ sym (script_path path name h)

-- the name behind a place of the group
back : {X : Type 0} (f : X → Place) (o : Option X) (p : Place) → option_map f o ≡ Some p → (x : X) × (o ≡ Some x) × (f x ≡ p)
back f None p e = absurd cc
back f (Some x) p e = (x, refl, cc e)

same_number : (j k : ℕ) → same_part (Tree j) (Tree k) ≡ true → j ≡ k
same_number j k h = grind (arith, nat_tests)

same_path : (g : Group) (path other : List ℕ) (p q : Place) → target_of g path ≡ Some p → target_of g other ≡ Some q → same_part q.0 p.0 ≡ true → q.1 ≡ p.1 → other ≡ path
same_path group.Payload path other p q e h part same =
    let a = back file_place (payload_at (place_of path)) p e in
    let b = back file_place (payload_at (place_of other)) q h in
    let names : b.0.1 ≡ a.0.1 = append_cancel_left (codes "files/") b.0.1 a.0.1 (ap (λ (r : Place). r.1) b.2 ∙ same ∙ sym (ap (λ (r : Place). r.1) a.2)) in
    let parts : same_part (Tree b.0.0) (Tree a.0.0) ≡ true = ap (λ (r : Place). same_part r.0 (Tree a.0.0)) b.2 ∙ ap (λ (r : Place). same_part q.0 r.0) a.2 ∙ part in
    let number : b.0.0 ≡ a.0.0 = same_number b.0.0 a.0.0 parts in
    same_payload path other a.0.0 a.0.1 a.1 (b.1 ∙ ap (λ (n : ℕ). Some (n, b.0.1)) number ∙ ap (λ (l : List ℕ). Some (a.0.0, l)) names)
same_path group.Scripts path other p q e h part same =
    let a = back (λ name. (Scripts, name)) (script_at (place_of path)) p e in
    let b = back (λ name. (Scripts, name)) (script_at (place_of other)) q h in
    let names : b.0 ≡ a.0 = ap (λ (r : Place). r.1) b.2 ∙ same ∙ sym (ap (λ (r : Place). r.1) a.2) in
    same_script path other a.0 a.1 (b.1 ∙ ap (λ (l : List ℕ). Some l) names)

by_test : (a b : Bool) → (a ≡ true → b ≡ true → ⊥) → a && b ≡ false
by_test true true h = absurd (h refl refl)
by_test true false h = refl
by_test false b h = refl

other_place : (g : Group) (path other : List ℕ) (p q : Place) → target_of g path ≡ Some p → target_of g other ≡ Some q → path ≢ other → same_place q p ≡ false
other_place g path other p q e h differ = by_test (same_part q.0 p.0) (bytes_eq q.1 p.1) (λ part t. differ (sym (same_path g path other p q e h part ((bytes_eq-Decides q.1 p.1).0 t))))

lines_rest : (R : Line → Line → Type 0) (x : Line) (xs : List Line) → AllPairs R (x ∷ xs) → AllPairs R xs
lines_rest R x xs h = λ i j d lt within. h (suc i) (suc j) d (omega arith) (omega arith)

lines_first : (R : Line → Line → Type 0) (x : Line) (xs : List Line) → AllPairs R (x ∷ xs) → All (λ y. R x y) xs
lines_first R x xs h = λ k d lt. h 0 (suc k) d (omega arith) (omega arith)

-- the other lines have other paths
others : (path : List ℕ) (lines : List Line) (numbers : List ℕ) → All (λ (y : Line). path ≢ y.path) lines → AllByRecursion (λ (l : Listed). path ≢ l.0.path) (zip lines numbers)
others path [] numbers h = tt
others path (line ∷ lines) [] h = tt
others path (line ∷ lines) (n ∷ numbers) h = (h 0 line (omega arith), others path lines numbers (λ k d lt. h (suc k) d (omega arith)))

free_of : (g : Group) (path : List ℕ) (p : Place) (listed : List Listed) → target_of g path ≡ Some p → AllByRecursion (λ (l : Listed). path ≢ l.0.path) listed → AllByRecursion (λ (l : Listed). (q : Place) → target_of g l.0.path ≡ Some q → same_place q p ≡ false) listed
free_of g path p [] e h = tt
free_of g path p (l ∷ listed) e h = ((λ q k. other_place g path l.0.path p q e k h.0), free_of g path p listed e h.1)

apart_more : (g : Group) (l : Listed) (o : Option Place) (listed : List Listed) → target_of g l.0.path ≡ o → AllByRecursion (λ (k : Listed). l.0.path ≢ k.0.path) listed → AreApart (map place_at (filter_map (row_in g) listed)) → AreApart (map place_at (cons_option (option_map (copied_to l) o) (filter_map (row_in g) listed)))
apart_more g l None listed e h k = k
apart_more g l (Some p) listed e h k = (in_group g (λ q. same_place q p ≡ false) listed (free_of g l.0.path p listed e h), k)

pub group_apart : (g : Group) (lines : List Line) (numbers : List ℕ) → AllPairs (λ a b. a.path ≢ b.path) lines → AreApart (map place_at (filter_map (row_in g) (zip lines numbers)))
group_apart g [] numbers h = tt
group_apart g (line ∷ lines) [] h = tt
group_apart g (line ∷ lines) (n ∷ numbers) h =
    apart_more g (line, n) (target_of g line.path) (zip lines numbers) refl (others line.path lines numbers (lines_first (λ a b. a.path ≢ b.path) line lines h)) (group_apart g lines numbers (lines_rest (λ a b. a.path ≢ b.path) line lines h))

-- ---- all of them

-- the paths in the folder of each payload, but for its own files
abbrev fixed_paths : List (List ℕ)
fixed_paths =
    codes "version"
    ∷ codes "current_artifact_name"
    ∷ codes "current_artifact_group"
    ∷ codes "current_device_type"
    ∷ codes "header/artifact_name"
    ∷ codes "header/artifact_group"
    ∷ codes "header/payload_type"
    ∷ codes "header/header-info"
    ∷ codes "header/files"
    ∷ codes "header/type-info"
    ∷ codes "header/meta-data"
    ∷ []

abbrev placed : ℕ → List (List ℕ) → List Place
placed k paths = map (λ (path : List ℕ). (Tree k, path)) paths

-- those of the payloads of these types, the first of which is payload k
abbrev all_fixed : ℕ → List (List ℕ) → List Place
all_fixed k [] = []
all_fixed k (kind ∷ kinds) = placed k fixed_paths ++ all_fixed (k + 1) kinds

-- ---- within the folder of one payload

abbrev ArePathsApart : List (List ℕ) → Type 0
ArePathsApart [] = Unit {0}
ArePathsApart (path ∷ paths) = AllByRecursion (λ q. bytes_eq q path ≡ false) paths × ArePathsApart paths

fixed_paths_apart : ArePathsApart fixed_paths
fixed_paths_apart = search rules

other_path : (a b : Bool) → b ≡ false → a && b ≡ false
other_path a b e = by_test a b (λ part same. both b same e)
  where
    both : (c : Bool) → c ≡ true → c ≡ false → ⊥
    both true h g = cc
    both false h g = cc

path_free : (k j : ℕ) (path : List ℕ) (paths : List (List ℕ)) → AllByRecursion (λ q. bytes_eq q path ≡ false) paths → IsFree (Tree j, path) (placed k paths)
path_free k j path [] h = tt
path_free k j path (q ∷ paths) h = (other_path (same_part (Tree k) (Tree j)) (bytes_eq q path) h.0, path_free k j path paths h.1)

placed_apart : (k : ℕ) (paths : List (List ℕ)) → ArePathsApart paths → AreApart (placed k paths)
placed_apart k [] h = tt
placed_apart k (path ∷ paths) h = (path_free k k path paths h.0, placed_apart k paths h.1)

-- ---- in the folders of all payloads

other_part : (a b : Bool) → a ≡ false → a && b ≡ false
other_part true b e = absurd cc
other_part false b e = refl

other_number : (j k : ℕ) → j < k → same_part (Tree k) (Tree j) ≡ false
other_number j k lt = grind (arith, nat_tests)

number_free : (k j : ℕ) (path : List ℕ) (paths : List (List ℕ)) → j < k → IsFree (Tree j, path) (placed k paths)
number_free k j path [] lt = tt
number_free k j path (q ∷ paths) lt = (other_part (same_part (Tree k) (Tree j)) (bytes_eq q path) (other_number j k lt), number_free k j path paths lt)

later_free : (k j : ℕ) (path : List ℕ) (kinds : List (List ℕ)) → j < k → IsFree (Tree j, path) (all_fixed k kinds)
later_free k j path [] lt = tt
later_free k j path (kind ∷ kinds) lt = all_append (λ q. same_place q (Tree j, path) ≡ false) (placed k fixed_paths) (all_fixed (k + 1) kinds) (number_free k j path fixed_paths lt) (later_free (k + 1) j path kinds (omega arith))

each_free : (j : ℕ) (paths kinds : List (List ℕ)) → AllByRecursion (λ p. IsFree p (all_fixed (j + 1) kinds)) (placed j paths)
each_free j [] kinds = tt
each_free j (path ∷ paths) kinds = (later_free (j + 1) j path kinds (omega arith), each_free j paths kinds)

all_fixed_apart : (k : ℕ) (kinds : List (List ℕ)) → AreApart (all_fixed k kinds)
all_fixed_apart k [] = tt
all_fixed_apart k (kind ∷ kinds) = apart_append (placed k fixed_paths) (all_fixed (k + 1) kinds) (placed_apart k fixed_paths fixed_paths_apart) (all_fixed_apart (k + 1) kinds) (each_free k fixed_paths kinds)

-- ---- beside the files of a group

-- what holds of the places in the folder of each payload holds of all
each_place : (P : Place → Type 0) → ((k : ℕ) → AllByRecursion P (placed k fixed_paths)) → (k : ℕ) (kinds : List (List ℕ)) → AllByRecursion P (all_fixed k kinds)
each_place P h k [] = tt
each_place P h k (kind ∷ kinds) = all_append P (placed k fixed_paths) (all_fixed (k + 1) kinds) (h k) (each_place P h (k + 1) kinds)

-- no name under `files/` is a fixed one
payload_free : (k : ℕ) → AllByRecursion (λ p. AtEach group.Payload (λ q. same_place q p ≡ false)) (placed k fixed_paths)
payload_free k =
    let other = λ (j : ℕ) (path name : List ℕ) (e : bytes_eq (codes "files/" ++ name) path ≡ false). other_path (same_part (Tree j) (Tree k)) (bytes_eq (codes "files/" ++ name) path) e in (
      λ j name. other j (codes "version") name refl,
      (
        λ j name. other j (codes "current_artifact_name") name refl,
        (
          λ j name. other j (codes "current_artifact_group") name refl,
          (
            λ j name. other j (codes "current_device_type") name refl,
            (
              λ j name. other j (codes "header/artifact_name") name refl,
              (
                λ j name. other j (codes "header/artifact_group") name refl,
                (
                  λ j name. other j (codes "header/payload_type") name refl,
                  (
                    λ j name. other j (codes "header/header-info") name refl,
                    (
                      λ j name. other j (codes "header/files") name refl,
                      (
                        λ j name. other j (codes "header/type-info") name refl,
                        (
                          λ j name. other j (codes "header/meta-data") name refl,
                          tt,
                        ),
                      ),
                    ),
                  ),
                ),
              ),
            ),
          ),
        ),
      ),
    )

-- a script stands in another part
script_free : (k : ℕ) → AllByRecursion (λ p. AtEach group.Scripts (λ q. same_place q p ≡ false)) (placed k fixed_paths)
script_free k = ((λ name. refl), ((λ name. refl), ((λ name. refl), ((λ name. refl), ((λ name. refl), ((λ name. refl), ((λ name. refl), ((λ name. refl), ((λ name. refl), ((λ name. refl), ((λ name. refl), tt)))))))))))

fixed_free : (g : Group) (listed : List Listed) (ps : List Place) → AllByRecursion (λ p. AtEach g (λ q. same_place q p ≡ false)) ps → AllByRecursion (λ p. IsFree p (map place_at (filter_map (row_in g) listed))) ps
fixed_free g listed [] h = tt
fixed_free g listed (p ∷ ps) h = (all_in_group g (λ q. same_place q p ≡ false) listed h.0, fixed_free g listed ps h.1)

-- a script never stands in a module's folder
scripts_free : (listed more : List Listed) → AllByRecursion (λ p. IsFree p (map place_at (filter_map (row_in group.Scripts) more))) (map place_at (filter_map (row_in group.Payload) listed))
scripts_free listed more = all_in_group group.Payload (λ p. IsFree p (map place_at (filter_map (row_in group.Scripts) more))) listed (λ k name. all_in_group group.Scripts (λ q. same_place q (Tree k, codes "files/" ++ name) ≡ false) more (λ other. refl))

-- ---- the rows

copied_place : (k : ℕ) (path from : List ℕ) (listed : List Listed) → place_at (header_row k path from listed) ≡ (Tree k, path)
copied_place k path from listed = by_found (find (λ l. bytes_eq l.0.path from) listed)
  where
    by_found : (o : Option Listed) → place_at (copied_or_empty k path o) ≡ (Tree k, path)
    by_found None = refl
    by_found (Some l) = refl

-- the places, with those of the copies in the header
abbrev with_copies : ℕ → Place → Place → Place → List Place
with_copies k first second third =
    (Tree k, codes "version")
    ∷ (Tree k, codes "current_artifact_name")
    ∷ (Tree k, codes "current_artifact_group")
    ∷ (Tree k, codes "current_device_type")
    ∷ (Tree k, codes "header/artifact_name")
    ∷ (Tree k, codes "header/artifact_group")
    ∷ (Tree k, codes "header/payload_type")
    ∷ first
    ∷ (Tree k, codes "header/files")
    ∷ second
    ∷ third
    ∷ []

payload_places : (site : Site) (held : Pairs) (plan : Admitted) (k : ℕ) (kind : List ℕ) → map place_at (payload_rows site held plan k kind) ≡ placed k fixed_paths
payload_places site held plan k kind =
    let listed = listed_of plan in
    let type = header_row k (codes "header/type-info") (spelled (TypeInfo k)) listed in
    let meta = header_row k (codes "header/meta-data") (spelled (MetaData k)) listed in
    ap (λ (p : Place). with_copies k p (place_at type) (place_at meta)) (copied_place k (codes "header/header-info") (codes "header/header-info") listed)
    ∙ ap (λ (p : Place). with_copies k (Tree k, codes "header/header-info") p (place_at meta)) (copied_place k (codes "header/type-info") (spelled (TypeInfo k)) listed)
    ∙ ap (λ (p : Place). with_copies k (Tree k, codes "header/header-info") (Tree k, codes "header/type-info") p) (copied_place k (codes "header/meta-data") (spelled (MetaData k)) listed)

payloads_places : (site : Site) (held : Pairs) (plan : Admitted) (k : ℕ) (kinds : List (List ℕ)) → map place_at (payloads_rows site held plan k kinds) ≡ all_fixed k kinds
payloads_places site held plan k [] = refl
payloads_places site held plan k (kind ∷ kinds) =
    let one = payload_rows site held plan k kind in
    let more = payloads_rows site held plan (k + 1) kinds in
    map-append one more
    ∙ ap (λ (ps : List Place). ps ++ map place_at more) (payload_places site held plan k kind)
    ∙ ap (λ (ps : List Place). placed k fixed_paths ++ ps) (payloads_places site held plan (k + 1) kinds)

rows_places : (site : Site) (held : Pairs) (plan : Admitted) → map place_at (rows_of site held plan) ≡ all_fixed 0 plan.header.kinds ++ (map place_at (filter_map (row_in group.Payload) (listed_of plan)) ++ map place_at (filter_map (row_in group.Scripts) (listed_of plan)))
rows_places site held plan =
    let payload = filter_map (row_in group.Payload) (listed_of plan) in
    let scripts = filter_map (row_in group.Scripts) (listed_of plan) in
    map-append (payloads_rows site held plan 0 plan.header.kinds) (payload ++ scripts)
    ∙ ap (λ (l : List Place). map place_at (payloads_rows site held plan 0 plan.header.kinds) ++ l) (map-append payload scripts)
    ∙ ap (λ (l : List Place). l ++ (map place_at payload ++ map place_at scripts)) (payloads_places site held plan 0 plan.header.kinds)

free_append : (ps qs rs : List Place) → AllByRecursion (λ p. IsFree p qs) ps → AllByRecursion (λ p. IsFree p rs) ps → AllByRecursion (λ p. IsFree p (qs ++ rs)) ps
free_append [] qs rs h k = tt
free_append (p ∷ ps) qs rs h k = (all_append (λ q. same_place q p ≡ false) qs rs h.0 k.0, free_append ps qs rs h.1 k.1)

pub rows_apart : (site : Site) (held : Pairs) (plan : Admitted) → AllPairs (λ a b. a.path ≢ b.path) plan.manifest → AreApart (map place_at (rows_of site held plan))
rows_apart site held plan distinct =
    let listed = listed_of plan in
    let fixed = all_fixed 0 plan.header.kinds in
    let payload = map place_at (filter_map (row_in group.Payload) listed) in
    let scripts = map place_at (filter_map (row_in group.Scripts) listed) in
    let both : AreApart (payload ++ scripts) = apart_append payload scripts (group_apart group.Payload plan.manifest plan.numbers distinct) (group_apart group.Scripts plan.manifest plan.numbers distinct) (scripts_free listed listed) in
    let no_file : AllByRecursion (λ p. IsFree p payload) fixed = fixed_free group.Payload listed fixed (each_place (λ p. AtEach group.Payload (λ q. same_place q p ≡ false)) payload_free 0 plan.header.kinds) in
    let no_script : AllByRecursion (λ p. IsFree p scripts) fixed = fixed_free group.Scripts listed fixed (each_place (λ p. AtEach group.Scripts (λ q. same_place q p ≡ false)) script_free 0 plan.header.kinds) in
    subst AreApart (sym (rows_places site held plan)) (apart_append fixed (payload ++ scripts) (all_fixed_apart 0 plan.header.kinds) both (free_append fixed payload scripts no_file no_script))
