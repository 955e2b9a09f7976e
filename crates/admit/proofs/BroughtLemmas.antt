-- The scripts of a tree are those that its manifest lists.
use Rattle.std.proofs.Common.{◌≡◌, ◌∙◌, ◌⊎◌, ℕ, ◌<◌, zero, suc, true, false, List, [], ◌∷◌, ◌++◌, length, get_or, Option, Some, None, refl, sym, ap, inl, inr, arith}
use Rattle.std.specs.Prelude.{◌↔◌, fold, codes}
use Rattle.std.specs.List.{AllPass, AllZip, Contains, cons_option}
use Rattle.std.specs.BTreeSet.{insert_key}
use Rattle.upd_text.specs.Order.{byte_cmp}
use Rattle.manifest_sums.specs.declared.manifest.Line.{Line}
use Rattle.script_names.proofs.Inserted.{contains_inserted}
use Rattle.admit.specs.Places.{place_of, is_allowed, is_manifest, script_at, spelled, file_name, in_scripts}
use Rattle.admit.specs.declared.place.TreePlace.{TreePlace}
use Rattle.admit.specs.declared.place.TreePlace.TheVariants.{Version, Manifest, Signature, HeaderInfo, TypeInfo, MetaData, Script, Payload, Augmented, Other}
use Rattle.admit.proofs.Placed.{script_path, good_name}
use Rattle.admit.specs.Admit.{not_listed, script_name, script_names, in_order}
use Rattle.admit.specs.IsOf.{HasLine}
use Rattle.admit.specs.Table.{FileHead}
use Rattle.admit.proofs.TableLemmas.{IsPlace}
use Rattle.admit.proofs.LinesLemmas.{zip_at, line_of_file}

-- ---- items of lists

none_there : (n : List ℕ) → Contains [] n → ⊥
none_there n h = omega (arith, h.1)

there_cons : (x : List ℕ) (xs : List (List ℕ)) (n : List ℕ) → Contains (x ∷ xs) n → (x ≡ n) ⊎ Contains xs n
there_cons x xs n (zero, lt, e) = inl e
there_cons x xs n (suc i, lt, e) = let within : i < length xs = omega arith in inr (i, within, e)

here : (x : List ℕ) (xs : List (List ℕ)) (n : List ℕ) → x ≡ n → Contains (x ∷ xs) n
here x xs n e = (0, omega arith, e)

behind : (x : List ℕ) (xs : List (List ℕ)) (n : List ℕ) → Contains xs n → Contains (x ∷ xs) n
behind x xs n h = (suc h.0, omega (arith, h.1), h.2)

held_from : (names found : List (List ℕ)) (n : List ℕ) → Contains (fold (insert_key byte_cmp) found names) n → Contains found n ⊎ Contains names n
held_from [] found n h = inl h
held_from (x ∷ names) found n h = elim (held_from names (insert_key byte_cmp found x) n h) [
  | inl t ↦ elim ((contains_inserted found x n).0 t) [ inl e ↦ (inr (here x names n e)) | inr u ↦ inl u ]
  | inr t ↦ (inr (behind x names n t))
]

held_in : (names found : List (List ℕ)) (n : List ℕ) → Contains found n ⊎ Contains names n → Contains (fold (insert_key byte_cmp) found names) n
held_in [] found n (inl h) = h
held_in [] found n (inr h) = absurd (none_there n h)
held_in (x ∷ names) found n (inl h) = held_in names (insert_key byte_cmp found x) n (inl ((contains_inserted found x n).1 (inr h)))
held_in (x ∷ names) found n (inr h) = elim (there_cons x names n h) [
  | inl e ↦ (held_in names (insert_key byte_cmp found x) n (inl ((contains_inserted found x n).1 (inl e))))
  | inr t ↦ (held_in names (insert_key byte_cmp found x) n (inr t))
]

-- ---- files and their names

found_at : (head : FileHead) (heads : List FileHead) (o : Option (List ℕ)) (name : List ℕ) → script_name head.path ≡ o → (Contains (script_names heads) name → (i : ℕ) × (i < length heads) × ((d : FileHead) → script_name (get_or heads i d).path ≡ Some name))
    → Contains (cons_option o (script_names heads)) name → (i : ℕ) × (i < length (head ∷ heads)) × ((d : FileHead) → script_name (get_or (head ∷ heads) i d).path ≡ Some name)
found_at head heads None name is more h = let t = more h in (suc t.0, omega (arith, t.1), t.2)
found_at head heads (Some x) name is more h = elim (there_cons x (script_names heads) name h) [
  | inl e ↦ (0, omega arith, λ d. is ∙ ap Some e)
  | inr u ↦ (let t = more u in (suc t.0, omega (arith, t.1), t.2))
]

found_head : (heads : List FileHead) (name : List ℕ) → Contains (script_names heads) name → (i : ℕ) × (i < length heads) × ((d : FileHead) → script_name (get_or heads i d).path ≡ Some name)
found_head [] name h = absurd (none_there name h)
found_head (head ∷ heads) name h = found_at head heads (script_name head.path) name refl (found_head heads name) h

kept_at : (o : Option (List ℕ)) (rest : List (List ℕ)) (name : List ℕ) → Contains rest name → Contains (cons_option o rest) name
kept_at None rest name h = h
kept_at (Some x) rest name h = behind x rest name h

held_head : (heads : List FileHead) (name : List ℕ) (i : ℕ) (d : FileHead) → i < length heads → script_name (get_or heads i d).path ≡ Some name → Contains (script_names heads) name
held_head [] name i d lt h = absurd (omega arith)
held_head (head ∷ heads) name zero d lt h = rw h (here name (script_names heads) name refl)
held_head (head ∷ heads) name (suc i) d lt h = kept_at (script_name head.path) (script_names heads) name (held_head heads name i d (omega arith) h)

-- a file's place is that of this script
script_place : (found : Option (List ℕ)) (name : List ℕ) → script_name found ≡ Some name → found ≡ Some (codes "header/scripts/" ++ name)
script_place None name h = absurd cc
script_place (Some path) name h = ap Some (script_path path name h)

in_scripts_allowed : (name : List ℕ) (o : Option (List ℕ)) → o ≡ file_name name → is_allowed (in_scripts o) ≡ true → script_at (in_scripts o) ≡ Some name
in_scripts_allowed name None e h = absurd cc
in_scripts_allowed name (Some x) e h = ap Some (sym (good_name name x (sym e)).1)

-- an allowed path in the folder of the scripts is that of a script
named_script : (name : List ℕ) → is_allowed (place_of (codes "header/scripts/" ++ name)) ≡ true → script_name (Some (codes "header/scripts/" ++ name)) ≡ Some name
unfolding place_of
named_script name h = in_scripts_allowed name (file_name name) refl h

-- ---- the whole

no_manifest : (place : TreePlace) (name : List ℕ) → script_at place ≡ Some name → is_manifest place ≡ false
no_manifest (Script x) name h = refl
no_manifest Version name h = refl
no_manifest HeaderInfo name h = refl
no_manifest (TypeInfo k) name h = refl
no_manifest (MetaData k) name h = refl
no_manifest (Payload k x) name h = refl
no_manifest Augmented name h = refl
no_manifest Other name h = refl
no_manifest Manifest name h = absurd cc
no_manifest Signature name h = absurd cc

brought_listed : (heads : List FileHead) (lines : List Line) (name : List ℕ) → not_listed lines heads ≡ None → Contains (script_names heads) name → HasLine (codes "header/scripts/" ++ name) lines
brought_listed heads lines name l h =
    let t = found_head heads name h in
    let none : FileHead = record { path = None; length = 0 } in
    let there : (get_or heads t.0 none).path ≡ Some (codes "header/scripts/" ++ name) = script_place (get_or heads t.0 none).path name (t.2 none) in
    let script : script_name (Some (codes "header/scripts/" ++ name)) ≡ Some name = ap script_name (sym there) ∙ t.2 none in
    line_of_file heads lines (codes "header/scripts/" ++ name) t.0 none l (no_manifest (place_of (codes "header/scripts/" ++ name)) name script) t.1 there

listed_brought : (heads : List FileHead) (lines : List Line) (numbers : List ℕ) (name : List ℕ) → AllPass (λ line. is_allowed (place_of line.path)) lines → AllZip (λ line n. IsPlace heads line.path n) lines numbers → HasLine (codes "header/scripts/" ++ name) lines → Contains (script_names heads) name
listed_brought heads lines numbers name a z (k, line, within, is, same) =
    let n = get_or numbers k 0 in
    let none : FileHead = record { path = None; length = 0 } in
    let p : IsPlace heads (get_or lines k line).path n = zip_at (λ line n. IsPlace heads line.path n) lines numbers k line 0 z within in
    let path : (get_or heads n none).path ≡ Some (codes "header/scripts/" ++ name) = p.here none ∙ ap Some (ap (λ (x : Line). x.path) is ∙ same) in
    let line_path : (get_or lines k line).path ≡ codes "header/scripts/" ++ name = ap (λ (x : Line). x.path) is ∙ same in
    let allowed : is_allowed (place_of (codes "header/scripts/" ++ name)) ≡ true = ap (λ w. is_allowed (place_of w)) (sym line_path) ∙ a k line within in
    held_head heads name n none p.within (ap script_name path ∙ named_script name allowed)

-- the scripts are those of the folder that have lines
pub scripts_listed : (heads : List FileHead) (lines : List Line) (numbers : List ℕ) (name : List ℕ) → not_listed lines heads ≡ None → AllPass (λ line. is_allowed (place_of line.path)) lines → AllZip (λ line n. IsPlace heads line.path n) lines numbers → Contains (in_order (script_names heads)) name ↔ HasLine (codes "header/scripts/" ++ name) lines
scripts_listed heads lines numbers name l a z = (
  λ h. elim (held_from (script_names heads) [] name h) [ inl t ↦ absurd (none_there name t) | inr t ↦ brought_listed heads lines name l t ],
  λ h. held_in (script_names heads) [] name (inr (listed_brought heads lines numbers name a z h)),
)
