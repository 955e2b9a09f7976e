-- The entries of a written tree: each has a place, whose spelling is a name.
use Rattle.std.proofs.Common.{◌≡◌, ◌≢◌, true≢false, ℕ, suc, ◌+◌, ◌<◌, ◌≤◌, ◌==◌, ◌&&◌, Bool, true, false, not, nat_le, List, [], ◌∷◌, ◌++◌, length, map, Some, None, codes, refl, sym, ap, ◌∙◌, arith, length-append}
use Rattle.std.specs.List.{AllByRecursion, list_all, sum_by}
use Rattle.std.proofs.lemmas.Bool.{and_parts}
use Rattle.std.proofs.lemmas.Bool.Decides.{nat_tests}
use Rattle.std.proofs.lemmas.List.Elements.{recursion_from_All, All-from_recursion}
use Rattle.std.specs.Str.{bytes_eq}
use Rattle.std.proofs.lemmas.Slice.Eq.{bytes_eq-Decides}
use Rattle.std.proofs.lemmas.List.Sums.{sum_by-cons}
use Rattle.upd_text.specs.Text.{name_of, IsName}
use Rattle.upd_text.specs.Parts.{has_slash, is_plain}
use Rattle.upd_text.proofs.FormLemmas.{name_is}
use Rattle.io_model.specs.Source.{Tree, File}
use Rattle.script_names.specs.Scripts.{place_of, is_artifact_script}
use Rattle.admit.specs.Places.{spelled}
use Rattle.admit.specs.declared.place.TreePlace.TheVariants.{Version, Manifest, HeaderInfo, TypeInfo, Script, Payload}
use Rattle.artifact_meta.specs.declared.kinds.TheConstants.{MOST_PAYLOADS}
use Rattle.tree_writer.specs.declared.spec.PayloadSpec.{PayloadSpec}
use Rattle.tree_writer.specs.declared.spec.TreeSpec.{TreeSpec}
use Rattle.tree_writer.specs.declared.checks.Names.TheVariants.{Files, Scripts}
use Rattle.tree_writer.specs.Order.{Named, named, by_name, IsGoodText}
use Rattle.tree_writer.specs.Texts.{header_text}
use Rattle.tree_writer.specs.Files.{payload_entries, data_entries, info_entries, script_entries, front_entries, listed_entries, version_entry, manifest_text, entries_of, tree_of, as_file, payload_entry, script_entry}
use Rattle.tree_writer.specs.Faults.{FilePath, first_stale, test_of, is_file_name, is_script_name}
use Rattle.tree_writer.specs.Plan.{IsNameIfSome, AreFiles}
use Rattle.tree_writer.proofs.ManifestBack.{IsEntry, all_append}
use Rattle.tree_writer.proofs.Ordered.{ordered, by_name-all, length-by_name, stale_tests}
use Rattle.std.proofs.lemmas.List.{length-map}

-- ---- names behind a front

abbrev pub IsGoodByte : ℕ → Type 0
IsGoodByte b = (32 ≤ b) × (b ≢ 127)

abbrev good_byte : ℕ → Bool
good_byte b = nat_le 32 b && not (b == 127)

pub good_bytes : (bs : List ℕ) → list_all good_byte bs ≡ true → AllByRecursion IsGoodByte bs
good_bytes [] h = tt
good_bytes (b ∷ bs) h =
    let t = and_parts (good_byte b) (list_all good_byte bs) h in
    let u = and_parts (nat_le 32 b) (not (b == 127)) t.0 in
    let low : 32 ≤ b = grind (arith, nat_tests, u.0) in
    let other : b ≢ 127 = grind (arith, nat_tests, u.1) in
    ((low, other), good_bytes bs t.1)

text_behind : (front name : List ℕ) → AllByRecursion IsGoodByte front → IsGoodText name → 0 < length front → length front + length name ≤ 128 → IsName (front ++ name)
text_behind front name good h some short =
    let both : AllByRecursion IsGoodByte (front ++ name) = all_append IsGoodByte front name good (recursion_from_All IsGoodByte name h) in
    (name_is (front ++ name)).1 (record {
      some = omega (arith, some, length-append front name);
      short = omega (arith, short, length-append front name);
      good = All-from_recursion IsGoodByte (front ++ name) both;
    })

pub name_good : (name : List ℕ) → IsName name → IsGoodText name
name_good name h = ((name_is name).0 h).good

plain_script : (name : List ℕ) → is_artifact_script name ≡ true → is_plain name ≡ true
unfolding place_of
plain_script name h = by_slash (has_slash name) refl
  where
    dots : (b c : Bool) → bytes_eq name (codes ".") ≡ b → bytes_eq name (codes "..") ≡ c → not b && not c ≡ true
    dots true c e f = absurd (let dot : name ≡ codes "." = (bytes_eq-Decides name (codes ".")).0 e in true≢false (sym h ∙ ap is_artifact_script dot))
    dots false true e f = absurd (let dot : name ≡ codes ".." = (bytes_eq-Decides name (codes "..")).0 f in true≢false (sym h ∙ ap is_artifact_script dot))
    dots false false e f = refl

    by_slash : (b : Bool) → has_slash name ≡ b → not b && (not (bytes_eq name (codes ".")) && not (bytes_eq name (codes ".."))) ≡ true
    by_slash true e = absurd (true≢false (sym h ∙ rw e refl))
    by_slash false e = dots (bytes_eq name (codes ".")) (bytes_eq name (codes "..")) refl refl

numbered : (front : List ℕ) (k : ℕ) → k < MOST_PAYLOADS → AllByRecursion IsGoodByte front → AllByRecursion IsGoodByte (front ++ (48 + k) ∷ [])
numbered front k few good = all_append IsGoodByte front ((48 + k) ∷ []) good ((omega arith, λ e. omega (arith, few)), tt)

pub payload_name : (k : ℕ) (name : List ℕ) → k < MOST_PAYLOADS → IsGoodText name → length name ≤ 118 → IsName (spelled (Payload k name))
payload_name k name few h short =
    text_behind (codes "data/000" ++ (48 + k) ∷ 47 ∷ []) name (all_append IsGoodByte (codes "data/000" ++ (48 + k) ∷ []) (47 ∷ []) (numbered (codes "data/000") k few (good_bytes (codes "data/000") refl)) (good_bytes (47 ∷ []) refl)) h (omega arith) (omega (arith, short))

pub info_name : (k : ℕ) → k < MOST_PAYLOADS → IsName (spelled (TypeInfo k))
info_name k few =
    text_behind (codes "header/headers/000" ++ (48 + k) ∷ []) (codes "/type-info") (numbered (codes "header/headers/000") k few (good_bytes (codes "header/headers/000") refl))
    (All-from_recursion IsGoodByte (codes "/type-info") (good_bytes (codes "/type-info") refl)) (omega arith) (omega arith)

pub script_name : (name : List ℕ) → IsGoodText name → length name ≤ 113 → IsName (spelled (Script name))
script_name name h short = text_behind (codes "header/scripts/") name (good_bytes (codes "header/scripts/") refl) h (omega arith) (omega (arith, short))

pub fixed_names : IsName (spelled Version) × IsName (spelled Manifest) × IsName (spelled HeaderInfo)
unfolding name_of
fixed_names = (refl, refl, refl)

-- ---- files in order, as entries

pub pair_all : {A : Type 0} (P Q R : A → Type 0) → ((x : A) → P x → Q x → R x) → (xs : List A) → AllByRecursion P xs → AllByRecursion Q xs → AllByRecursion R xs
pair_all P Q R f [] h k = tt
pair_all P Q R f (x ∷ xs) h k = (f x h.0 k.0, pair_all P Q R f xs h.1 k.1)

pub all_map : {A B : Type 0} (P : B → Type 0) (f : A → B) (xs : List A) → AllByRecursion (λ x. P (f x)) xs → AllByRecursion P (map f xs)
all_map P f [] h = tt
all_map P f (x ∷ xs) h = (h.0, all_map P f xs h.1)

files_named : (test : List ℕ → Bool) (earlier : List FilePath) (files : Tree) → first_stale test earlier files ≡ None → AllByRecursion (λ file. IsNameIfSome file.0) files → AllByRecursion (λ file. IsName (named file).0) files
files_named test earlier [] h n = tt
files_named test earlier ((None, bytes) ∷ files) h n = absurd cc
files_named test earlier ((Some name, bytes) ∷ files) h n =
    let t = stale_tests test earlier (Some name) (length earlier) (first_stale test (earlier ++ Some name ∷ []) files) h in
    (n.0, files_named test (earlier ++ Some name ∷ []) files t.1 n.1)

pub short_name : (name : List ℕ) (most : ℕ) → nat_le (length name) most ≡ true → length name ≤ most
short_name name most h = grind (arith, nat_tests, h)

file_entry : (k : ℕ) → k < MOST_PAYLOADS → (f : Named) → is_file_name f.0 ≡ true → IsName f.0 → IsEntry (Payload k f.0, f.1)
file_entry k few f test name =
    let t = and_parts (is_plain f.0) (nat_le (length f.0) 118) test in
    record { place = (few, record { name = name; plain = t.0 }); name = payload_name k f.0 few (name_good f.0 name) (short_name f.0 118 t.1) }

script_file : (f : Named) → is_script_name f.0 ≡ true → IsName f.0 → IsEntry (Script f.0, f.1)
script_file f test name =
    let t = and_parts (is_artifact_script f.0) (nat_le (length f.0) 113) test in
    record { place = record { name = name; plain = plain_script f.0 t.0 }; name = script_name f.0 (name_good f.0 name) (short_name f.0 113 t.1) }

-- the files of a folder are as they are to be
pub record AreRight (test : List ℕ → Bool) (files : Tree) : Type 0 where
  pub fresh : first_stale test [] files ≡ None
  pub names : AreFiles files

names_in_order : (test : List ℕ → Bool) (files : Tree) → AreRight test files → AllByRecursion (λ f. IsName f.0) (by_name files)
names_in_order test files r = by_name-all (λ (f : Named). IsName f.0) files (files_named test [] files r.fresh (recursion_from_All (λ (file : File). IsNameIfSome file.0) files r.names))

payload_good : (k : ℕ) (p : PayloadSpec) → k < MOST_PAYLOADS → AreRight (test_of Files) p.files → AllByRecursion IsEntry (payload_entries k p.files)
payload_good k p few r =
    let o = ordered (test_of Files) p.files r.fresh in
    all_map IsEntry (payload_entry k) (by_name p.files)
    (pair_all (λ (f : Named). is_file_name f.0 ≡ true) (λ (f : Named). IsName f.0) (λ (f : Named). IsEntry (Payload k f.0, f.1)) (file_entry k few) (by_name p.files) o.pass (names_in_order (test_of Files) p.files r))

data_good : (k : ℕ) (ps : List PayloadSpec) → k + length ps ≤ MOST_PAYLOADS → AllByRecursion (λ p. AreRight (test_of Files) p.files) ps → AllByRecursion IsEntry (data_entries k ps)
data_good k [] few h = tt
data_good k (p ∷ ps) few h = all_append IsEntry (payload_entries k p.files) (data_entries (suc k) ps) (payload_good k p (omega arith) h.0) (data_good (suc k) ps (omega arith) h.1)

infos_good : (k : ℕ) (ps : List PayloadSpec) → k + length ps ≤ MOST_PAYLOADS → AllByRecursion IsEntry (info_entries k ps)
infos_good k [] few = tt
infos_good k (p ∷ ps) few =
    let below : k < MOST_PAYLOADS = omega arith in
    (record { place = below; name = info_name k below }, infos_good (suc k) ps (omega arith))

scripts_good : (scripts : Tree) → AreRight (test_of Scripts) scripts → AllByRecursion IsEntry (script_entries scripts)
scripts_good scripts r =
    let o = ordered (test_of Scripts) scripts r.fresh in
    all_map IsEntry script_entry (by_name scripts)
    (pair_all (λ (f : Named). is_script_name f.0 ≡ true) (λ (f : Named). IsName f.0) (λ (f : Named). IsEntry (Script f.0, f.1)) script_file (by_name scripts) o.pass (names_in_order (test_of Scripts) scripts r))

-- ---- the whole

pub record IsShaped (spec : TreeSpec) : Type 0 where
  pub few : length spec.payloads ≤ MOST_PAYLOADS
  pub files : AllByRecursion (λ p. AreRight (test_of Files) p.files) spec.payloads
  pub scripts : AreRight (test_of Scripts) spec.scripts

version_good : IsEntry version_entry
version_good = record { place = tt; name = fixed_names.0 }

module _ (spec : TreeSpec) (s : IsShaped spec) where
  pub front_good : AllByRecursion IsEntry (front_entries spec)
  front_good =
      all_append IsEntry (data_entries 0 spec.payloads) _ (data_good 0 spec.payloads (omega (arith, s.few)) s.files) (
        record { place = tt; name = fixed_names.2 },
        all_append IsEntry (info_entries 0 spec.payloads) (script_entries spec.scripts) (infos_good 0 spec.payloads (omega (arith, s.few))) (scripts_good spec.scripts s.scripts),
      )

  pub entries_good : AllByRecursion IsEntry (entries_of spec)
  entries_good = all_append IsEntry (front_entries spec) ((Manifest, manifest_text (listed_entries spec)) ∷ version_entry ∷ []) front_good (record { place = tt; name = fixed_names.1 }, (version_good, tt))

  pub listed_good : AllByRecursion IsEntry (listed_entries spec)
  listed_good = all_append IsEntry (front_entries spec) (version_entry ∷ []) front_good (version_good, tt)

-- ---- how many there are

len-data : (k : ℕ) (ps : List PayloadSpec) → length (data_entries k ps) + length ps ≡ sum_by (λ p. length p.files + 1) ps
len-data k [] = refl
len-data k (p ∷ ps) =
    let mapped : length (payload_entries k p.files) ≡ length (by_name p.files) = length-map (by_name p.files) (payload_entry k) in
    omega (
      arith,
      length-append (payload_entries k p.files) (data_entries (suc k) ps),
      mapped,
      length-by_name p.files,
      len-data (suc k) ps,
      sum_by-cons (λ (q : PayloadSpec). length q.files + 1) p ps,
    )

len-infos : (k : ℕ) (ps : List PayloadSpec) → length (info_entries k ps) ≡ length ps
len-infos k [] = refl
len-infos k (p ∷ ps) = ap suc (len-infos (suc k) ps)

pub len-front : (spec : TreeSpec) → length (front_entries spec) ≡ sum_by (λ p. length p.files + 1) spec.payloads + length spec.scripts + 1
len-front spec =
    let I = info_entries 0 spec.payloads in
    let S = script_entries spec.scripts in
    omega (
      arith,
      length-append (data_entries 0 spec.payloads) ((HeaderInfo, header_text spec) ∷ (I ++ S)),
      length-append I S,
      len-data 0 spec.payloads,
      len-infos 0 spec.payloads,
      length-map (by_name spec.scripts) script_entry,
      length-by_name spec.scripts,
    )

pub len-tree : (spec : TreeSpec) → length (tree_of spec) ≡ length (front_entries spec) + 2
unfolding tree_of
len-tree spec = omega (arith, length-map (entries_of spec) as_file, length-append (front_entries spec) ((Manifest, manifest_text (listed_entries spec)) ∷ version_entry ∷ []))

pub tree_length : (spec : TreeSpec) → length (tree_of spec) ≡ sum_by (λ payload. length payload.files + 1) spec.payloads + length spec.scripts + 3
tree_length spec = omega (arith, len-tree spec, len-front spec)
