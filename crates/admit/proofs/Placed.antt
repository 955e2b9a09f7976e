-- The place of a path, and the path of a place.
use Rattle.std.proofs.Common.{◌≡◌, ◌∙◌, ℕ, ◌+◌, ◌-◌, ◌<◌, ◌≤◌, ◌&&◌, Bool, true, false, cond, List, [], ◌∷◌, ◌++◌, take, drop, Option, Some, None, Ok, Err, refl, sym, ap, subst, arith}
use Rattle.std.specs.Prelude.{codes, nat_le, nat_lt, ◌==◌}
use Rattle.std.specs.Result.{is_ok}
use Rattle.std.specs.Str.{bytes_eq}
use Rattle.std.proofs.lemmas.Bool.Decides.{nat_tests}
use Rattle.std.proofs.lemmas.List.{take-append-drop}
use Rattle.std.proofs.lemmas.Slice.Eq.{bytes_eq-Decides}
use Rattle.upd_text.specs.Text.{name_of, IsName}
use Rattle.upd_text.specs.Parts.{is_plain}
use Rattle.admit.specs.Places.{spelled, IsFileName, IsSpelled, digits, numbered, file_name, in_headers, in_scripts, in_payload, in_data, begins, is_augmented, place_of, place_at, is_allowed, is_header, is_payload, is_info_of, script_at, payload_at, info_at}
use Rattle.artifact_meta.specs.declared.kinds.TheConstants.{MOST_PAYLOADS}
use Rattle.admit.specs.declared.place.TreePlace.{TreePlace}
use Rattle.admit.specs.declared.place.TreePlace.TheVariants.{Version, Manifest, Signature, HeaderInfo, TypeInfo, MetaData, Script, Payload, Augmented, Other}
use Rattle.admit.proofs.Names.{same_name}

pub file_named : (text name : List ℕ) → name_of text ≡ Ok name → is_plain text ≡ true → Some name ≡ file_name text
file_named text name e p = ap Some (same_name text name e) ∙ sym (ap (λ r. cond (is_ok r && is_plain text) (Some text) None) e ∙ ap (λ (b : Bool). cond b (Some text) None) p)

-- ---- what stands at a path is spelled so

abbrev pub IsWell : List ℕ → TreePlace → Type 0
IsWell path Augmented = Unit {0}
IsWell path Other = Unit {0}
IsWell path place = IsSpelled place × (path ≡ spelled place)

step : (path : List ℕ) (b : Bool) (x y : TreePlace) → (b ≡ true → IsWell path x) → IsWell path y → IsWell path (cond b x y)
step path true x y here there = here refl
step path false x y here there = there

behind : (path folder : List ℕ) (n : ℕ) → bytes_eq folder (take n path) ≡ true → path ≡ folder ++ drop n path
behind path folder n e = sym (take-append-drop n path) ∙ ap (λ w. w ++ drop n path) (sym ((bytes_eq-Decides folder (take n path)).0 e))

pub record IsNumbered (text : List ℕ) (k : ℕ) (name : List ℕ) : Type 0 where
  pub few : k < MOST_PAYLOADS
  pub is : text ≡ digits k ++ 47 ∷ name

by_tests : (a b c d e : ℕ) (rest : List ℕ) (k : ℕ) (name : List ℕ) (ta tb tc tl tu ts : Bool) → ta ≡ (a == 48) → tb ≡ (b == 48) → tc ≡ (c == 48) → tl ≡ nat_le 48 d → tu ≡ nat_lt d (48 + MOST_PAYLOADS) → ts ≡ (e == 47)
    → cond {A = Option (ℕ × List ℕ)} ((ta && (tb && tc)) && (tl && (tu && ts))) (Some (d - 48, rest)) None ≡ Some (k, name) → IsNumbered (a ∷ b ∷ c ∷ d ∷ e ∷ rest) k name
by_tests a b c d e rest k name true true true true true true ea eb ec el eu es h =
    let ka : a ≡ 48 = grind (arith, nat_tests) in
    let kb : b ≡ 48 = grind (arith, nat_tests) in
    let kc : c ≡ 48 = grind (arith, nat_tests) in
    let ke : e ≡ 47 = grind (arith, nat_tests) in
    let low : 48 ≤ d = grind (arith, nat_tests) in
    let high : d < 48 + MOST_PAYLOADS = grind (arith, nat_tests) in
    let both : ◌≡◌ {A = ℕ × List ℕ} (d - 48, rest) (k, name) = cc in
    let number : d - 48 ≡ k = ap (λ (p : ℕ × List ℕ). p.0) both in
    let tail : rest ≡ name = ap (λ (p : ℕ × List ℕ). p.1) both in
    let digit : d ≡ 48 + k = omega (arith, low, number) in
    record { few = omega (arith, low, high, number); is = rw (ka, kb, kc, ke, digit, tail) refl }
by_tests a b c d e rest k name false tb tc tl tu ts ea eb ec el eu es h = absurd cc
by_tests a b c d e rest k name true false tc tl tu ts ea eb ec el eu es h = absurd cc
by_tests a b c d e rest k name true true false tl tu ts ea eb ec el eu es h = absurd cc
by_tests a b c d e rest k name true true true false tu ts ea eb ec el eu es h = absurd cc
by_tests a b c d e rest k name true true true true false ts ea eb ec el eu es h = absurd cc
by_tests a b c d e rest k name true true true true true false ea eb ec el eu es h = absurd cc

is_numbered : (text : List ℕ) (k : ℕ) (name : List ℕ) → numbered text ≡ Some (k, name) → IsNumbered text k name
is_numbered [] k name h = absurd cc
is_numbered (a ∷ []) k name h = absurd cc
is_numbered (a ∷ b ∷ []) k name h = absurd cc
is_numbered (a ∷ b ∷ c ∷ []) k name h = absurd cc
is_numbered (a ∷ b ∷ c ∷ d ∷ []) k name h = absurd cc
is_numbered (a ∷ b ∷ c ∷ d ∷ e ∷ rest) k name h = by_tests a b c d e rest k name _ _ _ _ _ _ refl refl refl refl refl refl h

headers_well : (path : List ℕ) (found : Option (ℕ × List ℕ)) → ((k : ℕ) (name : List ℕ) → found ≡ Some (k, name) → (k < MOST_PAYLOADS) × (path ≡ codes "header/headers/" ++ digits k ++ 47 ∷ name)) → IsWell path (in_headers found)
headers_well path None h = tt
headers_well path (Some (k, name)) h = let t = h k name refl in
    step path (bytes_eq name (codes "type-info")) (TypeInfo k) _ (λ e. (t.0, t.1 ∙ ap (λ w. codes "header/headers/" ++ digits k ++ 47 ∷ w) ((bytes_eq-Decides name (codes "type-info")).0 e)))
    (step path (bytes_eq name (codes "meta-data")) (MetaData k) Other (λ e. (t.0, t.1 ∙ ap (λ w. codes "header/headers/" ++ digits k ++ 47 ∷ w) ((bytes_eq-Decides name (codes "meta-data")).0 e))) tt)

pub good_name : (text name : List ℕ) → file_name text ≡ Some name → IsFileName name × (text ≡ name)
good_name text name h = tests (is_ok (name_of text)) (is_plain text) refl refl h
  where
    is_name : (r : Bool) → r ≡ is_ok (name_of text) → r ≡ true → IsName text
    is_name r e t = named (name_of text) refl (sym e ∙ t)
      where
        named : (o : _) → name_of text ≡ o → is_ok o ≡ true → IsName text
        named (Ok x) e t = e ∙ ap Ok (same_name text x e)
        named (Err x) e t = absurd cc

    tests : (a b : Bool) → a ≡ is_ok (name_of text) → b ≡ is_plain text → cond (a && b) (Some text) None ≡ Some name → IsFileName name × (text ≡ name)
    tests true true ea eb k = let same : text ≡ name = cc in (rw (← same) (record { name = is_name true ea refl; plain = sym eb }), same)
    tests true false ea eb k = absurd cc
    tests false b ea eb k = absurd cc

scripts_well : (path text : List ℕ) (found : Option (List ℕ)) → path ≡ codes "header/scripts/" ++ text → file_name text ≡ found → IsWell path (in_scripts found)
scripts_well path text None e h = tt
scripts_well path text (Some name) e h = let t = good_name text name h in (t.0, e ∙ ap (λ w. codes "header/scripts/" ++ w) t.1)

payload_well : (path text : List ℕ) (k : ℕ) (found : Option (List ℕ)) → k < MOST_PAYLOADS → path ≡ codes "data/" ++ digits k ++ 47 ∷ text → file_name text ≡ found → IsWell path (in_payload k found)
payload_well path text k None few e h = tt
payload_well path text k (Some name) few e h = let t = good_name text name h in ((few, t.0), e ∙ ap (λ w. codes "data/" ++ digits k ++ 47 ∷ w) t.1)

data_well : (path : List ℕ) (found : Option (ℕ × List ℕ)) → ((k : ℕ) (text : List ℕ) → found ≡ Some (k, text) → (k < MOST_PAYLOADS) × (path ≡ codes "data/" ++ digits k ++ 47 ∷ text)) → IsWell path (in_data found)
data_well path None h = tt
data_well path (Some (k, text)) h = let t = h k text refl in payload_well path text k (file_name text) t.0 t.1 refl

-- what stands at a path is spelled by it
pub placed_well : (path : List ℕ) → IsWell path (place_of path)
unfolding place_of
placed_well path =
    step path (bytes_eq path (codes "version")) Version _ (λ e. (tt, (bytes_eq-Decides path (codes "version")).0 e))
    (step path (bytes_eq path (codes "manifest")) Manifest _ (λ e. (tt, (bytes_eq-Decides path (codes "manifest")).0 e))
    (step path (bytes_eq path (codes "manifest.sig")) Signature _ (λ e. (tt, (bytes_eq-Decides path (codes "manifest.sig")).0 e))
    (step path (bytes_eq path (codes "header/header-info")) HeaderInfo _ (λ e. (tt, (bytes_eq-Decides path (codes "header/header-info")).0 e))
    (step path (begins path (codes "header/headers/")) (in_headers (numbered (drop 15 path))) _
    (λ e. headers_well path (numbered (drop 15 path)) (λ k name h. let t = is_numbered (drop 15 path) k name h in (t.few, behind path (codes "header/headers/") 15 e ∙ ap (λ w. codes "header/headers/" ++ w) t.is)))
    (step path (begins path (codes "header/scripts/")) (in_scripts (file_name (drop 15 path))) _
    (λ e. scripts_well path (drop 15 path) (file_name (drop 15 path)) (behind path (codes "header/scripts/") 15 e) refl)
    (step path (begins path (codes "data/")) (in_data (numbered (drop 5 path))) _
    (λ e. data_well path (numbered (drop 5 path)) (λ k name h. let t = is_numbered (drop 5 path) k name h in (t.few, behind path (codes "data/") 5 e ∙ ap (λ w. codes "data/" ++ w) t.is)))
    (step path (is_augmented path) Augmented Other (λ e. tt) tt)))))))

well_spelled : (path : List ℕ) (place : TreePlace) → is_allowed place ≡ true → IsWell path place → IsSpelled place × (path ≡ spelled place)
well_spelled path Version a h = h
well_spelled path Manifest a h = h
well_spelled path Signature a h = h
well_spelled path HeaderInfo a h = h
well_spelled path (TypeInfo k) a h = h
well_spelled path (MetaData k) a h = h
well_spelled path (Script name) a h = h
well_spelled path (Payload k name) a h = h
well_spelled path Augmented a h = absurd cc
well_spelled path Other a h = absurd cc

-- an allowed path is the spelling of its place
pub allowed_spelled : (path : List ℕ) → is_allowed (place_of path) ≡ true → IsSpelled (place_of path) × (path ≡ spelled (place_of path))
allowed_spelled path a = well_spelled path (place_of path) a (placed_well path)

-- ---- what is spelled stands there

numbered_by : (d : ℕ) (rest : List ℕ) (l u : Bool) → l ≡ nat_le 48 d → u ≡ nat_lt d (48 + MOST_PAYLOADS) → 48 ≤ d → d < 48 + MOST_PAYLOADS → cond {A = Option (ℕ × List ℕ)} (l && (u && true)) (Some (d - 48, rest)) None ≡ Some (d - 48, rest)
numbered_by d rest true true el eu low high = refl
numbered_by d rest true false el eu low high = absurd (grind (arith, nat_tests))
numbered_by d rest false u el eu low high = absurd (grind (arith, nat_tests))

numbered_there : (k : ℕ) (rest : List ℕ) → k < MOST_PAYLOADS → numbered (digits k ++ 47 ∷ rest) ≡ Some (k, rest)
numbered_there k rest few = numbered_by (48 + k) rest (nat_le 48 (48 + k)) (nat_lt (48 + k) (48 + MOST_PAYLOADS)) refl refl (omega arith) (omega arith) ∙ ap (λ (n : ℕ). Some (n, rest)) (omega arith)

named_there : (name : List ℕ) → IsFileName name → file_name name ≡ Some name
named_there name h = ap (λ r. cond (is_ok r && is_plain name) (Some name) None) h.name ∙ ap (λ (b : Bool). cond b (Some name) None) h.plain

pub place_spelled : (place : TreePlace) → IsSpelled place → place_of (spelled place) ≡ place
unfolding place_of
place_spelled Version h = refl
place_spelled Manifest h = refl
place_spelled Signature h = refl
place_spelled HeaderInfo h = refl
place_spelled (TypeInfo k) h = ap in_headers (numbered_there k (codes "type-info") h)
place_spelled (MetaData k) h = ap in_headers (numbered_there k (codes "meta-data") h)
place_spelled (Script name) h = ap in_scripts (named_there name h)
place_spelled (Payload k name) h = ap in_data (numbered_there k name h.0) ∙ ap (in_payload k) (named_there name h.1)
place_spelled Augmented h = absurd h
place_spelled Other h = absurd h

-- ---- names in paths

script_path_at : (path name : List ℕ) (place : TreePlace) → place_of path ≡ place → script_at place ≡ Some name → path ≡ codes "header/scripts/" ++ name
script_path_at path name Version e h = absurd cc
script_path_at path name Manifest e h = absurd cc
script_path_at path name Signature e h = absurd cc
script_path_at path name HeaderInfo e h = absurd cc
script_path_at path name (TypeInfo k) e h = absurd cc
script_path_at path name (MetaData k) e h = absurd cc
script_path_at path name (Script x) e h =
    let same : x ≡ name = cc in
    (allowed_spelled path (ap is_allowed e)).1 ∙ ap spelled e ∙ ap (λ w. codes "header/scripts/" ++ w) same
script_path_at path name (Payload k x) e h = absurd cc
script_path_at path name Augmented e h = absurd cc
script_path_at path name Other e h = absurd cc

pub script_path : (path name : List ℕ) → script_at (place_of path) ≡ Some name → path ≡ codes "header/scripts/" ++ name
script_path path name h = script_path_at path name (place_of path) refl h

pub record IsPayloadPath (path : List ℕ) (k : ℕ) (name : List ℕ) : Type 0 where
  pub is : path ≡ spelled (Payload k name)
  pub few : k < MOST_PAYLOADS
  pub file : IsFileName name

payload_path_at : (path : List ℕ) (k : ℕ) (name : List ℕ) (place : TreePlace) → place_of path ≡ place → payload_at place ≡ Some (k, name) → IsPayloadPath path k name
payload_path_at path k name Version e h = absurd cc
payload_path_at path k name Manifest e h = absurd cc
payload_path_at path k name Signature e h = absurd cc
payload_path_at path k name HeaderInfo e h = absurd cc
payload_path_at path k name (TypeInfo j) e h = absurd cc
payload_path_at path k name (MetaData j) e h = absurd cc
payload_path_at path k name (Script x) e h = absurd cc
payload_path_at path k name (Payload j x) e h =
    let both : ◌≡◌ {A = ℕ × List ℕ} (j, x) (k, name) = cc in
    let place : Payload j x ≡ Payload k name = ap (λ (p : ℕ × List ℕ). Payload p.0 p.1) both in
    let t = allowed_spelled path (ap is_allowed e) in
    let spelled_so : IsSpelled (Payload k name) = subst IsSpelled (e ∙ place) t.0 in
    record { is = t.1 ∙ ap spelled (e ∙ place); few = spelled_so.0; file = spelled_so.1 }
payload_path_at path k name Augmented e h = absurd cc
payload_path_at path k name Other e h = absurd cc

pub payload_path : (path : List ℕ) (k : ℕ) (name : List ℕ) → payload_at (place_of path) ≡ Some (k, name) → IsPayloadPath path k name
payload_path path k name h = payload_path_at path k name (place_of path) refl h

-- ---- type-infos

info_path_at : (path : List ℕ) (k : ℕ) (place : TreePlace) → place_of path ≡ place → is_info_of k place ≡ true → path ≡ spelled (TypeInfo k)
info_path_at path k (TypeInfo j) e h =
    let same : j ≡ k = grind (arith, nat_tests) in
    (allowed_spelled path (ap is_allowed e)).1 ∙ ap spelled e ∙ ap (λ (n : ℕ). spelled (TypeInfo n)) same
info_path_at path k Version e h = absurd cc
info_path_at path k Manifest e h = absurd cc
info_path_at path k Signature e h = absurd cc
info_path_at path k HeaderInfo e h = absurd cc
info_path_at path k (MetaData j) e h = absurd cc
info_path_at path k (Script x) e h = absurd cc
info_path_at path k (Payload j x) e h = absurd cc
info_path_at path k Augmented e h = absurd cc
info_path_at path k Other e h = absurd cc

-- a type-info has the path that is spelled so
pub info_path : (path : List ℕ) (k : ℕ) → is_info_of k (place_of path) ≡ true → path ≡ spelled (TypeInfo k)
info_path path k h = info_path_at path k (place_of path) refl h

info_is_header : (place : TreePlace) (k : ℕ) → info_at place ≡ Some k → is_header place ≡ true
info_is_header (TypeInfo j) k h = refl
info_is_header Version k h = absurd cc
info_is_header Manifest k h = absurd cc
info_is_header Signature k h = absurd cc
info_is_header HeaderInfo k h = absurd cc
info_is_header (MetaData j) k h = absurd cc
info_is_header (Script x) k h = absurd cc
info_is_header (Payload j x) k h = absurd cc
info_is_header Augmented k h = absurd cc
info_is_header Other k h = absurd cc

pub record IsHeaderPath (found : Option (List ℕ)) : Type 0 where
  pub path : List ℕ
  pub is : found ≡ Some path
  pub header : is_header (place_of path) ≡ true

-- a type-info is a file that is read whole
pub info_header : (found : Option (List ℕ)) (k : ℕ) → info_at (place_at found) ≡ Some k → IsHeaderPath found
info_header None k h = absurd cc
info_header (Some path) k h = record { path = path; is = refl; header = info_is_header (place_of path) k h }

-- it is no payload's file
info_no_payload : (place : TreePlace) → is_payload place ≡ true → info_at place ≡ None
info_no_payload (Payload j x) h = refl
info_no_payload (TypeInfo j) h = absurd cc
info_no_payload Version h = absurd cc
info_no_payload Manifest h = absurd cc
info_no_payload Signature h = absurd cc
info_no_payload HeaderInfo h = absurd cc
info_no_payload (MetaData j) h = absurd cc
info_no_payload (Script x) h = absurd cc
info_no_payload Augmented h = absurd cc
info_no_payload Other h = absurd cc

pub payload_no_info : (found : Option (List ℕ)) → is_payload (place_at found) ≡ true → info_at (place_at found) ≡ None
payload_no_info found h = info_no_payload (place_at found) h
