-- The heads of a written tree: what stands at each path, and where.
use Rattle.std.proofs.Common.{◌≡◌, ◌≢◌, ℕ, ◌+◌, ◌<◌, true, false, List, [], ◌∷◌, ◌++◌, length, map, take, Option, Some, None, refl, sym, ap, ◌∙◌, arith, append_assoc, length-append}
use Rattle.std.specs.Prelude.{slice_get}
use Rattle.std.specs.List.{AllByRecursion, list_any, filter_map, cons_option, enumerate_from, position_or_len}
use Rattle.std.specs.Str.{bytes_eq}
use Rattle.std.proofs.lemmas.Bool.{false_from_ne_true, lt-ltb}
use Rattle.std.proofs.lemmas.Slice.Eq.{bytes_eq-Decides}
use Rattle.std.proofs.lemmas.List.{map-append, length-map}
use Rattle.std.proofs.Math.Seq.{take-append_seam}
use Rattle.io_model.specs.Source.{bytes_at}
use Rattle.admit.specs.Places.{place_of, place_at, spelled, IsSpelled, is_barred, is_allowed}
use Rattle.admit.specs.Table.{FileHead, heads_of, has_path, place_in, bad_path, first_bad_path}
use Rattle.admit.specs.declared.place.TreePlace.{TreePlace}
use Rattle.admit.specs.declared.place.TreePlace.TheVariants.{Version, Manifest, Signature, HeaderInfo, TypeInfo, MetaData, Script, Payload, Augmented, Other}
use Rattle.admit.specs.declared.refusal.Refusal.{Refusal}
use Rattle.admit.proofs.Placed.{place_spelled}
use Rattle.tree_writer.specs.Files.{Entry, as_file}
use Rattle.tree_writer.proofs.ManifestBack.{IsEntry, AreDistinct, same_place, all_append}

abbrev pub head : Entry → FileHead
head e = record { path = Some (spelled e.0); length = length e.1 }

pub heads-placed : (es : List Entry) → heads_of (map as_file es) ≡ map head es
heads-placed [] = refl
heads-placed (e ∷ es) = ap (λ (hs : List FileHead). head e ∷ hs) (heads-placed es)

-- what is found by the places of the heads is found by the places of the entries
pub found_by_place : {X : Type 0} (f : TreePlace → Option X) (es : List Entry) → AllByRecursion IsEntry es → filter_map (λ (h : FileHead). f (place_at h.path)) (map head es) ≡ filter_map (λ (e : Entry). f e.0) es
found_by_place f [] h = refl
found_by_place f (e ∷ es) h =
    ap (λ (p : TreePlace). cons_option (f p) (filter_map (λ (w : FileHead). f (place_at w.path)) (map head es))) (place_spelled e.0 h.0.place)
    ∙ ap (cons_option (f e.0)) (found_by_place f es h.1)

-- ---- paths

pub other_path : (p q : TreePlace) → IsSpelled p → IsSpelled q → q ≢ p → bytes_eq (spelled q) (spelled p) ≡ false
other_path p q hp hq other = false_from_ne_true _ (λ t. other (same_place q p hq hp ((bytes_eq-Decides (spelled q) (spelled p)).0 t)))

-- no entry has the place
abbrev pub Lacks : TreePlace → List Entry → Type 0
Lacks p es = AllByRecursion (λ e. e.0 ≢ p) es

lacks_path : (p : TreePlace) (es : List Entry) → IsSpelled p → AllByRecursion IsEntry es → Lacks p es → list_any (has_path (spelled p)) (map head es) ≡ false
lacks_path p [] hp h l = refl
lacks_path p (e ∷ es) hp h l = rw (other_path p e.0 hp h.0.place l.0) (lacks_path p es hp h.1 l.1)

barred_not : (p : TreePlace) → IsSpelled p → is_barred p ≡ false
barred_not Version h = refl
barred_not Manifest h = refl
barred_not Signature h = refl
barred_not HeaderInfo h = refl
barred_not (TypeInfo k) h = refl
barred_not (MetaData k) h = refl
barred_not (Script name) h = refl
barred_not (Payload k name) h = refl
barred_not Augmented h = absurd h
barred_not Other h = absurd h

allowed : (p : TreePlace) → IsSpelled p → is_allowed p ≡ true
allowed Version h = refl
allowed Manifest h = refl
allowed Signature h = refl
allowed HeaderInfo h = refl
allowed (TypeInfo k) h = refl
allowed (MetaData k) h = refl
allowed (Script name) h = refl
allowed (Payload k name) h = refl
allowed Augmented h = absurd h
allowed Other h = absurd h

good_path : (before : List Entry) (e : Entry) → AllByRecursion IsEntry before → IsEntry e → Lacks e.0 before → bad_path (map head before) (Some (spelled e.0)) ≡ None
unfolding bad_path
good_path before e hb he l =
    let at : place_of (spelled e.0) ≡ e.0 = place_spelled e.0 he.place in
    rw (at, barred_not e.0 he.place, allowed e.0 he.place, lacks_path e.0 before he.place hb l) refl

-- the front lacks what stands behind it
abbrev pub AreApart : List Entry → List Entry → Type 0
AreApart before es = AllByRecursion (λ e. Lacks e.0 before) es

pub apart_next : (before : List Entry) (e : Entry) (es : List Entry) → AreApart before es → AllByRecursion (λ (f : Entry). f.0 ≢ e.0) es → AreApart (before ++ e ∷ []) es
apart_next before e [] a d = tt
apart_next before e (f ∷ es) a d = (all_append (λ (x : Entry). x.0 ≢ f.0) before (e ∷ []) a.0 ((λ same. d.0 (sym same)), tt), apart_next before e es a.1 d.1)

module _ (all : List FileHead) where
  abbrev bad : ℕ × FileHead → Option Refusal
  bad file = bad_path (take file.0 all) file.1.path

  none_bad : (before es : List Entry) (n : ℕ) → n ≡ length before → all ≡ map head (before ++ es) → AllByRecursion IsEntry before → AllByRecursion IsEntry es → AreApart before es → AreDistinct es
      → filter_map bad (enumerate_from n (map head es)) ≡ []
  none_bad before [] n len is hb h a d = refl
  none_bad before (e ∷ es) n len is hb h a d =
      let front : take n all ≡ map head before =
      ap (take n) (is ∙ map-append head before (e ∷ es)) ∙ ap (λ k. take k (map head before ++ map head (e ∷ es))) (len ∙ sym (length-map before head)) ∙ take-append_seam (map head before) (map head (e ∷ es)) in
      let good : bad (n, head e) ≡ None = ap (λ (hs : List FileHead). bad_path hs (Some (spelled e.0))) front ∙ good_path before e hb h.0 a.0 in
      let long : n + 1 ≡ length (before ++ e ∷ []) = omega (arith, len, length-append before (e ∷ [])) in
      ap (λ (o : Option Refusal). cons_option o (filter_map bad (enumerate_from (n + 1) (map head es)))) good
      ∙ none_bad (before ++ e ∷ []) es (n + 1) long (is ∙ ap (λ (fs : List Entry). map head fs) (sym (append_assoc before (e ∷ []) es))) (all_append IsEntry before (e ∷ []) hb (h.0, tt)) h.1 (apart_next before e es a.1 d.0) d.1

pub all_apart : (es : List Entry) → AreApart [] es
all_apart [] = tt
all_apart (e ∷ es) = (tt, all_apart es)

pub paths_good : (es : List Entry) → AllByRecursion IsEntry es → AreDistinct es → first_bad_path (map head es) ≡ None
unfolding first_bad_path
paths_good es h d = ap (λ (rs : List Refusal). slice_get rs 0) (none_bad (map head es) [] es 0 refl refl tt h (all_apart es) d)

-- ---- where a place stands

has_itself : (e : Entry) → has_path (spelled e.0) (head e) ≡ true
has_itself e = (bytes_eq-Decides (spelled e.0) (spelled e.0)).1 refl

place_from : (before : List Entry) (e : Entry) (behind : List Entry) → AllByRecursion IsEntry before → IsEntry e → Lacks e.0 before → position_or_len (has_path (spelled e.0)) (map head (before ++ e ∷ behind)) ≡ length before
place_from [] e behind hb he l = rw (has_itself e) refl
place_from (x ∷ before) e behind hb he l = rw (other_path e.0 x.0 he.place hb.0.place l.0) (omega (arith, place_from before e behind hb.1 he l.1))

pub placed_at : (before : List Entry) (e : Entry) (behind : List Entry) → AllByRecursion IsEntry before → IsEntry e → Lacks e.0 before → place_in (map head (before ++ e ∷ behind)) (spelled e.0) ≡ Some (length before)
placed_at before e behind hb he l =
    let at = place_from before e behind hb he l in
    let long : length before < length (map head (before ++ e ∷ behind)) = omega (arith, length-map (before ++ e ∷ behind) head, length-append before (e ∷ behind)) in
    rw (at, lt-ltb _ _ long) refl

pub bytes-placed : (before : List Entry) (e : Entry) (behind : List Entry) → bytes_at (map as_file (before ++ e ∷ behind)) (length before) ≡ e.1
bytes-placed [] e behind = refl
bytes-placed (x ∷ before) e behind = bytes-placed before e behind
