-- An admission reads no payload but for its sum.
use Rattle.std.proofs.Common.{◌≡◌, ◌≢◌, ◌∙◌, ℕ, Bool, true, false, List, [], ◌∷◌, Option, Some, None, Ok, refl, sym, ap}
use Rattle.std.specs.Prelude.{codes, cond, not}
use Rattle.std.specs.List.{All, AllZip, zip, cons_option}
use Rattle.std.proofs.lemmas.List.Elements.{All-nil, All-cons}
use Rattle.upd_text.specs.Told.{WhereTold}
use Rattle.io_model.specs.Source.{Tree, Content, path_at, When}
use Rattle.io_model.specs.Source.Content.{Told, Untold}
use Rattle.io_model.specs.Reading.{IsUnread, OnlyOf}
use Rattle.io_model.proofs.Readings.{read_after, part_of_none}
use Rattle.manifest_sums.specs.declared.manifest.Line.{Line}
use Rattle.admit.specs.Places.{place_of, place_at, is_payload}
use Rattle.admit.specs.Table.{FileHead, heads_of, info_in, table_of}
use Rattle.admit.specs.Admit.{lines_of}
use Rattle.admit.specs.Given.{is_payload_file, SparesPayloads, ReadsPayloads, NoneBut, NoneButThese}
use Rattle.admit.specs.Differing.{in_payload, in_rest, picked}
use Rattle.admit.specs.Answers.{IsCause, IsProper}
use Rattle.admit.specs.declared.table.Places.{Places}
use Rattle.admit.specs.declared.lines.Listing.{Listing}
use Rattle.admit.specs.declared.refusal.Refusal.{Refusal}
use Rattle.admit.specs.declared.refusal.Refusal.TheVariants as refusal
use Rattle.admit.proofs.Placed.{payload_no_info}
use Rattle.admit.proofs.Infos.{info_in_tree}
use Rattle.admit.proofs.TableLemmas.{IsPlace, accepted}
use Rattle.admit.proofs.LinesLemmas.{listed, zip_weaker}
use Rattle.admit.proofs.IsOfLemmas.{path_there}

-- ---- what isn't read

pub spares_none : (c : Content) (old new : Option (List ℕ)) → new ≡ old → When c (λ t. SparesPayloads t old new)
spares_none (Untold n) old new e = tt
spares_none (Told t) None new e = rw e tt
spares_none (Told t) (Some a) new e = rw e (λ i payload. refl)

spares_then : (t : Tree) (R : List ℕ → List ℕ → Type 0) (old mid new : Option (List ℕ)) → ((a b : List ℕ) → R a b → (i : ℕ) → is_payload_file t i ≡ true → IsUnread i a b) → SparesPayloads t old mid → WhereTold R mid new → SparesPayloads t old new
spares_then t R None None None f h k = tt
spares_then t R None None (Some c) f h k = absurd k
spares_then t R None (Some b) new f h k = absurd h
spares_then t R (Some a) None new f h k = absurd h
spares_then t R (Some a) (Some b) None f h k = absurd k
spares_then t R (Some a) (Some b) (Some c) f h k = λ i payload. f b c k i payload ∙ h i payload

pub other_file : (t : Tree) (path : List ℕ) (n i : ℕ) → path_at t n ≡ Some path → in_payload path ≡ false → is_payload_file t i ≡ true → i ≢ n
other_file t path n i at other payload same = differ (sym payload ∙ ap (is_payload_file t) same ∙ ap (λ o. is_payload (place_at o)) at ∙ other)
  where
    differ : true ≡ false → ⊥
    differ e = cc

pub spares_manifest : (c : Content) (heads : List FileHead) (places : Places) (old mid new : Option (List ℕ)) → When c (λ t. heads ≡ heads_of t) → table_of heads ≡ Ok places → mid ≡ old → WhereTold (OnlyOf places.manifest) mid new → When c (λ t. SparesPayloads t old new)
unfolding place_of
spares_manifest (Untold n) heads places old mid new told table e only = tt
spares_manifest (Told t) heads places old mid new told table e only =
    let at = path_there t heads (codes "manifest") places.manifest told (accepted heads places table).manifest in
    spares_then t (OnlyOf places.manifest) old mid new (λ a b h i payload. h i (other_file t (codes "manifest") places.manifest i at refl payload)) (spares_none (Told t) old mid e) only

no_info_there : (t : Tree) (heads : List FileHead) (i : ℕ) → heads ≡ heads_of t → is_payload_file t i ≡ true → info_in heads i ≡ None
no_info_there t heads i told payload = ap (λ (hs : List FileHead). info_in hs i) told ∙ info_in_tree t i ∙ payload_no_info (path_at t i) payload

pub spares_texts : (c : Content) (heads : List FileHead) (places : Places) (old mid new : Option (List ℕ)) → When c (λ t. heads ≡ heads_of t) → table_of heads ≡ Ok places → When c (λ t. SparesPayloads t old mid) → WhereTold (NoneBut heads places) mid new → When c (λ t. SparesPayloads t old new)
unfolding place_of
spares_texts (Untold n) heads places old mid new told table h none = tt
spares_texts (Told t) heads places old mid new told table h none =
    let a = accepted heads places table in
    let version = path_there t heads (codes "version") places.version told a.version in
    let info = path_there t heads (codes "header/header-info") places.header_info told a.header_info in
    spares_then t (NoneBut heads places) old mid new (λ x y n i payload. n i (other_file t (codes "version") places.version i version refl payload) (other_file t (codes "header/header-info") places.header_info i info refl payload) (no_info_there t heads i told payload)) h none

rest_others : (t : Tree) (i : ℕ) (lines : List Line) (numbers : List ℕ) → is_payload_file t i ≡ true → AllZip (λ line n. path_at t n ≡ Some line.path) lines numbers → All (λ n. i ≢ n) (picked in_rest (zip lines numbers))
rest_others t i [] numbers payload z = All-nil (λ n. i ≢ n)
rest_others t i (line ∷ lines) [] payload z = absurd z
rest_others t i (line ∷ lines) (n ∷ numbers) payload z =
    let more = rest_others t i lines numbers payload z.1 in
    elim (in_payload line.path) as (λ b. b ≡ in_payload line.path → All (λ n. i ≢ n) (cons_option (cond (not b) (Some n) None) (picked in_rest (zip lines numbers)))) [
      | true ↦ (λ e. more)
      | false ↦ (λ e. All-cons (λ n. i ≢ n) n (picked in_rest (zip lines numbers)) (other_file t line.path n i z.0 (sym e) payload) more)
    ] refl

pub spares_rest : (c : Content) (heads : List FileHead) (bytes : List ℕ) (l : Listing) (lines : List Line) (numbers : List ℕ) (old mid new : Option (List ℕ)) → When c (λ t. heads ≡ heads_of t) → lines_of heads bytes ≡ Ok l → lines ≡ l.manifest → numbers ≡ l.numbers → When c (λ t. SparesPayloads t old mid) → WhereTold (NoneButThese (picked in_rest (zip lines numbers))) mid new → When c (λ t. SparesPayloads t old new)
spares_rest (Untold n) heads bytes l lines numbers old mid new told read el en h none = tt
spares_rest (Told t) heads bytes l lines numbers old mid new told read el en h none =
    let there = zip_weaker (λ line n. IsPlace heads line.path n) (λ line n. path_at t n ≡ Some line.path) l.manifest l.numbers (λ line n p. path_there t heads line.path n told p) (listed heads bytes l read).places in
    spares_then t (NoneButThese (picked in_rest (zip lines numbers))) old mid new (λ a b n i payload. n i (rw (el, en) (rest_others t i l.manifest l.numbers payload there))) h none

-- ---- and then is read

pub reads_after : (whole : Bool) (c : Content) (old mid new : Option (List ℕ)) → When c (λ t. SparesPayloads t old mid) → When c (λ t. ReadsPayloads whole t mid new) → When c (λ t. ReadsPayloads whole t old new)
reads_after whole (Untold n) old mid new h k = tt
reads_after whole (Told t) None None None h k = tt
reads_after whole (Told t) None None (Some c) h k = absurd k
reads_after whole (Told t) None (Some b) new h k = absurd h
reads_after whole (Told t) (Some a) None new h k = absurd h
reads_after whole (Told t) (Some a) (Some b) None h k = absurd k
reads_after whole (Told t) (Some a) (Some b) (Some c) h k = λ i payload. read_after whole t i a b c (h i payload) (k i payload)

pub reads_none : (c : Content) (old new : Option (List ℕ)) → When c (λ t. SparesPayloads t old new) → When c (λ t. ReadsPayloads false t old new)
reads_none (Untold n) old new h = tt
reads_none (Told t) None None h = tt
reads_none (Told t) None (Some b) h = absurd h
reads_none (Told t) (Some a) None h = absurd h
reads_none (Told t) (Some a) (Some b) h = λ i payload. part_of_none t i a b (h i payload)

-- ---- causes

pub proper_cause : (count : ℕ) (r : Refusal) → IsCause r → IsProper count r
proper_cause count (refusal.TooManyFiles n) h = absurd h
proper_cause count (refusal.Augmented n) h = h
proper_cause count (refusal.BadPath n) h = h
proper_cause count (refusal.DoubledPath n) h = h
proper_cause count (refusal.NoFile w) h = h
proper_cause count (refusal.HeaderTooLong p) h = h
proper_cause count (refusal.Manifest e) h = h
proper_cause count (refusal.NotListed p) h = h
proper_cause count (refusal.Absent p) h = h
proper_cause count (refusal.SumDiffers d) h = h
proper_cause count refusal.BadVersion h = h
proper_cause count (refusal.Meta e k) h = h
proper_cause count (refusal.BadScriptName p) h = h
proper_cause count (refusal.TooManyScripts n) h = h
proper_cause count (refusal.Unmet key) h = h
proper_cause count (refusal.PayloadDiffers d) h = h
proper_cause count (refusal.NoTypeInfo k) h = h
proper_cause count (refusal.NoSuchPayload p) h = h
