-- The manifest that was written lists what it was written for.
use Rattle.std.proofs.Common.{◌≡◌, ◌≢◌, ℕ, zero, suc, ◌<◌, ◌≤◌, false, List, [], ◌∷◌, ◌++◌, length, map, Ok, refl, sym, ap, ◌∙◌, arith}
use Rattle.std.specs.Prelude.{⊤, AllPairs, slice_index}
use Rattle.std.specs.Int.{byte_at, bytes_high_first, to_be_bytes, w32}
use Rattle.std.specs.List.{AllByRecursion}
use Rattle.std.proofs.Math.Nat.{mod-lt}
use Rattle.std.proofs.lemmas.List.Elements.{All-from_recursion}
use Rattle.std.proofs.lemmas.List.Kept.{AllPairs-cons}
use Rattle.std.proofs.lemmas.List.{length-map}
use Rattle.hex.specs.Hex.{encode_lower, IsBytes}
use Rattle.sha2.specs.Sha256.{sha256, digest_bytes}
use Rattle.sha2.proofs.Facts256.{length-sha256}
use Rattle.upd_text.specs.Text.{IsName}
use Rattle.manifest_sums.specs.Manifest.{manifest_of}
use Rattle.manifest_sums.specs.Spelling.{SpellsSum, Begins, is_packed}
use Rattle.manifest_sums.specs.declared.manifest.Line.{Line}
use Rattle.manifest_sums.proofs.SpellingLemmas.{manifest_text as manifest_both, sum_both, sum_back}
use Rattle.admit.specs.Places.{spelled, place_of, IsSpelled}
use Rattle.admit.specs.declared.place.TreePlace.{TreePlace}
use Rattle.admit.specs.declared.place.TreePlace.TheVariants.{Version, Manifest, Signature, HeaderInfo, TypeInfo, MetaData, Script, Payload, Augmented, Other}
use Rattle.admit.proofs.Placed.{place_spelled}
use Rattle.tree_writer.specs.Files.{Entry, line_text, manifest_text}
use Rattle.tree_writer.specs.Plan.{line_of}

-- ---- a sum is 32 bytes

byte_small : (k n : ℕ) → byte_at k n < 256
byte_small zero n = mod-lt n (omega arith)
byte_small (suc k) n = mod-lt _ (omega arith)

high_first : (k n : ℕ) → AllByRecursion (λ b. b < 256) (bytes_high_first k n)
high_first zero n = tt
high_first (suc k) n = (byte_small k n, high_first k n)

pub all_append : {A : Type 0} (P : A → Type 0) (xs ys : List A) → AllByRecursion P xs → AllByRecursion P ys → AllByRecursion P (xs ++ ys)
all_append P [] ys h k = k
all_append P (x ∷ xs) ys h k = (h.0, all_append P xs ys h.1 k)

digest_all : (h : List ℕ) (n : ℕ) → AllByRecursion (λ b. b < 256) (digest_bytes h n)
unfolding digest_bytes
digest_all h zero = tt
digest_all h (suc n) = all_append (λ b. b < 256) (digest_bytes h n) (to_be_bytes w32 (slice_index h n)) (digest_all h n) (high_first 4 (slice_index h n))

is_bytes : (xs : List ℕ) → AllByRecursion (λ b. b < 256) xs → IsBytes xs
is_bytes [] h i = omega arith
is_bytes (x ∷ xs) h zero = h.0
is_bytes (x ∷ xs) h (suc i) = is_bytes xs h.1 i

sum_bytes : (m : List ℕ) → IsBytes (sha256 m)
unfolding sha256
sum_bytes m = is_bytes _ (digest_all _ 8)

spells_sum : (m : List ℕ) → SpellsSum (encode_lower (sha256 m)) (sha256 m)
spells_sum m = (sum_both (encode_lower (sha256 m)) (sha256 m)).0 (sum_back (sha256 m) (length-sha256 m) (sum_bytes m))

-- ---- entries

-- a place with a spelling that is a name
pub record IsEntry (entry : Entry) : Type 0 where
  pub place : IsSpelled entry.0
  pub name : IsName (spelled entry.0)

-- each place is that of no entry behind it
abbrev pub AreDistinct : List Entry → Type 0
AreDistinct [] = ⊤
AreDistinct (e ∷ es) = AllByRecursion (λ f. f.0 ≢ e.0) es × AreDistinct es

pub same_place : (p q : TreePlace) → IsSpelled p → IsSpelled q → spelled p ≡ spelled q → p ≡ q
same_place p q hp hq e = sym (place_spelled p hp) ∙ ap place_of e ∙ place_spelled q hq

-- ---- the lines

begins : (es : List Entry) → AllByRecursion IsEntry es → Begins (manifest_text es) (map line_of es) []
begins [] h = refl
begins (e ∷ es) h = (
  line_text e,
  manifest_text es,
  refl,
  record { digits = encode_lower (sha256 e.1); sum = spells_sum e.1; path = h.0.name; parts = refl },
  begins es h.1,
)

unpacked_place : (p : TreePlace) (sum : List ℕ) → IsSpelled p → is_packed (record { path = spelled p; sum = sum }) ≡ false
unpacked_place Version sum h = refl
unpacked_place Manifest sum h = refl
unpacked_place Signature sum h = refl
unpacked_place HeaderInfo sum h = refl
unpacked_place (TypeInfo k) sum h = refl
unpacked_place (MetaData k) sum h = refl
unpacked_place (Script name) sum h = refl
unpacked_place (Payload k name) sum h = refl
unpacked_place Augmented sum h = absurd h
unpacked_place Other sum h = absurd h

unpacked : (es : List Entry) → AllByRecursion IsEntry es → AllByRecursion (λ line. is_packed line ≡ false) (map line_of es)
unpacked [] h = tt
unpacked (e ∷ es) h = (unpacked_place e.0 (sha256 e.1) h.0.place, unpacked es h.1)

other_paths : (e : Entry) (es : List Entry) → IsSpelled e.0 → AllByRecursion IsEntry es → AllByRecursion (λ f. f.0 ≢ e.0) es → AllByRecursion (λ (line : Line). spelled e.0 ≢ line.path) (map line_of es)
other_paths e [] p h other = tt
other_paths e (f ∷ es) p h other = (λ same. other.0 (same_place f.0 e.0 h.0.place p (sym same)), other_paths e es p h.1 other.1)

distinct_lines : (es : List Entry) → AllByRecursion IsEntry es → AreDistinct es → AllPairs (λ a b. a.path ≢ b.path) (map line_of es)
distinct_lines [] h d = λ i j x lt within. absurd (omega arith)
distinct_lines (e ∷ es) h d =
    AllPairs-cons (λ (a b : Line). a.path ≢ b.path) (line_of e) (map line_of es)
    (All-from_recursion (λ (line : Line). spelled e.0 ≢ line.path) (map line_of es) (other_paths e es h.0.place h.1 d.0))
    (distinct_lines es h.1 d.1)

-- the manifest of distinct entries is read as their lines
pub manifest-back : (es : List Entry) → AllByRecursion IsEntry es → AreDistinct es → length es ≤ 256 → manifest_of (manifest_text es) ≡ Ok (map line_of es)
manifest-back es h d few = (manifest_both (manifest_text es) (map line_of es)).1 (record {
  rows = begins es h;
  right = record { distinct = distinct_lines es h d; unpacked = All-from_recursion (λ line. is_packed line ≡ false) (map line_of es) (unpacked es h) };
  few = omega (arith, few, length-map es line_of);
})
