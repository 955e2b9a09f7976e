-- One payload file more.
use Rattle.std.proofs.Common.{◌≡◌, ℕ, suc, ◌+◌, ◌<◌, List, [], ◌∷◌, ◌++◌, length, take, sym, ap, ◌∙◌, subst, append_assoc, arith}
use Rattle.std.proofs.lemmas.List.{length-take-le}
use Rattle.std.proofs.lemmas.Option.{slice_get_within, get_or_from_slice_get}
use Rattle.std.proofs.Math.Seq.{take-suc}
use Rattle.std.specs.Prelude.{All, Some, slice_get, codes}
use Rattle.io_model.specs.Source.{Tree}
use Rattle.lab.specs.Trees.{Named, Has, heads, pattern, payload_path, payloads, listed, told, tree_of}

-- the front of a list with one item more
pub take-next : {X : Type 0} (xs : List X) (i : ℕ) (x : X) → slice_get xs i ≡ Some x → take (i + 1) xs ≡ take i xs ++ x ∷ []
take-next {X} xs i x is =
    let count : i + 1 ≡ suc i = omega arith in
    ap (λ (n : ℕ). take n xs) count ∙ take-suc xs i x (slice_get_within xs i x is) ∙ ap (λ (y : X). take i xs ++ y ∷ []) (get_or_from_slice_get xs i x x is)

payloads-push : (from : ℕ) (lengths : List ℕ) (n : ℕ) → payloads from (lengths ++ n ∷ []) ≡ payloads from lengths ++ (payload_path (from + length lengths), pattern (from + length lengths) n) ∷ []
payloads-push from [] n = let same : from ≡ from + 0 = omega arith in ap (λ (i : ℕ). (payload_path i, pattern i n) ∷ []) same
payloads-push from (m ∷ lengths) n =
    let same : from + 1 + length lengths ≡ from + length (m ∷ lengths) = omega arith in
    ap (λ (files : List Named). (payload_path from, pattern from m) ∷ files)
    (payloads-push (from + 1) lengths n ∙ ap (λ (i : ℕ). payloads (from + 1) lengths ++ (payload_path i, pattern i n) ∷ []) same)

pub listed-next : (lengths : List ℕ) (i n : ℕ) → slice_get lengths i ≡ Some n → listed (take (i + 1) lengths) ≡ listed (take i lengths) ++ (payload_path i, pattern i n) ∷ []
listed-next lengths i n is =
    let count : length (take i lengths) ≡ i = length-take-le i lengths (let w : i < length lengths = slice_get_within lengths i n is in omega arith) in
    ap listed (take-next lengths i n is) ∙ ap (λ (files : List Named). heads ++ files) (payloads-push 0 (take i lengths) n)
    ∙ sym (append_assoc heads (payloads 0 (take i lengths)) ((payload_path (0 + length (take i lengths)), pattern (0 + length (take i lengths)) n) ∷ []))
    ∙ ap (λ (k : ℕ). listed (take i lengths) ++ (payload_path k, pattern k n) ∷ []) (let e : 0 + length (take i lengths) ≡ i = omega (arith, count) in e)

-- a file was added to the listing
pub has-next : (lengths : List ℕ) (i n : ℕ) (path bytes : List ℕ) (tree : Tree) (manifest : List ℕ) → slice_get lengths i ≡ Some n → path ≡ payload_path i → bytes ≡ pattern i n →
    Has (listed (take i lengths) ++ (path, bytes) ∷ []) tree manifest → Has (listed (take (i + 1) lengths)) tree manifest
has-next lengths i n path bytes tree manifest at is are has =
    subst (λ (files : List Named). Has files tree manifest) (ap (λ (p : List ℕ). listed (take i lengths) ++ (p, bytes) ∷ []) is ∙ ap (λ (b : List ℕ). listed (take i lengths) ++ (payload_path i, b) ∷ []) are ∙ sym (listed-next lengths i n at)) has

-- what holds of all holds of the one at an index
pub each-at : {X : Type 0} (P : X → Type 0) (xs : List X) (i : ℕ) (x : X) → All P xs → slice_get xs i ≡ Some x → P x
each-at {X} P xs i x all is = subst P (get_or_from_slice_get xs i x x is) (all i x (slice_get_within xs i x is))

pub all-at : (k : ℕ) (xs : List ℕ) (i x : ℕ) → All (λ n. n < k) xs → slice_get xs i ≡ Some x → x < k
all-at k xs i x all is = each-at (λ (n : ℕ). n < k) xs i x all is

-- the manifest was added to the files that it lists
pub tree-done : (lengths : List ℕ) (tree new : Tree) (manifest bytes : List ℕ) → Has (listed lengths) tree manifest → new ≡ tree ++ (Some (codes "manifest"), bytes) ∷ [] → bytes ≡ manifest → new ≡ tree_of lengths
tree-done lengths tree new manifest bytes has is text =
    is ∙ ap (λ (t : Tree). t ++ (Some (codes "manifest"), bytes) ∷ []) has.tree_is ∙ ap (λ (b : List ℕ). told (listed lengths) ++ (Some (codes "manifest"), b) ∷ []) (text ∙ has.manifest_is)

-- one event more was kept
pub kept-next : {X : Type 0} (kept all : List X) (i : ℕ) (item twin : X) (after : List X) → kept ≡ take i all → slice_get all i ≡ Some item → twin ≡ item → after ≡ kept ++ twin ∷ [] → after ≡ take (i + 1) all
kept-next {X} kept all i item twin after are at same is = is ∙ ap (λ (l : List X). l ++ twin ∷ []) are ∙ ap (λ (x : X). take i all ++ x ∷ []) same ∙ sym (take-next all i item at)
