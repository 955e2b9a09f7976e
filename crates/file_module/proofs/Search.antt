-- The search for the payload, file by file.
use Rattle.std.proofs.Common.{◌≡◌, ℕ, zero, suc, ◌+◌, ◌<◌, ◌≤◌, Bool, true, false, cond, List, [], ◌∷◌, ◌++◌, length, take, refl, sym, ◌∙◌, ap, arith, append-nil, length-append, add-one}
use Rattle.std.specs.Prelude.{Option}
use Rattle.io_model.specs.Source.{Content, Tree, count_of, path_at, bytes_at, IsPath}
use Rattle.io_model.specs.Source.Content.{Told, Untold}
use Rattle.file_module.specs.Payload.{When, is_payload, payloads}

-- what file i adds to the payload files
abbrev here : Tree → ℕ → List (List ℕ)
here t i = cond (is_payload (path_at t i)) (bytes_at t i ∷ []) []

behind : (first : List ℕ) (more some last : List (List ℕ)) (is : Bool) → more ≡ some ++ last → cond is (first ∷ more) more ≡ cond is (first ∷ some) some ++ last
behind first more some last true e = ap (λ (l : List (List ℕ)). first ∷ l) e
behind first more some last false e = e

payloads-next : (t : Tree) (i : ℕ) → i < length t → payloads (take (suc i) t) ≡ payloads (take i t) ++ here t i
payloads-next [] i lt = absurd (omega arith)
payloads-next (file ∷ files) zero lt = refl
payloads-next (file ∷ files) (suc i) lt = behind file.1 (payloads (take (suc i) files)) (payloads (take i files)) (here files i) (is_payload file.0) (payloads-next files i (omega arith))

payloads-more : (t : Tree) (i : ℕ) → i < length t → payloads (take (i + 1) t) ≡ payloads (take i t) ++ here t i
payloads-more t i lt = ap (λ (n : ℕ). payloads (take n t)) (add-one i) ∙ payloads-next t i lt

-- the files before i: how many are payload files, and where there is one, it is the last one found
pub record Seen (files : Content) (i count last : ℕ) : Type 0 where
  pub few : count ≤ i
  pub within : 0 < count → last < i
  pub counted : When files (λ t. length (payloads (take i t)) ≡ count)
  pub only : When files (λ t. count ≡ 1 → payloads (take i t) ≡ bytes_at t last ∷ [])

-- file i isn't one
pub Seen-other : (files : Content) (i count last : ℕ) (path : Option (List ℕ)) → i < count_of files → IsPath files i path → is_payload path ≡ false → Seen files i count last → Seen files (i + 1) count last
Seen-other (Untold n) i count last path lt is isnt h = record { few = omega (arith, h.few); within = λ some. let before : last < i = h.within some in omega arith; counted = tt; only = tt }
Seen-other (Told t) i count last path lt is isnt h =
    let none : here t i ≡ [] = ap (λ (b : Bool). cond b (bytes_at t i ∷ []) []) (ap is_payload (sym is) ∙ isnt) in
    let same : payloads (take (i + 1) t) ≡ payloads (take i t) = payloads-more t i lt ∙ ap (λ (l : List (List ℕ)). payloads (take i t) ++ l) none ∙ append-nil (payloads (take i t)) in
    record {
      few = omega (arith, h.few);
      within = λ some. let before : last < i = h.within some in omega arith;
      counted = ap length same ∙ h.counted;
      only = λ one. same ∙ h.only one;
    }

empty : (l : List (List ℕ)) → length l ≡ 0 → l ≡ []
empty [] e = refl
empty (x ∷ l) e = absurd (omega arith)

-- file i is one
pub Seen-one : (files : Content) (i count last : ℕ) (path : Option (List ℕ)) → i < count_of files → IsPath files i path → is_payload path ≡ true → Seen files i count last → Seen files (i + 1) (count + 1) i
Seen-one (Untold n) i count last path lt is does h = record { few = omega (arith, h.few); within = λ some. omega arith; counted = tt; only = tt }
Seen-one (Told t) i count last path lt is does h =
    let one : here t i ≡ bytes_at t i ∷ [] = ap (λ (b : Bool). cond b (bytes_at t i ∷ []) []) (ap is_payload (sym is) ∙ does) in
    let more : payloads (take (i + 1) t) ≡ payloads (take i t) ++ (bytes_at t i ∷ []) = payloads-more t i lt ∙ ap (λ (l : List (List ℕ)). payloads (take i t) ++ l) one in
    record {
      few = omega (arith, h.few);
      within = λ some. omega arith;
      counted = ap length more ∙ length-append (payloads (take i t)) (bytes_at t i ∷ []) ∙ ap (λ (n : ℕ). n + 1) h.counted;
      only = λ first. more ∙ ap (λ (l : List (List ℕ)). l ++ (bytes_at t i ∷ [])) (empty (payloads (take i t)) (h.counted ∙ omega arith));
    }
