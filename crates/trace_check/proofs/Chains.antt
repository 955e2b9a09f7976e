-- Chains of notes, one note after another.
use Rattle.std.proofs.Common.{◌≡◌, ℕ, zero, suc, ◌+◌, ◌-◌, ◌<◌, ◌⊎◌, inl, inr, List, [], ◌∷◌, ◌++◌, length, take, refl, sym, ap, ◌∙◌, subst, arith}
use Rattle.std.specs.Prelude.{Option, Some, None, IfSome, All}
use Rattle.std.specs.List.{slice_get}
use Rattle.std.proofs.lemmas.Bool.Decides.{leb_tells, eqb_tells}
use Rattle.std.proofs.lemmas.List.{take_more, length-take}
use Rattle.std.proofs.lemmas.List.Elements.{All-get_or}
use Rattle.std.proofs.Math.Seq.{take-length}
use Rattle.std.proofs.lemmas.Option.{slice_get_within, get_or_from_slice_get, slice_get_past}
use Rattle.flow_table.specs.declared.position.Position.{Position}
use Rattle.trace_check.specs.declared.note.Note.{Note}
use Rattle.trace_check.specs.declared.verdict.Verdict.TheVariants.{Path, Broken}
use Rattle.trace_check.specs.Follows.{Follows, GoesOn, Linked, Chain}
use Rattle.trace_check.specs.Verdicts.{GoesFrom, apart, inside, before, BreaksAt, Judged, path, broken}

-- ---- lists

-- a list of which one more item is looked at
pub take-one : {X : Type 0} (xs : List X) (i : ℕ) (x : X) → slice_get xs i ≡ Some x → take (i + 1) xs ≡ take i xs ++ x ∷ []
take-one xs i x is = take_more xs i x (slice_get_within xs i x is) ∙ ap (λ y. take i xs ++ y ∷ []) (get_or_from_slice_get xs i x x is)

pub take-same : {X : Type 0} (xs ys : List X) (i : ℕ) (x y : X) → slice_get xs i ≡ Some x → slice_get ys i ≡ Some y → x ≡ y → take i xs ≡ take i ys → take (i + 1) xs ≡ take (i + 1) ys
take-same xs ys i x y is js same front = take-one xs i x is ∙ ap (λ l. l ++ x ∷ []) front ∙ ap (λ z. take i ys ++ z ∷ []) same ∙ sym (take-one ys i y js)

pub get-take : {X : Type 0} (xs : List X) (n j : ℕ) → j < n → slice_get (take n xs) j ≡ slice_get xs j
get-take xs zero j less = absurd (omega (arith, less))
get-take [] (suc n) j less = refl
get-take (x ∷ xs) (suc n) zero less = refl
get-take (x ∷ xs) (suc n) (suc j) less = get-take xs n j (omega (arith, less))

pub take-within : {X : Type 0} (xs : List X) (n j : ℕ) (x : X) → slice_get (take n xs) j ≡ Some x → j < n
take-within xs n j x is = let a = slice_get_within (take n xs) j x is in let l = length-take n xs in omega (arith, a, l)

pub take-past : {X : Type 0} (xs : List X) (n : ℕ) → slice_get (take n xs) n ≡ None
take-past xs n = let l = length-take n xs in slice_get_past (take n xs) n (omega (arith, l))

all-at : {X : Type 0} (P : X → Type 0) (xs : List X) (i : ℕ) (x : X) → slice_get xs i ≡ Some x → All P xs → P x
all-at P xs i x is all = subst P (get_or_from_slice_get xs i x x is) (All-get_or P xs i x (slice_get_within xs i x is) all)

-- ---- the note before

before-is : (notes : List Note) (i j : ℕ) → j + 1 ≡ i → before notes i ≡ slice_get notes j
before-is notes zero j is = absurd (omega (arith, is))
before-is notes (suc i) j is = let same : i ≡ j = omega (arith, is) in ap (λ n. slice_get notes n) same

module _ (notes : List Note) (i : ℕ) (note : Note) (is : slice_get notes i ≡ Some note) where
  here : slice_get (take (i + 1) notes) i ≡ Some note
  here = get-take notes (i + 1) i (omega arith) ∙ is

  -- a note that doesn't go on ends a chain
  no-chain-apart : (prev : Note) (j : ℕ) → j + 1 ≡ i → slice_get notes j ≡ Some prev → (GoesFrom (Some prev) note → ⊥) → Chain (take (i + 1) notes) → ⊥
  no-chain-apart prev j next there differ chain =
      let l = chain j prev (get-take notes (i + 1) j (omega (arith, next)) ∙ there) in
      let at : slice_get (take (i + 1) notes) (j + 1) ≡ Some note = ap (λ n. slice_get (take (i + 1) notes) n) next ∙ here in
      differ (l.position, l.follows, subst (λ (o : Option Note). IfSome o (λ n. GoesOn prev l.position n)) at l.goes_on)

  -- and so does one that tells of no boot
  no-chain-inside : ((p : Position) → Follows note p → ⊥) → Chain (take (i + 1) notes) → ⊥
  no-chain-inside none chain = let l = chain i note here in none l.position l.follows

  -- a chain goes on by a note
  module _ (chain : Chain (take i notes)) (follows : (p : Position) × Follows note p) (link : GoesFrom (before notes i) note) where
    linked-before : (j : ℕ) (x : Note) → slice_get (take (i + 1) notes) j ≡ Some x → j + 1 < i → Linked x (slice_get (take (i + 1) notes) (j + 1))
    linked-before j x there less =
        let l = chain j x (get-take notes i j (omega (arith, less)) ∙ sym (get-take notes (i + 1) j (omega (arith, less))) ∙ there) in
        subst (λ (o : Option Note). Linked x o) (get-take notes i (j + 1) less ∙ sym (get-take notes (i + 1) (j + 1) (omega (arith, less)))) l

    linked-last : (j : ℕ) (x : Note) → slice_get (take (i + 1) notes) j ≡ Some x → j + 1 ≡ i → Linked x (slice_get (take (i + 1) notes) (j + 1))
    linked-last j x there next =
        let prev : before notes i ≡ Some x = before-is notes i j next ∙ sym (get-take notes (i + 1) j (omega (arith, next))) ∙ there in
        let g = subst (λ (o : Option Note). GoesFrom o note) prev link in
        let at : slice_get (take (i + 1) notes) (j + 1) ≡ Some note = ap (λ n. slice_get (take (i + 1) notes) n) next ∙ here in
        subst (λ (o : Option Note). Linked x o) (sym at) (record { position = g.0; follows = g.1; goes_on = g.2 })

    linked-here : (j : ℕ) (x : Note) → slice_get (take (i + 1) notes) j ≡ Some x → j ≡ i → Linked x (slice_get (take (i + 1) notes) (j + 1))
    linked-here j x there same =
        let found : Some x ≡ Some note = sym there ∙ ap (λ n. slice_get (take (i + 1) notes) n) same ∙ here in
        let it : note ≡ x = cc in
        let at : slice_get (take (i + 1) notes) (j + 1) ≡ None = ap (λ n. slice_get (take (i + 1) notes) (n + 1)) same ∙ take-past notes (i + 1) in
        subst (λ (o : Option Note). Linked x o) (sym at) (subst (λ (n : Note). Linked n None) it (record { position = follows.0; follows = follows.1; goes_on = tt }))

    by : (j : ℕ) (x : Note) → slice_get (take (i + 1) notes) j ≡ Some x → ((j + 1 < i) ⊎ ((j + 1 ≡ i) ⊎ (j ≡ i))) → Linked x (slice_get (take (i + 1) notes) (j + 1))
    by j x there (inl less) = linked-before j x there less
    by j x there (inr (inl next)) = linked-last j x there next
    by j x there (inr (inr same)) = linked-here j x there same

    three : (j : ℕ) → j < i + 1 → (j + 1 < i) ⊎ ((j + 1 ≡ i) ⊎ (j ≡ i))
    three j less = elim (leb_tells (j + 2) i) [
      | inl h ↦ inl (omega (arith, h.1))
      | inr h ↦ elim (eqb_tells j i) [
        | inl e ↦ inr (inr e.1)
        | inr e ↦ inr (inl (omega (arith, h.1, e.1, less)))
      ]
    ]

    pub chain-more : Chain (take (i + 1) notes)
    chain-more j x there = by j x there (three j (take-within notes (i + 1) j x there))

  -- ---- verdicts

  pub judged-apart : (prev : Note) → 0 < i → slice_get notes (i - 1) ≡ Some prev → Chain (take i notes) → (GoesFrom (Some prev) note → ⊥) → Judged notes (Broken i 0)
  judged-apart prev some there chain a =
      let next : i - 1 + 1 ≡ i = omega (arith, some) in
      let b : before notes i ≡ Some prev = before-is notes i (i - 1) next ∙ there in
      broken note i 0 is chain (no-chain-apart prev (i - 1) next there a) (apart (subst (λ (o : Option Note). GoesFrom o note → ⊥) (sym b) a))

  pub judged-inside : (e : ℕ) → Chain (take i notes) → GoesFrom (before notes i) note → ((p : Position) → Follows note p → ⊥) → BreaksAt note e → Judged notes (Broken i e)
  judged-inside e chain link none breaks = broken note i e is chain (no-chain-inside none) (inside link none breaks)

  pub goes-first : i ≡ 0 → GoesFrom (before notes i) note
  goes-first none = subst (λ (n : ℕ). GoesFrom (before notes n) note) (sym none) tt

  pub goes-next : (prev : Note) → 0 < i → slice_get notes (i - 1) ≡ Some prev → GoesFrom (Some prev) note → GoesFrom (before notes i) note
  goes-next prev some there g =
      let next : i - 1 + 1 ≡ i = omega (arith, some) in
      subst (λ (o : Option Note). GoesFrom o note) (sym (before-is notes i (i - 1) next ∙ there)) g

pub no-notes : (notes : List Note) → Chain (take 0 notes)
no-notes notes j x there = let l = take-within notes 0 j x there in absurd (omega (arith, l))

pub judged-path : (notes : List Note) (n : ℕ) → n ≡ length notes → Chain (take n notes) → Judged notes Path
judged-path notes n is chain = path (subst (λ (l : List Note). Chain l) (ap (λ (k : ℕ). take k notes) is ∙ take-length notes) chain)

pub note-has : (P : Note → Type 0) (notes : List Note) (i : ℕ) (note : Note) → slice_get notes i ≡ Some note → All P notes → P note
note-has P notes i note is all = all-at P notes i note is all
