-- The verdict on notes with one more.
use Rattle.std.proofs.Common.{◌≡◌, ℕ, zero, suc, ◌+◌, ◌-◌, ◌<◌, ◌≤◌, List, [], ◌∷◌, ◌++◌, length, take, refl, sym, ap, ◌∙◌, subst, arith, length-append}
use Rattle.std.specs.Prelude.{Option, Some, None, All}
use Rattle.std.specs.List.{slice_get}
use Rattle.std.proofs.lemmas.List.{take-append-le}
use Rattle.std.proofs.lemmas.Option.{slice_get_within}
use Rattle.std.proofs.Math.Seq.{take-append_seam}
use Rattle.flow_table.specs.declared.position.Position.{Position}
use Rattle.flow_table.specs.declared.table.TheConstants.{MOST_KINDS}
use Rattle.trace_check.specs.declared.note.Note.{Note}
use Rattle.trace_check.specs.declared.verdict.Verdict.{Verdict}
use Rattle.trace_check.specs.declared.verdict.Verdict.TheVariants.{Path, Broken}
use Rattle.trace_check.specs.declared.weigh.Front.{Front}
use Rattle.trace_check.specs.Follows.{Follows, Chain}
use Rattle.trace_check.specs.Verdicts.{GoesFrom, FailsAt, apart, inside, before, Judged, path, broken}
use Rattle.trace_check.specs.Weighing.{Knows}
use Rattle.trace_check.proofs.Chains.{chain-more, judged-apart, judged-inside, judged-path, no-notes}

-- ---- lists that grow

at-end : {X : Type 0} (xs : List X) (y : X) → slice_get (xs ++ y ∷ []) (length xs) ≡ Some y
at-end [] y = refl
at-end (x ∷ xs) y = at-end xs y

get-front : {X : Type 0} (xs ys : List X) (j : ℕ) → j < length xs → slice_get (xs ++ ys) j ≡ slice_get xs j
get-front [] ys j less = absurd (omega (arith, less))
get-front (x ∷ xs) ys zero less = refl
get-front (x ∷ xs) ys (suc j) less = get-front xs ys j (omega (arith, less))

before-front : (xs ys : List Note) (i : ℕ) → i ≤ length xs → before (xs ++ ys) i ≡ before xs i
before-front xs ys zero few = refl
before-front xs ys (suc i) few = get-front xs ys i (omega (arith, few))

before-some : (xs : List Note) (i : ℕ) (prev : Note) → before xs i ≡ Some prev → (0 < i) × (slice_get xs (i - 1) ≡ Some prev)
before-some xs zero prev is = absurd cc
before-some xs (suc i) prev is = (omega arith, let same : suc i - 1 ≡ i = omega arith in ap (λ (k : ℕ). slice_get xs k) same ∙ is)

-- ---- what was broken stays so

pub still-broken : (notes : List Note) (n : Note) (v : Verdict) (i e : ℕ) → v ≡ Broken i e → Judged notes v → Judged (notes ++ n ∷ []) v
still-broken notes n _ i e is (path chain) = absurd cc
still-broken notes n _ i e is (broken note j f at chain none fails) =
    let less = slice_get_within notes j note at in
    broken note j f (get-front notes (n ∷ []) j less ∙ at) (subst Chain (sym (take-append-le j notes (n ∷ []) (omega (arith, less)))) chain)
    (λ c. none (subst Chain (take-append-le (j + 1) notes (n ∷ []) (omega (arith, less))) c))
    (subst (λ (o : Option Note). FailsAt o note f) (sym (before-front notes (n ∷ []) j (omega (arith, less)))) fails)

-- ---- notes that are a chain, and one more

module _ (notes : List Note) (n : Note) (chain : Chain notes) where
  abbrev more : List Note
  more = notes ++ n ∷ []

  abbrev count : ℕ
  count = length notes

  here : slice_get more count ≡ Some n
  here = at-end notes n

  so_far : Chain (take count more)
  so_far = subst Chain (sym (take-append_seam notes (n ∷ []))) chain

  same-before : before more count ≡ before notes count
  same-before = before-front notes (n ∷ []) count (omega arith)

  link : GoesFrom (before notes count) n → GoesFrom (before more count) n
  link g = subst (λ (o : Option Note). GoesFrom o n) (sym same-before) g

  pub path-more : GoesFrom (before notes count) n → (p : Position) × Follows n p → Judged more Path
  path-more g follows = let long = length-append notes (n ∷ []) in judged-path more (count + 1) (omega (arith, long)) (chain-more more count n here so_far follows (link g))

  pub fails-more : (e : ℕ) → FailsAt (before notes count) n e → Judged more (Broken count e)
  fails-more _ (apart a) = by (before notes count) refl a where
    by : (o : Option Note) → before notes count ≡ o → (GoesFrom o n → ⊥) → Judged more (Broken count 0)
    by None is a = absurd (a tt)
    by (Some prev) is a = let b = before-some more count prev (same-before ∙ is) in judged-apart more count n here prev b.0 b.1 so_far a
  fails-more _ (inside {e = e} g none breaks) = judged-inside more count n here e so_far (link g) none breaks

pub with-more : (notes : List Note) (n : Note) (k : ℕ) (o : Option Note) → length notes ≡ k → o ≡ before notes k → Judged notes Path → GoesFrom o n → (p : Position) × Follows n p → Judged (notes ++ n ∷ []) Path
with-more notes n k o count last (path chain) g follows =
    path-more notes n chain (subst (λ (j : ℕ). GoesFrom (before notes j) n) (sym count) (subst (λ (x : Option Note). GoesFrom x n) last g)) follows

pub with-fault : (notes : List Note) (n : Note) (k e : ℕ) (o : Option Note) → length notes ≡ k → o ≡ before notes k → Judged notes Path → FailsAt o n e → Judged (notes ++ n ∷ []) (Broken k e)
with-fault notes n k e o count last (path chain) fails =
    subst (λ (j : ℕ). Judged (notes ++ n ∷ []) (Broken j e)) count (fails-more notes n chain e (subst (λ (j : ℕ). FailsAt (before notes j) n e) (sym count) (subst (λ (x : Option Note). FailsAt x n e) last fails)))

-- ---- what is known

pub knows-none : (front : Front) → front.verdict ≡ Path → front.count ≡ 0 → front.last ≡ [] → Knows [] front
knows-none front verdict count last = record {
  judged = subst (λ (v : Verdict). Judged [] v) (sym verdict) (judged-path [] 0 refl (no-notes []));
  count = sym count;
  last = ap (λ (l : List Note). slice_get l 0) last ∙ ap (λ (k : ℕ). before [] k) (sym count);
  kinds = subst (λ (l : List Note). All (λ (n : Note). length n.head.kinds ≤ MOST_KINDS) l) (sym last) (λ k d lt. absurd (omega (arith, lt)));
}

one-of : {X : Type 0} (xs : List X) (x : X) → length xs ≤ 1 → slice_get xs 0 ≡ Some x → xs ≡ x ∷ []
one-of [] x few is = absurd cc
one-of (y ∷ []) x few is = let same : y ≡ x = cc in ap (λ z. z ∷ []) same
one-of (y ∷ z ∷ xs) x few is = absurd (omega (arith, few))

pub knows-more : (notes ended : List Note) (n : Note) (old : Front) (verdict : Verdict) → length ended ≤ 1 → slice_get ended 0 ≡ Some n → All (λ (m : Note). length m.head.kinds ≤ MOST_KINDS) ended → Knows notes old
    → (length notes ≡ old.count → slice_get old.last 0 ≡ before notes old.count → Judged notes old.verdict → Judged (notes ++ n ∷ []) verdict)
    → Knows (notes ++ ended) (record { verdict = verdict; count = old.count + 1; last = ended })
knows-more notes ended n old verdict few is kinds knows judged = subst (λ (l : List Note). Knows (notes ++ l) (record { verdict = verdict; count = old.count + 1; last = ended })) (sym one) (record {
  judged = judged knows.count knows.last knows.judged;
  count = let long = length-append notes (n ∷ []) in let c = knows.count in omega (arith, long, c);
  last =
      let next : old.count + 1 ≡ suc old.count = omega arith in
      is ∙ sym (ap (λ (k : ℕ). before (notes ++ n ∷ []) k) next ∙ ap (λ (k : ℕ). slice_get (notes ++ n ∷ []) k) (sym knows.count) ∙ at-end notes n);
  kinds = kinds;
}) where
  one : ended ≡ n ∷ []
  one = one-of ended n few is
