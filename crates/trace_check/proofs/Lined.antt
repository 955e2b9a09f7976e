-- Texts as lines, and the one way in which a text is cut into them.
use Rattle.std.proofs.Common.{◌≡◌, ℕ, ◌+◌, Bool, true, false, List, [], ◌∷◌, ◌++◌, length, refl, sym, ap, ◌∙◌, append_assoc, append-nil, cond, inl, inr, arith}
use Rattle.std.specs.Prelude.{◌==◌, not}
use Rattle.std.specs.List.{flat_map}
use Rattle.std.proofs.lemmas.Bool.Decides.{Decides-eqb}
use Rattle.std.proofs.lemmas.List.Sums.{sum_by-append}
use Rattle.trace_check.specs.Lines.{lacks}
use Rattle.trace_check.specs.Reads.{newlines, AreLines}
use Rattle.trace_check.proofs.Same.{both-parts}

abbrev pub ended : List ℕ → List ℕ
ended line = line ++ 10 ∷ []

abbrev pub unlines : List (List ℕ) → List ℕ
unlines lines = flat_map ended lines

abbrev pub AreLineTexts : List (List ℕ) → Type 0
AreLineTexts [] = Unit {0}
AreLineTexts (line ∷ lines) = (lacks 10 line ≡ true) × AreLineTexts lines

true_false : true ≡ false → ⊥
true_false e = cc

differs : (a b : ℕ) → not (a == b) ≡ true → a ≡ b → ⊥
differs a b h e = let t : (a == b) ≡ true = (Decides-eqb a b).1 e in absurd (true_false (sym h ∙ ap not t))

-- a text has one first line
pub same-lines : (a b x y : List ℕ) → lacks 10 a ≡ true → lacks 10 b ≡ true → a ++ 10 ∷ x ≡ b ++ 10 ∷ y → (a ≡ b) × (x ≡ y)
same-lines [] [] x y la lb e = (refl, cc)
same-lines [] (c ∷ b) x y la lb e = absurd (differs c 10 (both-parts (not (c == 10)) (lacks 10 b) lb).0 cc)
same-lines (c ∷ a) [] x y la lb e = absurd (differs c 10 (both-parts (not (c == 10)) (lacks 10 a) la).0 cc)
same-lines (c ∷ a) (d ∷ b) x y la lb e =
    let r = same-lines a b x y (both-parts (not (c == 10)) (lacks 10 a) la).1 (both-parts (not (d == 10)) (lacks 10 b) lb).1 cc in
    (let t = r.0 in cc, r.1)

line-first : (line rest : List ℕ) → (line ++ 10 ∷ []) ++ rest ≡ line ++ 10 ∷ rest
line-first line rest = append_assoc line (10 ∷ []) rest

-- what lines begin with is the first of them
pub record Cut (ms ls : List (List ℕ)) (tail : List ℕ) : Type 0 where
  pub more : List (List ℕ)
  pub are : AreLineTexts more
  pub is : ms ≡ ls ++ more
  pub tail_is : tail ≡ unlines more

none-begins : (l rest : List ℕ) → [] ≡ l ++ 10 ∷ rest → ⊥
none-begins [] rest e = cc
none-begins (c ∷ l) rest e = cc

pub cut-lines : (ms ls : List (List ℕ)) (tail : List ℕ) → AreLineTexts ms → AreLineTexts ls → unlines ms ≡ unlines ls ++ tail → Cut ms ls tail
cut-lines ms [] tail tms tls e = record { more = ms; are = tms; is = refl; tail_is = sym e }
cut-lines [] (l ∷ ls) tail tms tls e =
    absurd (none-begins l (unlines ls ++ tail) (e ∙ append_assoc (ended l) (unlines ls) tail ∙ line-first l (unlines ls ++ tail)))
cut-lines (m ∷ ms) (l ∷ ls) tail tms tls e =
    let both : m ++ 10 ∷ unlines ms ≡ l ++ 10 ∷ (unlines ls ++ tail) =
    sym (line-first m (unlines ms)) ∙ e ∙ append_assoc (ended l) (unlines ls) tail ∙ line-first l (unlines ls ++ tail) in
    let same = same-lines m l (unlines ms) (unlines ls ++ tail) tms.0 tls.0 both in
    let rest = cut-lines ms ls tail tms.1 tls.1 same.1 in
    record { more = rest.more; are = rest.are; is = (let h = same.0 in let t = rest.is in cc); tail_is = rest.tail_is }

-- ---- newlines

pub newlines-append : (a b : List ℕ) → newlines (a ++ b) ≡ newlines a + newlines b
newlines-append a b = sum_by-append (λ (c : ℕ). cond (c == 10) 1 0) a b

pub newlines-none : (text : List ℕ) → lacks 10 text ≡ true → newlines text ≡ 0
newlines-none [] h = refl
newlines-none (b ∷ text) h =
    let p = both-parts (not (b == 10)) (lacks 10 text) h in
    let rest = newlines-none text p.1 in
    let all = newlines-append (b ∷ []) text in
    by (b == 10) refl p.0 rest all where
      by : (t : Bool) → (b == 10) ≡ t → not (b == 10) ≡ true → newlines text ≡ 0 → newlines (b ∷ text) ≡ newlines (b ∷ []) + newlines text → newlines (b ∷ text) ≡ 0
      by true is n r all = absurd (true_false (sym n ∙ ap not is))
      by false is n r all = let one : newlines (b ∷ []) ≡ 0 = ap (λ (t : Bool). 0 + cond t 1 0) is in omega (arith, all, one, r)

pub newlines-lines : (lines : List (List ℕ)) → AreLineTexts lines → newlines (unlines lines) ≡ length lines
newlines-lines [] are = refl
newlines-lines (l ∷ ls) are =
    let first = newlines-append (l ++ 10 ∷ []) (unlines ls) in
    let line = newlines-append l (10 ∷ []) in
    let none = newlines-none l are.0 in
    let one : newlines (10 ∷ []) ≡ 1 = refl in
    let rest = newlines-lines ls are.1 in
    omega (arith, first, line, none, one, rest)

pub are-lines : (lines : List (List ℕ)) → AreLines (unlines lines)
are-lines [] = inl refl
are-lines (l ∷ ls) = by (unlines ls) (are-lines ls) where
  by : (rest : List ℕ) → AreLines rest → AreLines ((l ++ 10 ∷ []) ++ rest)
  by rest (inl none) = inr (l, ap (λ (r : List ℕ). (l ++ 10 ∷ []) ++ r) none ∙ append-nil (l ++ 10 ∷ []))
  by rest (inr h) = inr ((l ++ 10 ∷ []) ++ h.0, ap (λ (r : List ℕ). (l ++ 10 ∷ []) ++ r) h.1 ∙ sym (append_assoc (l ++ 10 ∷ []) h.0 (10 ∷ [])))
