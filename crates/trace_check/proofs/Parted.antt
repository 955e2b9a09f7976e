-- Texts that are parted at their first mark.
use Rattle.std.proofs.Common.{◌≡◌, ℕ, zero, suc, ◌+◌, ◌<◌, Bool, true, false, List, [], ◌∷◌, ◌++◌, length, take, drop, get_or, cond, refl, sym, ap, ◌∙◌, arith, add-one, length-append}
use Rattle.std.specs.Prelude.{◌==◌, not, nat_lt, position, Option, Some, None}
use Rattle.std.specs.List.{position_or_len}
use Rattle.std.proofs.lemmas.List.{take-append-drop}
use Rattle.std.proofs.lemmas.List.Quantifiers.{position-Some}
use Rattle.std.proofs.lemmas.Bool.{ltb-true, lt-ltb}
use Rattle.std.proofs.lemmas.Bool.Decides.{Decides-eqb}
use Rattle.std.proofs.Math.Seq.{drop-cons, drop-append-add}
use Rattle.std.specs.Option.{option_map}
use Rattle.trace_check.specs.Lines.{lacks, split}
use Rattle.trace_check.proofs.Same.{both-parts, and-made}

true_false : true ≡ false → ⊥
true_false e = cc

no-mark : (b mark : ℕ) → (b == mark) ≡ false → not (b == mark) ≡ true
no-mark b mark h = ap not h

lacks-front : (mark : ℕ) (text : List ℕ) (i : ℕ) → ((k : ℕ) → k < i → (get_or text k 0 == mark) ≡ false) → i < length text → lacks mark (take i text) ≡ true
lacks-front mark text zero h lt = refl
lacks-front mark [] (suc i) h lt = absurd (omega arith)
lacks-front mark (b ∷ text) (suc i) h lt =
    and-made (not (b == mark)) (lacks mark (take i text)) (no-mark b mark (h zero (omega arith))) (lacks-front mark text i (λ k l. h (suc k) (omega arith)) (omega arith))

pub mark-parts : (mark : ℕ) (text : List ℕ) (i : ℕ) → position (λ b. b == mark) text ≡ Some i → (text ≡ take i text ++ mark ∷ drop (i + 1) text) × (lacks mark (take i text) ≡ true)
mark-parts mark text i is =
    let at = position-Some (λ (b : ℕ). b == mark) text i 0 is in
    let lt : i < length text = at.0 in
    let here : get_or text i 0 ≡ mark = (Decides-eqb (get_or text i 0) mark).0 at.1 in
    let rest : drop i text ≡ mark ∷ drop (i + 1) text = rw add-one (drop-cons text i 0 lt ∙ ap (λ (b : ℕ). b ∷ drop (suc i) text) here) in
    (sym (take-append-drop i text) ∙ ap (λ (l : List ℕ). take i text ++ l) rest, lacks-front mark text i at.2 lt)

not-less : (n m : ℕ) → nat_lt (1 + n) (suc m) ≡ false → nat_lt n m ≡ false
not-less n m h = by (nat_lt n m) refl where
  by : (t : Bool) → nat_lt n m ≡ t → nat_lt n m ≡ false
  by true is = let lt : n < m = ltb-true n m is in absurd (true_false (sym (lt-ltb (1 + n) (suc m) (omega arith)) ∙ h))
  by false is = is

lacks-all : (mark : ℕ) (text : List ℕ) → nat_lt (position_or_len (λ b. b == mark) text) (length text) ≡ false → lacks mark text ≡ true
lacks-all mark [] h = refl
lacks-all mark (b ∷ text) h = by (b == mark) (lacks-all mark text) refl h where
  by : (t : Bool) → (nat_lt (position_or_len (λ c. c == mark) text) (length text) ≡ false → lacks mark text ≡ true) → (b == mark) ≡ t → nat_lt (cond (not (b == mark)) (1 + position_or_len (λ c. c == mark) text) 0) (suc (length text)) ≡ false → lacks mark (b ∷ text) ≡ true
  by true rest is h =
      absurd (true_false (sym (lt-ltb 0 (suc (length text)) (omega arith)) ∙ sym (ap (λ (t : Bool). nat_lt (cond (not t) (1 + position_or_len (λ c. c == mark) text) 0) (suc (length text))) is) ∙ h))
  by false rest is h =
      let n = position_or_len (λ c. c == mark) text in
      let past : nat_lt (1 + n) (suc (length text)) ≡ false = sym (ap (λ (t : Bool). nat_lt (cond (not t) (1 + n) 0) (suc (length text))) is) ∙ h in
      and-made (not (b == mark)) (lacks mark text) (no-mark b mark is) (rest (not-less n (length text) past))

pub mark-none : (mark : ℕ) (text : List ℕ) → position (λ b. b == mark) text ≡ None → lacks mark text ≡ true
mark-none mark text is = by (nat_lt (position_or_len (λ b. b == mark) text) (length text)) refl is where
  by : (t : Bool) → nat_lt (position_or_len (λ b. b == mark) text) (length text) ≡ t → cond t (Some (position_or_len (λ b. b == mark) text)) None ≡ None → lacks mark text ≡ true
  by true less none = cc
  by false less none = lacks-all mark text less

-- ---- a text with a mark

first-mark : (mark : ℕ) (front rest : List ℕ) → lacks mark front ≡ true → position_or_len (λ b. b == mark) (front ++ mark ∷ rest) ≡ length front
first-mark mark [] rest h = ap (λ (t : Bool). cond (not t) (1 + position_or_len (λ b. b == mark) rest) 0) ((Decides-eqb mark mark).1 refl)
first-mark mark (b ∷ front) rest h =
    let p = both-parts (not (b == mark)) (lacks mark front) h in
    let ih = first-mark mark front rest p.1 in
    ap (λ (t : Bool). cond t (1 + position_or_len (λ c. c == mark) (front ++ mark ∷ rest)) 0) p.0 ∙ omega (arith, ih)

front-taken : (mark : ℕ) (front rest : List ℕ) → take (length front) (front ++ mark ∷ rest) ≡ front
front-taken mark [] rest = refl
front-taken mark (b ∷ front) rest = ap (λ (l : List ℕ). b ∷ l) (front-taken mark front rest)

front-dropped : (mark : ℕ) (front rest : List ℕ) → drop (length front + 1) (front ++ mark ∷ rest) ≡ rest
front-dropped mark front rest = drop-append-add front (mark ∷ rest) 1

pub mark-found : (mark : ℕ) (front rest : List ℕ) → lacks mark front ≡ true → position (λ b. b == mark) (front ++ mark ∷ rest) ≡ Some (length front)
mark-found mark front rest h =
    let at = first-mark mark front rest h in
    let less : length front < length (front ++ mark ∷ rest) = simp length-append (omega arith) in
    ap (λ (n : ℕ). cond (nat_lt n (length (front ++ mark ∷ rest))) (Some n) None) at
    ∙ ap (λ (t : Bool). cond t (Some (length front)) None) (lt-ltb (length front) (length (front ++ mark ∷ rest)) less)

-- a text is parted at its first space
pub split-found : (front rest : List ℕ) → lacks 32 front ≡ true → split (front ++ 32 ∷ rest) ≡ Some (front, rest)
unfolding split
split-found front rest h =
    ap (λ (o : Option ℕ). option_map (λ (i : ℕ). (take i (front ++ 32 ∷ rest), drop (i + 1) (front ++ 32 ∷ rest))) o) (mark-found 32 front rest h)
    ∙ ap (λ (l : List ℕ). Some (l, drop (length front + 1) (front ++ 32 ∷ rest))) (front-taken 32 front rest)
    ∙ ap (λ (l : List ℕ). Some (front, l)) (front-dropped 32 front rest)
