-- Lines that are spelled again, and compared.
use Rattle.std.proofs.Common.{◌≡◌, ℕ, Bool, true, false, List, [], ◌∷◌, ◌++◌, length, drop, cond, refl, sym, ap, ◌∙◌}
use Rattle.std.proofs.lemmas.List.{append_cancel_left}
use Rattle.std.specs.Prelude.{◌==◌, ◌&&◌, nat_eq, Option, Some, None}
use Rattle.std.specs.List.{starts_with}
use Rattle.std.specs.Str.{bytes_eq}
use Rattle.std.proofs.lemmas.Bool.Decides.{Decides-eqb}
use Rattle.std.proofs.lemmas.Slice.Eq.{bytes_eq-Decides}
use Rattle.std.proofs.Math.Seq.{take-append_seam, drop-append_seam}
use Rattle.trace_check.specs.Lines.{is_line, tag}
use Rattle.trace_check.proofs.Same.{both-parts, and-made}
use Rattle.trace_check.proofs.Sounds.{tag-is}

nil-end : (xs : List ℕ) (b : ℕ) → [] ≡ xs ++ b ∷ [] → ⊥
nil-end [] b e = cc
nil-end (x ∷ xs) b e = cc

pub same-ends : (xs ys : List ℕ) (a b : ℕ) → xs ++ a ∷ [] ≡ ys ++ b ∷ [] → (xs ≡ ys) × (a ≡ b)
same-ends [] [] a b e = (refl, cc)
same-ends [] (y ∷ ys) a b e = absurd (nil-end ys b cc)
same-ends (x ∷ xs) [] a b e = absurd (nil-end xs a cc)
same-ends (x ∷ xs) (y ∷ ys) a b e =
    let heads : x ≡ y = cc in
    let r = same-ends xs ys a b cc in
    (let t = r.0 in cc, r.1)

same-tests : (a b : Bool) → (a ≡ true → b ≡ true) → (b ≡ true → a ≡ true) → a ≡ b
same-tests true b f g = sym (f refl)
same-tests false true f g = g refl
same-tests false false f g = refl

line-ends : (told front text : List ℕ) (last : ℕ) → told ≡ front ++ last ∷ [] → ((last == 10) && bytes_eq front text) ≡ is_line told text
line-ends told front text last is = same-tests ((last == 10) && bytes_eq front text) (is_line told text)
    (λ h. let p = both-parts (last == 10) (bytes_eq front text) h in
    let ten : last ≡ 10 = (Decides-eqb last 10).0 p.0 in
    let same : front ≡ text = (bytes_eq-Decides front text).0 p.1 in
    (bytes_eq-Decides told (text ++ 10 ∷ [])).1 (is ∙ ap (λ (l : List ℕ). l ++ last ∷ []) same ∙ ap (λ (b : ℕ). text ++ b ∷ []) ten))
    (λ h. let r = same-ends front text last 10 (sym is ∙ (bytes_eq-Decides told (text ++ 10 ∷ [])).0 h) in
    and-made (last == 10) (bytes_eq front text) ((Decides-eqb last 10).1 r.1) ((bytes_eq-Decides front text).1 r.0))

not-equal : (a b : ℕ) (c : Bool) → (a == b) ≡ c → (a ≡ b → ⊥) → c ≡ false
not-equal a b true is other = absurd (other ((Decides-eqb a b).0 is))
not-equal a b false is other = refl

pub ends-so : (told front text : List ℕ) (last : ℕ) → told ≡ front ++ last ∷ [] → last ≡ 10 → bytes_eq front text ≡ is_line told text
ends-so told front text last is ten =
    sym (ap (λ (b : Bool). b && bytes_eq front text) ((Decides-eqb last 10).1 ten)) ∙ line-ends told front text last is

pub ends-else : (told front text : List ℕ) (last : ℕ) → told ≡ front ++ last ∷ [] → (last ≡ 10 → ⊥) → (last == 10) ≡ is_line told text
ends-else told front text last is other =
    let differs : (last == 10) ≡ false = not-equal last 10 (last == 10) refl other in
    differs ∙ sym (ap (λ (b : Bool). b && bytes_eq front text) differs) ∙ line-ends told front text last is

-- a line is the text with its newline
pub line-is : (told text : List ℕ) → is_line told text ≡ true → told ≡ text ++ 10 ∷ []
line-is told text h = (bytes_eq-Decides told (text ++ 10 ∷ [])).0 h

pub is-the-line : (text : List ℕ) → is_line (text ++ 10 ∷ []) text ≡ true
is-the-line text = (bytes_eq-Decides (text ++ 10 ∷ []) (text ++ 10 ∷ [])).1 refl

-- ---- texts that are compared piece by piece

tag-front : (word rest : List ℕ) → tag word (word ++ rest) ≡ Some rest
tag-front word rest =
    let begins : starts_with nat_eq (word ++ rest) word ≡ true = ap (λ (l : List ℕ). bytes_eq word l) (take-append_seam word rest) ∙ (bytes_eq-Decides word word).1 refl in
    ap (λ (t : Bool). cond t (Some (drop (length word) (word ++ rest))) None) begins ∙ ap Some (drop-append_seam word rest)

-- the word stands there, and behind it the name
pub joined-so : (word name text rest : List ℕ) → tag word text ≡ Some rest → bytes_eq name rest ≡ bytes_eq (word ++ name) text
joined-so word name text rest is = same-tests (bytes_eq name rest) (bytes_eq (word ++ name) text)
    (λ h. (bytes_eq-Decides (word ++ name) text).1 (ap (λ (l : List ℕ). word ++ l) ((bytes_eq-Decides name rest).0 h) ∙ sym (tag-is word text rest is)))
    (λ h. (bytes_eq-Decides name rest).1 (append_cancel_left word name rest ((bytes_eq-Decides (word ++ name) text).0 h ∙ tag-is word text rest is)))

pub joined-else : (word name text : List ℕ) → tag word text ≡ None → false ≡ bytes_eq (word ++ name) text
joined-else word name text none = by (bytes_eq (word ++ name) text) refl where
  by : (t : Bool) → bytes_eq (word ++ name) text ≡ t → false ≡ bytes_eq (word ++ name) text
  by true is =
      let same : word ++ name ≡ text = (bytes_eq-Decides (word ++ name) text).0 is in
      let there : ◌≡◌ {A = Option (List ℕ)} None (Some name) = sym none ∙ sym (ap (tag word) same) ∙ tag-front word name in
      absurd cc
  by false is = sym is

-- without the newlines
pub newline-off : (told text : List ℕ) → bytes_eq told text ≡ is_line (told ++ 10 ∷ []) text
newline-off told text = ends-so (told ++ 10 ∷ []) told text 10 refl refl
