-- One text behind another.
use Rattle.std.proofs.Common.{◌≡◌, ℕ, ◌+◌, ◌-◌, ◌≤◌, List, [], ◌∷◌, ◌++◌, length, get_or, take, drop, ◌<◌, refl, sym, ap, ◌∙◌, append_assoc, append-nil, arith, length-append, suc, zero, Some}
use Rattle.std.specs.Prelude.{slice_get}
use Rattle.std.proofs.lemmas.List.{drop-drop, take_at, drop_at, length-take, take-append-drop}
use borrow.Rule.Slice.PartMut.{put_mid, post_of, drop_put}
use Rattle.std.specs.List.{flat_map}
use Rattle.std.proofs.lemmas.List.{take_more}
use Rattle.std.proofs.lemmas.List.Folds.{length-flat_map-take}
use Rattle.std.proofs.lemmas.List.Concat.{flat_map-cons}
use Rattle.std.proofs.lemmas.Grind.{flat_map-append}
use Rattle.record_codec.specs.Writing.{Puts}

pub drop_further : (m n : ℕ) (a b : List ℕ) → m ≤ n → drop m a ≡ drop m b → drop n a ≡ drop n b
drop_further m n a b le h =
    let k : m + (n - m) ≡ n = omega arith in
    let f : (x : List ℕ) → drop n x ≡ drop (n - m) (drop m x) = λ x. ap (λ i. drop i x) (sym k) ∙ sym (drop-drop (n - m) m x) in
    f a ∙ ap (drop (n - m)) h ∙ sym (f b)

pub Puts-then : (a : List ℕ) (at : ℕ) (x b : List ℕ) (m : ℕ) (y c : List ℕ) (e : ℕ) → Puts a at x b m → Puts b m y c e → Puts a at (x ++ y) c e
Puts-then a at x b m y c e p q = record {
  ends = omega (arith, p.ends, q.ends, length-append x y);
  front = q.front ∙ ap (λ (t : List ℕ). t ++ y) p.front ∙ append_assoc (take at a) x y;
  rest = q.rest ∙ drop_further m e b a (omega (arith, q.ends)) p.rest;
}

-- what a copy into a range leaves
pub Puts-mid : (old : List ℕ) (at : ℕ) (text back : List ℕ) → at + length text ≤ length old → back ≡ text → Puts old at text (put_mid at (at + length text - at) old back) (at + length text)
Puts-mid old at text back fits e = rw e record {
  ends = refl;
  front = let l : length (take at old ++ text) ≡ at + length text = omega (arith, length-append (take at old) text, length-take at old) in
      ap (take (at + length text)) (sym (append_assoc (take at old) text (post_of at (at + length text - at) old))) ∙ take_at (take at old ++ text) (post_of at (at + length text - at) old) (at + length text) l;
  rest = drop_put at (at + length text) old text (omega arith) fits (omega arith);
}

-- one item more, of which x is the text
pub flat_map_more : {X : Type 0} (f : X → List ℕ) (xs : List X) (i : ℕ) (x : X) → i < length xs → x ≡ get_or xs i x → flat_map f (take (i + 1) xs) ≡ flat_map f (take i xs) ++ f x
flat_map_more {X = X} f xs i x h is =
    let one : flat_map f (x ∷ []) ≡ f x = flat_map-cons f x [] ∙ append-nil (f x) in
    ap (flat_map f) (take_more xs i x h) ∙ flat_map-append f (take i xs) (get_or xs i x ∷ []) ∙ ap (λ (y : X). flat_map f (take i xs) ++ flat_map f (y ∷ [])) (sym is) ∙ ap (λ (t : List ℕ). flat_map f (take i xs) ++ t) one

module _ {X : Type 0} (f : X → List ℕ) (xs : List X) (i : ℕ) (x : X) (h : i < length xs) (is : x ≡ get_or xs i x) (old : List ℕ) (at : ℕ) (into : List ℕ) (m : ℕ) where
  -- one item more
  pub Puts-more : (new : List ℕ) (e : ℕ) → Puts old at (flat_map f (take i xs)) into m → Puts into m (f x) new e → Puts old at (flat_map f (take (i + 1) xs)) new e
  Puts-more new e p q = rw (flat_map_more f xs i x h is) (Puts-then old at (flat_map f (take i xs)) into m (f x) new e p q)

  -- there is room for it
  pub room-more : Puts old at (flat_map f (take i xs)) into m → at + length (flat_map f xs) ≤ length old → m + length (f x) ≤ length old
  room-more p fits =
      let k : length (flat_map f (take i xs)) + length (f x) ≤ length (flat_map f xs) = rw is (length-flat_map-take f xs i x h) in
      omega (arith, p.ends, k, fits)

-- the head of a record, behind which its body stands
pub Puts-head : (old head text mid new : List ℕ) (n e k : ℕ) → length head ≡ n → n ≤ length old → Puts old n text mid e → Puts mid 0 head new k → new ≡ (head ++ text) ++ drop e old
Puts-head old head text mid new n e k l fits p q =
    let kn : k ≡ n = omega (arith, q.ends, l) in
    let front : take n new ≡ head = rw kn at q.front in
    let rest : drop n new ≡ drop n mid = rw kn at q.rest in
    let tl : length (take n old) ≡ n = omega (arith, length-take n old) in
    let m : mid ≡ take n old ++ (text ++ drop e old) = sym (take-append-drop e mid) ∙ ap (λ (t : List ℕ). t ++ drop e mid) p.front ∙ append_assoc (take n old) text (drop e mid) ∙ ap (λ (t : List ℕ). take n old ++ (text ++ t)) p.rest in
    let d : drop n mid ≡ text ++ drop e old = ap (drop n) m ∙ drop_at (take n old) (text ++ drop e old) n tl in
    sym (take-append-drop n new) ∙ ap (λ (t : List ℕ). t ++ drop n new) front ∙ ap (λ (t : List ℕ). head ++ t) (rest ∙ d) ∙ sym (append_assoc head text (drop e old))

-- a text of the same length in the place of another
pub patched : (a x y b new : List ℕ) (e : ℕ) → length x ≡ length y → Puts (a ++ x ++ b) (length a) y new e → new ≡ a ++ y ++ b
patched a x y b new e l p =
    let ea : e ≡ length a + length x = omega (arith, p.ends, l) in
    let f : take e new ≡ a ++ y = p.front ∙ ap (λ (t : List ℕ). t ++ y) (ap (take (length a)) (append_assoc a x b) ∙ take_at a (x ++ b) (length a) refl) in
    let r : drop e new ≡ b = p.rest ∙ drop_at (a ++ x) b e (length-append a x ∙ sym ea) in
    sym (take-append-drop e new) ∙ ap (λ (t : List ℕ). t ++ drop e new) f ∙ ap (λ (t : List ℕ). (a ++ y) ++ t) r

-- the item that was read
pub item_is : {X : Type 0} (xs : List X) (i : ℕ) (x : X) → slice_get xs i ≡ Some x → x ≡ get_or xs i x
item_is [] i x is = absurd cc
item_is (y ∷ xs) zero x is = let e : y ≡ x = cc in sym e
item_is (y ∷ xs) (suc i) x is = item_is xs i x is
