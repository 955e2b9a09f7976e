-- Texts that are written one behind another.
use Rattle.std.proofs.Common.{◌≡◌, ℕ, ◌+◌, ◌≤◌, List, [], ◌∷◌, ◌++◌, length, take, drop, refl, sym, ap, ◌∙◌, subst, arith, append-nil, append_assoc}
use Rattle.std.specs.Prelude.{Option, Some, None, Result, Ok, Err}
use Rattle.std.specs.List.{flat_map, slice_get}
use Rattle.std.specs.Result.{IsErrAnd}
use Rattle.std.proofs.lemmas.Grind.{flat_map-append}
use Rattle.upd_text.specs.Counts.{Rose}
use Rattle.io_model.specs.Sink.{Written, Adds, Writes, WritesFront, Puts}
use Rattle.io_model.specs.declared.sink.SinkFault.{SinkFault}
use Rattle.std.proofs.lemmas.List.{take-append-drop, take_all}
use Rattle.trace_check.proofs.Chains.{take-one}

adds-none : (old : Option (List ℕ)) → Adds old [] old
adds-none None = refl
adds-none (Some text) = ap Some (sym (append-nil text))

adds-both : (old mid new : Option (List ℕ)) (a b : List ℕ) → Adds old a mid → Adds mid b new → Adds old (a ++ b) new
adds-both None mid new a b h k = subst (λ (m : Option (List ℕ)). Adds m b new) h k
adds-both (Some text) mid new a b h k = subst (λ (m : Option (List ℕ)). Adds m b new) h k ∙ ap Some (append_assoc text a b)

pub writes-none : (old : Written) → Writes old [] old
writes-none old = record { adds = adds-none old.told; count = omega arith }

pub writes-both : (old mid new : Written) (a b : List ℕ) → Writes old a mid → Writes mid b new → Writes old (a ++ b) new
writes-both old mid new a b h k = record {
  adds = adds-both old.told mid.told new.told a b h.adds k.adds;
  count = omega (arith, h.count, k.count);
}

pub front-first : (old new : Written) (a b : List ℕ) → WritesFront old a new → WritesFront old (a ++ b) new
front-first old new a b h = record {
  front = h.front;
  rest = h.rest ++ b;
  is_front = ap (λ (l : List ℕ). l ++ b) h.is_front ∙ append_assoc h.front h.rest b;
  adds = h.adds;
  count = h.count;
}

rose-more : (a b c : ℕ) → a ≤ b → Rose b c → Rose a c
rose-more a b c h k = omega (arith, h, k)

pub front-second : (old mid new : Written) (a b : List ℕ) → Writes old a mid → WritesFront mid b new → WritesFront old (a ++ b) new
front-second old mid new a b h k = record {
  front = a ++ k.front;
  rest = k.rest;
  is_front = ap (λ (l : List ℕ). a ++ l) k.is_front ∙ sym (append_assoc a k.front k.rest);
  adds = adds-both old.told mid.told new.told a k.front h.adds k.adds;
  count = rose-more old.faults mid.faults new.faults h.count k.count;
}

-- what `?` hands on
pub stops-at : (old new : Written) (text : List ℕ) (r : Result (Unit {0}) SinkFault) (fault : SinkFault) → IsErrAnd r (λ e. e ≡ fault) → WritesFront old text new → Puts old text r new
stops-at old new text (Ok u) fault is front = absurd is
stops-at old new text (Err e) fault is front = front

-- a put behind a text that was written
pub puts-second : (old mid new : Written) (a b : List ℕ) (r : Result (Unit {0}) SinkFault) → Writes old a mid → Puts mid b r new → Puts old (a ++ b) r new
puts-second old mid new a b (Ok u) h k = writes-both old mid new a b h k
puts-second old mid new a b (Err e) h k = front-second old mid new a b h k

module _ {X : Type 0} (f : X → List ℕ) (xs : List X) (i : ℕ) (x : X) (is : slice_get xs i ≡ Some x) where
  one-more : flat_map f (take (i + 1) xs) ≡ flat_map f (take i xs) ++ f x
  one-more = ap (flat_map f) (take-one xs i x is) ∙ flat_map-append f (take i xs) (x ∷ []) ∙ ap (λ (l : List ℕ). flat_map f (take i xs) ++ l) (append-nil (f x))

  pub list-more : (old mid new : Written) → Writes old (flat_map f (take i xs)) mid → Writes mid (f x) new → Writes old (flat_map f (take (i + 1) xs)) new
  list-more old mid new h k = subst (λ (l : List ℕ). Writes old l new) (sym one-more) (writes-both old mid new (flat_map f (take i xs)) (f x) h k)

  split : flat_map f xs ≡ (flat_map f (take i xs) ++ f x) ++ flat_map f (drop (i + 1) xs)
  split =
      ap (flat_map f) (sym (take-append-drop (i + 1) xs)) ∙ flat_map-append f (take (i + 1) xs) (drop (i + 1) xs)
      ∙ ap (λ (l : List ℕ). l ++ flat_map f (drop (i + 1) xs)) one-more

  pub list-cut : (old mid new : Written) → Writes old (flat_map f (take i xs)) mid → WritesFront mid (f x) new → WritesFront old (flat_map f xs) new
  list-cut old mid new h k =
      subst (λ (l : List ℕ). WritesFront old l new) (sym split)
      (front-first old new (flat_map f (take i xs) ++ f x) (flat_map f (drop (i + 1) xs)) (front-second old mid new (flat_map f (take i xs)) (f x) h k))

pub list-done : {X : Type 0} (f : X → List ℕ) (xs : List X) (n : ℕ) (old new : Written) → length xs ≤ n → Writes old (flat_map f (take n xs)) new → Writes old (flat_map f xs) new
list-done f xs n old new all h = subst (λ l. Writes old (flat_map f l) new) (take_all n xs all) h
