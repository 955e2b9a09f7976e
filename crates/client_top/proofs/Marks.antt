-- One text behind another in a sink, and the marked name.
use Rattle.std.proofs.Common.{◌≡◌, ℕ, ◌+◌, List, [], ◌∷◌, ◌++◌, take, drop, refl, sym, ap, subst, ◌∙◌, append_assoc, append-nil, arith}
use Rattle.std.specs.Prelude.{Option, Some, None, get_or, option_map, slice_get, codes, true, false}
use Rattle.std.specs.List.{flat_map}
use Rattle.std.proofs.lemmas.List.{take_more, take-append-drop}
use Rattle.std.proofs.lemmas.List.Folds.{flat_map-map}
use Rattle.std.proofs.lemmas.Option.{slice_get_within, get_or_from_slice_get}
use Rattle.std.proofs.lemmas.List.Concat.{flat_map-cons}
use Rattle.std.proofs.lemmas.Grind.{flat_map-append}
use Rattle.std.specs.Str.{bytes_eq}
use Rattle.provides_map.specs.Pairs.{IsMap, get}
use Rattle.provides_map.specs.After.{artifact_name, broken}
use Rattle.provides_map.proofs.Effects.{broken_name}
use Rattle.record_codec.proofs.Marks.{broken_marks}
use Rattle.record_codec.specs.Held.{marked}
use Rattle.client_top.specs.Texts.{line, mark_if}
use Rattle.io_model.specs.Sink.{Written, Adds, Writes, WritesFront}
use Rattle.client_top.specs.Waiting.{IsAhead}

adds-both : (a b c : Option (List ℕ)) (t u : List ℕ) → Adds a t b → Adds b u c → Adds a (t ++ u) c
adds-both None b c t u p q = subst (λ (x : Option (List ℕ)). Adds x u c) p q
adds-both (Some x) b c t u p q = (subst (λ (y : Option (List ℕ)). Adds y u c) p q) ∙ ap (λ (z : List ℕ). Some z) (append_assoc x t u)

adds-nothing : (a : Option (List ℕ)) → Adds a [] a
adds-nothing None = refl
adds-nothing (Some x) = ap (λ (z : List ℕ). Some z) (sym (append-nil x))

-- no text at all
pub writes-nothing : (a : Written) → Writes a [] a
writes-nothing a = record { adds = adds-nothing a.told; count = omega arith }

-- a text, and then another
pub writes-both : {t u : List ℕ} (a b c : Written) → Writes a t b → Writes b u c → Writes a (t ++ u) c
writes-both {t} {u} a b c p q = record { adds = adds-both a.told b.told c.told t u p.adds q.adds; count = omega (arith, p.count, q.count) }

-- a text, and then one that failed, and what was to follow
pub writes-cut : {t u : List ℕ} (a b c : Written) (v : List ℕ) → Writes a t b → WritesFront b u c → WritesFront a ((t ++ u) ++ v) c
writes-cut {t} {u} a b c v p q = record {
  front = t ++ q.front;
  rest = q.rest ++ v;
  is_front = ap (λ (z : List ℕ). (t ++ z) ++ v) q.is_front ∙ (ap (λ (z : List ℕ). z ++ v) (sym (append_assoc t q.front q.rest)) ∙ append_assoc (t ++ q.front) q.rest v);
  adds = adds-both a.told b.told c.told t q.front p.adds q.adds;
  count = omega (arith, p.count, q.count);
}

module _ {X : Type 0} (f : X → List ℕ) (xs : List X) (i : ℕ) (x : X) (is : slice_get xs i ≡ Some x) where
  one-more : flat_map f (take (i + 1) xs) ≡ flat_map f (take i xs) ++ f x
  one-more =
      let one : flat_map f (x ∷ []) ≡ f x = flat_map-cons f x [] ∙ append-nil (f x) in
      ap (flat_map f) (take_more xs i x (slice_get_within xs i x is)) ∙ flat_map-append f (take i xs) (get_or xs i x ∷ []) ∙ ap (λ (y : X). flat_map f (take i xs) ++ flat_map f (y ∷ [])) (get_or_from_slice_get xs i x x is) ∙ ap (λ (t : List ℕ). flat_map f (take i xs) ++ t) one

  all-of-it : flat_map f xs ≡ (flat_map f (take i xs) ++ f x) ++ flat_map f (drop (i + 1) xs)
  all-of-it = ap (flat_map f) (sym (take-append-drop (i + 1) xs)) ∙ flat_map-append f (take (i + 1) xs) (drop (i + 1) xs) ∙ ap (λ (t : List ℕ). t ++ flat_map f (drop (i + 1) xs)) one-more

  -- one more line is written or waits
  pub ahead-more : (a b c : Written) (page next : List ℕ) → IsAhead a (flat_map f (take i xs)) page b → IsAhead b (page ++ f x) next c → IsAhead a (flat_map f (take (i + 1) xs)) next c
  ahead-more a b c page next p q = record {
    written = p.written ++ q.written;
    writes = writes-both a b c p.writes q.writes;
    all = one-more ∙ ap (λ (t : List ℕ). t ++ f x) p.all ∙ append_assoc p.written page (f x) ∙ ap (λ (t : List ℕ). p.written ++ t) q.all ∙ sym (append_assoc p.written q.written next);
  }

  -- or the sink failed at what waited
  pub ahead-stop : (a b c : Written) (page : List ℕ) → IsAhead a (flat_map f (take i xs)) page b → WritesFront b page c → WritesFront a (flat_map f xs) c
  ahead-stop a b c page p q =
      let rest = flat_map f (drop (i + 1) xs) in
      let all : flat_map f xs ≡ (p.written ++ page) ++ (f x ++ rest) = all-of-it ∙ append_assoc (flat_map f (take i xs)) (f x) rest ∙ ap (λ (t : List ℕ). t ++ (f x ++ rest)) p.all in
      subst (λ (t : List ℕ). WritesFront a t c) (sym all) (writes-cut a b c (f x ++ rest) p.writes q)

-- what waited is written last
pub ahead-done : (a b c : Written) (text page : List ℕ) → IsAhead a text page b → Writes b page c → Writes a text c
ahead-done a b c text page p q = subst (λ (t : List ℕ). Writes a t c) (sym p.all) (writes-both a b c p.writes q)

pub ahead-failed : (a b c : Written) (text page : List ℕ) → IsAhead a text page b → WritesFront b page c → WritesFront a text c
ahead-failed a b c text page p q = subst (λ (t : List ℕ). WritesFront a t c) (append-nil (p.written ++ page) ∙ sym p.all) (writes-cut a b c [] p.writes q)

pub ahead-nothing : (a : Written) → IsAhead a [] [] a
ahead-nothing a = record { written = []; writes = writes-nothing a; all = refl }

pub ahead-waits : (a : Written) (page line : List ℕ) → IsAhead a (page ++ line) (page ++ line) a
ahead-waits a page line = record { written = []; writes = writes-nothing a; all = refl }

pub ahead-turned : (a b : Written) (page line next : List ℕ) → Writes a page b → next ≡ line → IsAhead a (page ++ line) next b
ahead-turned a b page line next w e = record { written = page; writes = w; all = ap (λ (t : List ℕ). page ++ t) (sym e) }

-- what an inconsistent update shows, line by line
pub shown-broken : (ps : List (List ℕ × List ℕ)) → IsMap ps → flat_map line (broken ps) ≡ flat_map (λ p. line (mark_if true p)) ps
shown-broken ps is = ap (flat_map line) (broken_marks ps is) ∙ flat_map-map line marked ps

-- the line of a pair that is marked, and of one that isn't
pub marked-line : (p : List ℕ × List ℕ) → bytes_eq p.0 artifact_name ≡ true → (((p.0 ++ codes "=") ++ p.1) ++ codes "_INCONSISTENT") ++ codes "\n" ≡ line (marked p)
unfolding line
marked-line p is = rw is (ap (λ (t : List ℕ). t ++ codes "\n") (append_assoc (p.0 ++ codes "=") p.1 (codes "_INCONSISTENT")))

pub plain-line : (p : List ℕ × List ℕ) → bytes_eq p.0 artifact_name ≡ false → line p ≡ line (marked p)
plain-line p is = rw is refl

broken-without : (ps : List (List ℕ × List ℕ)) → get ps artifact_name ≡ None → get (broken ps) artifact_name ≡ None
unfolding broken
broken-without ps is = rw is is

-- the name of a broken map
pub broken-name : (ps : List (List ℕ × List ℕ)) (value : Option (List ℕ)) → get ps artifact_name ≡ value → get (broken ps) artifact_name ≡ option_map (λ name. name ++ codes "_INCONSISTENT") value
broken-name ps None is = broken-without ps is
broken-name ps (Some name) is = broken_name ps name is
