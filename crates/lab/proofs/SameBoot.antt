-- A script lets a deployment go on from a position in one way.
use Rattle.std.proofs.Common.{◌≡◌, ℕ, Bool, true, false, List, [], ◌∷◌, ◌++◌, refl, sym, ap, ◌∙◌, subst, append_assoc, append-nil}
use Rattle.std.specs.Prelude.{if◌then◌else◌}
use Rattle.device_model.specs.declared.calls.Event.{Event}
use Rattle.device_model.specs.declared.calls.Event.TheVariants.{Loss, End as Ends}
use Rattle.device_mem.specs.declared.script.Script.{Script}
use Rattle.device_mem.specs.Fits.{Fits}
use Rattle.flow_table.specs.declared.position.Position.{Position}
use Rattle.flow_words.specs.Agrees.{Agrees, OneBegins, first_begins, second_begins}
use Rattle.flow_words.specs.Decided.{IsThrough}
use Rattle.flow_words.specs.Pieces.{End, Halted, Pieces}
use Rattle.flow_words.specs.Power.{IsPowered, ArePowered}
use Rattle.flow_words.specs.Words.{Callees, word_at}
use Rattle.flow_words.proofs.AgreeLemmas.{pieces-agree}
use Rattle.flow_words.proofs.Powered.{pieces-powered}
use Rattle.lab.proofs.Busy.{starts_last}
use Rattle.lab.proofs.Fitting.{fits-agree, loss-or-end}
use Rattle.lab.proofs.Halted.{through-quiet}
use Rattle.lab.proofs.Longest.{pieces-longest}
use Rattle.lab.proofs.Turning.{behind-start}

abbrev pub tail_of : Bool → List Event
tail_of off = if off then Loss ∷ [] else []

-- it was cut off, or it was not
abbrev pub Way : Bool → End → Type 0
Way true end = end ≡ Halted
Way false end = IsThrough end

agree-front : (w v x y : List Event) → Agrees (w ++ x) (v ++ y) → Agrees w v
agree-front w v x y h = λ u p q a b is other. h u (p ++ x) (q ++ y) a b (ap (λ (l : List Event). l ++ x) is ∙ append_assoc u (Ends a ∷ p) x) (ap (λ (l : List Event). l ++ y) other ∙ append_assoc u (Ends b ∷ q) y)

never-lost : (u y : List Event) (e : Event) → ArePowered (u ++ e ∷ y) → e ≡ Loss → ⊥
never-lost [] y e h is = subst IsPowered is h.0
never-lost (f ∷ u) y e h is = never-lost u y e h.1 is

none-last : false ≡ true → ⊥
none-last h = cc

module _ (who : Callees) {stop : Bool} (script : Script) (t s : ℕ) (none : script.losses ≡ []) where
  -- behind a loss no other run goes on
  no-more : {p q : Position} {end : End} (w v : List Event) (e : Event) (y tail : List Event) (t1 s1 t2 s2 : ℕ) → Fits script t s (w ++ Loss ∷ []) t1 s1 → Fits script t s (v ++ tail) t2 s2 → v ≡ w ++ e ∷ y → Pieces (word_at who) stop p v end q → ⊥
  no-more w v e y tail t1 s1 t2 s2 h k is g =
      never-lost w y e (subst ArePowered is (pieces-powered who g))
      (loss-or-end script t s w (y ++ tail) t1 s1 t2 s2 e none h (subst (λ (l : List Event). Fits script t s l t2 s2) (ap (λ (l : List Event). l ++ tail) is ∙ append_assoc w (e ∷ y) tail) k))

  -- one that is through isn't one that was cut off
  apart : {p q : Position} {end : End} (w v : List Event) (t1 s1 : ℕ) → w ≡ v → Pieces (word_at who) stop p w end q → IsThrough end → Fits script t s (v ++ Loss ∷ []) t1 s1 → ⊥
  apart w v t1 s1 same g through h = none-last (sym (through-quiet who g through) ∙ ap starts_last same ∙ behind-start script t s v t1 s1 none h)

  module _ {p q r : Position} {end other : End} (w v : List Event) (g : Pieces (word_at who) stop p w end q) (g' : Pieces (word_at who) stop p v other r) (t1 s1 t2 s2 : ℕ) where
    by-ways : (off off' : Bool) → Way off end → Way off' other → Fits script t s (w ++ tail_of off) t1 s1 → Fits script t s (v ++ tail_of off') t2 s2 → OneBegins w v → (w ≡ v) × (off ≡ off')
    by-ways false false a b h k (first_begins x is) = (let e = pieces-longest who g g' a x is in sym (is ∙ ap (λ (l : List Event). w ++ l) e ∙ append-nil w), refl)
    by-ways false false a b h k (second_begins x is) = (let e = pieces-longest who g' g b x is in is ∙ ap (λ (l : List Event). v ++ l) e ∙ append-nil v, refl)
    by-ways true true a b h k (first_begins [] is) = (sym (is ∙ append-nil w), refl)
    by-ways true true a b h k (first_begins (e ∷ y) is) = absurd (no-more w v e y (Loss ∷ []) t1 s1 t2 s2 h k is g')
    by-ways true true a b h k (second_begins [] is) = (is ∙ append-nil v, refl)
    by-ways true true a b h k (second_begins (e ∷ y) is) = absurd (no-more v w e y (Loss ∷ []) t2 s2 t1 s1 k h is g)
    by-ways false true a b h k (first_begins x is) = absurd (let e = pieces-longest who g g' a x is in apart w v t2 s2 (sym (is ∙ ap (λ (l : List Event). w ++ l) e ∙ append-nil w)) g a k)
    by-ways false true a b h k (second_begins [] is) = absurd (apart w v t2 s2 (is ∙ append-nil v) g a k)
    by-ways false true a b h k (second_begins (e ∷ y) is) = absurd (no-more v w e y [] t2 s2 t1 s1 k h is g)
    by-ways true false a b h k (second_begins x is) = absurd (let e = pieces-longest who g' g b x is in apart v w t1 s1 (sym (is ∙ ap (λ (l : List Event). v ++ l) e ∙ append-nil v)) g' b h)
    by-ways true false a b h k (first_begins [] is) = absurd (apart v w t1 s1 (is ∙ append-nil w) g' b h)
    by-ways true false a b h k (first_begins (e ∷ y) is) = absurd (no-more w v e y [] t1 s1 t2 s2 h k is g')

    -- the same events, and cut off both or none
    pub same-events : (off off' : Bool) → Way off end → Way off' other → Fits script t s (w ++ tail_of off) t1 s1 → Fits script t s (v ++ tail_of off') t2 s2 → (w ≡ v) × (off ≡ off')
    same-events off off' a b h k = by-ways off off' a b h k (pieces-agree g g' (agree-front w v (tail_of off) (tail_of off') (fits-agree script t s (w ++ tail_of off) (v ++ tail_of off') t1 s1 t2 s2 h k)))
