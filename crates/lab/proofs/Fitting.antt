-- A script gives one answer after the same events, and one place behind them.
use Rattle.std.proofs.Common.{◌≡◌, ℕ, true, false, List, [], ◌∷◌, ◌++◌, refl, sym, ◌∙◌, subst}
use Rattle.device_model.specs.declared.calls.Answer.{Answer}
use Rattle.device_model.specs.declared.calls.Event.{Event}
use Rattle.device_model.specs.declared.calls.Event.TheVariants.{Start, End, Pause, Loss}
use Rattle.device_mem.specs.declared.script.Script.{Script}
use Rattle.device_mem.specs.Script.{taken_after}
use Rattle.device_mem.specs.Fits.{Fits}
use Rattle.flow_words.specs.Agrees.{Agrees}
use Rattle.upd_text.specs.Counts.{counted}

answers-one : (script : Script) (t s : ℕ) (u x y : List Event) (a b : Answer) (t1 s1 t2 s2 : ℕ) → Fits script t s (u ++ End a ∷ x) t1 s1 → Fits script t s (u ++ End b ∷ y) t2 s2 → a ≡ b
answers-one script t s [] x y a b t1 s1 t2 s2 h k = absurd h
answers-one script t s (Start c ∷ []) x y a b t1 s1 t2 s2 h k = h.1 ∙ sym k.1
answers-one script t s (Start c ∷ Start d ∷ u) x y a b t1 s1 t2 s2 h k = absurd h
answers-one script t s (Start c ∷ Pause n ∷ u) x y a b t1 s1 t2 s2 h k = absurd h
answers-one script t s (Start c ∷ End e ∷ u) x y a b t1 s1 t2 s2 h k = answers-one script (taken_after script t c) (counted s) u x y a b t1 s1 t2 s2 h.2 k.2
answers-one script t s (Start c ∷ Loss ∷ u) x y a b t1 s1 t2 s2 h k = answers-one script (taken_after script t c) (counted s) u x y a b t1 s1 t2 s2 h.1 k.1
answers-one script t s (End e ∷ u) x y a b t1 s1 t2 s2 h k = absurd h
answers-one script t s (Pause n ∷ u) x y a b t1 s1 t2 s2 h k = answers-one script t s u x y a b t1 s1 t2 s2 h k
answers-one script t s (Loss ∷ u) x y a b t1 s1 t2 s2 h k = answers-one script t s u x y a b t1 s1 t2 s2 h.1 k.1

-- events that fit the same script from the same place have the same answers
pub fits-agree : (script : Script) (t s : ℕ) (w v : List Event) (t1 s1 t2 s2 : ℕ) → Fits script t s w t1 s1 → Fits script t s v t2 s2 → Agrees w v
fits-agree script t s w v t1 s1 t2 s2 h k = λ u x y a b is other.
    answers-one script t s u x y a b t1 s1 t2 s2
    (subst (λ (l : List Event). Fits script t s l t1 s1) is h) (subst (λ (l : List Event). Fits script t s l t2 s2) other k)

-- and the same events lead to the same place
pub fits-one : (script : Script) (t s : ℕ) (w : List Event) (t1 s1 t2 s2 : ℕ) → Fits script t s w t1 s1 → Fits script t s w t2 s2 → (t1 ≡ t2) × (s1 ≡ s2)
fits-one script t s [] t1 s1 t2 s2 h k = (h.0 ∙ sym k.0, h.1 ∙ sym k.1)
fits-one script t s (Start c ∷ []) t1 s1 t2 s2 h k = absurd h
fits-one script t s (Start c ∷ Start d ∷ w) t1 s1 t2 s2 h k = absurd h
fits-one script t s (Start c ∷ Pause n ∷ w) t1 s1 t2 s2 h k = absurd h
fits-one script t s (Start c ∷ End e ∷ w) t1 s1 t2 s2 h k = fits-one script (taken_after script t c) (counted s) w t1 s1 t2 s2 h.2 k.2
fits-one script t s (Start c ∷ Loss ∷ w) t1 s1 t2 s2 h k = fits-one script (taken_after script t c) (counted s) w t1 s1 t2 s2 h.1 k.1
fits-one script t s (End e ∷ w) t1 s1 t2 s2 h k = absurd h
fits-one script t s (Pause n ∷ w) t1 s1 t2 s2 h k = fits-one script t s w t1 s1 t2 s2 h k
fits-one script t s (Loss ∷ w) t1 s1 t2 s2 h k = fits-one script t s w t1 s1 t2 s2 h.1 k.1

-- where a child lost its power, no other run of the same script goes on behind its start
pub loss-or-end : (script : Script) (t s : ℕ) (u x : List Event) (t1 s1 t2 s2 : ℕ) (e : Event) → script.losses ≡ [] → Fits script t s (u ++ Loss ∷ []) t1 s1 → Fits script t s (u ++ e ∷ x) t2 s2 → e ≡ Loss
loss-or-end script t s [] x t1 s1 t2 s2 e none h k = absurd (h.0 none)
loss-or-end script t s (Start c ∷ []) x t1 s1 t2 s2 (Start d) none h k = absurd k
loss-or-end script t s (Start c ∷ []) x t1 s1 t2 s2 (Pause n) none h k = absurd k
loss-or-end script t s (Start c ∷ []) x t1 s1 t2 s2 Loss none h k = refl
loss-or-end script t s (Start c ∷ []) x t1 s1 t2 s2 (End a) none h k = absurd (both (sym k.0 ∙ h.0 none))
  where
    both : false ≡ true → ⊥
    both h = cc
loss-or-end script t s (Start c ∷ Start d ∷ u) x t1 s1 t2 s2 e none h k = absurd h
loss-or-end script t s (Start c ∷ Pause n ∷ u) x t1 s1 t2 s2 e none h k = absurd h
loss-or-end script t s (Start c ∷ End a ∷ u) x t1 s1 t2 s2 e none h k = loss-or-end script (taken_after script t c) (counted s) u x t1 s1 t2 s2 e none h.2 k.2
loss-or-end script t s (Start c ∷ Loss ∷ u) x t1 s1 t2 s2 e none h k = loss-or-end script (taken_after script t c) (counted s) u x t1 s1 t2 s2 e none h.1 k.1
loss-or-end script t s (End a ∷ u) x t1 s1 t2 s2 e none h k = absurd h
loss-or-end script t s (Pause n ∷ u) x t1 s1 t2 s2 e none h k = loss-or-end script t s u x t1 s1 t2 s2 e none h k
loss-or-end script t s (Loss ∷ u) x t1 s1 t2 s2 e none h k = absurd (h.0 none)
