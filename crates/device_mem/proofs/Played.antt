-- Events after events.
use Rattle.std.proofs.Common.{◌≡◌, ℕ, ◌+◌, List, [], ◌∷◌, ◌++◌, sym, ◌∙◌, ap, subst, arith, append_assoc}
use Rattle.upd_text.specs.Counts.{counted}
use Rattle.device_model.specs.Events.{Recorded}
use Rattle.device_model.specs.declared.calls.Event.{Event}
use Rattle.device_model.specs.declared.calls.Event.TheVariants.{Start, End, Pause, Loss}
use Rattle.device_mem.specs.declared.script.Script.{Script}
use Rattle.device_mem.specs.Script.{taken_after}
use Rattle.device_mem.specs.Losses.{count_losses}
use Rattle.device_mem.specs.Fits.{Fits}

module _ (script : Script) (t1 s1 : ℕ) (more : List Event) (t2 s2 : ℕ) (then : Fits script t1 s1 more t2 s2) where
  -- events that fit, after events that fit
  pub Fits-append : (t s : ℕ) (events : List Event) → Fits script t s events t1 s1 → Fits script t s (events ++ more) t2 s2
  Fits-append t s [] h = subst (λ (n : ℕ). Fits script n s more t2 s2) h.0 (subst (λ (n : ℕ). Fits script t1 n more t2 s2) h.1 then)
  Fits-append t s (Start c ∷ []) h = absurd h
  Fits-append t s (Start c ∷ Start d ∷ rest) h = absurd h
  Fits-append t s (Start c ∷ Pause n ∷ rest) h = absurd h
  Fits-append t s (Start c ∷ End a ∷ rest) h = (h.0, h.1, Fits-append (taken_after script t c) (counted s) rest h.2)
  Fits-append t s (Start c ∷ Loss ∷ rest) h = (h.0, Fits-append (taken_after script t c) (counted s) rest h.1)
  Fits-append t s (End a ∷ rest) h = absurd h
  Fits-append t s (Pause n ∷ rest) h = Fits-append t s rest h
  Fits-append t s (Loss ∷ rest) h = (h.0, Fits-append t s rest h.1)

pub count_losses-append : (events more : List Event) → count_losses (events ++ more) ≡ count_losses events + count_losses more
count_losses-append [] more = omega arith
count_losses-append (Start c ∷ rest) more = count_losses-append rest more
count_losses-append (End a ∷ rest) more = count_losses-append rest more
count_losses-append (Pause n ∷ rest) more = count_losses-append rest more
count_losses-append (Loss ∷ rest) more = omega (arith, count_losses-append rest more)

pub fits_more : (script : Script) (t s t1 s1 t2 s2 : ℕ) (events more all : List Event) → Fits script t s events t1 s1 → all ≡ events ++ more → Fits script t1 s1 more t2 s2 → Fits script t s all t2 s2
fits_more script t s t1 s1 t2 s2 events more all h e then = subst (λ (l : List Event). Fits script t s l t2 s2) (sym e) (Fits-append script t1 s1 more t2 s2 then t s events h)

-- two events, one after the other
pub two : (e f : Event) (events mid all : List Event) → mid ≡ events ++ e ∷ [] → all ≡ mid ++ f ∷ [] → all ≡ events ++ (e ∷ f ∷ [])
two e f events mid all is then = then ∙ ap (λ (l : List Event). l ++ f ∷ []) is ∙ append_assoc events (e ∷ []) (f ∷ [])

pub events_of : {a b : Recorded} → a ≡ b → a.events ≡ b.events
events_of e = ap (λ (r : Recorded). r.events) e
