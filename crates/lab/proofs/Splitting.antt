-- A script gives the events of one boot after those of another.
use Rattle.std.proofs.Common.{◌≡◌, ℕ, true, false, List, [], ◌∷◌, ◌++◌, refl}
use Rattle.upd_text.specs.Counts.{counted}
use Rattle.device_model.specs.declared.calls.Event.{Event}
use Rattle.device_model.specs.declared.calls.Event.TheVariants.{Start, End, Pause, Loss}
use Rattle.device_mem.specs.declared.script.Script.{Script}
use Rattle.device_mem.specs.Script.{taken_after}
use Rattle.device_mem.specs.Fits.{Fits}
use Rattle.lab.proofs.Busy.{starts_last}

-- what the script gave first, and what it gave then
pub record Split (script : Script) (t s : ℕ) (first rest : List Event) (t' s' : ℕ) : Type 0 where
  pub taken : ℕ
  pub started : ℕ
  pub begins : Fits script t s first taken started
  pub goes : Fits script taken started rest t' s'

start-last : true ≡ false → ⊥
start-last h = cc

quiet-rest : (e : Event) (w : List Event) → starts_last (e ∷ w) ≡ false → starts_last w ≡ false
quiet-rest e [] h = refl
quiet-rest e (f ∷ w) h = h

pub split-fits : (script : Script) (t s : ℕ) (first rest : List Event) (t' s' : ℕ) → starts_last first ≡ false → Fits script t s (first ++ rest) t' s' → Split script t s first rest t' s'
split-fits script t s [] rest t' s' quiet h = record { taken = t; started = s; begins = (refl, refl); goes = h }
split-fits script t s (Start c ∷ []) rest t' s' quiet h = absurd (start-last quiet)
split-fits script t s (Start c ∷ Start d ∷ first) rest t' s' quiet h = absurd h
split-fits script t s (Start c ∷ Pause n ∷ first) rest t' s' quiet h = absurd h
split-fits script t s (Start c ∷ End a ∷ first) rest t' s' quiet h =
    let r = split-fits script (taken_after script t c) (counted s) first rest t' s' (quiet-rest (End a) first quiet) h.2 in
    record { taken = r.taken; started = r.started; begins = (h.0, h.1, r.begins); goes = r.goes }
split-fits script t s (Start c ∷ Loss ∷ first) rest t' s' quiet h =
    let r = split-fits script (taken_after script t c) (counted s) first rest t' s' (quiet-rest Loss first quiet) h.1 in
    record { taken = r.taken; started = r.started; begins = (h.0, r.begins); goes = r.goes }
split-fits script t s (End a ∷ first) rest t' s' quiet h = absurd h
split-fits script t s (Pause n ∷ first) rest t' s' quiet h =
    let r = split-fits script t s first rest t' s' (quiet-rest (Pause n) first quiet) h in
    record { taken = r.taken; started = r.started; begins = r.begins; goes = r.goes }
split-fits script t s (Loss ∷ first) rest t' s' quiet h =
    let r = split-fits script t s first rest t' s' (quiet-rest Loss first quiet) h.1 in
    record { taken = r.taken; started = r.started; begins = (h.0, r.begins); goes = r.goes }
