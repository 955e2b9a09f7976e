-- Events that are such as a script gives.
use Rattle.std.specs.Prelude.{◌≡◌, ℕ, true, false, List, [], ◌∷◌}
use Rattle.std.proofs.Props.{props}
use Rattle.upd_text.specs.Counts.{counted}
use Rattle.device_model.specs.declared.calls.Answer.{Answer}
use Rattle.device_model.specs.declared.calls.Event.{Event}
use Rattle.device_model.specs.declared.calls.Event.TheVariants.{Start, End, Pause, Loss}
use Rattle.device_mem.specs.declared.script.Script.{Script}
use Rattle.device_mem.specs.Script.{is_cut, end_of, taken_after}

-- Where t answers were taken and s children were started, these events may come, and after them t' were taken and s' started.
-- Each start is followed by its end, as the script gives it, or by a loss, which only a cut brings where no loss is planned.
abbrev pub Fits : Script → ℕ → ℕ → List Event → ℕ → ℕ → Type 0
Fits script t s [] t' s' = (t' ≡ t) × (s' ≡ s)
Fits script t s (Start c ∷ []) t' s' = ⊥
Fits script t s (Start c ∷ Start d ∷ rest) t' s' = ⊥
Fits script t s (Start c ∷ Pause n ∷ rest) t' s' = ⊥
Fits script t s (Start c ∷ End a ∷ rest) t' s' =
    (is_cut script s ≡ false) × (a ≡ end_of script t c) × Fits script (taken_after script t c) (counted s) rest t' s'
Fits script t s (Start c ∷ Loss ∷ rest) t' s' =
    (script.losses ≡ [] → is_cut script s ≡ true) × Fits script (taken_after script t c) (counted s) rest t' s'
Fits script t s (End a ∷ rest) t' s' = ⊥
Fits script t s (Pause n ∷ rest) t' s' = Fits script t s rest t' s'
Fits script t s (Loss ∷ rest) t' s' = (script.losses ≡ [] → ⊥) × Fits script t s rest t' s'

-- two answers are equal in one way at the most
answer_set : IsSet Answer
answer_set = hlevel props

-- it holds in one way at the most
pub Fits-prop : (script : Script) (t s : ℕ) (events : List Event) (t' s' : ℕ) → IsProp (Fits script t s events t' s')
Fits-prop script t s [] t' s' = hlevel props
Fits-prop script t s (Start c ∷ []) t' s' = hlevel props
Fits-prop script t s (Start c ∷ Start d ∷ rest) t' s' = hlevel props
Fits-prop script t s (Start c ∷ Pause n ∷ rest) t' s' = hlevel props
Fits-prop script t s (Start c ∷ End a ∷ rest) t' s' = let r = Fits-prop script (taken_after script t c) (counted s) rest t' s' in hlevel (props, answer_set)
Fits-prop script t s (Start c ∷ Loss ∷ rest) t' s' = let r = Fits-prop script (taken_after script t c) (counted s) rest t' s' in hlevel props
Fits-prop script t s (End a ∷ rest) t' s' = hlevel props
Fits-prop script t s (Pause n ∷ rest) t' s' = Fits-prop script t s rest t' s'
Fits-prop script t s (Loss ∷ rest) t' s' = let r = Fits-prop script t s rest t' s' in hlevel props
