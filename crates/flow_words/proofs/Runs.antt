-- A run of scripts goes on by one script.
use Rattle.std.proofs.Common.{◌≡◌, ℕ, Bool, true, false, List, ◌∷◌, cond, subst}
use Rattle.device_model.specs.State.{State}
use Rattle.flow_words.specs.declared.mode.Mode.{Mode}
use Rattle.flow_words.specs.Course.{Course, done, and_then}
use Rattle.flow_words.specs.Scripts.{step, run}
use Rattle.flow_words.specs.Stretch.{Finishes, Stops}
use Rattle.flow_words.proofs.Reach.{Reaches, Reaches-more, Reaches-stop, Finishes-done}

-- what follows one script
abbrev rest : List (List ℕ) → Mode → Bool → Course Bool
rest names mode good = cond good (run names mode) (done false)

module _ {t : Course Bool} {old mid : State} (due : List (List ℕ)) (mode : Mode) (name : List ℕ) (names : List (List ℕ)) (is : due ≡ name ∷ names) (h : Reaches t old (run due mode) mid) where
  reached : Reaches t old (and_then (step name mode) (rest names mode)) mid
  reached = subst (λ (xs : List (List ℕ)). Reaches t old (run xs mode) mid) is h

  pub run-more : {new : State} → Finishes (step name mode) true mid new → Reaches t old (run names mode) new
  run-more f = Reaches-more (rest names mode) reached f

  pub run-fails : {new : State} → Finishes (step name mode) false mid new → Finishes t false old new
  run-fails {new} f = (Reaches-more (rest names mode) reached f).finishes false new (Finishes-done false new f.stretch.passed.ends.on)

  pub run-stop : {new : State} → Stops (step name mode) mid new → Stops t old new
  run-stop s = Reaches-stop (rest names mode) reached s
