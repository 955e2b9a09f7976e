-- One script, and its tries.
use Rattle.std.proofs.Common.{◌≡◌, ℕ, zero, suc, ◌-◌, ◌<◌, Bool, true, false, List, arith, subst}
use Rattle.device_model.specs.declared.calls.Answer.{Answer}
use Rattle.device_model.specs.declared.calls.Call.TheVariants.{Script}
use Rattle.device_model.specs.declared.calls.Event.TheVariants.{Pause}
use Rattle.flow_words.specs.Course.{Course, child, say}
use Rattle.device_model.specs.State.{State}
use Rattle.flow_words.specs.Stretch.{Finishes, Stops}
use Rattle.flow_words.specs.Scripts.{block, is_success, is_retry}
use Rattle.flow_words.proofs.Reach.{Reaches, Reaches-child, Stops-child, Finishes-done}

module _ {t : Course Bool} (x : List ℕ) {old mid new : State} where
  -- the power was lost in a try
  pub block-stop : (n : ℕ) → Reaches t old (block x n) mid → Stops (child (Script x)) mid new → Stops t old new
  unfolding block
  block-stop zero h i = Stops-child h i
  block-stop (suc n) h i = Stops-child h i

  -- a try whose answer ends the block
  pub block-ends : (n : ℕ) (a : Answer) (good : Bool) → Reaches t old (block x n) mid → Finishes (child (Script x)) a mid new → is_retry a ≡ false → is_success a ≡ good → Finishes t good old new
  unfolding block
  block-ends zero a good h i e s =
      let r = Reaches-child h i in subst (λ b. Finishes t b old new) s (r.finishes (is_success a) new (Finishes-done (is_success a) new i.stretch.passed.ends.on))
  block-ends (suc n) a good h i e s =
      let r = rw e at (Reaches-child h i) in
      subst (λ b. Finishes t b old new) s (r.finishes (is_success a) new (Finishes-done (is_success a) new i.stretch.passed.ends.on))

  -- the last try
  pub block-last : (n : ℕ) (a : Answer) (good : Bool) → n ≡ 0 → Reaches t old (block x n) mid → Finishes (child (Script x)) a mid new → is_success a ≡ good → Finishes t good old new
  unfolding block
  block-last zero a good z h i s =
      let r = Reaches-child h i in subst (λ b. Finishes t b old new) s (r.finishes (is_success a) new (Finishes-done (is_success a) new i.stretch.passed.ends.on))
  block-last (suc n) a good z h i s = cc

  -- a try whose answer asks for another
  pub block-again : (n : ℕ) (a : Answer) → 0 < n → Reaches t old (block x n) mid → Finishes (child (Script x)) a mid new → is_retry a ≡ true → Reaches t old (say (Pause 60) (block x (n - 1))) new
  unfolding block
  block-again zero a p h i e = absurd (omega arith)
  block-again (suc n) a p h i e =
      let m : suc n - 1 ≡ n = omega arith in
      rw m (rw e at (Reaches-child h i))
