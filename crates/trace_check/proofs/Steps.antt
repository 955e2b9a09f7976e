-- The steps of a state, read one after another.
use Rattle.std.proofs.Common.{◌≡◌, ℕ, zero, suc, ◌-◌, ◌<◌, Bool, true, false, List, ◌∷◌, cond, ap, ◌∙◌, arith}
use Rattle.std.specs.Prelude.{Ok, Err}
use Rattle.device_model.specs.declared.calls.Answer.{Answer}
use Rattle.device_model.specs.declared.calls.Call.TheVariants.{Script}
use Rattle.device_model.specs.declared.calls.Event.{Event}
use Rattle.device_model.specs.declared.calls.Event.TheVariants.{Pause}
use Rattle.flow_table.specs.declared.table.Heard.{Heard}
use Rattle.flow_table.specs.declared.table.Heard.TheVariants.{Failed}
use Rattle.flow_words.specs.declared.mode.Mode.{Mode}
use Rattle.flow_words.specs.Course.{Course, done, say, child, waiting, and_then}
use Rattle.flow_words.specs.Scripts.{block, step, run, is_success, is_retry}
use Rattle.flow_words.specs.Words.{if_good, is_failed}
use Rattle.trace_check.specs.declared.read.Stop.{Stop}
use Rattle.trace_check.specs.Reading.{read}
use Rattle.trace_check.proofs.Readings.{then-ok, then-err}

-- ---- one script

module _ (events : List Event) (name : List ℕ) (at : ℕ) where
  pub block-err : (n : ℕ) (s : Stop) → read events (child (Script name)) at ≡ Err s → read events (block name n) at ≡ Err s
  unfolding block
  block-err zero s is = then-err events (child (Script name)) (λ a. done (is_success a)) at s is
  block-err (suc n) s is = then-err events (child (Script name)) (λ a. cond (is_retry a) (say (Pause 60) (block name n)) (done (is_success a))) at s is

  -- a try whose answer ends the block
  pub block-ends : (n : ℕ) (a : Answer) (i : ℕ) → is_retry a ≡ false → read events (child (Script name)) at ≡ Ok (a, i) → read events (block name n) at ≡ Ok (is_success a, i)
  unfolding block
  block-ends zero a i fails is = then-ok events (child (Script name)) (λ a. done (is_success a)) at a i is
  block-ends (suc n) a i fails is =
      then-ok events (child (Script name)) (λ a. cond (is_retry a) (say (Pause 60) (block name n)) (done (is_success a))) at a i is
      ∙ ap (λ b. read events (cond b (say (Pause 60) (block name n)) (done (is_success a))) i) fails

  pub block-last : (n : ℕ) (a : Answer) (i : ℕ) → n ≡ 0 → read events (child (Script name)) at ≡ Ok (a, i) → read events (block name n) at ≡ Ok (is_success a, i)
  unfolding block
  block-last zero a i none is = then-ok events (child (Script name)) (λ a. done (is_success a)) at a i is
  block-last (suc n) a i none is = cc

  -- a try whose answer asks for another
  again : (n : ℕ) (a : Answer) (i : ℕ) → 0 < n → is_retry a ≡ true → read events (child (Script name)) at ≡ Ok (a, i) → read events (block name n) at ≡ read events (and_then (waiting 60) (λ _. block name (n - 1))) i
  unfolding block
  again zero a i some holds is = absurd (omega arith)
  again (suc n) a i some holds is =
      let m : suc n - 1 ≡ n = omega arith in
      rw m (then-ok events (child (Script name)) (λ a. cond (is_retry a) (say (Pause 60) (block name n)) (done (is_success a))) at a i is
      ∙ ap (λ b. read events (cond b (say (Pause 60) (block name n)) (done (is_success a))) i) holds)

  pub block-again : (n : ℕ) (a : Answer) (i : ℕ) (waited : Bool) (j : ℕ) → 0 < n → is_retry a ≡ true → read events (child (Script name)) at ≡ Ok (a, i) → read events (waiting 60) i ≡ Ok (waited, j) → read events (block name n) at ≡ read events (block name (n - 1)) j
  block-again n a i waited j some holds is waits = again n a i some holds is ∙ then-ok events (waiting 60) (λ _. block name (n - 1)) i waited j waits

  pub block-cut : (n : ℕ) (a : Answer) (i : ℕ) (s : Stop) → 0 < n → is_retry a ≡ true → read events (child (Script name)) at ≡ Ok (a, i) → read events (waiting 60) i ≡ Err s → read events (block name n) at ≡ Err s
  block-cut n a i s some holds is waits = again n a i some holds is ∙ then-err events (waiting 60) (λ _. block name (n - 1)) i s waits

-- ---- a run of scripts

module _ (events : List Event) (due : List (List ℕ)) (mode : Mode) (name : List ℕ) (names : List (List ℕ)) (at : ℕ) (is : due ≡ name ∷ names) where
  first : read events (run due mode) at ≡ read events (and_then (step name mode) (λ good. cond good (run names mode) (done false))) at
  first = ap (λ (xs : List (List ℕ)). read events (run xs mode) at) is

  pub run-err : (s : Stop) → read events (step name mode) at ≡ Err s → read events (run due mode) at ≡ Err s
  run-err s h = first ∙ then-err events (step name mode) (λ good. cond good (run names mode) (done false)) at s h

  pub run-fails : (good : Bool) (i : ℕ) → good ≡ false → read events (step name mode) at ≡ Ok (good, i) → read events (run due mode) at ≡ Ok (false, i)
  run-fails good i fails h = first ∙ then-ok events (step name mode) (λ good. cond good (run names mode) (done false)) at good i h ∙ ap (λ b. read events (cond b (run names mode) (done false)) i) fails

  pub run-more : (good : Bool) (i : ℕ) → good ≡ true → read events (step name mode) at ≡ Ok (good, i) → read events (run due mode) at ≡ read events (run names mode) i
  run-more good i holds h = first ∙ then-ok events (step name mode) (λ good. cond good (run names mode) (done false)) at good i h ∙ ap (λ b. read events (cond b (run names mode) (done false)) i) holds

-- ---- a state

module _ (events : List Event) (t : Course Bool) (next : Course Heard) (at : ℕ) where
  pub good-err : (s : Stop) → read events t at ≡ Err s → read events (if_good t next) at ≡ Err s
  good-err s h = then-err events t (λ good. cond good next (done Failed)) at s h

  pub good-off : (good : Bool) (i : ℕ) → good ≡ false → read events t at ≡ Ok (good, i) → read events (if_good t next) at ≡ Ok (Failed, i)
  good-off good i fails h = then-ok events t (λ good. cond good next (done Failed)) at good i h ∙ ap (λ b. read events (cond b next (done Failed)) i) fails

  pub good-on : (good : Bool) (i : ℕ) → good ≡ true → read events t at ≡ Ok (good, i) → read events (if_good t next) at ≡ read events next i
  good-on good i holds h = then-ok events t (λ good. cond good next (done Failed)) at good i h ∙ ap (λ b. read events (cond b next (done Failed)) i) holds

-- a course whose result is heard, and what follows by whether it failed
module _ (events : List Event) (t : Course Heard) (bad : Course Heard) (well : Heard → Course Heard) (at : ℕ) where
  pub heard-err : (s : Stop) → read events t at ≡ Err s → read events (and_then t (λ h. cond (is_failed h) bad (well h))) at ≡ Err s
  heard-err s e = then-err events t (λ h. cond (is_failed h) bad (well h)) at s e

  pub heard-bad : (h : Heard) (i : ℕ) → is_failed h ≡ true → read events t at ≡ Ok (h, i) → read events (and_then t (λ h. cond (is_failed h) bad (well h))) at ≡ read events bad i
  heard-bad h i holds e = then-ok events t (λ h. cond (is_failed h) bad (well h)) at h i e ∙ ap (λ b. read events (cond b bad (well h)) i) holds

  pub heard-well : (h : Heard) (i : ℕ) → is_failed h ≡ false → read events t at ≡ Ok (h, i) → read events (and_then t (λ h. cond (is_failed h) bad (well h))) at ≡ read events (well h) i
  heard-well h i fails e = then-ok events t (λ h. cond (is_failed h) bad (well h)) at h i e ∙ ap (λ b. read events (cond b bad (well h)) i) fails
