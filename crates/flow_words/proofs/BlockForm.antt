-- The two forms of a block are one.
use Rattle.std.proofs.Common.{◌≡◌, ℕ, zero, suc, ◌≤◌, Bool, true, false, List, [], ◌∷◌, ◌++◌, cond, refl, ap, inl, inr, arith}
use Rattle.std.specs.Prelude.{◌⊎◌, ◌≢◌}
use Rattle.std.proofs.lemmas.Bool.Decides.{nat_tests}
use Rattle.device_model.specs.declared.calls.Answer.{Answer}
use Rattle.device_model.specs.declared.calls.Answer.TheVariants.{Exit, Reply, NotStarted}
use Rattle.device_model.specs.declared.calls.Call.TheVariants.{Script}
use Rattle.device_model.specs.declared.calls.Event.{Event}
use Rattle.device_model.specs.declared.calls.Event.TheVariants.{Start, End, Pause, Loss}
use Rattle.flow_words.specs.Blocks.{retries, IsBlock}
use Rattle.flow_words.specs.Course.{done, say, Whole}
use Rattle.flow_words.specs.Scripts.{block, is_success, is_retry}

-- with fewer retries left
pub record Tries (name : List ℕ) (left : ℕ) (w : List Event) (good : Bool) : Type 0 where
  pub tries : ℕ
  pub few : tries ≤ left
  pub answer : Answer
  pub last : (answer ≢ Exit 21) ⊎ (tries ≡ left)
  pub events : w ≡ retries name tries ++ Start (Script name) ∷ End answer ∷ []
  pub is_good : is_success answer ≡ good

retry-is : (a : Answer) → is_retry a ≡ true → a ≡ Exit 21
retry-is (Exit n) h = let e : n ≡ 21 = grind (arith, nat_tests) in ap Exit e
retry-is (Reply n t) h = cc
retry-is NotStarted h = cc

retry-not : (a : Answer) → is_retry a ≡ false → a ≢ Exit 21
retry-not (Exit n) h e = let f : n ≡ 21 = cc in grind (arith, nat_tests)
retry-not (Reply n t) h e = cc
retry-not NotStarted h e = cc

retry-false : (a : Answer) → a ≢ Exit 21 → is_retry a ≡ false
retry-false (Exit n) h = let f : n ≡ 21 → ⊥ = λ e. h (ap Exit e) in grind (arith, nat_tests)
retry-false (Reply n t) h = refl
retry-false NotStarted h = refl

-- each block is of that form
pub Tries-from_block : (name : List ℕ) (left : ℕ) (w : List Event) (good : Bool) → Whole (block name left) w good → Tries name left w good
unfolding block
Tries-from_block name zero [] good h = absurd h
Tries-from_block name zero (e ∷ []) good h = absurd h.1
Tries-from_block name zero (e ∷ End a ∷ []) good h =
    record { tries = 0; few = omega arith; answer = a; last = inr refl; events = cc (h.0); is_good = h.1 }
Tries-from_block name zero (e ∷ End a ∷ f ∷ w) good h = absurd h.1
Tries-from_block name zero (e ∷ Start c ∷ w) good h = absurd h.1
Tries-from_block name zero (e ∷ Pause c ∷ w) good h = absurd h.1
Tries-from_block name zero (e ∷ Loss ∷ w) good h = absurd h.1
Tries-from_block name (suc left) [] good h = absurd h
Tries-from_block name (suc left) (e ∷ []) good h = absurd h.1
Tries-from_block name (suc left) (e ∷ Start c ∷ w) good h = absurd h.1
Tries-from_block name (suc left) (e ∷ Pause c ∷ w) good h = absurd h.1
Tries-from_block name (suc left) (e ∷ Loss ∷ w) good h = absurd h.1
Tries-from_block name (suc left) (e ∷ End a ∷ w) good h = by_answer (λ v i. Tries-from_block name left v good i) (is_retry a) refl h.1
  where
    ended : (w : List Event) → is_retry a ≡ false → Whole (done (is_success a)) w good → Tries name (suc left) (e ∷ End a ∷ w) good
    ended [] r i = record { tries = 0; few = omega arith; answer = a; last = inl (retry-not a r); events = cc (h.0); is_good = i }
    ended (f ∷ w) r i = absurd i

    again : ((v : List Event) → Whole (block name left) v good → Tries name left v good) → (w : List Event) → is_retry a ≡ true → Whole (say (Pause 60) (block name left)) w good → Tries name (suc left) (e ∷ End a ∷ w) good
    again ih [] r i = absurd i
    again ih (p ∷ v) r i =
        let t = ih v i.1 in
        let same : a ≡ Exit 21 = retry-is a r in
        record { tries = suc t.tries; few = omega arith; answer = t.answer; last = elim t.last [ inl n ↦ inl n | inr n ↦ inr (ap suc n) ]; events = cc (h.0, i.0, t.events, same); is_good = t.is_good }

    by_answer : ((v : List Event) → Whole (block name left) v good → Tries name left v good) → (b : Bool) → is_retry a ≡ b → Whole (cond b (say (Pause 60) (block name left)) (done (is_success a))) w good → Tries name (suc left) (e ∷ End a ∷ w) good
    by_answer ih true r i = again ih w r i
    by_answer ih false r i = ended w r i

pub IsBlock-from_whole : (name : List ℕ) (w : List Event) (good : Bool) → Whole (block name 30) w good → IsBlock name w good
IsBlock-from_whole name w good h =
    let t = Tries-from_block name 30 w good h in
    record { tries = t.tries; few = t.few; answer = t.answer; last = t.last; events = t.events; is_good = t.is_good }

-- and each list of that form is a block
block-from_tries : (name : List ℕ) (left : ℕ) (tries : ℕ) (a : Answer) → tries ≤ left → (a ≢ Exit 21) ⊎ (tries ≡ left) → Whole (block name left) (retries name tries ++ Start (Script name) ∷ End a ∷ []) (is_success a)
unfolding block
block-from_tries name zero zero a f l = (refl, refl)
block-from_tries name zero (suc t) a f l = absurd (omega arith)
block-from_tries name (suc left) zero a f (inl n) = (refl, rw (retry-false a n) refl)
block-from_tries name (suc left) zero a f (inr n) = absurd (omega arith)
block-from_tries name (suc left) (suc t) a f (inl n) = (refl, (refl, block-from_tries name left t a (omega arith) (inl n)))
block-from_tries name (suc left) (suc t) a f (inr n) = (refl, (refl, block-from_tries name left t a (omega arith) (inr (omega arith))))

pub Whole-from_block : (name : List ℕ) (w : List Event) (good : Bool) → IsBlock name w good → Whole (block name 30) w good
Whole-from_block name w good h =
    rw (h.events, ← h.is_good) (block-from_tries name 30 h.tries h.answer h.few h.last)
