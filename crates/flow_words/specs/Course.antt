-- The calls that may come, one after another, and what follows each answer.
use Rattle.std.specs.Prelude.{◌≡◌, ℕ, Bool, true, ⊤, List, [], ◌∷◌}
use Rattle.device_model.specs.declared.calls.Answer.{Answer}
use Rattle.device_model.specs.declared.calls.Call.{Call}
use Rattle.device_model.specs.declared.calls.Event.{Event}
use Rattle.device_model.specs.declared.calls.Event.TheVariants.{Start, End, Pause, Loss}

-- A course is done with a result, or says which event comes next, or waits for an answer that decides the rest.
pub data Course (A : Type 0) : Type 0 where
  done : A → Course A
  say : Event → Course A → Course A
  hear : (Answer → Course A) → Course A

-- one call, and the rest by its answer
abbrev pub call : {A : Type 0} → Call → (Answer → Course A) → Course A
call c rest = say (Start c) (hear rest)

-- one course, and another by its result
abbrev pub and_then : {A B : Type 0} → Course A → (A → Course B) → Course B
and_then (done r) rest = rest r
and_then (say e t) rest = say e (and_then t rest)
and_then (hear f) rest = hear (λ a. and_then (f a) rest)

-- these are all events of the course, and it ends with this result
abbrev pub Whole : {A : Type 0} → Course A → List Event → A → Type 0
Whole (done r) [] result = r ≡ result
Whole (done r) (e ∷ w) result = ⊥
Whole (say d t) [] result = ⊥
Whole (say d t) (e ∷ w) result = (d ≡ e) × Whole t w result
Whole (hear f) [] result = ⊥
Whole (hear f) (End a ∷ w) result = Whole (f a) w result
Whole (hear f) (Start c ∷ w) result = ⊥
Whole (hear f) (Pause s ∷ w) result = ⊥
Whole (hear f) (Loss ∷ w) result = ⊥

-- the course may have come this far
abbrev pub Part : {A : Type 0} → Course A → List Event → Type 0
Part t [] = ⊤
Part (done r) (e ∷ w) = ⊥
Part (say d t) (e ∷ w) = (d ≡ e) × Part t w
Part (hear f) (End a ∷ w) = Part (f a) w
Part (hear f) (Start c ∷ w) = ⊥
Part (hear f) (Pause s ∷ w) = ⊥
Part (hear f) (Loss ∷ w) = ⊥

-- after these events of the course this event may come
abbrev pub Follows : {A : Type 0} → Course A → List Event → Event → Type 0
Follows (done r) w e = ⊥
Follows (say d t) [] e = d ≡ e
Follows (say d t) (x ∷ w) e = Follows t w e
Follows (hear f) [] e = (a : Answer) × (e ≡ End a)
Follows (hear f) (End a ∷ w) e = Follows (f a) w e
Follows (hear f) (Start c ∷ w) e = ⊥
Follows (hear f) (Pause s ∷ w) e = ⊥
Follows (hear f) (Loss ∷ w) e = ⊥

-- a child is started, and its answer is the result
abbrev pub child : Call → Course Answer
child c = call c (λ a. done a)

-- a pause of so many seconds
abbrev pub waiting : ℕ → Course Bool
waiting seconds = say (Pause seconds) (done true)
