-- A course, played by a list of answers.
use Rattle.std.specs.Prelude.{List, [], ◌∷◌, Option, Some, None}
use Rattle.device_model.specs.declared.calls.Answer.{Answer}
use Rattle.device_model.specs.declared.calls.Event.{Event}
use Rattle.device_model.specs.declared.calls.Event.TheVariants.{End}
use Rattle.flow_words.specs.Course.{Course, done, say, hear}

-- the events, up to the first answer that isn't given
abbrev pub events_for : {A : Type 0} → Course A → List Answer → List Event
events_for (done r) answers = []
events_for (say e t) answers = e ∷ events_for t answers
events_for (hear f) [] = []
events_for (hear f) (a ∷ answers) = End a ∷ events_for (f a) answers

-- the result, where no answer is missing and none is left
abbrev pub result_for : {A : Type 0} → Course A → List Answer → Option A
result_for (done r) [] = Some r
result_for (done r) (a ∷ answers) = None
result_for (say e t) answers = result_for t answers
result_for (hear f) [] = None
result_for (hear f) (a ∷ answers) = result_for (f a) answers

-- the answers in a list of events
abbrev pub answers_in : List Event → List Answer
answers_in [] = []
answers_in (End a ∷ w) = a ∷ answers_in w
answers_in (e ∷ w) = answers_in w
