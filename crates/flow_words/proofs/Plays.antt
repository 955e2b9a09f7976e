-- The answers decide a course.
use Rattle.std.proofs.Common.{◌≡◌, List, [], ◌∷◌, Some, refl}
use Rattle.device_model.specs.declared.calls.Answer.{Answer}
use Rattle.flow_words.specs.Course.{Course, done, say, hear, Whole, Part}
use Rattle.flow_words.specs.Played.{events_for, result_for}

-- what is played is a whole word if it has a result, and a part in any case
pub Whole-played : {A : Type 0} (t : Course A) (answers : List Answer) (r : A) → result_for t answers ≡ Some r → Whole t (events_for t answers) r
Whole-played (done s) [] r h = cc
Whole-played (done s) (a ∷ answers) r h = cc
Whole-played (say e t) answers r h = (refl, Whole-played t answers r h)
Whole-played (hear f) [] r h = cc
Whole-played (hear f) (a ∷ answers) r h = Whole-played (f a) answers r h

pub Part-played : {A : Type 0} (t : Course A) (answers : List Answer) → Part t (events_for t answers)
Part-played (done s) answers = tt
Part-played (say e t) answers = (refl, Part-played t answers)
Part-played (hear f) [] = tt
Part-played (hear f) (a ∷ answers) = Part-played (f a) answers
