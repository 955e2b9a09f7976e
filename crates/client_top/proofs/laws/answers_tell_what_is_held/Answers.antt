use Rattle.client_top.proofs.Answered.{answered, right-valid}
use Rattle.client_top.proofs.laws.answers_tell_what_is_held.Goals as goal

pub returns : goal.returns
returns c = λ asked from d events status right whose boot over. answered asked from d events status (right-valid from right) whose boot over
