use Rattle.lab.proofs.Holdings.{told-after}
use Rattle.lab.proofs.laws.answers_tell_what_is_held.Goals as goal

pub returns : goal.returns
returns c = λ site content from m d runs looks run path step over behind none. told-after site content from m d runs looks run path step over behind none
