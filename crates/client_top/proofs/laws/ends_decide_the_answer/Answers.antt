use Rattle.client_top.proofs.Ends.{tells}
use Rattle.client_top.proofs.laws.ends_decide_the_answer.Goals as goal

pub returns : goal.returns
returns c = λ asked from status end old new source source_after did is not. tells asked.command status end did.answer.due.whose is not
