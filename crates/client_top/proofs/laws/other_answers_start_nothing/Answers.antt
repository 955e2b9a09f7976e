use Rattle.client_top.proofs.Boots.{quiet}
use Rattle.client_top.specs.Answers.{end_of}
use Rattle.client_top.proofs.laws.other_answers_start_nothing.Goals as goal

pub returns : goal.returns
returns c = λ asked from status old new source source_after did is. quiet asked from did.events (end_of status) is did.database.path
