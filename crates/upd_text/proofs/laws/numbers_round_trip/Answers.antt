use Rattle.upd_text.proofs.FormLemmas.{decimal_spelled}
use Rattle.upd_text.proofs.laws.numbers_round_trip.Goals as goal

pub returns-clause-spelled : goal.returns-clause-spelled
returns-clause-spelled c = decimal_spelled
