use Rattle.flow_table.proofs.Positions.{valid-few}
use Rattle.flow_words.proofs.PieceLemmas.{pieces-valid, pieces-keep}
use Rattle.flow_words.proofs.laws.states_are_valid.Goals as goal

pub returns-clause-valid : goal.returns-clause-valid
returns-clause-valid c = λ words stop p q events end g valid. pieces-valid g valid

pub returns-clause-few : goal.returns-clause-few
returns-clause-few c = valid-few

pub returns-clause-keep : goal.returns-clause-keep
returns-clause-keep c = λ words stop p q events end g. pieces-keep g
