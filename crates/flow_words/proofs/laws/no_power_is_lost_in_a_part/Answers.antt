use Rattle.flow_words.proofs.Powered.{part-powered, run-keeps, word-keeps, pieces-powered}
use Rattle.flow_words.proofs.laws.no_power_is_lost_in_a_part.Goals as goal

pub returns-clause-part : goal.returns-clause-part
returns-clause-part g c = part-powered

pub returns-clause-run : goal.returns-clause-run
returns-clause-run g c = run-keeps

pub returns-clause-state : goal.returns-clause-state
returns-clause-state g c = word-keeps

pub returns-clause-pieces : goal.returns-clause-pieces
returns-clause-pieces g c = λ who stop p q events end g. pieces-powered who g
