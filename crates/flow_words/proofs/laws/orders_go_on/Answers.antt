use Rattle.flow_words.proofs.PieceLemmas.{orders-go-on, resumptions-end}
use Rattle.flow_words.proofs.laws.orders_go_on.Goals as goal

pub returns-clause-goes_on : goal.returns-clause-goes_on
returns-clause-goes_on c = λ words stop c p q order events end is g. orders-go-on c order is g

pub returns-clause-resumptions : goal.returns-clause-resumptions
returns-clause-resumptions c = λ words c q times few r. resumptions-end few r
