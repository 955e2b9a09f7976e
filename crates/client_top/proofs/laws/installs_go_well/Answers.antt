use Rattle.client_top.proofs.Fulfilled.{fulfilled-from}
use Rattle.client_top.proofs.Going.{well}
use Rattle.client_top.proofs.laws.installs_go_well.Goals as goal

pub returns : goal.returns
returns c = λ asked from status old new source source_after e p can did calm told install found goes.
    well can asked from did.database.path.0 e p did.events status did.answer.due.whose install found (fulfilled-from asked from status old new source source_after did calm) did.database.path.1 goes
