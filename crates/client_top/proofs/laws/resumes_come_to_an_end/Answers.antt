use Rattle.std.proofs.Common.{refl}
use Rattle.client_top.proofs.Fulfilled.{fulfilled-from}
use Rattle.client_top.proofs.Going.{resumed}
use Rattle.client_top.proofs.laws.resumes_come_to_an_end.Goals as goal

pub returns : goal.returns
returns c = λ asked from d status old new source source_after did calm told resume runs may.
    let led = did.database.came told d may in
    resumed asked.command asked from d did.events status resume refl runs (fulfilled-from asked from status old new source source_after did calm) led.1
