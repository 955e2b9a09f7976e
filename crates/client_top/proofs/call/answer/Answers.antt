use Rattle.client_top.proofs.Says.{told-whole, told-cut, shown-whole, shown-cut}
use Rattle.client_top.proofs.call.answer.Goals as goal

pub returns-in-Ok-clause-obeyed : goal.returns-in-Ok-clause-obeyed
returns-in-Ok-clause-obeyed g c = shown-whole c.in-Show.store.db c.db.result.now c.db.ensures.value c.in-Show.ensures.acted c.in-Ok.ensures

pub returns-in-Show-clause-obeyed : goal.returns-in-Show-clause-obeyed
returns-in-Show-clause-obeyed g c = shown-cut c.in-Show.store.db c.db.result.now c.db.ensures.value c.in-Show.ensures.acted c.in-Err.ensures

pub returns-in-Ok-tell-clause-obeyed : goal.returns-in-Ok-tell-clause-obeyed
returns-in-Ok-tell-clause-obeyed g c = told-whole c.in-Tell.ensures.acted c.in-Ok-tell.ensures

pub returns-clause-obeyed : goal.returns-clause-obeyed
returns-clause-obeyed g c = told-cut c.in-Tell.ensures.acted c.in-Err-tell.ensures
