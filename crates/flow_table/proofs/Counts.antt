-- Each state that is entered is counted, for the proofs of crates above.
use Rattle.std.proofs.Common.{◌≡◌, Bool, rules}
use Rattle.flow_table.specs.declared.position.Position.{Position}
use Rattle.flow_table.specs.declared.table.Heard.{Heard}
use Rattle.flow_table.specs.declared.table.Step.TheVariants as step
use Rattle.flow_table.specs.declared.table.Order.{Order}
use Rattle.flow_table.specs.declared.table.Opening.TheVariants as opening
use Rattle.flow_table.specs.Table.{IsRunning, next_of, lost_of, first_of}
use Rattle.flow_table.specs.Laws.{Counted}

pub next_counted : (p q : Position) (heard : Heard) (stop : Bool) → next_of p heard stop ≡ step.Enter q → Counted p q
next_counted p q heard stop is = search rules

pub lost_counted : (p : Position) → IsRunning p.state → Counted p (lost_of p)
lost_counted p runs = search rules

pub first_counted : (p q : Position) (order : Order) → first_of p order ≡ opening.Enter q → Counted p q
first_counted p q order is = search rules
