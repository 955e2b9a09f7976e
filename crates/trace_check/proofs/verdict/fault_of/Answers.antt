use Rattle.std.proofs.Common.{◌≡◌, ℕ, ◌∙◌, sym, subst, List, arith}
use Rattle.device_model.specs.declared.calls.Event.{Event}
use Rattle.trace_check.specs.Follows.{Did}
use Rattle.trace_check.specs.Verdicts.{BreaksAt}
use Rattle.flow_table.specs.declared.position.Position.{Position}
use Rattle.trace_check.specs.Follows.{Follows}
use Rattle.trace_check.proofs.Judging.{still-did, did-ran, fault-breaks, fault-none, powered-short}
use Rattle.trace_check.proofs.verdict.fault_of.Goals as goal

pub returns-then-stands_still-clause-none : goal.returns-then-stands_still-clause-none
returns-then-stands_still-clause-none c = λ _.
    let note = c.args.note.now in (
      note.head.from,
      subst (λ (l : List Event). Did note.head l note.end note.head.from) c.powered-events.ensures.events
          (still-did note.head c.powered-events.result.now note.end (sym c.stands_still.ensures ∙ c.if-stands_still.true)),
    )

pub overflow_cast-result : goal.overflow_cast-result
overflow_cast-result c =
    let f = c.in-Some.ensures.some c.in-Some.at (cc) in
    let few = powered-short c.args.note.now c.powered-events.result.now c.powered-events.ensures.events in
    omega (arith, f.within, few, c.powered-events.ensures.few)

pub returns-in-None-clause-none : goal.returns-in-None-clause-none
returns-in-None-clause-none c = λ _.
    let note = c.args.note.now in
    let r = c.in-None.ensures.none (cc) in
    (r.0, subst (λ (l : List Event). Did note.head l note.end r.0) c.powered-events.ensures.events (did-ran note.head c.powered-events.result.now note.end r.0 r.1))

pub returns-in-Some-clause-some : goal.returns-in-Some-clause-some
returns-in-Some-clause-some c = λ e is.
    let note = c.args.note.now in
    let k = c.powered-events.result.now in
    let same : c.in-Some.at ≡ e = cc in
    let f = c.in-Some.ensures.some c.in-Some.at (cc) in
    let moves = sym c.stands_still.ensures ∙ c.if-stands_still.false in
    subst (λ (n : ℕ). BreaksAt note n × ((p : Position) → Follows note p → ⊥)) same
    (fault-breaks note k c.in-Some.at c.powered-events.ensures.events f moves, fault-none note k c.in-Some.at c.powered-events.ensures.events f moves)
