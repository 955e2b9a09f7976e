use Rattle.std.proofs.Common.{◌∙◌, sym, subst}
use Rattle.trace_check.specs.declared.note.NoteEnd.{NoteEnd}
use Rattle.trace_check.specs.Way.{Ran}
use Rattle.trace_check.proofs.Judging.{ran-halted, halted-ran, ends-ran, ran-ends, ran-from}
use Rattle.trace_check.proofs.verdict.ran_to.Goals as goal

pub returns-in-Halted : goal.returns-in-Halted
returns-in-Halted c =
    let head = c.args.head.now in
    let events = c.args.events.now in
    let first = c.in-Enter.first in
    let p = c.args.p.now in
    let is = c.in-Halted.is in (
      λ h. record { first = first; opens = sym c.in-Enter.ensures; ran = subst (λ (e : NoteEnd). Ran head first events e p) (sym is) (halted-ran c.args.head.now c.in-Enter.first c.args.events.now c.args.p.now c.walk-way.result c.walk-way.ensures h) },
      λ r. ran-halted c.args.head.now c.in-Enter.first c.args.events.now c.args.p.now c.walk-way.result c.walk-way.ensures (subst (λ (e : NoteEnd). Ran head first events e p) is (ran-from head events c.args.end p first (sym c.in-Enter.ensures) r)),
    )

pub returns-in_default-end : goal.returns-in_default-end
returns-in_default-end c =
    let head = c.args.head.now in
    let events = c.args.events.now in
    let first = c.in-Enter.first in
    let p = c.args.p.now in (
      λ h. record { first = first; opens = sym c.in-Enter.ensures; ran = ends-ran c.args.head.now c.in-Enter.first c.args.events.now c.args.p.now c.walk-way.result c.walk-way.ensures c.args.end (sym c.ends_at.ensures ∙ h) },
      λ r. c.ends_at.ensures ∙ ran-ends c.args.head.now c.in-Enter.first c.args.events.now c.args.p.now c.walk-way.result c.walk-way.ensures c.args.end c.in_default-end.not-Halted (ran-from head events c.args.end p first (sym c.in-Enter.ensures) r),
    )

pub returns-in_default : goal.returns-in_default
returns-in_default c = (λ h. absurd cc, λ r. absurd (c.in_default.not-Enter r.first (c.opening.ensures ∙ r.opens)))
