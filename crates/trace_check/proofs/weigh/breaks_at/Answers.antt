use Rattle.std.proofs.Common.{◌≡◌, ℕ, arith, subst, sym}
use Rattle.std.specs.Prelude.{Option}
use Rattle.std.specs.List.{slice_get}
use Rattle.std.proofs.lemmas.Option.{slice_get_past}
use Rattle.trace_check.specs.declared.note.Note.{Note}
use Rattle.trace_check.specs.Verdicts.{GoesFrom, FailsAt, apart, inside}
use Rattle.trace_check.proofs.weigh.breaks_at.Goals as goal
use Rattle.trace_check.proofs.weigh.breaks_at.Goals.{else-len-gt0-via-then-len-gt0+else-not-goes_on, else-len-gt0-via-else-len-gt0}

pub returns-then-not-goes_on-clause-some : goal.returns-then-not-goes_on-clause-some
returns-then-not-goes_on-clause-some c = λ e is.
    let none : 0 ≡ e = cc in
    subst (λ (k : ℕ). FailsAt (slice_get c.args.last.now 0) c.args.note.now k) none
    (apart (λ g. let t = c.goes_on.ensures.1 (subst (λ (o : Option Note). GoesFrom o c.args.note.now) c.at.ensures g) in let f = c.if-not-goes_on.true in cc))

pub returns-clause-some : goal.returns-clause-some
returns-clause-some c = λ e is.
    let f = c.fault_of.ensures.some e is in
    let link : GoesFrom (slice_get c.args.last.now 0) c.args.note.now = elim c.else-len-gt0.branch [
      | else-len-gt0-via-then-len-gt0+else-not-goes_on w ↦ subst (λ (o : Option Note). GoesFrom o c.args.note.now) (sym w.at.ensures) (w.goes_on.ensures.0 (let h = w.if-not-goes_on.false in cc))
      | else-len-gt0-via-else-len-gt0 w ↦ (let l = c.len.ensures in let h = w.if-len-gt0.false in subst (λ (o : Option Note). GoesFrom o c.args.note.now) (sym (slice_get_past c.args.last.now 0 (omega (arith, l, h)))) tt)
    ] in
    inside link f.1 f.0
