use Rattle.std.proofs.Common.{refl, subst}
use Rattle.std.specs.List.{slice_get}
use Rattle.trace_check.specs.declared.verdict.Verdict.{Verdict}
use Rattle.trace_check.specs.Verdicts.{Judged}
use Rattle.trace_check.proofs.Knowing.{still-broken, with-more, with-fault}
use Rattle.trace_check.proofs.weigh.with_note.Goals as goal

pub returns-in-None : goal.returns-in-None
returns-in-None c = λ notes count last judged.
    let known = c.in-None.ensures.none refl in
    with-more notes c.args.note.now c.args.count (slice_get c.args.last.now 0) count last (subst (λ (v : Verdict). Judged notes v) c.in-Path.is judged) known.0 known.1

pub returns-in-Some : goal.returns-in-Some
returns-in-Some c = λ notes count last judged.
    with-fault notes c.args.note.now c.args.count c.in-Some.event (slice_get c.args.last.now 0) count last (subst (λ (v : Verdict). Judged notes v) c.in-Path.is judged) (c.in-Some.ensures.some c.in-Some.event refl)

pub returns-in-Broken : goal.returns-in-Broken
returns-in-Broken c = λ notes count last judged. still-broken notes c.args.note.now c.args.verdict c.in-Broken.note c.in-Broken.event c.in-Broken.is judged
