use Rattle.std.proofs.Common.{◌≡◌, ◌∙◌, sym, refl, List, true, subst}
use Rattle.device_model.specs.declared.calls.Event.{Event}
use Rattle.trace_check.specs.Follows.{Did}
use Rattle.trace_check.specs.Way.{stands_still, same_position}
use Rattle.trace_check.proofs.Judging.{did-stood, did-ran, ran-of}
use Rattle.trace_check.proofs.verdict.leads_to.Goals as goal
use Rattle.trace_check.proofs.verdict.leads_to.Goals.{else-stands_still-via-then-stands_still+else-is_same, else-stands_still-via-else-stands_still}

pub returns-then-is_same : goal.returns-then-is_same
returns-then-is_same c =
    let note = c.args.note.now in (
      λ _. subst (λ (l : List Event). Did note.head l note.end c.args.p.now) c.powered-events.ensures.events
          (did-stood note.head c.powered-events.result.now note.end c.args.p.now (sym c.stands_still.ensures ∙ c.if-stands_still.true) (sym c.is_same.ensures ∙ c.if-is_same.true)),
      λ _. refl,
    )

pub returns : goal.returns
returns c =
    let note = c.args.note.now in
    let events = c.powered-events.result.now in
    let p = c.args.p.now in
    let apart : stands_still note.head events note.end ≡ true → same_position p note.head.from ≡ true → ⊥ = λ still same. elim c.else-stands_still.branch [
      | else-stands_still-via-then-stands_still+else-is_same w ↦ cc
      | else-stands_still-via-else-stands_still w ↦ cc
    ] in (
      λ h. subst (λ (l : List Event). Did note.head l note.end p) c.powered-events.ensures.events (did-ran note.head events note.end p (c.ran_to.ensures.0 h)),
      λ f. c.ran_to.ensures.1 (ran-of note.head events note.end p apart (subst (λ (l : List Event). Did note.head l note.end p) (sym c.powered-events.ensures.events) f)),
    )
