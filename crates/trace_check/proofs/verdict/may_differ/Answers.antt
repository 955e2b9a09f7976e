use Rattle.std.proofs.Common.{◌≡◌, ◌∙◌, sym}
use Rattle.flow_table.specs.declared.position.Position.{Position}
use Rattle.trace_check.specs.declared.note.Note.{Note}
use Rattle.trace_check.specs.declared.note.Deed.TheVariants.{Install}
use Rattle.trace_check.specs.declared.note.NoteEnd.TheVariants.{Nothing}
use Rattle.trace_check.specs.Follows.{MayDiffer, begins, none_noted, notes_none, not_begun}
use Rattle.trace_check.proofs.Same.{position-is, is-position}
use Rattle.trace_check.proofs.verdict.may_differ.Goals as goal
use Rattle.trace_check.proofs.verdict.may_differ.Goals.{then-is_install-2, else-is_install-2}

last-way : (note : Note) (p : Position) (next : Note) → (next.head.deed ≡ Install → ⊥) → (note.end ≡ Nothing → ⊥) → (next.end ≡ Nothing → ⊥) → MayDiffer note p next → p ≡ note.head.from
last-way note p next a b d (begins is) = absurd (a is)
last-way note p next a b d (none_noted is) = absurd (b is)
last-way note p next a b d (notes_none is) = absurd (d is)
last-way note p next a b d (not_begun x y is) = is

pub returns-then-is_halted : goal.returns-then-is_halted
returns-then-is_halted c =
    let v = c.if-is_halted.true in
    let p = c.args.note.now.head.from in
    let from = c.args.before.now.head.from in
    elim c.if-is_install-2.branch [
      | then-is_install-2 w ↦ (
        λ h. not_begun (c.is_install-2.ensures.0 w.if-is_install-2.true) (w.is_halted.ensures.0 (sym w.value-is ∙ v)) (position-is p from (sym c.is_same.ensures ∙ h)),
        λ d. c.is_same.ensures ∙ is-position p from (last-way c.args.before.now p c.args.note.now
            (λ q. let t = c.is_install.ensures.1 q in let f = c.if-is_install.false in cc)
            (λ q. let t = c.is_nothing.ensures.1 q in let f = c.if-is_nothing.false in cc)
            (λ q. let t = c.is_nothing-else-is_nothing.ensures.1 q in let f = c.if-is_nothing-2.false in cc) d),
      )
      | else-is_install-2 w ↦ absurd (let f = w.if-is_install-2.false in let b = w.value-is in cc)
    ]
