use Rattle.std.proofs.Common.{◌≤◌, ◌<◌, ◌-◌, sym, ap, subst, ◌∙◌, arith}
use Rattle.provides_map.specs.Marks.{AreMarks}
use Rattle.provides_map.specs.declared.marks.Marks.{Marks}
use Rattle.provides_map.proofs.Bits.{has_bit-shifted}
use Rattle.provides_map.proofs.MarkLemmas.{mark_value}
use Rattle.provides_map.proofs.marks.Marks.is_cleared.Goals as goal
use Rattle.provides_map.proofs.marks.Marks.is_cleared.Goals.{then-at-self, then-at-self-via-then-at-self, then-at-self-via-else-at-self+then-at-self-ge-WINDOW, else-at-self+else-at-self-ge-WINDOW}

pub returns-clause-value : goal.returns-clause-value
returns-clause-value c =
    let clears = c.args.clears.now in
    let held = c.args.held.now in
    let at = c.args.at in
    let marks = c.if-at-self.self in
    let k = at - marks.start in
    let told : AreMarks clears held marks = elim c.if-at-self.branch [
      | then-at-self w ↦ subst (λ (m : Marks). AreMarks clears held m) (sym w.self-is) w.of.ensures.marks
      | else-at-self+else-at-self-ge-WINDOW w ↦ subst (λ (m : Marks). AreMarks clears held m) (sym w.self-is) c.requires.marks
    ] in
    let begun : marks.start ≤ at = elim c.if-at-self.branch [
      | then-at-self w ↦ omega (arith, ap (λ (m : Marks). m.start) w.self-is)
      | else-at-self+else-at-self-ge-WINDOW w ↦ omega (arith, ap (λ (m : Marks). m.start) w.self-is)
    ] in
    let room : k < 64 = elim c.if-at-self.branch [
      | then-at-self w ↦ omega (arith, ap (λ (m : Marks). m.start) w.self-is)
      | else-at-self+else-at-self-ge-WINDOW w ↦ omega (arith, ap (λ (m : Marks). m.start) w.self-is)
    ] in
    has_bit-shifted marks.left k ∙ mark_value clears held marks k at told (omega arith) room (omega arith)
