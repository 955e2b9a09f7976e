use Rattle.std.proofs.Common.{◌≡◌, ◌∙◌, sym, ap, subst, arith, length, length-append, ℕ, List, [], ◌∷◌, true, false}
use Rattle.std.specs.Prelude.{Err, ◌==◌}
use Rattle.trace_check.specs.declared.notes.ReadFault.{ReadFault}
use Rattle.trace_check.specs.declared.stage.Stage.{Stage}
use Rattle.trace_check.specs.declared.stage.Stage.TheVariants.{Between}
use Rattle.trace_check.specs.Reads.{IsBadLine}
use Rattle.trace_check.proofs.Onward.{none-is}
use Rattle.trace_check.proofs.Whole.{SoFar, goes-on, reads-all, reads-wrong, reads-cut, err-reads}
use Rattle.trace_check.proofs.notes.read_notes.Goals as goal
use Rattle.trace_check.proofs.notes.read_notes.Goals.{else-is_between-via-then-is_between+else-is_empty, else-is_between-via-else-is_between}

pub returns-in_err-stage : goal.returns-in_err-stage
returns-in_err-stage c =
    let so = c.lines.invariant.so_far in
    let cut = c.in-Some.ensures in
    err-reads c.args.text.now c.from_residual.result _ c.from_residual.ensures.1
    (λ k e. let bad = c.in_err-stage.ensures.bad k (ap (λ (f : ReadFault). Err f) e) in
    subst (IsBadLine c.args.text.now) (sym bad.0) (reads-wrong c.args.text.now (c.lines.stage, c.lines.notes) c.lines.rest.now c.in-Some.line.now c.in-Some.behind.now c.lines.number so cut.0 cut.1 bad.1))

pub lines-preserved : goal.lines-preserved
lines-preserved c =
    let cut = c.in-Some.ensures in
    let long = ap length cut.0 ∙ length-append c.in-Some.line.now (10 ∷ c.in-Some.behind.now) in
    let few = c.lines.invariant.few in
    record {
      so_far = goes-on c.args.text.now (c.lines.stage, c.lines.notes) c.lines.rest.now c.in-Some.line.now c.in-Some.behind.now c.lines.number (c.in_ok-stage.stage, c.read_line.new.notes) c.lines.invariant.so_far cut.0 cut.1 c.in_ok-stage.ensures.goes_on;
      few = omega (arith, long, few);
    }

pub returns-then-is_empty : goal.returns-then-is_empty
returns-then-is_empty c =
    let between : c.lines.stage ≡ Between = c.is_between.ensures.0 c.if-is_between.true in
    let none : c.lines.rest.now ≡ [] = none-is c.lines.rest.now (sym c.is_empty.ensures ∙ c.if-is_empty.true) in
    reads-all c.args.text.now c.lines.notes c.lines.rest.now c.lines.number (subst (λ (s : Stage). SoFar c.args.text.now (s, c.lines.notes) c.lines.rest.now c.lines.number) between c.lines.invariant.so_far) none

pub returns-else-is_between : goal.returns-else-is_between
returns-else-is_between c =
    reads-cut c.args.text.now (c.lines.stage, c.lines.notes) c.lines.rest.now c.lines.number c.lines.invariant.so_far c.in_default.ensures
    (λ between none. elim c.else-is_between.branch [
      | else-is_between-via-then-is_between+else-is_empty w ↦ (let empty : (length c.lines.rest.now == 0) ≡ true = ap (λ (l : List ℕ). length l == 0) none in
          let differs : true ≡ false = sym empty ∙ sym w.is_empty.ensures ∙ w.if-is_empty.false in
          cc)
      | else-is_between-via-else-is_between w ↦ (let differs : true ≡ false = sym (c.is_between.ensures.1 between) ∙ w.if-is_between.false in cc)
    ])
