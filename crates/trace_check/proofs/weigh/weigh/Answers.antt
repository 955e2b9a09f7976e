use Rattle.std.proofs.Common.{◌≡◌, ◌∙◌, sym, ap, subst, refl, arith, length, length-append, ℕ, List, [], ◌∷◌, ◌++◌, true, false}
use Rattle.std.specs.Prelude.{Err, ◌==◌}
use Rattle.trace_check.specs.declared.notes.ReadFault.{ReadFault}
use Rattle.trace_check.specs.declared.stage.Stage.{Stage}
use Rattle.trace_check.specs.declared.stage.Stage.TheVariants.{Between}
use Rattle.trace_check.specs.Reads.{IsBadLine}
use Rattle.trace_check.proofs.Ending.{few-ended, further, kinds-ended, no-further}
use Rattle.trace_check.proofs.Knowing.{knows-none}
use Rattle.trace_check.proofs.Onward.{none-is}
use Rattle.trace_check.proofs.Whole.{SoFar, begins, fault-reads, reads-all, reads-cut}
use Rattle.trace_check.proofs.weigh.weigh.Goals as goal
use Rattle.trace_check.proofs.weigh.weigh.Goals.{else-is_between-via-then-is_between+else-is_empty, else-is_between-via-else-is_between}

pub lines-init : goal.lines-init
lines-init c = record { so_far = ([], begins c.args.text.now, knows-none _ refl refl c.new.ensures); few = omega arith; count = omega arith; none = c.new-ended.ensures }

pub returns-in-Err : goal.returns-in-Err
returns-in-Err c =
    let so = c.lines.invariant.so_far in
    let cut = c.in-Some.ensures in
    c.status_of.ensures c.args.text.now (fault-reads c.args.text.now c.in-Err.fault (λ k is.
    let bad = c.in-Err.ensures.bad k (ap (λ (f : ReadFault). Err f) is) in
    subst (IsBadLine c.args.text.now) (sym bad.0) (no-further c.lines.stage c.lines.ended c.lines.invariant.none c.in-Some.line.now c.args.text.now c.lines.rest.now c.in-Some.behind.now so.0 c.lines.number so.1 cut.0 cut.1 bad.1)))

pub take_in-requires-clause-one : goal.take_in-requires-clause-one
take_in-requires-clause-one c = few-ended c.lines.stage c.lines.ended c.lines.invariant.none c.in-Some.line.now c.in-Ok.new c.read_line.new.notes c.in-Ok.ensures.goes_on

pub take_in-requires-clause-kinds : goal.take_in-requires-clause-kinds
take_in-requires-clause-kinds c =
    let so = c.lines.invariant.so_far in
    let cut = c.in-Some.ensures in
    kinds-ended c.lines.stage c.lines.ended c.lines.invariant.none c.in-Some.line.now c.args.text.now c.lines.rest.now c.in-Some.behind.now so.0 c.lines.number so.1 cut.0 cut.1 c.in-Ok.new c.read_line.new.notes c.in-Ok.ensures.goes_on

pub lines-preserved : goal.lines-preserved
lines-preserved c =
    let so = c.lines.invariant.so_far in
    let cut = c.in-Some.ensures in
    let knows = c.take_in.ensures.front so.0 so.2 in
    let long = ap length cut.0 ∙ length-append c.in-Some.line.now (10 ∷ c.in-Some.behind.now) in
    let few = c.lines.invariant.few in
    let one = few-ended c.lines.stage c.lines.ended c.lines.invariant.none c.in-Some.line.now c.in-Ok.new c.read_line.new.notes c.in-Ok.ensures.goes_on in
    let all = length-append so.0 c.read_line.new.notes in
    let old = so.2.count in
    let new = knows.count in
    let less = c.lines.invariant.count in
    record {
      so_far = (
        so.0 ++ c.read_line.new.notes,
        further c.lines.stage c.lines.ended c.lines.invariant.none c.in-Some.line.now c.args.text.now c.lines.rest.now c.in-Some.behind.now so.0 c.lines.number so.1 cut.0 cut.1 c.in-Ok.new c.read_line.new.notes c.in-Ok.ensures.goes_on,
        knows,
      );
      few = omega (arith, long, few);
      count = omega (arith, one, all, old, new, less);
      none = c.take_in.ensures.none;
    }

pub returns-then-is_empty : goal.returns-then-is_empty
returns-then-is_empty c =
    let so = c.lines.invariant.so_far in
    let between : c.lines.stage ≡ Between = c.is_between.ensures.0 c.if-is_between.true in
    let none : c.lines.rest.now ≡ [] = none-is c.lines.rest.now (sym c.is_empty.ensures ∙ c.if-is_empty.true) in
    c.answer_of.ensures c.args.text.now so.0 (reads-all c.args.text.now so.0 c.lines.rest.now c.lines.number (subst (λ (s : Stage). SoFar c.args.text.now (s, so.0) c.lines.rest.now c.lines.number) between so.1) none) so.2.judged

pub returns : goal.returns
returns c =
    let so = c.lines.invariant.so_far in
    reads-cut c.args.text.now (c.lines.stage, so.0) c.lines.rest.now c.lines.number so.1 c.in_default.ensures
    (λ between none. elim c.else-is_between.branch [
      | else-is_between-via-then-is_between+else-is_empty w ↦ (let empty : (length c.lines.rest.now == 0) ≡ true = ap (λ (l : List ℕ). length l == 0) none in
          let differs : true ≡ false = sym empty ∙ sym w.is_empty.ensures ∙ w.if-is_empty.false in
          cc)
      | else-is_between-via-else-is_between w ↦ (let differs : true ≡ false = sym (c.is_between.ensures.1 between) ∙ w.if-is_between.false in cc)
    ])
