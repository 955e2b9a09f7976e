use Rattle.std.proofs.Common.{◌∙◌, ◌<◌, sym, refl, arith}
use Rattle.io_model.specs.Source.{IsPath, count_of}
use Rattle.trace_check.proofs.Finds.{here-when, past-when, start-when}
use Rattle.trace_check.proofs.finding.find_trace.Goals as goal

pub loop-i-init : goal.loop-i-init
loop-i-init g c = record { same = refl; plan = refl; faults = refl; none = start-when (g.S.Source.content c.args.source.now) }

pub loop-i-preserved : goal.loop-i-preserved
loop-i-preserved g c =
    let content = g.S.Source.content in
    let inv = c.loop-i.invariant in
    let told = c.in_ok-path.ensures in
    let start = content c.args.source.now in
    let lt : c.loop-i.i < count_of start = omega (arith, c.loop-i-test.true, c.files-i-end.ensures.number) in
    let path : IsPath start c.loop-i.i c.in_ok-path.path = rw inv.same at told.value in
    record {
      same = told.same ∙ inv.same;
      plan = told.plan ∙ inv.plan;
      faults = told.counts ∙ inv.faults;
      none = past-when start c.loop-i.i c.in_ok-path.path lt path (sym c.is_trace.ensures ∙ c.if-is_trace.false) inv.none;
    }

pub returns-then-is_trace-clause-found : goal.returns-then-is_trace-clause-found
returns-then-is_trace-clause-found g c =
    let inv = c.loop-i.invariant in
    let start = g.S.Source.content c.args.source.now in
    let lt : c.loop-i.i < count_of start = omega (arith, c.loop-i-test.true, c.files-i-end.ensures.number) in
    let path : IsPath start c.loop-i.i c.in_ok-path.path = rw inv.same at c.in_ok-path.ensures.value in
    here-when start c.loop-i.i c.in_ok-path.path lt path (sym c.is_trace.ensures ∙ c.if-is_trace.true) inv.none
