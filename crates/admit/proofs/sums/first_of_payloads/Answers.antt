use Rattle.std.proofs.Common.{rules, ◌∙◌, arith}
use Rattle.admit.specs.Differing.{in_payload}
use Rattle.admit.proofs.Readings.{value_step, payload_step, payload_found, payload_failed, payload_done, differs_among}
use Rattle.admit.proofs.sums.first_of_payloads.Goals as goal

pub loop-i-preserved : goal.loop-i-preserved
loop-i-preserved g c =
    let content = g.S.Source.content in
    let given = g.S.Source.given in
    let inv = c.loop-i.invariant in
    let told = c.in-Ok-None.ensures in
    record {
      same = told.same ∙ inv.same;
      plan = told.plan ∙ inv.plan;
      faults = told.counts ∙ inv.faults;
      room = search rules;
      given = payload_step c.args.lines.now c.args.numbers.now c.loop-i.i c.index-lines-i.result (given c.args.source.now) (given c.loop-i.source) (given c.payload_differing.new.source) c.loop-i-test.true c.requires.count c.index-lines-i.is (content c.args.source.now) inv.given (rw inv.same at told.given);
      value = value_step in_payload (g.S.Source.content c.args.source.now) c.args.lines.now c.args.numbers.now c.loop-i.i c.index-lines-i.result c.loop-i-test.true c.requires.count c.index-lines-i.is (rw (c.in-Ok-None.field-0-is, inv.same) at told.value) inv.value;
    }

pub returns-in-Ok-Some-clause-given : goal.returns-in-Ok-Some-clause-given
returns-in-Ok-Some-clause-given g c =
    let content = g.S.Source.content in
    let given = g.S.Source.given in
    let inv = c.loop-i.invariant in
    payload_found c.args.lines.now c.args.numbers.now c.loop-i.i c.index-lines-i.result (given c.args.source.now) (given c.loop-i.source) (given c.payload_differing.new.source) c.loop-i-test.true c.requires.count c.index-lines-i.is (content c.args.source.now) inv.given (rw inv.same at c.in-Ok-Some.ensures.given)

pub returns-in-Ok-Some-clause-differs : goal.returns-in-Ok-Some-clause-differs
returns-in-Ok-Some-clause-differs g c =
    let content = g.S.Source.content in
    let inv = c.loop-i.invariant in
    differs_among (content c.args.source.now) c.args.lines.now c.args.numbers.now c.loop-i.i c.index-lines-i.result c.in-Ok-Some.differs c.loop-i-test.true c.requires.count c.index-lines-i.is (rw (c.in-Ok-Some.field-0-is, inv.same) at c.in-Ok-Some.ensures.differs)

pub returns-in-Err-clause-given : goal.returns-in-Err-clause-given
returns-in-Err-clause-given g c =
    let content = g.S.Source.content in
    let given = g.S.Source.given in
    let inv = c.loop-i.invariant in
    payload_failed c.args.lines.now c.args.numbers.now c.loop-i.i c.index-lines-i.result (given c.args.source.now) (given c.loop-i.source) (given c.payload_differing.new.source) c.loop-i-test.true c.requires.count c.index-lines-i.is (content c.args.source.now) inv.given (rw inv.same at c.in-Err.ensures.given)

pub returns-clause-given : goal.returns-clause-given
returns-clause-given g c =
    let content = g.S.Source.content in
    let given = g.S.Source.given in
    payload_done (content c.args.source.now) c.args.lines.now c.args.numbers.now c.loop-i.i (given c.args.source.now) (given c.loop-i.source) (omega (arith, c.loop-i-test.false)) c.loop-i.invariant.given
