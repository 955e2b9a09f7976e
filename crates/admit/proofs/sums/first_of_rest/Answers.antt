use Rattle.std.proofs.Common.{rules, ◌∙◌, arith}
use Rattle.admit.specs.Differing.{in_rest}
use Rattle.admit.proofs.Readings.{value_step, rest_step, rest_found, rest_done}
use Rattle.admit.proofs.sums.first_of_rest.Goals as goal

pub loop-i-preserved : goal.loop-i-preserved
loop-i-preserved g c =
    let given = g.S.Source.given in
    let inv = c.loop-i.invariant in
    let told = c.in-Ok-None.ensures in
    record {
      same = told.same ∙ inv.same;
      plan = told.plan ∙ inv.plan;
      faults = told.counts ∙ inv.faults;
      room = search rules;
      given = rest_step c.args.lines.now c.args.numbers.now c.loop-i.i c.index-lines-i.result (given c.args.source.now) (given c.loop-i.source) (given c.rest_differing.new.source) c.loop-i-test.true c.requires.count c.index-lines-i.is inv.given told.given;
      value = value_step in_rest (g.S.Source.content c.args.source.now) c.args.lines.now c.args.numbers.now c.loop-i.i c.index-lines-i.result c.loop-i-test.true c.requires.count c.index-lines-i.is (rw (c.in-Ok-None.field-0-is, inv.same) at told.value) inv.value;
    }

pub returns-in-Ok-Some-clause-given : goal.returns-in-Ok-Some-clause-given
returns-in-Ok-Some-clause-given g c =
    let given = g.S.Source.given in
    rest_found c.args.lines.now c.args.numbers.now c.loop-i.i c.index-lines-i.result (given c.args.source.now) (given c.loop-i.source) (given c.rest_differing.new.source) c.loop-i-test.true c.requires.count c.index-lines-i.is c.loop-i.invariant.given c.in-Ok-Some.ensures.given

pub returns-in-Err-clause-given : goal.returns-in-Err-clause-given
returns-in-Err-clause-given g c =
    let given = g.S.Source.given in
    rest_found c.args.lines.now c.args.numbers.now c.loop-i.i c.index-lines-i.result (given c.args.source.now) (given c.loop-i.source) (given c.rest_differing.new.source) c.loop-i-test.true c.requires.count c.index-lines-i.is c.loop-i.invariant.given c.in-Err.ensures.given

pub returns-clause-given : goal.returns-clause-given
returns-clause-given g c = rest_done c.args.lines.now c.args.numbers.now c.loop-i.i (g.S.Source.given c.args.source.now) (g.S.Source.given c.loop-i.source) (omega (arith, c.loop-i-test.false)) c.loop-i.invariant.given
