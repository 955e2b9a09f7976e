use Rattle.std.proofs.Common.{ℕ, sym, subst, arith}
use Rattle.lab.specs.declared.counts.Counts.{Counts}
use Rattle.lab.proofs.Seeds.{Drawn, drawn-none, drawn-more, drawn-few, drawn-sum, drawn-all}
use Rattle.lab.proofs.play.simulate.Goals as goal

pub loop-i-init : goal.loop-i-init
loop-i-init c =
    subst (λ (n : ℕ). Drawn c.args.seed 0 c.none-counts.result n) (sym c.new-generator.ensures)
    (subst (λ (k : Counts). Drawn c.args.seed 0 k c.args.seed) (sym c.none-counts.ensures.none) (drawn-none c.args.seed))

pub count-requires-clause-few : goal.count-requires-clause-few
count-requires-clause-few c = drawn-few c.args.rounds c.loop-i.invariant (omega (arith, c.loop-i-test.true)) c.requires

pub count-requires-clause-sum : goal.count-requires-clause-sum
count-requires-clause-sum c = drawn-sum c.loop-i.invariant

pub loop-i-preserved : goal.loop-i-preserved
loop-i-preserved c =
    drawn-more c.args.seed c.loop-i._i c.loop-i.counts c.count.new.self c.loop-i.generator.state c.draw_round.new.self.state c.in_ok-round.round c.in_ok-play.field-0 c.loop-i.invariant
    c.in_ok-round.ensures.round c.in_ok-round.ensures.state c.in_ok-play.ensures c.count.ensures.more

pub returns : goal.returns
returns c = drawn-all c.args.rounds c.loop-i.invariant (omega (arith, c.loop-i-test.false, c.loop-i.auto._i-end))
