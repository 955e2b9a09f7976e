use Rattle.lab.proofs.Seeds.{Drawn}
use Rattle.lab.proofs.play.simulate.Given as goal

abbrev pub invariant-loop-i : goal.invariant-loop-i
invariant-loop-i l = Drawn l.fn.seed l._i l.counts l.generator.state
