use Rattle.trace_check.proofs.Falls.{remaining}
use Rattle.trace_check.proofs.Leading.{Led}
use Rattle.trace_check.proofs.way.walk.Given as goal

abbrev pub invariant-states : goal.invariant-states
invariant-states l = Led l.head l.fn.first l.events l.target l.p l.at l.meets

abbrev pub decreases-states : goal.decreases-states
decreases-states l = remaining l.p
