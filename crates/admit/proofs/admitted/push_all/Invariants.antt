use Rattle.std.proofs.Common.{◌≡◌, ◌++◌, take}
use Rattle.admit.proofs.admitted.push_all.Given as goal

abbrev pub invariant-loop-pattern : goal.invariant-loop-pattern
invariant-loop-pattern l = l.all ≡ l.fn.all ++ take l.pattern-index l.patterns
