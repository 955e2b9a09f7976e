use Rattle.std.proofs.Common.{◌≡◌, drop}
use Rattle.provides_map.specs.Pairs.{put_all}
use Rattle.admit.proofs.admitted.put_all.Given as goal

abbrev pub invariant-loop-i : goal.invariant-loop-i
invariant-loop-i l = put_all l.all (drop l.i l.provides) ≡ put_all l.fn.all l.provides
