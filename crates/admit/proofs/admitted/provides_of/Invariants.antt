use Rattle.std.proofs.Common.{◌≡◌, drop}
use Rattle.std.specs.Prelude.{fold}
use Rattle.provides_map.specs.Pairs.{put_all}
use Rattle.admit.specs.Change.{provides_of}
use Rattle.admit.proofs.admitted.provides_of.Given as goal

abbrev pub invariant-loop-info : goal.invariant-loop-info
invariant-loop-info l = fold (λ found info. put_all found info.provides) l.all (drop l.info-index l.infos) ≡ provides_of l.infos
