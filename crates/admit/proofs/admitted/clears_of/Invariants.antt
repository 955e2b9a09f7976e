use Rattle.std.proofs.Common.{◌≡◌, ◌++◌, drop}
use Rattle.std.specs.List.{list_any, flat_map}
use Rattle.admit.specs.Change.{is_all, patterns_of}
use Rattle.admit.proofs.admitted.clears_of.Given as goal

abbrev pub invariant-loop-info : goal.invariant-loop-info
invariant-loop-info l = record {
  all : list_any (λ info. is_all info.clears) (drop l.info-index l.infos) ≡ list_any (λ info. is_all info.clears) l.infos;
  patterns : l.all ++ flat_map (λ info. patterns_of info.clears) (drop l.info-index l.infos) ≡ flat_map (λ info. patterns_of info.clears) l.infos;
}
