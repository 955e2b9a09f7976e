use Rattle.std.proofs.Common.{◌≡◌, drop}
use Rattle.std.specs.List.{flat_map}
use Rattle.provides_map.specs.After.{first_unmet}
use Rattle.admit.specs.Admit.{wants_of}
use Rattle.admit.proofs.fields.first_want.Given as goal

abbrev pub invariant-loop-info : goal.invariant-loop-info
invariant-loop-info l = first_unmet (flat_map (λ info. info.wants) (drop l.info-index l.fields.infos)) l.device_type l.current ≡ first_unmet (wants_of l.fields) l.device_type l.current
