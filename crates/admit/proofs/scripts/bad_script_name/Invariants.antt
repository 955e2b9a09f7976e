use Rattle.std.proofs.Common.{◌≡◌, drop}
use Rattle.std.specs.Prelude.{fold}
use Rattle.std.specs.List.{filter_map}
use Rattle.std.specs.Option.{option_copied}
use Rattle.admit.specs.Table.{lesser, least}
use Rattle.admit.specs.Admit.{bad_script}
use Rattle.admit.proofs.scripts.bad_script_name.Given as goal

abbrev pub invariant-loop-head : goal.invariant-loop-head
invariant-loop-head l =
    fold lesser (option_copied l.least) (filter_map (λ head. bad_script head.path) (drop l.head-index l.heads))
    ≡ least (filter_map (λ head. bad_script head.path) l.heads)
