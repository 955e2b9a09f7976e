use Rattle.std.proofs.Common.{◌≡◌, drop}
use Rattle.std.specs.Prelude.{fold}
use Rattle.std.specs.List.{filter_map}
use Rattle.std.specs.Option.{option_copied}
use Rattle.admit.specs.Table.{long_path, lesser, least}
use Rattle.admit.proofs.table.too_long.Given as goal

abbrev pub invariant-loop-head : goal.invariant-loop-head
invariant-loop-head l =
    fold lesser (option_copied l.least) (filter_map (λ head. long_path head.path head.length) (drop l.head-index l.heads))
    ≡ least (filter_map (λ head. long_path head.path head.length) l.heads)
