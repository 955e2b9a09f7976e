use Rattle.std.proofs.Common.{◌≡◌, take, drop}
use Rattle.std.specs.List.{enumerate_from}
use Rattle.admit.specs.Table.{bad_path, first_some}
use Rattle.admit.proofs.table.first_bad_path.Given as goal

abbrev pub invariant-loop-i : goal.invariant-loop-i
invariant-loop-i l =
    first_some (λ file. bad_path (take file.0 l.heads) file.1.path) (enumerate_from l.i (drop l.i l.heads))
    ≡ first_some (λ file. bad_path (take file.0 l.heads) file.1.path) (enumerate_from 0 l.heads)
