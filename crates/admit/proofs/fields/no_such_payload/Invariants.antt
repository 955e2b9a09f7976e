use Rattle.std.proofs.Common.{◌≡◌, drop}
use Rattle.admit.specs.Table.{first_some}
use Rattle.admit.specs.Admit.{stray_path}
use Rattle.admit.proofs.fields.no_such_payload.Given as goal

abbrev pub invariant-loop-head : goal.invariant-loop-head
invariant-loop-head l = first_some (λ head. stray_path l.count head.path) (drop l.head-index l.heads) ≡ first_some (λ head. stray_path l.count head.path) l.heads
