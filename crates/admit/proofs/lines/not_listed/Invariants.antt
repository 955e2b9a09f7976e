use Rattle.std.proofs.Common.{◌≡◌, drop}
use Rattle.admit.specs.Table.{first_some}
use Rattle.admit.specs.Admit.{unlisted_path}
use Rattle.admit.proofs.lines.not_listed.Given as goal

abbrev pub invariant-loop-head : goal.invariant-loop-head
invariant-loop-head l = first_some (λ head. unlisted_path l.lines head.path) (drop l.head-index l.heads) ≡ first_some (λ head. unlisted_path l.lines head.path) l.heads
