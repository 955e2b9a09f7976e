use Rattle.std.proofs.Common.{◌≡◌, take}
use Rattle.client_top.proofs.trace.copy_kinds.Given as goal

abbrev pub invariant-loop-kind : goal.invariant-loop-kind
invariant-loop-kind l = l.copy ≡ take l.kind-index l.kinds
