use Rattle.std.proofs.Common.{◌≡◌, ◌-◌}
use Rattle.std.specs.Prelude.{not, find}
use Rattle.std.specs.List.{range_with_len}
use Rattle.admit.specs.Admit.{has_info}
use Rattle.admit.proofs.fields.no_type_info.Given as goal

abbrev pub invariant-loop-payload : goal.invariant-loop-payload
invariant-loop-payload l = find (λ k. not (has_info l.heads k)) (range_with_len l.payload (l.count - l.payload)) ≡ find (λ k. not (has_info l.heads k)) (range_with_len 1 (l.count - 1))
