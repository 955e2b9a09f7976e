use Rattle.std.proofs.Common.{◌≡◌, ◌≤◌, ◌+◌, ◌*◌, length, take}
use Rattle.std.specs.List.{flat_map}
use Rattle.record_codec.specs.Spelling.{pair}
use Rattle.record_codec.proofs.length.map_length.Given as goal

abbrev pub invariant-loop-i : goal.invariant-loop-i
invariant-loop-i l = record { sum : l.sum ≡ 2 + length (flat_map pair (take l.i l.map)); few : l.sum ≤ 2 + 1156 * l.i }
