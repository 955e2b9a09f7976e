use Rattle.std.proofs.Common.{◌≡◌, ◌≤◌, ◌*◌, length, take}
use Rattle.std.specs.List.{flat_map}
use Rattle.record_codec.specs.Spelling.{short_text}
use Rattle.record_codec.proofs.length.kinds_length.Given as goal

abbrev pub invariant-loop-kind : goal.invariant-loop-kind
invariant-loop-kind l = record { sum : l.sum ≡ length (flat_map short_text (take l.kind-index l.kind-items)); few : l.sum ≤ 129 * l.kind-index }
