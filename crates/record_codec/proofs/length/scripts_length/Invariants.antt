use Rattle.std.proofs.Common.{◌≡◌, ◌≤◌, ◌+◌, ◌*◌, length, take}
use Rattle.std.specs.List.{flat_map}
use Rattle.record_codec.specs.Spelling.{short_text}
use Rattle.record_codec.proofs.length.scripts_length.Given as goal

abbrev pub invariant-loop-name : goal.invariant-loop-name
invariant-loop-name l = record { sum : l.sum ≡ 1 + length (flat_map short_text (take l.name-index l.name-items)); few : l.sum ≤ 1 + 129 * l.name-index }
