use Rattle.std.proofs.Common.{take}
use Rattle.std.specs.List.{flat_map}
use Rattle.record_codec.specs.Spelling.{short_text}
use Rattle.record_codec.specs.Writing.{Puts}
use Rattle.record_codec.proofs.writer.put_names.Given as goal

abbrev pub invariant-loop-name : goal.invariant-loop-name
invariant-loop-name l = Puts l.fn.into l.fn.at (flat_map short_text (take l.name-index l.names)) l.into l.at
