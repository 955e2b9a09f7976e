use Rattle.std.proofs.Common.{take}
use Rattle.std.specs.List.{flat_map}
use Rattle.record_codec.specs.Spelling.{pair}
use Rattle.record_codec.specs.Writing.{Puts}
use Rattle.record_codec.proofs.writer.put_pairs.Given as goal

abbrev pub invariant-loop-i : goal.invariant-loop-i
invariant-loop-i l = Puts l.fn.into l.fn.at (flat_map pair (take l.i l.map)) l.into l.at
