use Rattle.std.proofs.Common.{◌≡◌, take, ◌++◌, ◌+◌, ◌*◌, length}
use Rattle.hex.specs.Hex.{encode_lower}
use Rattle.event_text.proofs.line.add_digits.Given as goal

abbrev pub invariant-loop-byte : goal.invariant-loop-byte
invariant-loop-byte l = record {
  text : l.line ≡ l.fn.line ++ encode_lower (take l.byte-index l.bytes);
  long : length l.line ≡ length l.fn.line + 2 * l.byte-index;
}
