use Rattle.std.proofs.Common.{◌≡◌, ◌-◌, length, []}
use Rattle.manifest_sums.specs.Manifest.{lines_after}
use Rattle.manifest_sums.proofs.manifest.read_lines.Given as goal

abbrev pub invariant-loop : goal.invariant-loop
invariant-loop l = record {
  count : length l.lines ≡ l.counter;
  same : lines_after (256 - l.counter) l.lines l.rest ≡ lines_after 256 [] l.bytes;
}
