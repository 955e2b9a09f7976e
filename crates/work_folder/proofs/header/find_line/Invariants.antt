use Rattle.std.proofs.Common.{◌≡◌, drop}
use Rattle.std.specs.Prelude.{find}
use Rattle.std.specs.List.{zip}
use Rattle.std.specs.Str.{bytes_eq}
use Rattle.work_folder.proofs.header.find_line.Given as goal

abbrev pub invariant-loop-i : goal.invariant-loop-i
invariant-loop-i l = find (λ r. bytes_eq r.0.path l.path) (drop l.i (zip l.lines l.numbers)) ≡ find (λ r. bytes_eq r.0.path l.path) (zip l.lines l.numbers)
