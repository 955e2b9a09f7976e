use Rattle.std.proofs.Common.{◌≡◌, drop}
use Rattle.std.specs.Prelude.{find}
use Rattle.std.specs.Option.{is_none}
use Rattle.admit.specs.Admit.{number_of}
use Rattle.admit.proofs.lines.absent.Given as goal

abbrev pub invariant-loop-line : goal.invariant-loop-line
invariant-loop-line l = find (λ line. is_none (number_of l.heads line)) (drop l.line-index l.lines) ≡ find (λ line. is_none (number_of l.heads line)) l.lines
