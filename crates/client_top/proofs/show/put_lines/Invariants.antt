use Rattle.std.proofs.Common.{take}
use Rattle.std.specs.List.{flat_map}
use Rattle.client_top.specs.Texts.{line, mark_if}
use Rattle.client_top.specs.Waiting.{IsAhead}
use Rattle.client_top.proofs.show.put_lines.Given as goal

abbrev pub invariant-loop-i : goal.invariant-loop-i
invariant-loop-i g l = IsAhead (g.O.Sink.means l.fn.out) (flat_map (λ p. line (mark_if l.fn.mark p)) (take l.i l.pairs)) l.page (g.O.Sink.means l.out)
