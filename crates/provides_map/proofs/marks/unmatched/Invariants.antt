use Rattle.std.proofs.Common.{take}
use Rattle.std.specs.Prelude.{not}
use Rattle.std.specs.List.{list_any}
use Rattle.provides_map.specs.Match.{is_match}
use Rattle.provides_map.specs.Marks.{Tells}
use Rattle.provides_map.proofs.marks.unmatched.Given as goal

abbrev pub invariant-loop-pattern : goal.invariant-loop-pattern
invariant-loop-pattern l = Tells l.held l.start l.left (λ key. not (list_any (λ p. is_match p key) (take l.pattern-index l.patterns)))
