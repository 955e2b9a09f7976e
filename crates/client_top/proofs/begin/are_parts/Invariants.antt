use Rattle.std.proofs.Common.{take}
use Rattle.std.specs.List.{AllByRecursion}
use Rattle.upd_text.specs.Text.{IsName}
use Rattle.client_top.proofs.begin.are_parts.Given as goal

abbrev pub invariant-loop-kind : goal.invariant-loop-kind
invariant-loop-kind l = AllByRecursion IsName (take l.kind-index l.header.kinds)
