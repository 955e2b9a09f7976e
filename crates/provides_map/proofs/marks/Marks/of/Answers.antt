use Rattle.std.proofs.Common.{List, ℕ, sym, subst}
use Rattle.std.specs.Prelude.{not}
use Rattle.provides_map.specs.After.{is_cleared}
use Rattle.provides_map.specs.Marks.{Tells}
use Rattle.provides_map.specs.declared.change.Clears.{Clears}
use Rattle.provides_map.proofs.MarkLemmas.{none_left}
use Rattle.provides_map.proofs.marks.Marks.of.Goals as goal

pub returns-in-All-clause-marks : goal.returns-in-All-clause-marks
returns-in-All-clause-marks c =
    subst (λ (clears : Clears). Tells c.args.held.now c.args.start 0 (λ (key : List ℕ). not (is_cleared clears key))) (sym c.in-All.is) (none_left c.args.held.now c.args.start)
