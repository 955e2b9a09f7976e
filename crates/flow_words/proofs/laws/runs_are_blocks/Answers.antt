use Rattle.flow_words.proofs.RunForms.{checked-list, list-checked, ignored-list, list-ignored, once-list, list-once}
use Rattle.std.proofs.Common.{Bool, sym, subst}
use Rattle.flow_words.specs.declared.mode.Mode.TheVariants.{Ignored, Once}
use Rattle.flow_words.specs.Course.{Whole}
use Rattle.flow_words.specs.Scripts.{run}
use Rattle.flow_words.proofs.laws.runs_are_blocks.Goals as goal

pub returns-clause-checked : goal.returns-clause-checked
returns-clause-checked c = λ names w good. (checked-list names w good, list-checked names w good)

pub returns-clause-ignored : goal.returns-clause-ignored
returns-clause-ignored c = λ names w good. (ignored-list names w good, λ h. subst (λ (b : Bool). Whole (run names Ignored) w b) (sym h.0) (list-ignored names w h.1))

pub returns-clause-once : goal.returns-clause-once
returns-clause-once c = λ names w good. (once-list names w good, λ h. subst (λ (b : Bool). Whole (run names Once) w b) (sym h.0) (list-once names w h.1))
