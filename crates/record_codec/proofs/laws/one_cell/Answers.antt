use Rattle.std.proofs.Common.{◌≡◌, refl, sym, ap, ◌∙◌}
use Rattle.std.specs.Prelude.{Option, Some, Result, Ok, ℕ}
use Rattle.flow_table.specs.declared.position.Position.{Position}
use Rattle.record_codec.specs.Cells.{cell, cell_of}
use Rattle.record_codec.proofs.Cells.{cell_again, said_found}
use Rattle.record_codec.proofs.laws.one_cell.Goals as goal

one : (p q : Position) → (let x : Result (Option Position) ℕ = Ok (Some p) in x ≡ Ok (Some q)) → p ≡ q
one p q h = cc

pub returns-clause-read : goal.returns-clause-read
returns-clause-read c = λ p bytes size fits. (λ is. said_found bytes p size fits is, λ spelled. cell_again p bytes spelled)

pub returns-clause-differ : goal.returns-clause-differ
returns-clause-differ c = λ p q valid valid' same.
    one p q (sym (cell_again p (cell_of p) (record { valid = valid; spelled = refl })) ∙ ap cell same ∙ cell_again q (cell_of q) (record { valid = valid'; spelled = refl }))
