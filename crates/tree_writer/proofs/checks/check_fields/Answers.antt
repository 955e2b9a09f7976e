use Rattle.std.proofs.Common.{List, None, ap, ◌∙◌}
use Rattle.tree_writer.specs.declared.spec.PayloadSpec.{PayloadSpec}
use Rattle.tree_writer.specs.Files.{tree_of}
use Rattle.std.specs.Option.{option_or}
use Rattle.std.proofs.Common.{length}
use Rattle.tree_writer.specs.Faults.{unless, bad_want, not_text, too_many_files}
use Rattle.tree_writer.proofs.Causes.{second_fails}
use Rattle.tree_writer.proofs.checks.check_fields.Goals as goal

pub returns-in-Err : goal.returns-in-Err
returns-in-Err c =
    second_fails (bad_want 0 c.args.spec.now.payloads) (not_text c.args.spec.now) (option_or (too_many_files (length (tree_of c.args.spec.now))) None) _ c.in-Err.fault
    (c.in_ok-check_wants.ensures ∙ ap (λ (ps : List PayloadSpec). unless (bad_want 0 ps)) c.as_slice.ensures.items) c.in-Err.ensures
