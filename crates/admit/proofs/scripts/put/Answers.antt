use Rattle.std.proofs.Common.{◌∙◌, sym, refl}
use Rattle.script_names.proofs.Inserted.{insert_there}
use Rattle.admit.proofs.scripts.put.Goals as goal

pub returns-in-Err-Doubled : goal.returns-in-Err-Doubled
returns-in-Err-Doubled c =
    let doubled = (rw c.in-Err-Doubled.field-0-is at c.in-Err-Doubled.ensures.doubled).0 refl in
    c.in-Err-Doubled.ensures.err ∙ sym (insert_there c.args.scripts.now c.args.script c.len-scripts.ensures.scripts.sorted doubled.1)
