use Rattle.std.proofs.Common.{◌∙◌, ap, sym, List, ℕ, ◌++◌, ◌∷◌}
use Rattle.std.specs.Fmt.{decimal}
use Rattle.trace_check.specs.Lines.{tag}
use Rattle.trace_check.proofs.Spelled.{joined-so, joined-else}
use Rattle.trace_check.proofs.spelling.is_counted.Goals as goal

pub returns-in_default : goal.returns-in_default
returns-in_default c = joined-else c.args.word.now (decimal c.args.number ++ 32 ∷ c.args.name.now) c.args.text.now c.in_default.ensures

pub returns-in-None : goal.returns-in-None
returns-in-None c =
    let digits = c.bytes.ensures.bytes ∙ c.decimal.ensures ∙ ap decimal c.from.ensures in
    joined-else (decimal c.args.number) (32 ∷ c.args.name.now) c.in-Some.rest.now (ap (λ (d : List ℕ). tag d c.in-Some.rest.now) (sym digits) ∙ c.in-None.ensures)
    ∙ joined-so c.args.word.now (decimal c.args.number ++ 32 ∷ c.args.name.now) c.args.text.now c.in-Some.rest.now c.in-Some.ensures

pub returns-in-Some-tag : goal.returns-in-Some-tag
returns-in-Some-tag c =
    let digits = c.bytes.ensures.bytes ∙ c.decimal.ensures ∙ ap decimal c.from.ensures in
    c.is_joined.ensures
    ∙ joined-so (decimal c.args.number) (32 ∷ c.args.name.now) c.in-Some.rest.now c.in-Some-tag.rest.now (ap (λ (d : List ℕ). tag d c.in-Some.rest.now) (sym digits) ∙ c.in-Some-tag.ensures)
    ∙ joined-so c.args.word.now (decimal c.args.number ++ 32 ∷ c.args.name.now) c.args.text.now c.in-Some.rest.now c.in-Some.ensures
