use Rattle.std.proofs.Common.{drop, ◌+◌, ◌∙◌, sym, ap, ◌++◌, ◌∷◌, List, ℕ}
use Rattle.trace_check.specs.Lines.{lacks}
use Rattle.trace_check.proofs.Parted.{mark-parts, mark-none}
use Rattle.trace_check.proofs.notes.first_line.Goals as goal

pub returns-in-None : goal.returns-in-None
returns-in-None c = mark-none 10 c.args.text.now (sym c.in-None.ensures.at)

pub returns-in-Some : goal.returns-in-Some
returns-in-Some c =
    let parts = mark-parts 10 c.args.text.now c.in-Some.at (sym c.in-Some.ensures.at) in
    let front = c.split_at.ensures.front in
    let back = c.split_at-in-Some.ensures.back in (
      parts.0 ∙ ap (λ (l : List ℕ). l ++ 10 ∷ drop (c.in-Some.at + 1) c.args.text.now) (sym front) ∙ ap (λ (l : List ℕ). c.split_at.result.0.now ++ 10 ∷ l) (sym back),
      ap (lacks 10) front ∙ parts.1,
    )
