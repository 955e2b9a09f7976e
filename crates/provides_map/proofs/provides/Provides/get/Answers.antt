use Rattle.std.proofs.Common.{Some, ap, sym, ◌∙◌, List, [], ℕ}
use Rattle.std.proofs.lemmas.List.{get_or_default}
use Rattle.provides_map.specs.Pairs.{Pairs}
use Rattle.provides_map.specs.Place.{IsAt}
use Rattle.provides_map.proofs.Puts.{get_at, get_gap}
use Rattle.provides_map.proofs.provides.Provides.get.Goals as goal

pub returns-in-Ok : goal.returns-in-Ok
returns-in-Ok c =
    let ps : Pairs = c.self.inside.pairs.items in
    let here : IsAt ps c.args.key.now c.in-Ok.at = rw c.self.view_is c.in-Ok.ensures.found in
    let read = c.index-pair.ensures ∙ get_or_default ps c.in-Ok.at c.index-pair.result.now ([], []) here.within in
    rw (← c.self.view_is) (ap (λ (p : List ℕ × List ℕ). Some p.1) read ∙ sym (get_at ps c.args.key.now c.in-Ok.at here))

pub returns-in-Err : goal.returns-in-Err
returns-in-Err c = sym (get_gap c.args.self.now c.args.key.now c.in-Err.field-0 c.in-Err.ensures.absent)
