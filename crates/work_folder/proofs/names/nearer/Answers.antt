use Rattle.std.proofs.Common.{◌≡◌, ◌∙◌, List, ℕ, true, sym, ap, subst, Bor}
use Rattle.std.specs.Prelude.{Option, MatchOption}
use Rattle.std.specs.Ordering.{is_lt}
use Rattle.upd_text.specs.Order.{is_below}
use Rattle.work_folder.specs.Adding.{IsLast, IsNext}
use Rattle.work_folder.proofs.Above.{first_above, nearer_one}
use Rattle.work_folder.proofs.names.nearer.Goals as goal

pub returns-in-None : goal.returns-in-None
returns-in-None c = λ names h.
    let last = c.args.last.now in
    let high : is_below last c.args.name.now ≡ true = sym (ap is_lt c.cmp.ensures) ∙ sym c.if-not-is_lt.ensures in
    first_above names last c.args.name.now high (subst (λ (o : Option (Bor (List ℕ))). MatchOption o (IsLast names last) (λ next. IsNext names last next.now)) c.in-None.is h)

pub returns-then-is_lt : goal.returns-then-is_lt
returns-then-is_lt c = λ names h.
    let last = c.args.last.now in
    let next = c.in-Some.next.now in
    let high : is_below last c.args.name.now ≡ true = sym (ap is_lt c.cmp.ensures) ∙ sym c.if-not-is_lt.ensures in
    let near : is_below c.args.name.now next ≡ true = sym (ap is_lt c.cmp-in-Some.ensures) ∙ sym c.if-is_lt.ensures in
    nearer_one names last next c.args.name.now high near (subst (λ (o : Option (Bor (List ℕ))). MatchOption o (IsLast names last) (λ next. IsNext names last next.now)) c.in-Some.is h)
