use Rattle.std.proofs.Common.{sym, ap, ◌∙◌, ◌≡◌, Some, [], ◌-◌, length, List, ℕ}
use Rattle.std.specs.Prelude.{slice_get}
use Rattle.std.specs.Ordering.{is_lt}
use Rattle.upd_text.specs.Order.{is_below}
use Rattle.upd_text.proofs.OrderLemmas.{last_from-is}
use Rattle.provides_map.specs.Last.{key_of}
use Rattle.provides_map.proofs.provides.Provides.is_last.Goals as goal

pub returns-in-Some : goal.returns-in-Some
returns-in-Some c =
    let e : c.deref.result.now ≡ c.args.self.now = c.deref.ensures.value ∙ c.self.view_is in
    let h : Some c.in-Some.pair.now ≡ slice_get c.args.self.now (length c.args.self.now - 1) = rw (← e) c.in-Some.ensures.value in
    c.is_lt.ensures ∙ ap is_lt c.cmp.ensures ∙ ap (λ (k : List ℕ). is_below k c.args.key.now) (sym (last_from-is key_of [] c.args.self.now c.in-Some.pair.now (sym h)))
