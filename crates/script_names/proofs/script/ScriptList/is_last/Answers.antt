use Rattle.std.proofs.Common.{sym, ap, ◌∙◌, ◌≡◌, Some, [], ◌-◌, length, List, ℕ}
use Rattle.std.specs.Prelude.{slice_get}
use Rattle.std.specs.Ordering.{is_lt}
use Rattle.upd_text.specs.Order.{is_below, byte_cmp, itself}
use Rattle.upd_text.proofs.OrderLemmas.{last_from-is}
use Rattle.script_names.proofs.script.ScriptList.is_last.Goals as goal

pub returns-in-Some : goal.returns-in-Some
returns-in-Some c =
    let e : c.deref.result.now ≡ c.args.self.now = c.deref.ensures.value ∙ c.self.view_is in
    let h : Some c.in-Some.last.now ≡ slice_get c.args.self.now (length c.args.self.now - 1) = rw (← e) c.in-Some.ensures.value in
    let seen : c.is_lt.result ≡ is_below c.in-Some.last.now c.args.name.now = c.is_lt.ensures ∙ ap is_lt (c.cmp.ensures ∙ ap (λ (k : List ℕ). byte_cmp k c.args.name.now) c.last-in-Some.view_is) in
    seen ∙ ap (λ (k : List ℕ). is_below k c.args.name.now) (sym (last_from-is itself [] c.args.self.now c.in-Some.last.now (sym h)))
