use Rattle.std.proofs.Common.{ℕ, List, length, take, sym, ap, ◌∙◌, subst}
use Rattle.std.specs.Prelude.{◌<◌, IsTrue, slice_index_or}
use Rattle.upd_text.specs.Order.{is_below}
use Rattle.script_names.specs.Scripts.{last_script}
use Rattle.client_top.proofs.Copying.{next-above, next-fits}
use Rattle.client_top.proofs.trace.copy_scripts.Goals as goal

pub push_last-requires-clause-room : goal.push_last-requires-clause-room
push_last-requires-clause-room c =
    let names = c.as_slice-script-items.ensures.names in
    let within = subst (λ (xs : List (List ℕ)). c.loop-script.script-index < length xs) names c.loop-script-test.true in
    subst (λ (xs : List (List ℕ)). length xs < 64) (sym c.loop-script.invariant) (next-fits c.args.scripts.now c.loop-script.script-index c.as_slice-script-items.ensures.scripts within)

pub push_last-requires-clause-above : goal.push_last-requires-clause-above
push_last-requires-clause-above c =
    let i = c.loop-script.script-index in
    let names = c.as_slice-script-items.ensures.names in
    let within = subst (λ (xs : List (List ℕ)). i < length xs) names c.loop-script-test.true in
    let item = c.twin.ensures ∙ c.script-item.is ∙ ap (λ (xs : List (List ℕ)). slice_index_or xs i c.script-item.result) names in
    let above = next-above c.args.scripts.now i c.script-item.result c.as_slice-script-items.ensures.scripts within in
    subst (λ (xs : List (List ℕ)). IsTrue (is_below (last_script xs) c.twin.result)) (sym c.loop-script.invariant)
    (subst (λ (x : List ℕ). IsTrue (is_below (last_script (take i c.args.scripts.now)) x)) (sym item) above)
