use Rattle.std.proofs.Common.{◌≡◌, ◌<◌, refl, length, arith, Contains, insert}
use Rattle.std.specs.BTreeSet.{insert_key}
use Rattle.upd_text.specs.Order.{byte_cmp}
use Rattle.script_names.specs.Scripts.{IsScript}
use Rattle.script_names.proofs.Inserted.{there_if_same, absent_if_longer, scripts_insert}
use Rattle.script_names.proofs.script.ScriptList.add.Goals as goal

pub returns-in_default-clause-doubled : goal.returns-in_default-clause-doubled
returns-in_default-clause-doubled c =
    let there : Contains c.args.self.now c.args.script = rw (← c.script.view_is) (there_if_same c.args.self.now c.script.inside.name c.in_default.ensures.there) in
    let room : length c.args.self.now < 64 = omega arith in
    (λ _. (room, there), λ _. refl)

pub returns-in_default-insert-clause-doubled : goal.returns-in_default-insert-clause-doubled
returns-in_default-insert-clause-doubled c =
    let absent : ¬ Contains c.args.self.now c.args.script = rw (← c.script.view_is) (absent_if_longer c.args.self.now c.script.inside.name c.in-Some.at (rw (← c.self.view_is) c.self.invariant.sorted) c.in-Some.ensures.within c.in-Some.ensures.place) in
    (λ e. absurd cc, λ h. absurd (absent h.1))

pub invariant_of-self-2 : goal.invariant_of-self-2
invariant_of-self-2 c =
    let script : IsScript c.args.script = rw (← c.script.view_is) (c.bytes-name.ensures.name, rw c.script.invariant refl) in
    let inserted : insert_key byte_cmp c.args.self.now c.args.script ≡ insert c.args.self.now c.in-Some.at c.args.script = rw (← c.script.view_is) c.in-Some.ensures.place in
    let room : length c.args.self.now < 64 = omega arith in
    rw (c.in-Ok.ensures.items, c.self.view_is, ← inserted) (scripts_insert c.args.self.now c.args.script (rw (← c.self.view_is) c.self.invariant) room script)

pub returns-clause-doubled : goal.returns-clause-doubled
returns-clause-doubled c =
    let absent : ¬ Contains c.args.self.now c.args.script = rw (← c.script.view_is) (absent_if_longer c.args.self.now c.script.inside.name c.in-Some.at (rw (← c.self.view_is) c.self.invariant.sorted) c.in-Some.ensures.within c.in-Some.ensures.place) in
    (λ e. absurd cc, λ h. absurd (absent h.1))
