use Rattle.std.proofs.Common.{rules, ◌≡◌, ◌<◌, sym, length, get_or, Some, None}
use Rattle.provides_map.specs.After.{first_unmet}
use Rattle.admit.specs.Admit.{wants_of}
use Rattle.admit.proofs.Wants.{unmet_here, met_here}
use Rattle.admit.proofs.fields.first_want.Goals as goal

pub returns-in-Some-first_unmet : goal.returns-in-Some-first_unmet
returns-in-Some-first_unmet c =
    let infos = c.args.fields.now.infos in
    let info = c.info-item.result in
    let type = c.args.device_type.now in
    let held = c.args.current.now in
    let i = c.loop-info.info-index in
    let lt : i < length infos = rw c.as_slice-info-items.ensures.items at c.loop-info-test.true in
    let is : info ≡ get_or infos i info = rw c.as_slice-info-items.ensures.items at c.info-item.is in
    let found : first_unmet info.wants type held ≡ Some c.in-Some-first_unmet.key = sym c.in-Some-first_unmet.ensures in
    unmet_here infos i info type held lt is c.in-Some-first_unmet.key (first_unmet (wants_of c.args.fields.now) type held) found c.loop-info.invariant

pub loop-info-preserved : goal.loop-info-preserved
loop-info-preserved c =
    let infos = c.args.fields.now.infos in
    let info = c.info-item.result in
    let type = c.args.device_type.now in
    let held = c.args.current.now in
    let i = c.loop-info.info-index in
    let lt : i < length infos = rw c.as_slice-info-items.ensures.items at c.loop-info-test.true in
    let is : info ≡ get_or infos i info = rw c.as_slice-info-items.ensures.items at c.info-item.is in
    let none : first_unmet info.wants type held ≡ None = sym c.in_default-first_unmet.ensures in
    met_here infos i info type held lt is (first_unmet (wants_of c.args.fields.now) type held) none c.loop-info.invariant
