use Rattle.std.proofs.Common.{◌≡◌, refl, ap, subst, arith}
use Rattle.std.specs.Prelude.{◌≤◌}
use Rattle.provides_map.specs.Pairs.{Pairs, IsMap}
use Rattle.provides_map.specs.After.{after}
use Rattle.provides_map.specs.declared.change.Change.{Change}
use Rattle.admit.specs.Change.{change_of}
use Rattle.flow_table.specs.Table.{fresh_position}
use Rattle.record_codec.specs.declared.length.TheConstants.{LARGEST_RECORD}
use Rattle.record_codec.specs.Spelling.{record_length}
use Rattle.client_top.specs.Steps.{entry_by}
use Rattle.client_top.proofs.Rights.{right-by}
use Rattle.client_top.proofs.begin.parts_of.Goals as goal

pub returns : goal.returns
returns c =
    let id = c.args.id in
    let before = c.args.before in
    let plan = c.args.plan in
    let change : c.in-Ok.change ≡ change_of plan = c.in-Ok.ensures in
    let new : c.in-Ok-after.new ≡ after before (change_of plan) = subst (λ (x : Change). c.in-Ok-after.new ≡ after before x) change c.in-Ok-after.ensures in
    let bytes : c.begun_length-bytes.result ≡ record_length (entry_by id before plan) =
    subst (λ (x : Change). c.begun_length-bytes.result ≡ record_length (record (entry_by id before plan) { new = after before x })) change (c.begun_length-bytes.ensures fresh_position id) in
    let small : record_length (entry_by id before plan) ≤ LARGEST_RECORD = omega (arith, bytes, c.if-bytes-from.false, c.from.ensures) in
    record {
      plan_is = refl;
      entry = ap (λ (x : Pairs). record (entry_by id before plan) { new = x }) new;
      small = small;
      right = λ kinds brought. right-by id before plan c.ranges.id.fits c.are_parts.ensures.before (subst IsMap new c.are_parts.ensures.new) c.are_parts.ensures.name c.are_parts.ensures.names c.are_parts.ensures.scripts small kinds brought;
    }
