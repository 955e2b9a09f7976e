use Rattle.std.proofs.Common.{◌≡◌, drop, []}
use Rattle.serde_json.specs.View.{items_view}
use Rattle.upd_text.specs.Text.{value_of}
use Rattle.artifact_meta.specs.Meta.{texts_after}
use Rattle.artifact_meta.proofs.fields.values_of.Given as goal

abbrev pub invariant-loop-item : goal.invariant-loop-item
invariant-loop-item l = texts_after l.values value_of l.field (items_view (drop l.item-index l.items)) ≡ texts_after [] value_of l.field (items_view l.items)
