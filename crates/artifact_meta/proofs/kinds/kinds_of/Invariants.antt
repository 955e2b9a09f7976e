use Rattle.std.proofs.Common.{◌≡◌, drop, [], length}
use Rattle.std.specs.List.{AllPass}
use Rattle.serde_json.specs.View.{items_view}
use Rattle.upd_text.specs.Parts.{is_plain}
use Rattle.artifact_meta.specs.Header.{kinds_after}
use Rattle.artifact_meta.proofs.kinds.kinds_of.Given as goal

abbrev pub invariant-loop-payload : goal.invariant-loop-payload
invariant-loop-payload l = record {
  value : kinds_after l.kinds (items_view (drop l.payload-index l.payloads)) ≡ kinds_after [] (items_view l.payloads);
  count : length l.kinds ≡ l.payload-index;
  plain : AllPass is_plain l.kinds;
}
