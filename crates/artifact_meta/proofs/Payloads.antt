-- How many payloads there are.
use Rattle.std.proofs.Common.{◌≡◌, List, length, sym}
use Rattle.serde_json.specs.View.{items_view}
use Rattle.serde_json.specs.Events.{items_len}
use Rattle.serde_json.specs.declared.value.Value.{Value}
use Rattle.serde_json.proofs.Views.{items_len-items_view}

pub counted_items : (vs : List Value) → length vs ≡ items_len (items_view vs)
counted_items vs = sym (items_len-items_view vs)
