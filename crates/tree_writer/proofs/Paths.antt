-- The paths of the written files are names.
use Rattle.std.proofs.Common.{◌≡◌, ◌≢◌, ℕ, ◌<◌, ◌≤◌, List, [], length, Some, ap}
use Rattle.std.specs.Result.{result_ok}
use Rattle.std.proofs.lemmas.List.Elements.{All-nil}
use Rattle.upd_text.specs.Text.{name_of}
use Rattle.admit.specs.Places.{spelled}
use Rattle.admit.specs.declared.place.TreePlace.TheVariants.{Version, Manifest, HeaderInfo, TypeInfo, Script, Payload}
use Rattle.tree_writer.specs.Order.{IsGoodText}
use Rattle.tree_writer.proofs.Shape.{name_good, payload_name, info_name, script_name, fixed_names}

pub none_good : IsGoodText []
none_good = All-nil (λ b. (32 ≤ b) × (b ≢ 127))

pub payload-path : (k : ℕ) (name : List ℕ) → k < 8 → IsGoodText name → length name ≤ 118 → result_ok (name_of (spelled (Payload k name))) ≡ Some (spelled (Payload k name))
payload-path k name few h short = ap result_ok (payload_name k name few h short)

pub script-path : (name : List ℕ) → IsGoodText name → length name ≤ 113 → result_ok (name_of (spelled (Script name))) ≡ Some (spelled (Script name))
script-path name h short = ap result_ok (script_name name h short)

pub info-path : (k : ℕ) → k < 8 → result_ok (name_of (spelled (TypeInfo k))) ≡ Some (spelled (TypeInfo k))
info-path k few = ap result_ok (info_name k few)

pub version-path : result_ok (name_of (spelled Version)) ≡ Some (spelled Version)
version-path = ap result_ok fixed_names.0

pub manifest-path : result_ok (name_of (spelled Manifest)) ≡ Some (spelled Manifest)
manifest-path = ap result_ok fixed_names.1

pub header-path : result_ok (name_of (spelled HeaderInfo)) ≡ Some (spelled HeaderInfo)
header-path = ap result_ok fixed_names.2

pub ruleset good_texts = (name_good, none_good)

pub ruleset paths = (payload-path, script-path, info-path, version-path, manifest-path, header-path)
