-- What `Value::from_slice` says, as the value of the file.
use Rattle.std.proofs.Common.{◌≡◌, ℕ, Bool, true, false, cond, List, Some, None, refl, sym}
use Rattle.std.specs.Str.{IsUtf8, is_utf8}
use Rattle.std.proofs.lemmas.Str.{IsUtf8-from_is_utf8, is_utf8-from_IsUtf8}
use Rattle.serde_json.specs.Data.{Data}
use Rattle.serde_json.specs.Read.{read}
use Rattle.artifact_meta.specs.Meta.{json_of}

pub json_read : (bytes : List ℕ) (d : Data) → IsUtf8 bytes × (read bytes ≡ Some d) → Some d ≡ json_of bytes
json_read bytes d h = rw (is_utf8-from_IsUtf8 bytes h.0) (sym h.1)

none_read : (bytes : List ℕ) (b : Bool) → is_utf8 bytes ≡ b → (IsUtf8 bytes → read bytes ≡ None) → None ≡ cond b (read bytes) None
none_read bytes true is h = sym (h (IsUtf8-from_is_utf8 bytes is))
none_read bytes false is h = refl

pub json_none : (bytes : List ℕ) → (IsUtf8 bytes → read bytes ≡ None) → None ≡ json_of bytes
json_none bytes h = none_read bytes (is_utf8 bytes) refl h

pub ruleset json_rules = (json_read, json_none)
