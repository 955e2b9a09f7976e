use Rattle.std.proofs.Common.{◌≡◌, ◌≢◌, ◌⊎◌, [], length}
use Rattle.key_text.specs.Keys.{BeginsWithKeys}
use Rattle.key_text.proofs.key.read_keys.Given as goal

abbrev pub invariant-keys : goal.invariant-keys
invariant-keys l = BeginsWithKeys l.text l.keys.items l.rest × ((l.keys.items ≡ []) ⊎ (l.rest ≢ []))

abbrev pub decreases-keys : goal.decreases-keys
decreases-keys l = length l.rest
