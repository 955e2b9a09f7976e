-- The record of an entry, and which entries have one.
use Rattle.std.specs.Prelude.{◌≡◌, ℕ, ◌+◌, ◌<◌, ◌≤◌, ◌^◌, Bool, false, ◌&&◌, nat_le, List, [], ◌∷◌, ◌++◌, length, drop, IsTrue, codes, Option, Some, None, ⊤}
use Rattle.std.specs.List.{flat_map, AllByRecursion}
use Rattle.std.specs.Int.{w16, w32, to_be_bytes}
use Rattle.upd_text.specs.Parts.{is_plain}
use Rattle.flow_table.specs.Valid.{is_valid}
use Rattle.flow_table.specs.declared.position.Position.{Position}
use Rattle.flow_table.specs.declared.table.TheConstants.{MOST_KINDS}
use Rattle.provides_map.specs.Pairs.{Pairs, get, IsMap}
use Rattle.provides_map.specs.After.{artifact_name, HasName}
use Rattle.script_names.specs.Scripts.{AreScripts, is_artifact_script}
use Rattle.record_codec.specs.Keys.{is_name}
use Rattle.record_codec.specs.Bytes.{state_byte, outcome_byte, answer_byte, reboot_byte}
use Rattle.record_codec.specs.declared.entry.Entry.{Entry}
use Rattle.record_codec.specs.declared.entry.Version.{Version}
use Rattle.record_codec.specs.declared.entry.Version.TheVariants.{First, Second}
use Rattle.record_codec.specs.declared.length.TheConstants.{LARGEST_RECORD}
use Rattle.record_codec.specs.declared.entry.Db.{Db}
use Rattle.record_codec.specs.declared.entry.Db.TheVariants.{Empty, Full}

-- a text behind one byte of length, and behind two
unfoldable pub short_text : List ℕ → List ℕ
short_text bytes = length bytes ∷ bytes

unfoldable pub long_text : List ℕ → List ℕ
long_text bytes = to_be_bytes w16 (length bytes) ++ bytes

unfoldable pub pair : List ℕ × List ℕ → List ℕ
pair p = long_text p.0 ++ long_text p.1

unfoldable pub pairs : Pairs → List ℕ
pairs ps = to_be_bytes w16 (length ps) ++ flat_map pair ps

unfoldable pub kinds : List (List ℕ) → List ℕ
kinds names = flat_map short_text names

unfoldable pub scripts : List (List ℕ) → List ℕ
scripts names = length names ∷ flat_map short_text names

-- state, outcome, undoable, reboot and n
unfoldable pub position_bytes : Position → List ℕ
position_bytes p = state_byte p.state ∷ outcome_byte p.outcome ∷ answer_byte p.undoable ∷ reboot_byte p.reboot ∷ p.n ∷ []

-- what stands from offset 16 on
unfoldable pub body : Entry → List ℕ
body e = pairs e.before ++ pairs e.new ++ kinds e.kinds ++ scripts e.scripts

abbrev pub record_length : Entry → ℕ
record_length e = 16 + length (body e)

-- what a record of this version begins with
abbrev pub magic : Version → List ℕ
magic First = codes "MUP1"
magic Second = codes "MUP2"

-- the three bytes behind the position: zeros, or how many payload types there are and the deployment's number
abbrev pub marks : Version → Entry → List ℕ
marks First e = 0 ∷ 0 ∷ 0 ∷ []
marks Second e = length e.kinds ∷ to_be_bytes w16 e.id

-- the fields before the offset 16
unfoldable pub head : Version → Entry → List ℕ
head v e = magic v ++ position_bytes e.position ++ marks v e ++ to_be_bytes w32 (record_length e)

unfoldable pub record_of : Version → Entry → List ℕ
record_of v e = head v e ++ body e

-- a name that may be one part of a path
unfoldable pub is_kind : List ℕ → Bool
is_kind name = is_name name && is_plain name

-- the name of a script that an artifact may bring
unfoldable pub is_script : List ℕ → Bool
is_script name = is_name name && is_artifact_script name

abbrev pub has_length : Option (List ℕ) → Bool
has_length None = false
has_length (Some value) = nat_le 1 (length value) && nat_le (length value) 128

-- whether artifact_name is there, with 1 to 128 bytes
unfoldable pub is_named : Pairs → Bool
is_named ps = has_length (get ps artifact_name)

-- each field is one that a record may have
pub record IsRight (e : Entry) : Type 0 where
  pub position : IsTrue (is_valid e.position)
  pub before : IsMap e.before
  pub before_fits : length e.before < 2 ^ 16
  pub new : IsMap e.new
  pub new_fits : length e.new < 2 ^ 16
  pub named : HasName e.new
  pub kinds : AllByRecursion (λ kind. IsTrue (is_kind kind)) e.kinds
  pub some : 1 ≤ length e.kinds
  pub few : length e.kinds ≤ MOST_KINDS
  pub small : e.id < 2 ^ 16
  pub scripts : AreScripts e.scripts
  pub brought : AllByRecursion (λ name. IsTrue (is_artifact_script name)) e.scripts

-- an entry that has a record of this version: in version 1 it has one payload type and the number 0
abbrev pub HasVersion : Version → Entry → Type 0
HasVersion First e = (length e.kinds ≡ 1) × (e.id ≡ 0)
HasVersion Second e = ⊤

-- the bytes begin with a record of a right entry
pub record IsFound (bytes : List ℕ) (e : Entry) : Type 0 where
  pub version : Version
  pub of_version : HasVersion version e
  pub right : IsRight e
  pub fits : record_length e ≤ LARGEST_RECORD
  pub within : record_length e ≤ length bytes
  pub begins : bytes ≡ record_of version e ++ drop (record_length e) bytes

-- a fact of the entry, where there is one
abbrev pub IfFull : (Entry → Type 0) → Db → Type 0
IfFull fact Empty = Unit {0}
IfFull fact (Full e) = fact e
