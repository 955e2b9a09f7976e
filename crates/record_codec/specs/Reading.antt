-- Reading a record from the left: what it stands for, or the offset of the first field that is wrong.
use Rattle.std.specs.Prelude.{◌≡◌, ℕ, ◌+◌, ◌-◌, zero, suc, Bool, true, ◌&&◌, ◌==◌, nat_lt, nat_le, nat_eq, List, [], ◌∷◌, length, take, drop, slice_get, Option, Some, None, Result, Ok, Err, if◌then◌else◌, codes}
use Rattle.std.specs.List.{starts_with}
use Rattle.std.specs.Int.{Width, w8, w16, w32, byte_len, from_be_bytes}
use Rattle.upd_text.specs.Order.{is_below, itself}
use Rattle.upd_text.specs.Results.{◌>>=◌}
use Rattle.provides_map.specs.Last.{key_of}
use Rattle.flow_table.specs.declared.position.Position.{Position}
use Rattle.flow_table.specs.Valid.{is_outcome, is_undoable, is_reboot, is_count}
use Rattle.flow_table.specs.declared.table.TheConstants.{MOST_KINDS}
use Rattle.record_codec.specs.declared.entry.Entry.{Entry}
use Rattle.record_codec.specs.declared.entry.Db.{Db}
use Rattle.record_codec.specs.declared.entry.Db.TheVariants.{Empty, Full}
use Rattle.record_codec.specs.declared.fault.Wrong.{Wrong}
use Rattle.record_codec.specs.declared.fault.DecodeFault.{DecodeFault}
use Rattle.record_codec.specs.declared.fault.DecodeFault.TheVariants.{NotARecord, NoMemory}
use Rattle.record_codec.specs.Keys.{is_name, is_value}
use Rattle.record_codec.specs.Bytes.{states, outcomes, answers, reboots}
use Rattle.record_codec.specs.declared.entry.Version.{Version}
use Rattle.record_codec.specs.declared.entry.Version.TheVariants.{First, Second}
use Rattle.record_codec.specs.declared.length.TheConstants.{LARGEST_RECORD}
use Rattle.record_codec.specs.declared.reader.whole.Head.{Head}
use Rattle.record_codec.specs.Spelling.{is_kind, is_script, is_named}

-- what is left to read: the bytes from an offset on
pub record Rest : Type 0 where
  pub at : ℕ
  pub bytes : List ℕ

-- the next n bytes, where there are so many
unfoldable pub bytes_at : ℕ → Rest → Result (List ℕ × Rest) ℕ
bytes_at n r = if nat_lt (length r.bytes) n then Err r.at else Ok (take n r.bytes, record { at = r.at + n; bytes = drop n r.bytes })

-- what is wrong inside a field is wrong at its first byte
abbrev pub field : {A : Type 0} → Rest → Result A ℕ → Result A ℕ
field r (Ok x) = Ok x
field r (Err offset) = Err r.at

abbrev pub any : {A : Type 0} → A → Bool
any x = true

-- a right number
unfoldable pub number_at : Width → (ℕ → Bool) → Rest → Result (ℕ × Rest) ℕ
number_at w right r = do
  digits ← bytes_at (byte_len w) r
  if right (from_be_bytes w digits.0) then Ok (from_be_bytes w digits.0, digits.1) else Err r.at

-- x, where it is there and right
abbrev pub chosen : {A : Type 0} → (A → Bool) → ℕ → Rest → Option A → Result (A × Rest) ℕ
chosen right at rest None = Err at
chosen right at rest (Some x) = if right x then Ok (x, rest) else Err at

-- one of these, by a byte with its number
unfoldable pub choice_at : {A : Type 0} → List A → (A → Bool) → Rest → Result (A × Rest) ℕ
choice_at all right r = do
  byte ← number_at w8 any r
  chosen right r.at byte.1 (slice_get all byte.0)

-- these bytes
unfoldable pub literal_at : List ℕ → Rest → Result Rest ℕ
literal_at text r = if starts_with nat_eq r.bytes text then Ok (record { at = r.at + length text; bytes = drop (length text) r.bytes }) else Err r.at

-- a right text behind its length
unfoldable pub text_at : Width → (List ℕ → Bool) → Rest → Result (List ℕ × Rest) ℕ
text_at w right r = field r (do
  size ← number_at w any r
  text ← bytes_at size.0 size.1
  if right text.0 then Ok text else Err r.at)

unfoldable pub position_at : Rest → Result (Position × Rest) ℕ
position_at r = do
  state ← choice_at states any r
  outcome ← choice_at outcomes (is_outcome state.0) state.1
  undoable ← choice_at answers (is_undoable state.0) outcome.1
  reboot ← choice_at reboots (is_reboot state.0) undoable.1
  n ← number_at w8 (is_count state.0) reboot.1
  Ok (record { state = state.0; outcome = outcome.0; undoable = undoable.0; reboot = reboot.0; n = n.0 }, n.1)

-- a pair with a key above `last`
unfoldable pub pair_at : List ℕ → Rest → Result ((List ℕ × List ℕ) × Rest) ℕ
pair_at last r = do
  key ← text_at w16 (λ k. is_name k && is_below last k) r
  value ← text_at w16 is_value key.1
  Ok ((key.0, value.0), value.1)

-- so many items, each read with the key of the one before, the first with `last`
unfoldable pub items_at : {A : Type 0} → (A → List ℕ) → (List ℕ → Rest → Result (A × Rest) ℕ) → ℕ → List ℕ → Rest → Result (List A × Rest) ℕ
items_at key item zero last r = Ok ([], r)
items_at key item (suc n) last r = do
  first ← item last r
  others ← items_at key item n (key first.0) first.1
  Ok (first.0 ∷ others.0, others.1)

unfoldable pub map_at : Rest → Result (List (List ℕ × List ℕ) × Rest) ℕ
map_at r = do
  count ← number_at w16 any r
  items_at key_of pair_at count.0 [] count.1

-- a map with a right artifact_name; where it lacks one, its number of pairs is wrong
unfoldable pub named_map_at : Rest → Result (List (List ℕ × List ℕ) × Rest) ℕ
named_map_at r = do
  map ← map_at r
  if is_named map.0 then Ok map else Err r.at

-- the name of a script, above `last`
unfoldable pub script_at : List ℕ → Rest → Result (List ℕ × Rest) ℕ
script_at last r = text_at w8 (λ name. is_script name && is_below last name) r

unfoldable pub scripts_at : Rest → Result (List (List ℕ) × Rest) ℕ
scripts_at r = do
  count ← number_at w8 (λ n. nat_le n 64) r
  items_at itself script_at count.0 [] count.1

-- so many payload types
unfoldable pub kinds_at : ℕ → Rest → Result (List (List ℕ) × Rest) ℕ
kinds_at zero r = Ok ([], r)
kinds_at (suc n) r = do
  first ← text_at w8 is_kind r
  others ← kinds_at n first.1
  Ok (first.0 ∷ others.0, others.1)

-- the fields from offset 16 on, with the offset where they end
unfoldable pub body_at : Head → Rest → Result (Entry × Rest) ℕ
body_at head r = do
  before ← map_at r
  new ← named_map_at before.1
  kinds ← kinds_at head.count new.1
  scripts ← scripts_at kinds.1
  Ok (record { position = head.position; id = head.id; before = before.0; new = new.0; kinds = kinds.0; scripts = scripts.0 }, scripts.1)

-- a length that a record may have
abbrev pub is_length : ℕ → Bool
is_length n = nat_le 16 n && nat_le n LARGEST_RECORD

-- what lies before the record's end
abbrev pub within : ℕ → Rest → Rest
within end r = record { at = r.at; bytes = take (end - r.at) r.bytes }

-- the version, by the first four bytes
unfoldable pub version_at : Rest → Result (Version × Rest) ℕ
version_at r = if starts_with nat_eq r.bytes (codes "MUP1") then Ok (First, record { at = r.at + 4; bytes = drop 4 r.bytes }) else (literal_at (codes "MUP2") r >>= λ rest. Ok (Second, rest))

abbrev pub is_kind_count : ℕ → Bool
is_kind_count n = nat_le 1 n && nat_le n MOST_KINDS

-- how many payload types there are, and the deployment's number
unfoldable pub marks_at : Version → Rest → Result ((ℕ × ℕ) × Rest) ℕ
marks_at First r = literal_at (0 ∷ 0 ∷ 0 ∷ []) r >>= λ rest. Ok ((1, 0), rest)
marks_at Second r = do
  count ← number_at w8 is_kind_count r
  id ← number_at w16 any count.1
  Ok ((count.0, id.0), id.1)

-- the fields before the offset 16
unfoldable pub head_at : Rest → Result (Head × Rest) ℕ
head_at r = do
  version ← version_at r
  position ← position_at version.1
  marks ← marks_at version.0 position.1
  end ← number_at w32 is_length marks.1
  Ok (record { position = position.0; count = marks.0.0; id = marks.0.1; end = end.0 }, end.1)

-- all fields, the last of which ends at the record's length
unfoldable pub entry_at : Rest → Result Entry ℕ
entry_at r = do
  head ← head_at r
  entry ← body_at head.0 (within head.0.end head.1)
  if entry.1.at == head.0.end then Ok entry.0 else Err entry.1.at

-- the most bytes that a record has
unfoldable pub limit : ℕ
limit = LARGEST_RECORD

-- four zero bytes, or a record
unfoldable pub database : List ℕ → Result Db ℕ
database bytes = if starts_with nat_eq bytes (0 ∷ 0 ∷ 0 ∷ 0 ∷ []) then Ok Empty else (entry_at (record { at = 0; bytes = take limit bytes }) >>= λ e. Ok (Full e))

-- what a reader of a field returned, and left to read, is what reading gives
abbrev pub Reads : {X : Type 0} → Result X Wrong → Result (X × Rest) ℕ → Rest → Type 0
Reads (Ok x) read rest = read ≡ Ok (x, rest)
Reads (Err e) read rest = read ≡ Err e.at

-- the same, unless memory ran out
abbrev pub Fails : {A : Type 0} → DecodeFault → Result A ℕ → Type 0
Fails (NotARecord offset) read = read ≡ Err offset
Fails NoMemory read = Unit {0}

abbrev pub Builds : {X : Type 0} → Result X DecodeFault → Result (X × Rest) ℕ → Rest → Type 0
Builds (Ok x) read rest = read ≡ Ok (x, rest)
Builds (Err e) read rest = Fails e read

abbrev pub Gives : {X : Type 0} → Result X DecodeFault → Result X ℕ → Type 0
Gives (Ok x) read = read ≡ Ok x
Gives (Err e) read = Fails e read
