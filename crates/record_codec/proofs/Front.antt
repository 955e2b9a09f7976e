-- Where reading fails: never before the place where it began.
use Rattle.std.proofs.Common.{◌≡◌, ℕ, zero, suc, ◌+◌, ◌≤◌, Bool, true, false, cond, ltb, ◌&&◌, ◌||◌, List, [], ◌∷◌, length, take, drop, Option, Some, None, Result, Ok, Err, refl, ap, ◌∙◌, arith}
use Rattle.std.specs.Prelude.{slice_get, codes, nat_eq, IsFalse, ◌↔◌, ◌==◌, nat_le}
use Rattle.std.specs.Int.{Width, w8, w16, w32, byte_len, from_be_bytes}
use Rattle.std.specs.List.{starts_with}
use Rattle.std.proofs.lemmas.List.{take-take}
use lib.Pointwise.{pointwise}
use Rattle.upd_text.specs.Order.{is_below, itself}
use Rattle.provides_map.specs.Last.{key_of}
use Rattle.flow_table.specs.Valid.{is_outcome, is_undoable, is_reboot, is_count}
use Rattle.record_codec.specs.declared.entry.Entry.{Entry}
use Rattle.record_codec.specs.declared.entry.Db.{Db}
use Rattle.record_codec.specs.declared.entry.Db.TheVariants.{Empty, Full}
use Rattle.record_codec.specs.Keys.{is_name, is_value}
use Rattle.record_codec.specs.declared.entry.Version.{Version}
use Rattle.record_codec.specs.declared.entry.Version.TheVariants.{First, Second}
use Rattle.record_codec.specs.Spelling.{is_kind, is_script, is_named}
use Rattle.record_codec.specs.declared.reader.whole.Head.{Head}
use Rattle.record_codec.specs.Bytes.{states, outcomes, answers, reboots}
use Rattle.upd_text.specs.Results.{◌>>=◌}
use Rattle.record_codec.specs.Reading.{Rest, field, any, chosen, bytes_at, number_at, choice_at, literal_at, text_at, position_at, pair_at, items_at, map_at, named_map_at, kinds_at, script_at, scripts_at, version_at, marks_at, is_kind_count, body_at, head_at, entry_at, database, limit, within, is_length}
use Rattle.record_codec.proofs.Again.{limit_is}

-- what was read ends at or behind the start, and what is wrong stands there
abbrev pub Moves : {B : Type 0} → ℕ → (B → ℕ) → Result B ℕ → Type 0
Moves start stop (Ok x) = start ≤ stop x
Moves start stop (Err offset) = start ≤ offset

abbrev pub end_of : {A : Type 0} → A × Rest → ℕ
end_of x = let rest : Rest = x.1 in rest.at

further : {B : Type 0} (a b : ℕ) (stop : B → ℕ) (read : Result B ℕ) → a ≤ b → Moves b stop read → Moves a stop read
further a b stop (Ok x) le h = omega arith
further a b stop (Err offset) le h = omega arith

-- one reader behind another
next : {A B : Type 0} (start : ℕ) (stop : A → ℕ) (last : B → ℕ) (read : Result A ℕ) (f : A → Result B ℕ) → Moves start stop read → ((x : A) → start ≤ stop x → Moves start last (f x)) → Moves start last (read >>= f)
next start stop last (Ok x) f h k = k x h
next start stop last (Err offset) f h k = h

either : {B : Type 0} (start : ℕ) (stop : B → ℕ) (b : Bool) (x : B) (offset : ℕ) → start ≤ stop x → start ≤ offset → Moves start stop (cond b (Ok x) (Err offset))
either start stop true x offset h k = h
either start stop false x offset h k = k

bytes_move : (n : ℕ) (r : Rest) → Moves r.at end_of (bytes_at n r)
unfolding bytes_at
bytes_move n r = turned (ltb (length r.bytes) n)
  where
    turned : (b : Bool) → Moves {B = List ℕ × Rest} r.at end_of (cond b (Err r.at) (Ok (take n r.bytes, record { at = r.at + n; bytes = drop n r.bytes })))
    turned true = omega arith
    turned false = omega arith

number_moves : (w : Width) (right : ℕ → Bool) (r : Rest) → Moves r.at end_of (number_at w right r)
unfolding number_at
number_moves w right r = next r.at end_of end_of (bytes_at (byte_len w) r) _ (bytes_move (byte_len w) r) (λ digits le. either r.at end_of (right (from_be_bytes w digits.0)) (from_be_bytes w digits.0, digits.1) r.at le (omega arith))

chosen_moves : {A : Type 0} (right : A → Bool) (at : ℕ) (rest : Rest) (o : Option A) → at ≤ rest.at → Moves at end_of (chosen right at rest o)
chosen_moves right at rest None le = omega arith
chosen_moves right at rest (Some x) le = either at end_of (right x) (x, rest) at le (omega arith)

choice_moves : {A : Type 0} (all : List A) (right : A → Bool) (r : Rest) → Moves r.at end_of (choice_at all right r)
unfolding choice_at
choice_moves all right r = next r.at end_of end_of (number_at w8 any r) _ (number_moves w8 any r) (λ byte le. chosen_moves right r.at byte.1 (slice_get all byte.0) le)

field_moves : {A : Type 0} (r : Rest) (read : Result (A × Rest) ℕ) → Moves r.at end_of read → Moves r.at end_of (field r read)
field_moves r (Ok x) h = h
field_moves r (Err offset) h = omega arith

text_moves : (w : Width) (right : List ℕ → Bool) (r : Rest) → Moves r.at end_of (text_at w right r)
unfolding text_at
text_moves w right r = field_moves r _ (next r.at end_of end_of (number_at w any r) _ (number_moves w any r) (λ size le. next r.at end_of end_of (bytes_at size.0 size.1) _ (further r.at (end_of size) end_of _ le (bytes_move size.0 size.1)) (λ text le2. either r.at end_of (right text.0) text r.at le2 (omega arith))))

literal_moves : (text : List ℕ) (r : Rest) → Moves r.at (λ (s : Rest). s.at) (literal_at text r)
unfolding literal_at
literal_moves text r = either r.at (λ (s : Rest). s.at) (starts_with nat_eq r.bytes text) (record { at = r.at + length text; bytes = drop (length text) r.bytes }) r.at (omega arith) (omega arith)

-- a chain: each reader begins where the one before ended
module _ (start : ℕ) where
  step : {A B : Type 0} (m : Rest) (last : B → ℕ) (read : Result (A × Rest) ℕ) (f : A × Rest → Result B ℕ) → start ≤ m.at → Moves m.at end_of read → ((x : A × Rest) → start ≤ end_of x → Moves start last (f x)) → Moves start last (read >>= f)
  step m last read f le h k = next start end_of last read f (further start m.at end_of read le h) k

position_moves : (r : Rest) → Moves r.at end_of (position_at r)
unfolding position_at
position_moves r =
    step r.at r end_of (choice_at states any r) _ (omega arith) (choice_moves states any r) (λ state le1.
    step r.at state.1 end_of (choice_at outcomes (is_outcome state.0) state.1) _ le1 (choice_moves outcomes (is_outcome state.0) state.1) (λ outcome le2.
    step r.at outcome.1 end_of (choice_at answers (is_undoable state.0) outcome.1) _ le2 (choice_moves answers (is_undoable state.0) outcome.1) (λ undoable le3.
    step r.at undoable.1 end_of (choice_at reboots (is_reboot state.0) undoable.1) _ le3 (choice_moves reboots (is_reboot state.0) undoable.1) (λ reboot le4.
    step r.at reboot.1 end_of (number_at w8 (is_count state.0) reboot.1) _ le4 (number_moves w8 (is_count state.0) reboot.1) (λ n le5. le5)))))

pair_moves : (last : List ℕ) (r : Rest) → Moves r.at end_of (pair_at last r)
unfolding pair_at
pair_moves last r =
    step r.at r end_of (text_at w16 (λ k. is_name k && is_below last k) r) _ (omega arith) (text_moves w16 (λ k. is_name k && is_below last k) r) (λ key le1.
    step r.at key.1 end_of (text_at w16 is_value key.1) _ le1 (text_moves w16 is_value key.1) (λ value le2. le2))

script_moves : (last : List ℕ) (r : Rest) → Moves r.at end_of (script_at last r)
unfolding script_at
script_moves last r = text_moves w8 (λ name. is_script name && is_below last name) r

module _ {A : Type 0} (key : A → List ℕ) (item : List ℕ → Rest → Result (A × Rest) ℕ) (one : (last : List ℕ) (r : Rest) → Moves r.at end_of (item last r)) where
  items_move : (n : ℕ) (last : List ℕ) (r : Rest) → Moves r.at end_of (items_at key item n last r)
  unfolding items_at
  items_move zero last r = omega arith
  items_move (suc n) last r =
      step r.at r end_of (item last r) _ (omega arith) (one last r) (λ first le1.
      step r.at first.1 end_of (items_at key item n (key first.0) first.1) _ le1 (items_move n (key first.0) first.1) (λ others le2. le2))

map_moves : (r : Rest) → Moves r.at end_of (map_at r)
unfolding map_at
map_moves r = step r.at r end_of (number_at w16 any r) _ (omega arith) (number_moves w16 any r) (λ count le. further r.at (end_of count) end_of _ le (items_move key_of pair_at pair_moves count.0 [] count.1))

named_map_moves : (r : Rest) → Moves r.at end_of (named_map_at r)
unfolding named_map_at
named_map_moves r = step r.at r end_of (map_at r) _ (omega arith) (map_moves r) (λ map le. either r.at end_of (is_named map.0) map r.at le (omega arith))

scripts_move : (r : Rest) → Moves r.at end_of (scripts_at r)
unfolding scripts_at
scripts_move r = step r.at r end_of (number_at w8 (λ n. nat_le n 64) r) _ (omega arith) (number_moves w8 (λ n. nat_le n 64) r) (λ count le. further r.at (end_of count) end_of _ le (items_move itself script_at script_moves count.0 [] count.1))

kinds_move : (n : ℕ) (r : Rest) → Moves r.at end_of (kinds_at n r)
unfolding kinds_at
kinds_move zero r = omega arith
kinds_move (suc n) r =
    step r.at r end_of (text_at w8 is_kind r) _ (omega arith) (text_moves w8 is_kind r) (λ first le1.
    step r.at first.1 end_of (kinds_at n first.1) _ le1 (kinds_move n first.1) (λ others le2. le2))

body_moves : (h : Head) (r : Rest) → Moves r.at end_of (body_at h r)
unfolding body_at
body_moves h r =
    step r.at r end_of (map_at r) _ (omega arith) (map_moves r) (λ before le1.
    step r.at before.1 end_of (named_map_at before.1) _ le1 (named_map_moves before.1) (λ new le2.
    step r.at new.1 end_of (kinds_at h.count new.1) _ le2 (kinds_move h.count new.1) (λ kinds le3.
    step r.at kinds.1 end_of (scripts_at kinds.1) _ le3 (scripts_move kinds.1) (λ scripts le4. le4))))

abbrev place : Rest → ℕ
place s = s.at

-- the bytes begin as a record of this version does
abbrev begins_as : List ℕ → Bool
begins_as bytes = starts_with nat_eq bytes (codes "MUP1") || starts_with nat_eq bytes (codes "MUP2")

-- what is read behind the first four bytes
record VersionRead (r : Rest) : Type 0 where
  version : Version
  rest : Rest
  read : version_at r ≡ Ok (version, rest)
  at : rest.at ≡ r.at + 4

version_read : (r : Rest) → begins_as r.bytes ≡ true → VersionRead r
unfolding version_at literal_at
version_read r is = by_both (starts_with nat_eq r.bytes (codes "MUP1")) (starts_with nat_eq r.bytes (codes "MUP2")) refl refl is
  where
    behind : Rest
    behind = record { at = r.at + 4; bytes = drop 4 r.bytes }

    by_both : (b c : Bool) → starts_with nat_eq r.bytes (codes "MUP1") ≡ b → starts_with nat_eq r.bytes (codes "MUP2") ≡ c → (b || c) ≡ true → VersionRead r
    by_both true c one two either = record { version = First; rest = behind; read = rw one refl; at = refl }
    by_both false true one two either = record { version = Second; rest = behind; read = rw (one, two) refl; at = refl }
    by_both false false one two either = absurd cc

version_stops : (r : Rest) → begins_as r.bytes ≡ false → version_at r ≡ Err r.at
unfolding version_at literal_at
version_stops r is = by_both (starts_with nat_eq r.bytes (codes "MUP1")) (starts_with nat_eq r.bytes (codes "MUP2")) refl refl is
  where
    by_both : (b c : Bool) → starts_with nat_eq r.bytes (codes "MUP1") ≡ b → starts_with nat_eq r.bytes (codes "MUP2") ≡ c → (b || c) ≡ false → version_at r ≡ Err r.at
    by_both true c one two neither = absurd cc
    by_both false true one two neither = absurd cc
    by_both false false one two neither = rw (one, two) refl

marks_move : (v : Version) (r : Rest) → Moves r.at end_of (marks_at v r)
unfolding marks_at
marks_move First r = next r.at place end_of (literal_at (0 ∷ 0 ∷ 0 ∷ []) r) _ (literal_moves (0 ∷ 0 ∷ 0 ∷ []) r) (λ rest le. le)
marks_move Second r =
    step r.at r end_of (number_at w8 is_kind_count r) _ (omega arith) (number_moves w8 is_kind_count r) (λ count le1.
    step r.at count.1 end_of (number_at w16 any count.1) _ le1 (number_moves w16 any count.1) (λ id le2. le2))

-- behind the first four bytes nothing fails before offset 4
head_moves : (r : Rest) → begins_as r.bytes ≡ true → Moves (r.at + 4) end_of (head_at r)
unfolding head_at
head_moves r is =
    let v = version_read r is in
    let m : Rest = v.rest in
    rw v.read (step (r.at + 4) m end_of (position_at m) _ (omega (arith, v.at)) (position_moves m) (λ position le1.
    step (r.at + 4) position.1 end_of (marks_at v.version position.1) _ le1 (marks_move v.version position.1) (λ marks le2.
    step (r.at + 4) marks.1 end_of (number_at w32 is_length marks.1) _ le2 (number_moves w32 is_length marks.1) (λ end le3. le3))))

entry_moves : (start : ℕ) (r : Rest) → Moves start end_of (head_at r) → Moves start (λ (e : Entry). start) (entry_at r)
unfolding entry_at
entry_moves start r h =
    next start end_of (λ (e : Entry). start) (head_at r) _ h (λ head le1.
    step start (within head.0.end head.1) (λ (e : Entry). start) (body_at head.0 (within head.0.end head.1)) _ le1 (body_moves head.0 (within head.0.end head.1)) (λ entry le2.
    either start (λ (e : Entry). start) (entry.1.at == head.0.end) entry.0 entry.1.at (omega arith) le2))

-- without them the fault stands at the start
entry_stops : (r : Rest) → begins_as r.bytes ≡ false → entry_at r ≡ Err r.at
unfolding entry_at head_at
entry_stops r is = rw (version_stops r is) refl

unwrapped : (zeros : Bool) (read : Result Entry ℕ) (offset : ℕ) (all : Result Db ℕ) → all ≡ Err offset → all ≡ cond zeros (Ok Empty) (read >>= λ e. Ok (Full e)) → read ≡ Err offset
unwrapped true read offset all is same = absurd cc
unwrapped false (Ok e) offset all is same = absurd cc
unwrapped false (Err x) offset all is same = let e : x ≡ offset = cc in ap (λ (o : ℕ). Err o) e

-- what a database is read from
abbrev whole : List ℕ → Rest
whole bytes = record { at = 0; bytes = take limit bytes }

entry_fails : (bytes : List ℕ) (offset : ℕ) → database bytes ≡ Err offset → entry_at (whole bytes) ≡ Err offset
unfolding database
entry_fails bytes offset is = unwrapped (starts_with nat_eq bytes (0 ∷ 0 ∷ 0 ∷ 0 ∷ [])) (entry_at (whole bytes)) offset (database bytes) is refl

begins : (bytes : List ℕ) → begins_as (take limit bytes) ≡ begins_as bytes
begins bytes = let few : 4 ≤ limit = omega (arith, limit_is) in let e : take 4 (take limit bytes) ≡ take 4 bytes = take-take 4 limit bytes few in ap (λ (t : List ℕ). pointwise nat_eq (codes "MUP1") t || pointwise nat_eq (codes "MUP2") t) e

not_before : (start offset : ℕ) (read : Result Entry ℕ) → read ≡ Err offset → Moves start (λ (e : Entry). start) read → start ≤ offset
not_before start offset (Ok e) is h = absurd cc
not_before start offset (Err x) is h = let e : x ≡ offset = cc in omega arith

pub later : (bytes : List ℕ) (offset : ℕ) → database bytes ≡ Err offset → begins_as bytes ≡ true → 4 ≤ offset
later bytes offset is front = not_before 4 offset (entry_at (whole bytes)) (entry_fails bytes offset is) (entry_moves 4 (whole bytes) (head_moves (whole bytes) (begins bytes ∙ front)))

at_start : (bytes : List ℕ) (offset : ℕ) → database bytes ≡ Err offset → begins_as bytes ≡ false → offset ≡ 0
at_start bytes offset is front = let e = entry_fails bytes offset is in let f = entry_stops (whole bytes) (begins bytes ∙ front) in cc

not_true : (b : Bool) → (b ≡ true → ⊥) → b ≡ false
not_true true h = absurd (h refl)
not_true false h = refl

pub zero_at_front : (bytes : List ℕ) (offset : ℕ) → database bytes ≡ Err offset → (offset ≡ 0) ↔ IsFalse (begins_as bytes)
zero_at_front bytes offset is = (λ none. not_true (begins_as bytes) (λ front. absurd (let k = later bytes offset is front in omega arith)), at_start bytes offset is)
