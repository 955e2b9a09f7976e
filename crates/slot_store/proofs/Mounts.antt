-- What is read of an area, and what then may stand.
use Rattle.std.proofs.Common.{◌≡◌, ℕ, ◌+◌, ◌%◌, false, List, [], ◌++◌, length, take, drop, get_or, refl, sym, ap, subst, ◌∙◌, arith, ◌-◌, ⊎_elim}
use Rattle.std.specs.Prelude.{Bool, true, All, IsTrue, IsFalse, Option, Some, None, option_map, IfSome, Result, Ok, Err, MatchBool, ⊤}
use Rattle.flow_table.specs.declared.position.Position.{Position}
use Rattle.record_codec.specs.declared.entry.Entry.{Entry}
use Rattle.record_codec.specs.declared.entry.Db.{Db}
use Rattle.record_codec.specs.declared.entry.Db.TheVariants.{Empty, Full}
use Rattle.upd_text.specs.Results.{◌>>=◌}
use Rattle.record_codec.specs.Reading.{database}
use Rattle.record_codec.specs.Spelling.{IsFound, IfFull}
use Rattle.record_codec.specs.Cells.{cell, IsCell}
use Rattle.std.proofs.lemmas.List.{take_at, drop_all}
use Rattle.device_model.specs.declared.calls.Event.{Event}
use Rattle.device_model.specs.Work.{Work}
use Rattle.device_model.specs.How.{How, Through, Waited, SameArea}
use Rattle.device_model.proofs.Passes.{passed-then}
use Rattle.slot_store.specs.Put.{IsFull, Wrote, IsPut}
use Rattle.slot_store.specs.Written.{Keeps, IsPastRecord, HasPut, IsMigrated, put_first, size_of}
use Rattle.device_model.specs.Disk.{AddsNothing, Disk, IsByte, MayHold, IsSettled, IsWhole, area_of, synced}
use Rattle.device_model.specs.State.{State, after_sync}
use Rattle.slot_store.specs.declared.reading.Found.{Found}
use Rattle.slot_store.specs.Slots.{slot_start, slot_size, cells_start, cell_offset, cell_size, picked_slot, cell_selector, picked_cell, placed, said, stood, May, Sound, IsAt, OldOrNew}
use Rattle.slot_store.specs.Kept.{Kept, IsOf, IsStorable, HasRecord}
use Rattle.slot_store.specs.Mount.{IsFoundIn, IsSynced, IsRead, IsLooked, IsMounted, IsBad, AddsNoDb, IsOldRead, is_old}
use Rattle.slot_store.proofs.Disks.{settled-synced, at-area, none-stands}
use Rattle.slot_store.proofs.Puts.{storable-moved, of-settled}

-- ---- a sync and four reads

is_slot : (a : List ℕ) (start : ℕ) → start ≡ slot_start (get_or a 0 0) → take 131072 (drop start a) ≡ picked_slot a
unfolding picked_slot slot_size
is_slot a start is = ap (λ (n : ℕ). take 131072 (drop n a)) is

selects : (a : List ℕ) (select behind : ℕ) → behind ≡ cells_start (get_or a 0 0) → select ≡ get_or a behind 0 → select ≡ cell_selector a
unfolding cell_selector
selects a select behind is read = read ∙ ap (λ (n : ℕ). get_or a n 0) is

is_cell : (a : List ℕ) (behind offset : ℕ) → behind ≡ cells_start (get_or a 0 0) → offset ≡ cell_offset (cell_selector a) → take 64 (drop (behind + offset) a) ≡ picked_cell a
unfolding picked_cell cell_size
is_cell a behind offset is offset_is = ap (λ (n : ℕ). take 64 (drop (n + offset) a)) is ∙ ap (λ (n : ℕ). take 64 (drop (cells_start (get_or a 0 0) + n) a)) offset_is

module _ (disk : Option Disk) (selector cell_select start behind offset : ℕ) (slot bytes : List ℕ)
    (slot_size_is : length slot ≡ 131072) (cell_size_is : length bytes ≡ 64)
    (start_is : start ≡ slot_start selector) (behind_is : behind ≡ cells_start selector) (offset_is : offset ≡ cell_offset cell_select) where
  pub found-in : IfSome disk (λ d. selector ≡ get_or d.area 0 0) → IfSome disk (λ d. slot ≡ take (length slot) (drop start d.area))
      → IfSome disk (λ d. cell_select ≡ get_or d.area behind 0) → IfSome disk (λ d. bytes ≡ take (length bytes) (drop (behind + offset) d.area))
      → IfSome (area_of disk) (λ a. IsFoundIn a slot (record { picked = selector % 2; cell_picked = cell_select % 2; cell = bytes }))
  found-in = by_disk disk
    where
      there : (a : List ℕ) → selector ≡ get_or a 0 0 → slot ≡ take (length slot) (drop start a) → cell_select ≡ get_or a behind 0 → bytes ≡ take (length bytes) (drop (behind + offset) a)
          → IsFoundIn a slot (record { picked = selector % 2; cell_picked = cell_select % 2; cell = bytes })
      there a first slot_read second cell_read =
          let cells_at : behind ≡ cells_start (get_or a 0 0) = behind_is ∙ ap cells_start first in
          let select_is : cell_select ≡ cell_selector a = selects a cell_select behind cells_at second in
          record {
            bytes = slot_read ∙ ap (λ (n : ℕ). take n (drop start a)) slot_size_is ∙ is_slot a start (start_is ∙ ap slot_start first);
            cell = cell_read ∙ ap (λ (n : ℕ). take n (drop (behind + offset) a)) cell_size_is ∙ is_cell a behind offset cells_at (offset_is ∙ ap cell_offset select_is);
            picked = ap (λ (n : ℕ). n % 2) (sym first);
            cell_picked = ap (λ (n : ℕ). n % 2) (sym select_is);
          }

      by_disk : (d : Option Disk) → IfSome d (λ d. selector ≡ get_or d.area 0 0) → IfSome d (λ d. slot ≡ take (length slot) (drop start d.area))
          → IfSome d (λ d. cell_select ≡ get_or d.area behind 0) → IfSome d (λ d. bytes ≡ take (length bytes) (drop (behind + offset) d.area))
          → IfSome (area_of d) (λ a. IsFoundIn a slot (record { picked = selector % 2; cell_picked = cell_select % 2; cell = bytes }))
      by_disk None first slot_read second cell_read = tt
      by_disk (Some d) first slot_read second cell_read = there d.area first slot_read second cell_read

area-synced : (disk : Option Disk) → area_of (option_map synced disk) ≡ area_of disk
area-synced None = refl
area-synced (Some d) = refl

-- nothing changed but that all is synced
pub is-synced : (old once new : State) → once ≡ after_sync old → new ≡ once → IsSynced old new
is-synced old once new done same =
    let disk : new.disk ≡ option_map synced old.disk = ap (λ (s : State). s.disk) (same ∙ done) in
    record {
      area = ap area_of disk ∙ area-synced old.disk;
      settled = subst IsSettled (sym disk) (settled-synced old.disk);
      room = ap (λ (s : State). s.room) (same ∙ done);
    }

-- the state stays through the reads
pub read-is : (old once s1 s2 s3 new : State) (slot : List ℕ) (found : Found) → once ≡ after_sync old → s1 ≡ once → s2 ≡ s1 → s3 ≡ s2 → new ≡ s3
    → IfSome (area_of new.disk) (λ a. IsFoundIn a slot found) → IsRead slot found old new
read-is old once s1 s2 s3 new slot found done a b c d bytes = record { synced = is-synced old once new done (d ∙ c ∙ b ∙ a); bytes = bytes }

-- what was read of a disk is so of another that is the same
pub moved-on : (P : Disk → Type 0) (old new : State) → new ≡ old → IfSome old.disk P → IfSome new.disk P
moved-on P old new same h = subst (λ (s : State). IfSome s.disk P) (sym same) h

-- ---- what was found

-- what a slot and a cell that were read say is what the area stands for
pub stood-found : (old new : State) (slot : List ℕ) (found : Found) (r : Result Db ℕ) → IsRead slot found old new → said slot found.cell ≡ r
    → IfSome (area_of new.disk) (λ a. stood a ≡ r) × IfSome (area_of old.disk) (λ a. stood a ≡ r)
stood-found old new slot found r read is =
    let now : IfSome (area_of new.disk) (λ a. stood a ≡ r) = by_area (area_of new.disk) read.bytes in
    (now, subst (λ (x : Option (List ℕ)). IfSome x (λ a. stood a ≡ r)) read.synced.area now)
  where
    by_area : (area : Option (List ℕ)) → IfSome area (λ a. IsFoundIn a slot found) → IfSome area (λ a. stood a ≡ r)
    by_area None h = tt
    by_area (Some a) h = ap (λ (s : List ℕ). said s (picked_cell a)) (sym h.bytes) ∙ ap (λ (c : List ℕ). said slot c) (sym h.cell) ∙ is

-- the record that was read is one of the entry at its cell's position
has-record : (db db' : Db) (area slot : List ℕ) (found : Found) → IsFoundIn area slot found → database slot ≡ Ok db → placed db (cell found.cell) ≡ Ok db' → HasRecord db' found.cell_picked area
has-record Empty db' area slot found h read is = empty db' (answer is)
  where
    answer : (let x : Result Db ℕ = Ok Empty in x ≡ Ok db') → Empty ≡ db'
    answer e = cc

    empty : (d : Db) → Empty ≡ d → HasRecord d found.cell_picked area
    empty d e = subst (λ (x : Db). HasRecord x found.cell_picked area) e (ap database (sym h.bytes) ∙ read)
has-record (Full e) db' area slot found h read is = by_cell (cell found.cell) is
  where
    there : database (picked_slot area) ≡ Ok (Full e)
    there = ap database (sym h.bytes) ∙ read

    by_cell : (c : Result (Option Position) ℕ) → placed (Full e) c ≡ Ok db' → HasRecord db' found.cell_picked area
    by_cell (Ok None) p = let same : Full e ≡ db' = cc in subst (λ (x : Db). HasRecord x found.cell_picked area) same ((e.position, there), h.cell_picked)
    by_cell (Ok (Some q)) p = let same : Full (record e { position = q }) ≡ db' = cc in subst (λ (x : Db). HasRecord x found.cell_picked area) same ((e.position, there), h.cell_picked)
    by_cell (Err offset) p = absurd cc

pub mounted : (old new : State) (slot : List ℕ) (found : Found) (db : Db) (store : Kept) → IsRead slot found old new → IsWhole 266240 new.disk → database slot ≡ Ok db → placed db (cell found.cell) ≡ Ok store.db
    → store.picked ≡ found.picked → store.cell ≡ found.cell_picked → store.loaded ≡ false → IsLooked store old new
mounted old new slot found db store read whole decoded is picked cell_picked put =
    let both = stood-found old new slot found (Ok store.db) read (ap (λ (r : Result Db ℕ). r >>= λ d. placed d (cell found.cell)) decoded ∙ is) in
    record {
      synced = read.synced;
      stands = both.1;
      holds = both.0;
      is_at = at-area 266240 new.disk store.db whole read.synced.settled both.0;
      is_of = of new.disk read.synced.settled read.bytes;
      put = put;
    }
  where
    there : (area : List ℕ) → IsFoundIn area slot found → MatchBool store.loaded ⊤ (HasRecord store.db store.cell area)
    there area h =
        let one : HasRecord store.db store.cell area = subst (λ (n : ℕ). HasRecord store.db n area) (sym cell_picked) (has-record db store.db area slot found h decoded is) in
        subst (λ (b : Bool). MatchBool b ⊤ (HasRecord store.db store.cell area)) (sym put) one

    of : (disk : Option Disk) → IsSettled disk → IfSome (area_of disk) (λ a. IsFoundIn a slot found) → IsOf store disk
    of None settled h = tt
    of (Some d) settled h = record { picked = record { settled = settled; parity = h.picked ∙ sym picked }; record_there = there d.area h }

-- a slot or a cell that is none
pub bad : (old new : State) (slot : List ℕ) (found : Found) (offset : ℕ) → IsRead slot found old new → said slot found.cell ≡ Err offset → IsBad offset old new
bad old new slot found offset read is =
    let both = stood-found old new slot found (Err offset) read is in
    record { synced = read.synced; fault = both.1; none = none-stands new.disk offset read.synced.settled both.0 }

pub bad-slot : (slot bytes : List ℕ) (offset : ℕ) → database slot ≡ Err offset → said slot bytes ≡ Err offset
bad-slot slot bytes offset is = ap (λ (r : Result Db ℕ). r >>= λ d. placed d (cell bytes)) is

pub bad-cell : (slot bytes : List ℕ) (db : Db) (offset : ℕ) → database slot ≡ Ok db → placed db (cell bytes) ≡ Err offset → said slot bytes ≡ Err offset
bad-cell slot bytes db offset read is = ap (λ (r : Result Db ℕ). r >>= λ d. placed d (cell bytes)) read ∙ is

-- ---- the entry that a store takes over

-- an entry that was read is one that a slot can take
pub found-storable : (db : Db) (bytes : List ℕ) → IfFull (IsFound bytes) db → IfFull IsStorable db
found-storable Empty bytes found = tt
found-storable (Full e) bytes found = record { right = found.right; fits = found.fits }

-- and so it is at the position of a cell
pub placed-storable : (e : Entry) (p : Position) (bytes : List ℕ) → IsStorable e → IsCell bytes p → IsStorable (record e { position = p })
placed-storable e p bytes s c = storable-moved p (Full e) c.valid s

-- what a Vec holds after a call that was lent its slice
pub lent : (items after : List ℕ) (len : ℕ) → len ≡ length items → length after ≡ length items → take len (after ++ drop (length after) items) ≡ after
lent items after len long size = ap (λ (l : List ℕ). take len (after ++ l)) (drop_all (length after) items (omega arith)) ∙ take_at after [] len (omega arith)

-- ---- a migration

-- what adds nothing lets nothing new stand
pub may-adds : (old new : Option Disk) (db : Db) → AddsNothing old new → May new db → May old db
may-adds old new db adds may = record { area = may.area; held = adds may.area may.held; stands = may.stands }

-- a stretch that wrote nothing
pub waited-no-db : (how : How) (old new : State) → Waited how old new → AddsNoDb old.disk new.disk
waited-no-db how old new w = record {
  may = λ db m. may-adds old.disk new.disk db w.adds m;
  sound = λ s a h. s a (w.adds a h);
}

held-bytes : (disk : Option Disk) (area : List ℕ) → MayHold disk area → All IsByte area
held-bytes None area h = h
held-bytes (Some d) area h = h.bytes

-- a put of what stands already: nothing new may stand
module _ (store : Kept) (old mid new : State) (w : Waited Through old mid) (looked : IsLooked store old mid)
    (any : OldOrNew store.db mid.disk new.disk) (sound : Sound mid.disk → Sound new.disk) where
  same-db : (disk : Option Disk) → IsAt store.db disk → OldOrNew store.db disk new.disk → (db : Db) → May new.disk db → May disk db
  same-db None at any db m = record { area = m.area; held = held-bytes new.disk m.area m.held; stands = m.stands }
  same-db (Some d) at any db m = ⊎_elim (λ (k : May (Some d) db). k) (λ (is : db ≡ store.db). subst (λ (x : Db). May (Some d) x) (sym is) (at.stands tt)) (any db m)

  pub migrated : AddsNoDb old.disk new.disk
  migrated =
      let first = waited-no-db Through old mid w in
      record { may = λ db m. first.may db (same-db mid.disk looked.is_at any db m); sound = λ s. sound (first.sound s) }

  -- and one that is done
  module _ (after : Kept) (there : Bool) (is_there : IsTrue there) (was : IsOldRead there store old mid) (put : IsPut store.db after mid new) (version : IfSome new.disk (λ d. IsFalse (is_old (picked_slot d.area))))
      (written : IfSome new.disk (λ d. HasPut true after d.area)) (kept : after ≡ put_first store) (spares : IfSome mid.disk (λ d. Keeps (IsPastRecord (1 - store.picked) (size_of store.db)) d.area new.disk)) where
    pub migration : IsMounted after old new
    migration = record {
      settled = of-settled after new.disk put.is_of;
      room = put.room ∙ looked.synced.room;
      area = unless old.disk was.slot;
      version = λ full. version;
      migrated = always old.disk (record { written = written; spares = as-before old.disk mid.disk (sym looked.synced.area) (subst (λ (k : Kept). IfSome mid.disk (λ d. Keeps (IsPastRecord k.picked (size_of k.db)) d.area new.disk)) (sym kept) spares) });
      stands = subst (λ (x : Db). IfSome (area_of old.disk) (λ a. stood a ≡ Ok x)) (sym put.db) looked.stands;
      holds = put.stands;
      is_at = put.is_at;
      is_of = put.is_of;
      put = put.put;
    }
      where
        always : (disk : Option Disk) → IsMigrated after old.disk new.disk → IfSome disk (λ d. IsTrue (is_old (picked_slot d.area)) → IsFull after.db → IsMigrated after old.disk new.disk)
        always None m = tt
        always (Some d) m = λ is full. m

        as-before : (was now : Option Disk) → area_of was ≡ area_of now → IfSome now (λ d. Keeps (IsPastRecord after.picked (size_of after.db)) d.area new.disk) → IfSome was (λ d. Keeps (IsPastRecord after.picked (size_of after.db)) d.area new.disk)
        as-before None now is h = tt
        as-before (Some o) None is h = absurd cc
        as-before (Some o) (Some n) is h = let e : o.area ≡ n.area = cc in subst (λ (a : List ℕ). Keeps (IsPastRecord after.picked (size_of after.db)) a new.disk) (sym e) h

        never : (b : Bool) → IsTrue b → IsFalse b → ⊥
        never true t f = absurd cc
        never false t f = absurd cc

        unless : (disk : Option Disk) → IfSome disk (λ d. IsTrue there → IsTrue (is_old (picked_slot d.area))) → IfSome disk (λ d. IsFalse (is_old (picked_slot d.area)) → SameArea old new)
        unless None h = tt
        unless (Some d) h = λ f. absurd (never (is_old (picked_slot d.area)) (h is_there) f)

-- a mount that needs none
pub stays : (store : Kept) (there : Bool) (old new : State) → IsFalse there → IsLooked store old new → IsOldRead there store old new → IsMounted store old new
stays store there old new never l was = record {
  settled = l.synced.settled;
  room = l.synced.room;
  area = same old.disk;
  version = λ full. newer new.disk (was.only full);
  migrated = no-record old.disk (λ full. subst (λ (x : Option (List ℕ)). IfSome x (λ a. IsTrue (is_old (picked_slot a)) → IsTrue there)) l.synced.area (was.only full));
  stands = l.stands;
  holds = l.holds;
  is_at = l.is_at;
  is_of = l.is_of;
  put = l.put;
}
  where
    not-both : (b : Bool) → IsTrue b → IsFalse b → ⊥
    not-both true t f = absurd cc
    not-both false t f = absurd cc

    no-record : (disk : Option Disk) → (IsFull store.db → IfSome (area_of disk) (λ a. IsTrue (is_old (picked_slot a)) → IsTrue there)) → IfSome disk (λ d. IsTrue (is_old (picked_slot d.area)) → IsFull store.db → IsMigrated store old.disk new.disk)
    no-record None h = tt
    no-record (Some d) h = λ is full. absurd (not-both there (h full is) never)

    no-more : (b : Bool) → (IsTrue b → IsTrue there) → IsFalse b
    no-more true h = let t : true ≡ there = sym (h refl) in absurd cc
    no-more false h = refl

    newer : (disk : Option Disk) → IfSome (area_of disk) (λ a. IsTrue (is_old (picked_slot a)) → IsTrue there) → IfSome disk (λ d. IsFalse (is_old (picked_slot d.area)))
    newer None h = tt
    newer (Some d) h = no-more (is_old (picked_slot d.area)) h

    same : (disk : Option Disk) → IfSome disk (λ d. IsFalse (is_old (picked_slot d.area)) → SameArea old new)
    same None = tt
    same (Some d) = λ f. l.synced.area

pub waited-wrote : (how : How) (old new : State) → Waited how old new → Wrote how old new
waited-wrote how old new w = record { passed = w.passed; told = w.told }

-- two stretches, of which the first went through
pub wrote-then : (how : How) (old mid new : State) → Waited Through old mid → Wrote how mid new → Wrote how old new
wrote-then how old mid new a b = record {
  passed = passed-then [] [] how old mid new a.passed b.passed;
  told = λ t. b.told (a.told t);
}

-- what was read, by the area that the disk told before
pub old-slot : (old new : State) (slot : List ℕ) (found : Found) (there : Bool) → IsRead slot found old new → (IsTrue there → IsTrue (is_old slot)) → IfSome old.disk (λ d. IsTrue there → IsTrue (is_old (picked_slot d.area)))
old-slot old new slot found there read is = by_disk old.disk (subst (λ (x : Option (List ℕ)). IfSome x (λ a. IsFoundIn a slot found)) read.synced.area read.bytes)
  where
    by_disk : (disk : Option Disk) → IfSome (area_of disk) (λ a. IsFoundIn a slot found) → IfSome disk (λ d. IsTrue there → IsTrue (is_old (picked_slot d.area)))
    by_disk None h = tt
    by_disk (Some d) h = λ t. subst (λ (l : List ℕ). IsTrue (is_old l)) h.bytes (is t)

pub old-only : (old new : State) (slot : List ℕ) (found : Found) (there : Bool) → IsRead slot found old new → (IsTrue (is_old slot) → IsTrue there) → IfSome (area_of new.disk) (λ a. IsTrue (is_old (picked_slot a)) → IsTrue there)
old-only old new slot found there read is = by_area (area_of new.disk) read.bytes
  where
    by_area : (area : Option (List ℕ)) → IfSome area (λ a. IsFoundIn a slot found) → IfSome area (λ a. IsTrue (is_old (picked_slot a)) → IsTrue there)
    by_area None h = tt
    by_area (Some a) h = λ t. is (subst (λ (l : List ℕ). IsTrue (is_old l)) (sym h.bytes) t)
