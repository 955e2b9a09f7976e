-- What each step of writing a cell leaves.
use Rattle.std.proofs.Common.{◌≡◌, ◌⊎◌, inl, inr, ⊎_elim, ℕ, ◌+◌, ◌-◌, ◌%◌, ◌<◌, ◌≤◌, List, [], ◌∷◌, length, get_or, take, drop, refl, sym, ◌∙◌, ap, subst, IsTrue, arith}
use Rattle.std.specs.Prelude.{Option, Some, None, option_map, Ok, IfSome}
use Rattle.std.proofs.lemmas.Bool.{cases_lt}
use Rattle.std.proofs.lemmas.List.{take_all}
use Rattle.flow_table.specs.declared.position.Position.{Position}
use Rattle.record_codec.specs.declared.entry.Entry.{Entry}
use Rattle.record_codec.specs.declared.entry.Db.TheVariants.{Full}
use Rattle.record_codec.specs.Reading.{database}
use Rattle.record_codec.specs.Cells.{cell, cell_of}
use Rattle.record_codec.proofs.Cells.{cell_len, cell_again}
use Rattle.flow_table.specs.Valid.{is_valid}
use Rattle.device_model.specs.Disk.{Disk, IsApart, IsRefilled, MayHold, ChangesOnly, IsSynced, IsTold, IsWhole, marked, unmarked, overwritten, written, synced}
use Rattle.device_model.specs.State.{State, after_write, after_sync}
use Rattle.device_model.proofs.Refilled.{refilled_none, refilled_self, unmarked_synced, overwritten_inside}
use Rattle.slot_store.specs.Slots.{cells_start, cell_offset, picked_slot, said, stood}
use Rattle.slot_store.specs.Kept.{HasRecord, IsPicked}
use Rattle.slot_store.specs.Put.{StandsAs, Turns, Holds, IsCellPicked, KeepsSlots}
use Rattle.slot_store.proofs.Areas.{cells, cell_place, cells-of, offset-of, place, slot_at, cell_at, SameBut, Apart, Looks, Unseen, slot-is, looks-cell, stood-is, refilled_same, overwritten_same, part_stays, part_is, said-stays, said-position}
use Rattle.slot_store.specs.Written.{Keeps, IsPastCell, HasCell}
use Rattle.slot_store.proofs.Spared.{keeps-but, but-less, but-then, changes-but}
use Rattle.slot_store.proofs.Disks.{settled-synced, looks-picked, unseen-same, keeps-slots, changes-slots, slots-then}

module _ (p q r : ℕ) (swap : q + r ≡ 1) (bytes : List ℕ) (size : length bytes ≡ 64) (here : ℕ) (here_is : here ≡ cell_place p r) (at : ℕ) (at_is : at ≡ cells p) (p_le : p ≤ 1) where
  -- the other cell is none that is picked
  other-cell : Apart (cell_place p q) 64 here (length bytes)
  other-cell = ⊎_elim (λ (lt : q < 1). inl (omega arith)) (λ (le : 1 ≤ q). inr (omega arith)) (cases_lt q 1)

  behind : Apart (place p) 131072 here (length bytes)
  behind = inr (omega arith)

  unseen : Unseen p q here (length bytes)
  unseen = record { first = omega arith; selector = inl (omega arith); cell = other-cell; slot = behind }

  -- the cell's write, and its sync
  pub first-turns : (e : Entry) (old mid : Option Disk) → IfSome old (IsCellPicked p q) → ChangesOnly here (length bytes) old mid → Turns e old mid
  first-turns e old mid is changes a held = let d = changes a held in inl (unseen-same p q here (length bytes) unseen old is a d.0 d.1 d.2)

  module _ (e : Entry) (to : Position) (spelled : cell bytes ≡ Ok (Some to)) (area : List ℕ) (long : length area ≡ 266240) (looks : Looks p q area)
      (has : (from : Position) × (database (picked_slot area) ≡ Ok (Full (record e { position = from })))) where
    fits : here + length bytes ≤ length area
    fits = omega (arith, long, size)

    abbrev pub x : List ℕ
    x = overwritten here bytes area

    pub x_same : SameBut here (length bytes) area x
    x_same = overwritten_same here bytes area fits

    written-cell : cell_at p r x ≡ bytes
    written-cell =
        ap (λ (n : ℕ). take 64 (drop n x)) (omega arith)
        ∙ part_is 64 0 here bytes area fits (omega (arith, size))
        ∙ take_all 64 bytes (omega (arith, size))

    -- an area that differs from the staged one in the selector alone
    module _ (a : List ℕ) (same : SameBut at 1 x a) where
      zero-is : get_or a 0 0 % 2 ≡ p
      zero-is = ap (λ (n : ℕ). n % 2) (same.1 0 (inl (omega arith)) ∙ x_same.1 0 (inl (omega arith))) ∙ looks.slot

      same-slot : slot_at p a ≡ slot_at p area
      same-slot = part_stays 131072 (place p) at 1 x a (inr (omega arith)) same ∙ part_stays 131072 (place p) here (length bytes) area x behind x_same

      looks-at : (k : ℕ) → get_or a at 0 % 2 ≡ k → Looks p k a
      looks-at k is = record { slot = zero-is; cell = ap (λ (n : ℕ). get_or a n 0 % 2) (sym at_is) ∙ is }

      pub still : get_or a at 0 % 2 ≡ q → stood a ≡ stood area
      still is =
          stood-is p q a (looks-at q is)
          ∙ said-stays p q at 1 x a (inr (omega arith)) (inr (omega arith)) same
          ∙ said-stays p q here (length bytes) area x behind other-cell x_same
          ∙ sym (stood-is p q area looks)

      slot-says : database (slot_at p area) ≡ Ok (Full (record e { position = has.0 }))
      slot-says = ap database (sym (slot-is p area looks.slot)) ∙ has.1

      pub turned : get_or a at 0 % 2 ≡ r → stood a ≡ Ok (Full (record e { position = to }))
      turned is =
          let there : cell_at p r a ≡ bytes = part_stays 64 (cell_place p r) at 1 x a (inr (omega arith)) same ∙ written-cell in
          let all : stood a ≡ said (slot_at p area) bytes = stood-is p r a (looks-at r is) ∙ ap (λ (s : List ℕ). said s (cell_at p r a)) same-slot ∙ ap (λ (c : List ℕ). said (slot_at p area) c) there in
          all ∙ said-position (slot_at p area) bytes (record e { position = has.0 }) to slot-says spelled

      pub has-record : get_or a at 0 % 2 ≡ r → HasRecord (Full (record e { position = to })) r a
      has-record is = ((has.0, ap database (slot-is p a zero-is ∙ same-slot) ∙ slot-says), looks-cell p r a (looks-at r is))

  -- the disk once the cell is written and synced
  abbrev pub staged : Option Disk → Option Disk
  staged disk = option_map synced (option_map (written here bytes) disk)

  module _ (e : Entry) (to : Position) (spelled : cell bytes ≡ Ok (Some to)) where
    second : (disk : Option Disk) → IsWhole 266240 disk → IfSome disk (IsCellPicked p q) → IfSome disk (λ d. HasRecord (Full e) q d.area)
        → (a d : List ℕ) → MayHold (staged disk) d → IsRefilled (IsApart at 1) d a → StandsAs disk a ⊎ (stood a ≡ Ok (Full (record e { position = to })))
    second None w is has a d held h = inl (record { before = a; held = h.bytes; same = refl })
    second (Some o) w is has a d held h =
        let y : List ℕ = overwritten here bytes o.area in
        let is_y : d ≡ y = refilled_none (IsSynced (unmarked (marked here (length bytes) o.unsynced))) (λ i. unmarked_synced (marked here (length bytes) o.unsynced) i) y d held in
        let same : SameBut at 1 y a = subst (λ (l : List ℕ). SameBut at 1 l a) is_y (refilled_same at 1 d a h) in
        let looks : Looks p q o.area = looks-picked p q o is in
        let self : MayHold (Some o) o.area = refilled_self (IsSynced o.unsynced) o.area w.bytes in
        ⊎_elim
        (λ (lt : get_or a at 0 % 2 < q). inr (turned e to spelled o.area w.size looks has.0 a same (omega arith)))
        (λ (le : q ≤ get_or a at 0 % 2). ⊎_elim
        (λ (lt : q < get_or a at 0 % 2). inr (turned e to spelled o.area w.size looks has.0 a same (omega arith)))
        (λ (ge : get_or a at 0 % 2 ≤ q). inl (record { before = o.area; held = self; same = still e to spelled o.area w.size looks has.0 a same (omega arith) }))
        (cases_lt q (get_or a at 0 % 2)))
        (cases_lt (get_or a at 0 % 2) q)

    -- the selector's write, and its sync
    pub second-turns : (old mid : State) (new : Option Disk) → IsWhole 266240 old.disk → IfSome old.disk (IsCellPicked p q) → IfSome old.disk (λ d. HasRecord (Full e) q d.area)
        → mid ≡ after_sync (after_write here bytes old) → ChangesOnly at 1 mid.disk new → Turns (record e { position = to }) old.disk new
    second-turns old mid new w is has staged_is changes a held =
        let d = changes a held in
        second old.disk w is has a d.0 (subst (λ (s : State). MayHold s.disk d.0) staged_is d.1) d.2

    last : (disk new : Option Disk) → IsWhole 266240 disk → IfSome disk (IsCellPicked p q) → IfSome disk (λ d. HasRecord (Full e) q d.area)
        → new ≡ option_map synced (option_map (written at (r ∷ [])) (staged disk)) → IfSome new (Holds (record e { position = to }) p r)
    last None new w is has e_is = subst (λ (n : Option Disk). IfSome n (Holds (record e { position = to }) p r)) (sym e_is) tt
    last (Some o) new w is has e_is =
        let y : List ℕ = overwritten here bytes o.area in
        let z : List ℕ = overwritten at (r ∷ []) y in
        let looks : Looks p q o.area = looks-picked p q o is in
        let y_same : SameBut here (length bytes) o.area y = x_same e to spelled o.area w.size looks has.0 in
        let room : at + length (r ∷ []) ≤ length y = omega (arith, y_same.0, w.size) in
        let same : SameBut at 1 y z = overwritten_same at (r ∷ []) y room in
        let byte : get_or z at 0 ≡ r = ap (λ (n : ℕ). get_or z n 0) (omega arith) ∙ overwritten_inside 0 at (r ∷ []) y room 0 (omega arith) in
        let parity : get_or z at 0 % 2 ≡ r = omega arith in
        let once : Disk = written at (r ∷ []) (synced (written here bytes o)) in
        subst (λ (n : Option Disk). IfSome n (Holds (record e { position = to }) p r)) (sym e_is)
        (record {
          slot = record { settled = settled-synced (Some once); parity = zero-is e to spelled o.area w.size looks has.0 z same };
          record_there = has-record e to spelled o.area w.size looks has.0 z same parity;
          stands = turned e to spelled o.area w.size looks has.0 z same parity;
        })

    -- the end of it
    pub last-holds : (old mid new : State) → IsWhole 266240 old.disk → IfSome old.disk (IsCellPicked p q) → IfSome old.disk (λ d. HasRecord (Full e) q d.area)
        → mid ≡ after_sync (after_write here bytes old) → new ≡ after_sync (after_write at (r ∷ []) mid) → IfSome new.disk (Holds (record e { position = to }) p r)
    last-holds old mid new w is has staged_is new_is =
        let disk_is : new.disk ≡ option_map synced (option_map (written at (r ∷ [])) (staged old.disk)) = ap (λ (s : State). s.disk) new_is ∙ ap (λ (s : State). option_map synced (option_map (written at (r ∷ [])) s.disk)) staged_is in
        last old.disk new.disk w is has disk_is

  -- what was written stands there
  two-there : (disk new : Option Disk) → IsWhole 266240 disk → new ≡ option_map synced (option_map (written at (r ∷ [])) (staged disk)) → IfSome new (λ d. (get_or d.area at 0 ≡ r) × (take 64 (drop here d.area) ≡ bytes))
  two-there None new w e_is = subst (λ (n : Option Disk). IfSome n (λ d. (get_or d.area at 0 ≡ r) × (take 64 (drop here d.area) ≡ bytes))) (sym e_is) tt
  two-there (Some o) new w e_is =
      let room_first : here + length bytes ≤ length o.area = omega (arith, w.size, size) in
      let y : List ℕ = overwritten here bytes o.area in
      let y_same : SameBut here (length bytes) o.area y = overwritten_same here bytes o.area room_first in
      let room : at + length (r ∷ []) ≤ length y = omega (arith, y_same.0, w.size) in
      let z : List ℕ = overwritten at (r ∷ []) y in
      let same : SameBut at 1 y z = overwritten_same at (r ∷ []) y room in
      let byte : get_or z at 0 ≡ r = ap (λ (n : ℕ). get_or z n 0) (omega arith) ∙ overwritten_inside 0 at (r ∷ []) y room 0 (omega arith) in
      let cell_there : take 64 (drop here z) ≡ bytes =
      part_stays 64 here at 1 y z (inr (omega arith)) same
      ∙ ap (λ (n : ℕ). take 64 (drop n y)) (omega arith)
      ∙ part_is 64 0 here bytes o.area room_first (omega (arith, size))
      ∙ take_all 64 bytes (omega (arith, size)) in
      subst (λ (n : Option Disk). IfSome n (λ d. (get_or d.area at 0 ≡ r) × (take 64 (drop here d.area) ≡ bytes))) (sym e_is) (byte, cell_there)

  pub both-there : (old mid new : State) → IsWhole 266240 old.disk → mid ≡ after_sync (after_write here bytes old) → new ≡ after_sync (after_write at (r ∷ []) mid) → IfSome new.disk (λ d. (get_or d.area at 0 ≡ r) × (take 64 (drop here d.area) ≡ bytes))
  both-there old mid new w staged_is new_is =
      let disk_is : new.disk ≡ option_map synced (option_map (written at (r ∷ [])) (staged old.disk)) = ap (λ (s : State). s.disk) new_is ∙ ap (λ (s : State). option_map synced (option_map (written at (r ∷ [])) s.disk)) staged_is in
      two-there old.disk new.disk w disk_is

-- ---- the whole of it: the bytes are the cell of a position
module _ (p q : ℕ) (p_le : p ≤ 1) (q_le : q ≤ 1) (to : Position) (valid : IsTrue (is_valid to)) (bytes : List ℕ) (is_cell : bytes ≡ cell_of to)
    (start offset : ℕ) (start_is : start ≡ cells_start p) (offset_is : offset ≡ cell_offset (1 - q)) where
  long : length bytes ≡ 64
  long = ap length is_cell ∙ cell_len to

  read : cell bytes ≡ Ok (Some to)
  read = cell_again to bytes (record { valid = valid; spelled = is_cell })

  begins : start ≡ cells p
  begins = start_is ∙ cells-of p p_le

  there : start + offset ≡ cell_place p (1 - q)
  there = omega (arith, begins, offset_is, offset-of (1 - q) (omega arith))

  -- it was cut off before the selector was written
  pub cell-cut : (e : Entry) (old mid : Option Disk) → IfSome old (IsCellPicked p q) → ChangesOnly (start + offset) (length bytes) old mid → Turns e old mid
  cell-cut e old mid is changes = first-turns p q (1 - q) (omega arith) bytes long (start + offset) there start begins p_le e old mid is changes

  pub cell-turns : (e : Entry) (old mid : State) (new : Option Disk) → IsWhole 266240 old.disk → IfSome old.disk (IsCellPicked p q) → IfSome old.disk (λ d. HasRecord (Full e) q d.area)
      → mid ≡ after_sync (after_write (start + offset) bytes old) → ChangesOnly start 1 mid.disk new → Turns (record e { position = to }) old.disk new
  cell-turns e old mid new w is has staged_is changes = second-turns p q (1 - q) (omega arith) bytes long (start + offset) there start begins p_le e to read old mid new w is has staged_is changes

  pub cell-holds : (e : Entry) (old mid new : State) → IsWhole 266240 old.disk → IfSome old.disk (IsCellPicked p q) → IfSome old.disk (λ d. HasRecord (Full e) q d.area)
      → mid ≡ after_sync (after_write (start + offset) bytes old) → new ≡ after_sync (after_write start ((1 - q) ∷ []) mid) → IfSome new.disk (Holds (record e { position = to }) p (1 - q))
  cell-holds e old mid new w is has staged_is new_is = last-holds p q (1 - q) (omega arith) bytes long (start + offset) there start begins p_le e to read old mid new w is has staged_is new_is

  -- and the slots
  low : start + offset + length bytes ≤ 4096
  low = omega (arith, there, long)

  pub cut-slots : (old mid : Option Disk) → IfSome old (IsCellPicked p q) → (IsTold old → IsTold mid) → IsWhole 266240 mid → ChangesOnly (start + offset) (length bytes) old mid → IfSome old (λ d. KeepsSlots d.area mid)
  cut-slots old mid is told whole changes = keeps-slots p q old mid is told whole (changes-slots (start + offset) (length bytes) old mid low changes)

  pub all-slots : (old mid new : Option Disk) → IfSome old (IsCellPicked p q) → (IsTold old → IsTold new) → IsWhole 266240 new
      → ChangesOnly (start + offset) (length bytes) old mid → ChangesOnly start 1 mid new → IfSome old (λ d. KeepsSlots d.area new)
  all-slots old mid new is told whole changes changes' =
      keeps-slots p q old new is told whole
      (slots-then old mid new (changes-slots (start + offset) (length bytes) old mid low changes) (changes-slots start 1 mid new (omega (arith, begins)) changes'))

  -- and all bytes but those of the cell and of its selector
  past-cell : (i : ℕ) → IsPastCell p (1 - q) i → IsApart (start + offset) (length bytes) i
  past-cell i past = ⊎_elim
      (λ (lt : i < cells_start p + cell_offset (1 - q)). inl (omega (arith, start_is, offset_is)))
      (λ (le : cells_start p + cell_offset (1 - q) + 64 ≤ i). inr (omega (arith, start_is, offset_is, long)))
      past.1

  past-selector : (i : ℕ) → IsPastCell p (1 - q) i → IsApart start 1 i
  past-selector i past = ⊎_elim
      (λ (lt : i < cells_start p). inl (omega (arith, start_is)))
      (λ (le : cells_start p + 1 ≤ i). inr (omega (arith, start_is)))
      past.0

  is-picked : (disk : Option Disk) → IfSome disk (IsCellPicked p q) → IfSome disk (IsPicked p)
  is-picked None is = tt
  is-picked (Some d) is = is.slot

  pub cut-spares : (old mid : Option Disk) → IfSome old (IsCellPicked p q) → (IsTold old → IsTold mid) → IsWhole 266240 mid → ChangesOnly (start + offset) (length bytes) old mid → IfSome old (λ d. Keeps (IsPastCell p (1 - q)) d.area mid)
  cut-spares old mid is told whole changes =
      keeps-but p (IsPastCell p (1 - q)) old mid (is-picked old is) told whole
      (but-less (IsApart (start + offset) (length bytes)) (IsPastCell p (1 - q)) old mid past-cell (changes-but (start + offset) (length bytes) old mid changes))

  pub all-spares : (old mid new : Option Disk) → IfSome old (IsCellPicked p q) → (IsTold old → IsTold new) → IsWhole 266240 new
      → ChangesOnly (start + offset) (length bytes) old mid → ChangesOnly start 1 mid new → IfSome old (λ d. Keeps (IsPastCell p (1 - q)) d.area new)
  all-spares old mid new is told whole changes changes' =
      keeps-but p (IsPastCell p (1 - q)) old new (is-picked old is) told whole
      (but-less (λ i. IsApart (start + offset) (length bytes) i × IsApart start 1 i) (IsPastCell p (1 - q)) old new (λ i past. (past-cell i past, past-selector i past))
      (but-then (IsApart (start + offset) (length bytes)) (IsApart start 1) old mid new (changes-but (start + offset) (length bytes) old mid changes) (changes-but start 1 mid new changes')))

  -- the cell and its selector
  has-both : (disk : Option Disk) → IfSome disk (λ d. (get_or d.area start 0 ≡ (1 - q)) × (take 64 (drop (start + offset) d.area) ≡ bytes)) → IfSome disk (λ d. HasCell to p (1 - q) d.area)
  has-both None h = tt
  has-both (Some d) h = record {
    selector = ap (λ (n : ℕ). get_or d.area n 0) (sym start_is) ∙ h.0;
    is_cell = ap (λ (n : ℕ). take 64 (drop n d.area)) (omega (arith, start_is, offset_is)) ∙ h.1 ∙ is_cell;
  }

  pub has-cell : (old mid new : State) → IsWhole 266240 old.disk
      → mid ≡ after_sync (after_write (start + offset) bytes old) → new ≡ after_sync (after_write start ((1 - q) ∷ []) mid) → IfSome new.disk (λ d. HasCell to p (1 - q) d.area)
  has-cell old mid new w staged_is new_is = has-both new.disk (both-there p q (1 - q) (omega arith) bytes long (start + offset) there start begins p_le old mid new w staged_is new_is)
