-- What each step of writing a record leaves.
use Rattle.std.proofs.Common.{◌≡◌, ◌⊎◌, inl, inr, ⊎_elim, ℕ, ◌+◌, ◌-◌, ◌%◌, ◌<◌, ◌≤◌, List, [], ◌∷◌, ◌++◌, length, get_or, take, drop, replicate, refl, sym, ◌∙◌, ap, subst, arith}
use Rattle.std.specs.Prelude.{Option, Some, None, option_map, Ok, IfSome, IsFalse}
use Rattle.std.proofs.lemmas.Bool.{cases_lt}
use Rattle.std.proofs.lemmas.List.{take-append-drop, take-take, take_at, take_all, length-replicate, get_or-replicate}
use Rattle.record_codec.specs.declared.entry.Entry.{Entry}
use Rattle.record_codec.specs.declared.entry.Db.TheVariants.{Full}
use Rattle.record_codec.specs.Reading.{database}
use Rattle.record_codec.specs.Cells.{cell}
use Rattle.record_codec.specs.declared.entry.Version.TheVariants.{Second}
use Rattle.record_codec.specs.Spelling.{head, record_of, record_length}
use Rattle.slot_store.specs.Mount.{is_old}
use Rattle.record_codec.proofs.Again.{record_len, all_again}
use Rattle.device_model.specs.Disk.{Disk, IsApart, IsRefilled, MayHold, ChangesOnly, IsSynced, IsTold, IsWhole, marked, unmarked, overwritten, written, synced}
use Rattle.device_model.specs.State.{State, after_write, after_sync}
use Rattle.device_model.proofs.Refilled.{refilled_none, refilled_self, unmarked_synced, overwritten_inside}
use Rattle.slot_store.specs.Slots.{slot_start, cells_start, picked_slot, cell_selector, stood}
use Rattle.slot_store.specs.Kept.{IsStorable, IsPicked}
use Rattle.slot_store.specs.Written.{Keeps, IsPastRecord, HasFresh}
use Rattle.slot_store.proofs.Spared.{keeps-but, but-less, but-then, changes-but, staged-but}
use Rattle.slot_store.specs.Put.{StandsAs, Turns, Holds, IsStaged}
use Rattle.slot_store.proofs.Areas.{cells, cell_place, place, slot_at, cell_at, SameBut, Looks, Unseen, slot-of, cells-of, slot-is, looks-of, looks-cell, stood-is, looks-on, says-on, refilled_same, overwritten_same, part_stays, part_is, said-stays, said-nothing}
use Rattle.slot_store.proofs.Disks.{settled-area, settled-synced}

-- what begins with the record of an entry is read as that entry
begun : (e : Entry) (bytes slot : List ℕ) → IsStorable e → bytes ≡ record_of Second e → take (length bytes) slot ≡ bytes → database slot ≡ Ok (Full e)
begun e bytes slot storable is begins =
    let parts : slot ≡ record_of Second e ++ drop (length bytes) slot = sym (take-append-drop (length bytes) slot) ∙ ap (λ (l : List ℕ). l ++ drop (length bytes) slot) (begins ∙ is) in
    ap database parts ∙ all_again Second e (drop (length bytes) slot) storable.right tt storable.fits

-- what begins with such a record is no record of the older version
fresh : (e : Entry) (rest : List ℕ) → IsFalse (is_old (record_of Second e ++ rest))
unfolding is_old record_of head
fresh e rest = refl

not-old-slot : (e : Entry) (bytes slot : List ℕ) → bytes ≡ record_of Second e → take (length bytes) slot ≡ bytes → IsFalse (is_old slot)
not-old-slot e bytes slot is begins =
    let parts : slot ≡ record_of Second e ++ drop (length bytes) slot = sym (take-append-drop (length bytes) slot) ∙ ap (λ (l : List ℕ). l ++ drop (length bytes) slot) (begins ∙ is) in
    subst (λ (l : List ℕ). IsFalse (is_old l)) (sym parts) (fresh e (drop (length bytes) slot))

-- zeros say nothing
pub zeros-say : cell (replicate 64 0) ≡ Ok None
unfolding cell
zeros-say = refl

abbrev pub zeros : List ℕ
zeros = replicate 192 0

module _ (p s : ℕ) (swap : p + s ≡ 1) (e : Entry) (storable : IsStorable e) (bytes : List ℕ) (is : bytes ≡ record_of Second e)
    (here : ℕ) (here_is : here ≡ place s) (at : ℕ) (at_is : at ≡ cells s) where
  size : length bytes ≤ 131072
  size = omega (arith, ap length is, record_len Second e, storable.fits)

  many : length zeros ≡ 192
  many = length-replicate {A = ℕ} 192 0

  -- neither the other slot nor its cells are picked
  unseen-slot : (q : ℕ) → q ≤ 1 → Unseen p q here (length bytes)
  unseen-slot q le = record {
    first = omega arith;
    selector = inl (omega arith);
    cell = inl (omega arith);
    slot = ⊎_elim (λ (lt : p < 1). inl (omega arith)) (λ (ge : 1 ≤ p). inr (omega (arith, size))) (cases_lt p 1);
  }

  unseen-cells : (q : ℕ) → q ≤ 1 → Unseen p q at 192
  unseen-cells q le = record {
    first = omega arith;
    selector = ⊎_elim (λ (lt : p < 1). inl (omega arith)) (λ (ge : 1 ≤ p). inr (omega arith)) (cases_lt p 1);
    cell = ⊎_elim (λ (lt : p < 1). inl (omega arith)) (λ (ge : 1 ≤ p). inr (omega arith)) (cases_lt p 1);
    slot = inr (omega arith);
  }

  -- an area that picks the one slot, after a write to the other slot and to its cells
  two-writes : (q : ℕ) → q ≤ 1 → (a b c : List ℕ) → Looks p q a → SameBut here (length bytes) a b → SameBut at 192 b c → Looks p q c × (stood c ≡ stood a)
  two-writes q le a b c looks h k =
      let between : Looks p q b = looks-on p q here (length bytes) a b (unseen-slot q le) looks h in (
        looks-on p q at 192 b c (unseen-cells q le) between k,
        says-on p q at 192 b c (unseen-cells q le) between k ∙ says-on p q here (length bytes) a b (unseen-slot q le) looks h,
      )

  selector-of : (a : List ℕ) → get_or a 0 0 % 2 ≡ p → Looks p (cell_selector a % 2) a
  selector-of a parity = looks-of p (cell_selector a % 2) a parity refl

  -- the two writes, and their sync
  pub first-turns : (old mid : Option Disk) → IfSome old (IsPicked p) → IsStaged s (length bytes) old mid → slot_start s ≡ here → cells_start s ≡ at → Turns e old mid
  first-turns old mid picked staged start cells_at a held =
      let d = staged a held in
      inl (same old picked a d.0 d.1 d.2 (subst (λ (n : ℕ). IsRefilled (IsApart n (length bytes)) d.0 d.1) start d.3) (subst (λ (n : ℕ). IsRefilled (IsApart n 192) d.1 a) cells_at d.4))
    where
      same : (old : Option Disk) → IfSome old (IsPicked p) → (a d b : List ℕ) → MayHold old d → IsRefilled (IsApart here (length bytes)) d b → IsRefilled (IsApart at 192) b a → StandsAs old a
      same None picked a d b held h k = record { before = a; held = k.bytes; same = refl }
      same (Some o) picked a d b held h k =
          let area : d ≡ o.area = settled-area o picked.settled d held in
          let parity : get_or d 0 0 % 2 ≡ p = ap (λ (l : List ℕ). get_or l 0 0 % 2) area ∙ picked.parity in
          record { before = d; held = held; same = (two-writes (cell_selector d % 2) (omega arith) d b a (selector-of d parity) (refilled_same here (length bytes) d b h) (refilled_same at 192 b a k)).1 }

  module _ (area : List ℕ) (long : length area ≡ 266240) where
    fits : here + length bytes ≤ length area
    fits = omega (arith, long, size)

    abbrev w : List ℕ
    w = overwritten here bytes area

    w_same : SameBut here (length bytes) area w
    w_same = overwritten_same here bytes area fits

    room : at + length zeros ≤ length w
    room = omega (arith, long, w_same.0, many)

    abbrev pub x : List ℕ
    x = overwritten at zeros w

    pub x_same : SameBut at 192 w x
    x_same = subst (λ (n : ℕ). SameBut at n w x) many (overwritten_same at zeros w room)

    -- the other slot has the record, and its cells are zeros
    slot-begins : take (length bytes) (slot_at s x) ≡ bytes
    slot-begins =
        let front : take (length bytes) (slot_at s x) ≡ take (length bytes) (slot_at s w) = ap (λ (l : List ℕ). take (length bytes) l) (part_stays 131072 (place s) at 192 w x (inr (omega arith)) x_same) in
        let cut : take (length bytes) (slot_at s w) ≡ take (length bytes) (drop (place s) w) = take-take (length bytes) 131072 (drop (place s) w) size in
        let there : take (length bytes) (drop (place s) w) ≡ bytes =
        ap (λ (n : ℕ). take (length bytes) (drop n w)) (omega arith)
        ∙ part_is (length bytes) 0 here bytes area fits (omega arith)
        ∙ whole bytes in
        front ∙ cut ∙ there
      where
        whole : (l : List ℕ) → take (length l) l ≡ l
        whole [] = refl
        whole (b ∷ l) = ap (λ (m : List ℕ). b ∷ m) (whole l)

    slot-says : database (slot_at s x) ≡ Ok (Full e)
    slot-says = begun e bytes (slot_at s x) storable is slot-begins

    cell-there : cell_at s 0 x ≡ replicate 64 0
    cell-there = ap (λ (n : ℕ). take 64 (drop n x)) (omega arith) ∙ part_is 64 64 at zeros w room (omega (arith, many))

    selector-there : get_or x at 0 ≡ 0
    selector-there = ap (λ (n : ℕ). get_or x n 0) (omega arith) ∙ overwritten_inside 0 at zeros w room 0 (omega (arith, many)) ∙ get_or-replicate 192 0 0 0 (omega arith)

    -- an area that differs from the staged one in byte 0 alone
    module _ (a : List ℕ) (same : SameBut 0 1 x a) where
      looks-new : get_or a 0 0 % 2 ≡ s → Looks s 0 a
      looks-new now = record { slot = now; cell = ap (λ (n : ℕ). get_or a n 0 % 2) (sym at_is) ∙ ap (λ (n : ℕ). n % 2) (same.1 at (inr (omega arith)) ∙ selector-there) }

      new-slot : slot_at s a ≡ slot_at s x
      new-slot = part_stays 131072 (place s) 0 1 x a (inr (omega arith)) same

      new-cell : cell_at s 0 a ≡ replicate 64 0
      new-cell = part_stays 64 (cell_place s 0) 0 1 x a (inr (omega arith)) same ∙ cell-there

      pub turned : get_or a 0 0 % 2 ≡ s → stood a ≡ Ok (Full e)
      turned now = stood-is s 0 a (looks-new now) ∙ said-nothing (slot_at s a) (cell_at s 0 a) e (ap database new-slot ∙ slot-says) (ap cell new-cell ∙ zeros-say)

      pub record-there : get_or a 0 0 % 2 ≡ s → database (picked_slot a) ≡ Ok (Full e)
      record-there now = ap database (slot-is s a now ∙ new-slot) ∙ slot-says

      pub not-old : get_or a 0 0 % 2 ≡ s → IsFalse (is_old (picked_slot a))
      not-old now = not-old-slot e bytes (picked_slot a) is (ap (λ (l : List ℕ). take (length bytes) l) (slot-is s a now ∙ new-slot) ∙ slot-begins)

      pub selector-zero : get_or a 0 0 % 2 ≡ s → cell_selector a % 2 ≡ 0
      selector-zero now = looks-cell s 0 a (looks-new now)

      pub still : (q : ℕ) → q ≤ 1 → Looks p q area → get_or a 0 0 % 2 ≡ p → stood a ≡ stood area
      still q le looks now =
          let both = two-writes q le area w x looks w_same x_same in
          let here_too : Looks p q a = record { slot = now; cell = ap (λ (n : ℕ). n % 2) (same.1 (cells p) (inr (omega arith))) ∙ both.0.cell } in
          stood-is p q a here_too ∙ said-stays p q 0 1 x a (inr (omega arith)) (inr (omega arith)) same ∙ sym (stood-is p q x both.0) ∙ both.1

  -- the disk once both are written and synced
  abbrev pub staged : Option Disk → Option Disk
  staged disk = option_map synced (option_map (written at zeros) (option_map (written here bytes) disk))

  second : (disk : Option Disk) → IsWhole 266240 disk → IfSome disk (IsPicked p) → (a d : List ℕ) → MayHold (staged disk) d → IsRefilled (IsApart 0 1) d a → StandsAs disk a ⊎ (stood a ≡ Ok (Full e))
  second None whole picked a d held h = inl (record { before = a; held = h.bytes; same = refl })
  second (Some o) whole picked a d held h =
      let y : List ℕ = x o.area whole.size in
      let flags = marked at (length zeros) (marked here (length bytes) o.unsynced) in
      let is_y : d ≡ y = refilled_none (IsSynced (unmarked flags)) (λ i. unmarked_synced flags i) y d held in
      let same : SameBut 0 1 y a = subst (λ (l : List ℕ). SameBut 0 1 l a) is_y (refilled_same 0 1 d a h) in
      let self : MayHold (Some o) o.area = refilled_self (IsSynced o.unsynced) o.area whole.bytes in
      let looks : Looks p (cell_selector o.area % 2) o.area = selector-of o.area picked.parity in
      ⊎_elim
      (λ (lt : get_or a 0 0 % 2 < p). inr (turned o.area whole.size a same (omega arith)))
      (λ (le : p ≤ get_or a 0 0 % 2). ⊎_elim
      (λ (lt : p < get_or a 0 0 % 2). inr (turned o.area whole.size a same (omega arith)))
      (λ (ge : get_or a 0 0 % 2 ≤ p). inl (record { before = o.area; held = self; same = still o.area whole.size a same (cell_selector o.area % 2) (omega arith) looks (omega arith) }))
      (cases_lt p (get_or a 0 0 % 2)))
      (cases_lt (get_or a 0 0 % 2) p)

  -- byte 0's write, and its sync
  pub second-turns : (old mid : State) (new : Option Disk) → IsWhole 266240 old.disk → IfSome old.disk (IsPicked p)
      → mid ≡ after_sync (after_write at zeros (after_write here bytes old)) → ChangesOnly 0 1 mid.disk new → Turns e old.disk new
  second-turns old mid new whole picked staged_is changes a held =
      let d = changes a held in
      second old.disk whole picked a d.0 (subst (λ (t : State). MayHold t.disk d.0) staged_is d.1) d.2

  last : (disk new : Option Disk) → IsWhole 266240 disk → new ≡ option_map synced (option_map (written 0 (s ∷ [])) (staged disk)) → IfSome new (Holds e s 0)
  last None new whole e_is = subst (λ (n : Option Disk). IfSome n (Holds e s 0)) (sym e_is) tt
  last (Some o) new whole e_is =
      let y : List ℕ = x o.area whole.size in
      let z : List ℕ = overwritten 0 (s ∷ []) y in
      let fits_one : 0 + length (s ∷ []) ≤ length y = omega (arith, (x_same o.area whole.size).0, (w_same o.area whole.size).0, whole.size) in
      let same : SameBut 0 1 y z = overwritten_same 0 (s ∷ []) y fits_one in
      let byte : get_or z 0 0 ≡ s = overwritten_inside 0 0 (s ∷ []) y fits_one 0 (omega arith) in
      let parity : get_or z 0 0 % 2 ≡ s = omega arith in
      let once : Disk = written 0 (s ∷ []) (synced (written at zeros (written here bytes o))) in
      subst (λ (n : Option Disk). IfSome n (Holds e s 0)) (sym e_is)
      (record {
        slot = record { settled = settled-synced (Some once); parity = parity };
        record_there = ((e.position, record-there o.area whole.size z same parity), selector-zero o.area whole.size z same parity);
        stands = turned o.area whole.size z same parity;
      })

  last-not-old : (disk new : Option Disk) → IsWhole 266240 disk → new ≡ option_map synced (option_map (written 0 (s ∷ [])) (staged disk)) → IfSome new (λ d. IsFalse (is_old (picked_slot d.area)))
  last-not-old None new whole e_is = subst (λ (n : Option Disk). IfSome n (λ d. IsFalse (is_old (picked_slot d.area)))) (sym e_is) tt
  last-not-old (Some o) new whole e_is =
      let y : List ℕ = x o.area whole.size in
      let z : List ℕ = overwritten 0 (s ∷ []) y in
      let fits_one : 0 + length (s ∷ []) ≤ length y = omega (arith, (x_same o.area whole.size).0, (w_same o.area whole.size).0, whole.size) in
      let same : SameBut 0 1 y z = overwritten_same 0 (s ∷ []) y fits_one in
      let byte : get_or z 0 0 ≡ s = overwritten_inside 0 0 (s ∷ []) y fits_one 0 (omega arith) in
      let parity : get_or z 0 0 % 2 ≡ s = omega arith in
      subst (λ (n : Option Disk). IfSome n (λ d. IsFalse (is_old (picked_slot d.area)))) (sym e_is) (not-old o.area whole.size z same parity)

  pub last-version : (old mid new : State) → IsWhole 266240 old.disk → mid ≡ after_sync (after_write at zeros (after_write here bytes old)) → new ≡ after_sync (after_write 0 (s ∷ []) mid) → IfSome new.disk (λ d. IsFalse (is_old (picked_slot d.area)))
  last-version old mid new whole staged_is new_is =
      let disk_is : new.disk ≡ option_map synced (option_map (written 0 (s ∷ [])) (staged old.disk)) = ap (λ (t : State). t.disk) new_is ∙ ap (λ (t : State). option_map synced (option_map (written 0 (s ∷ [])) t.disk)) staged_is in
      last-not-old old.disk new.disk whole disk_is

  -- the end of it
  pub last-holds : (old mid new : State) → IsWhole 266240 old.disk → mid ≡ after_sync (after_write at zeros (after_write here bytes old)) → new ≡ after_sync (after_write 0 (s ∷ []) mid) → IfSome new.disk (Holds e s 0)
  last-holds old mid new whole staged_is new_is =
      let disk_is : new.disk ≡ option_map synced (option_map (written 0 (s ∷ [])) (staged old.disk)) = ap (λ (t : State). t.disk) new_is ∙ ap (λ (t : State). option_map synced (option_map (written 0 (s ∷ [])) t.disk)) staged_is in
      last old.disk new.disk whole disk_is

  -- what was written stands there
  abbrev AllThere : Option Disk → Type 0
  AllThere disk = IfSome disk (λ d. (get_or d.area 0 0 ≡ s) × (take (length bytes) (drop here d.area) ≡ bytes) × (take 192 (drop at d.area) ≡ zeros))

  all-there : (disk new : Option Disk) → IsWhole 266240 disk → new ≡ option_map synced (option_map (written 0 (s ∷ [])) (staged disk)) → AllThere new
  all-there None new whole e_is = subst AllThere (sym e_is) tt
  all-there (Some o) new whole e_is =
      let v : List ℕ = w o.area whole.size in
      let y : List ℕ = x o.area whole.size in
      let z : List ℕ = overwritten 0 (s ∷ []) y in
      let fits_one : 0 + length (s ∷ []) ≤ length y = omega (arith, (x_same o.area whole.size).0, (w_same o.area whole.size).0, whole.size) in
      let same : SameBut 0 1 y z = overwritten_same 0 (s ∷ []) y fits_one in
      let byte : get_or z 0 0 ≡ s = overwritten_inside 0 0 (s ∷ []) y fits_one 0 (omega arith) in
      let fits_first : here + length bytes ≤ length o.area = omega (arith, whole.size, size) in
      let record_there : take (length bytes) (drop here z) ≡ bytes =
      part_stays (length bytes) here 0 1 y z (inr (omega arith)) same
      ∙ part_stays (length bytes) here at 192 v y (inr (omega arith)) (x_same o.area whole.size)
      ∙ ap (λ (n : ℕ). take (length bytes) (drop n v)) (omega arith)
      ∙ part_is (length bytes) 0 here bytes o.area fits_first (omega arith)
      ∙ take_all (length bytes) bytes (omega arith) in
      let room_zeros : at + length zeros ≤ length v = omega (arith, (w_same o.area whole.size).0, whole.size, many) in
      let zeros_there : take 192 (drop at z) ≡ zeros =
      part_stays 192 at 0 1 y z (inr (omega arith)) same
      ∙ ap (λ (n : ℕ). take 192 (drop n y)) (omega arith)
      ∙ part_is 192 0 at zeros v room_zeros (omega (arith, many))
      ∙ take_all 192 zeros (omega (arith, many)) in
      subst AllThere (sym e_is) (byte, record_there, zeros_there)

  pub last-there : (old mid new : State) → IsWhole 266240 old.disk → mid ≡ after_sync (after_write at zeros (after_write here bytes old)) → new ≡ after_sync (after_write 0 (s ∷ []) mid) → AllThere new.disk
  last-there old mid new whole staged_is new_is =
      let disk_is : new.disk ≡ option_map synced (option_map (written 0 (s ∷ [])) (staged old.disk)) = ap (λ (t : State). t.disk) new_is ∙ ap (λ (t : State). option_map synced (option_map (written 0 (s ∷ [])) t.disk)) staged_is in
      all-there old.disk new.disk whole disk_is

-- ---- the two writes of a stage

-- the first was cut off
pub staged-cut : (s start count : ℕ) (old new : Option Disk) → start ≡ slot_start s → ChangesOnly start count old new → IsStaged s count old new
staged-cut s start count old new is changes area held =
    let d = changes area held in
    (d.0, area, d.1, subst (λ (n : ℕ). IsRefilled (IsApart n count) d.0 area) is d.2, refilled_self (IsApart (cells_start s) 192) area d.2.bytes)

-- the first was done
pub staged-both : (s start behind count long : ℕ) (old mid new : Option Disk) → start ≡ slot_start s → behind ≡ cells_start s → long ≡ 192 → ChangesOnly start count old mid → ChangesOnly behind long mid new → IsStaged s count old new
staged-both s start behind count long old mid new is behind_is long_is first then area held =
    let b = then area held in
    let d = first b.0 b.1 in
    let k : IsRefilled (IsApart behind 192) b.0 area = subst (λ (n : ℕ). IsRefilled (IsApart behind n) b.0 area) long_is b.2 in
    (d.0, b.0, d.1, subst (λ (n : ℕ). IsRefilled (IsApart n count) d.0 b.0) is d.2, subst (λ (n : ℕ). IsRefilled (IsApart n 192) b.0 area) behind_is k)

-- what both leave
pub staged-is : (s start behind : ℕ) (bytes : List ℕ) (old mid new : State) → start ≡ slot_start s → behind ≡ cells_start s → mid ≡ after_write start bytes old → new ≡ after_sync (after_write behind zeros mid)
    → new ≡ after_sync (after_write (cells_start s) zeros (after_write (slot_start s) bytes old))
staged-is s start behind bytes old mid new is behind_is first then =
    then
    ∙ ap (λ (n : ℕ). after_sync (after_write n zeros mid)) behind_is
    ∙ ap (λ (t : State). after_sync (after_write (cells_start s) zeros t)) (first ∙ ap (λ (n : ℕ). after_write n bytes old) is)

-- ---- the whole of it: the front of a buffer is the record
module _ (p : ℕ) (le : p ≤ 1) (e : Entry) (storable : IsStorable e) (into rest : List ℕ) (count : ℕ) (encoded : into ≡ record_of Second e ++ rest) (count_is : count ≡ record_length e) where
  abbrev bytes : List ℕ
  bytes = take count into

  bytes_are : bytes ≡ record_of Second e
  bytes_are = ap (λ (l : List ℕ). take count l) encoded ∙ take_at (record_of Second e) rest count (record_len Second e ∙ sym count_is)

  other : (1 - p) ≤ 1
  other = omega arith

  -- it was cut off before byte 0 was written
  pub record-cut : (old mid : Option Disk) → IfSome old (IsPicked p) → IsStaged (1 - p) (length bytes) old mid → Turns e old mid
  record-cut old mid picked staged = first-turns p (1 - p) (omega arith) e storable bytes bytes_are (slot_start (1 - p)) (slot-of (1 - p) other) (cells_start (1 - p)) (cells-of (1 - p) other) old mid picked staged refl refl

  pub record-turns : (old mid : State) (new : Option Disk) → IsWhole 266240 old.disk → IfSome old.disk (IsPicked p)
      → mid ≡ after_sync (after_write (cells_start (1 - p)) zeros (after_write (slot_start (1 - p)) bytes old)) → ChangesOnly 0 1 mid.disk new → Turns e old.disk new
  record-turns old mid new whole picked staged_is changes = second-turns p (1 - p) (omega arith) e storable bytes bytes_are (slot_start (1 - p)) (slot-of (1 - p) other) (cells_start (1 - p)) (cells-of (1 - p) other) old mid new whole picked staged_is changes

  pub record-holds : (old mid new : State) → IsWhole 266240 old.disk
      → mid ≡ after_sync (after_write (cells_start (1 - p)) zeros (after_write (slot_start (1 - p)) bytes old)) → new ≡ after_sync (after_write 0 ((1 - p) ∷ []) mid) → IfSome new.disk (Holds e (1 - p) 0)
  record-holds old mid new whole staged_is new_is = last-holds p (1 - p) (omega arith) e storable bytes bytes_are (slot_start (1 - p)) (slot-of (1 - p) other) (cells_start (1 - p)) (cells-of (1 - p) other) old mid new whole staged_is new_is

  pub record-version : (old mid new : State) → IsWhole 266240 old.disk
      → mid ≡ after_sync (after_write (cells_start (1 - p)) zeros (after_write (slot_start (1 - p)) bytes old)) → new ≡ after_sync (after_write 0 ((1 - p) ∷ []) mid) → IfSome new.disk (λ d. IsFalse (is_old (picked_slot d.area)))
  record-version old mid new whole staged_is new_is = last-version p (1 - p) (omega arith) e storable bytes bytes_are (slot_start (1 - p)) (slot-of (1 - p) other) (cells_start (1 - p)) (cells-of (1 - p) other) old mid new whole staged_is new_is

  -- all bytes stay but those of the record, of the cells and of byte 0
  many-bytes : length bytes ≡ record_length e
  many-bytes = ap length bytes_are ∙ record_len Second e

  past-slot : (i : ℕ) → IsPastRecord (1 - p) (record_length e) i → IsApart (slot_start (1 - p)) (length bytes) i
  past-slot i past = ⊎_elim
      (λ (lt : i < slot_start (1 - p)). inl lt)
      (λ (ge : slot_start (1 - p) + record_length e ≤ i). inr (omega (arith, many-bytes)))
      past.2

  pub cut-spares : (old mid : Option Disk) → IfSome old (IsPicked p) → (IsTold old → IsTold mid) → IsWhole 266240 mid → IsStaged (1 - p) (length bytes) old mid → IfSome old (λ d. Keeps (IsPastRecord (1 - p) (record_length e)) d.area mid)
  cut-spares old mid picked told whole staged =
      keeps-but p (IsPastRecord (1 - p) (record_length e)) old mid picked told whole
      (but-less (λ i. IsApart (slot_start (1 - p)) (length bytes) i × IsApart (cells_start (1 - p)) 192 i) (IsPastRecord (1 - p) (record_length e)) old mid (λ i past. (past-slot i past, past.1))
      (staged-but (1 - p) (length bytes) old mid staged))

  pub all-spares : (old mid new : Option Disk) → IfSome old (IsPicked p) → (IsTold old → IsTold new) → IsWhole 266240 new
      → IsStaged (1 - p) (length bytes) old mid → ChangesOnly 0 1 mid new → IfSome old (λ d. Keeps (IsPastRecord (1 - p) (record_length e)) d.area new)
  all-spares old mid new picked told whole staged changes =
      keeps-but p (IsPastRecord (1 - p) (record_length e)) old new picked told whole
      (but-less (λ i. (IsApart (slot_start (1 - p)) (length bytes) i × IsApart (cells_start (1 - p)) 192 i) × IsApart 0 1 i) (IsPastRecord (1 - p) (record_length e)) old new (λ i past. ((past-slot i past, past.1), past.0))
      (but-then (λ i. IsApart (slot_start (1 - p)) (length bytes) i × IsApart (cells_start (1 - p)) 192 i) (IsApart 0 1) old mid new (staged-but (1 - p) (length bytes) old mid staged) (changes-but 0 1 mid new changes)))

  fresh-of : (disk : Option Disk) → IfSome disk (λ d. (get_or d.area 0 0 ≡ (1 - p)) × (take (length bytes) (drop (slot_start (1 - p)) d.area) ≡ bytes) × (take 192 (drop (cells_start (1 - p)) d.area) ≡ zeros)) → IfSome disk (λ d. HasFresh e (1 - p) d.area)
  fresh-of None h = tt
  fresh-of (Some d) h = record {
    selector = h.0;
    begins = ap (λ (n : ℕ). take n (drop (slot_start (1 - p)) d.area)) (sym many-bytes) ∙ h.1 ∙ bytes_are;
    cells = h.2;
  }

  pub has-fresh : (old mid new : State) → IsWhole 266240 old.disk
      → mid ≡ after_sync (after_write (cells_start (1 - p)) zeros (after_write (slot_start (1 - p)) bytes old)) → new ≡ after_sync (after_write 0 ((1 - p) ∷ []) mid) → IfSome new.disk (λ d. HasFresh e (1 - p) d.area)
  has-fresh old mid new whole staged_is new_is = fresh-of new.disk (last-there p (1 - p) (omega arith) e storable bytes bytes_are (slot_start (1 - p)) (slot-of (1 - p) other) (cells_start (1 - p)) (cells-of (1 - p) other) old mid new whole staged_is new_is)
