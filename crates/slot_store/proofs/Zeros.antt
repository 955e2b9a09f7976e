-- Areas whose cells are zeros.
use Rattle.std.proofs.Common.{◌≡◌, ℕ, ◌+◌, ◌%◌, ◌<◌, ◌≤◌, true, List, [], ◌∷◌, length, get_or, take, drop, replicate, refl, sym, ◌∙◌, ap, nat_eq, arith, rules}
use Rattle.std.specs.Prelude.{Some, Result, Ok, Err, None}
use Rattle.std.specs.List.{starts_with}
use Rattle.std.proofs.lemmas.List.{ext_get_or, places, length-take, length-drop, length-replicate, get_or-replicate}
use Rattle.upd_text.specs.Results.{◌>>=◌}
use Rattle.record_codec.specs.declared.entry.Db.{Db}
use Rattle.record_codec.specs.declared.entry.Db.TheVariants.{Empty, Full}
use Rattle.record_codec.specs.Reading.{database}
use Rattle.device_model.specs.Disk.{Disk, unmarked}
use Rattle.slot_store.specs.Slots.{picked_slot, placed, said, stood, Stands, Sound}
use Rattle.slot_store.proofs.Areas.{place, cells, cell_place, slot_at, cell_at, Looks, slot-is, stood-is}
use Rattle.slot_store.proofs.Disks.{settled-area}
use Rattle.slot_store.proofs.Records.{zeros-say}

-- where the cell says nothing, the slot is all that is said
slot-alone : (read : Result Db ℕ) → (read >>= λ db. placed db (Ok None)) ≡ read
slot-alone (Ok Empty) = refl
slot-alone (Ok (Full e)) = refl
slot-alone (Err offset) = refl

said-zeros : (slot : List ℕ) → said slot (replicate 64 0) ≡ database slot
said-zeros slot = ap (λ k. database slot >>= λ db. placed db k) zeros-say ∙ slot-alone (database slot)

module _ (area : List ℕ) (long : length area ≡ 266240) (zeros : (i : ℕ) → 1 ≤ i → i < 4096 → get_or area i 0 ≡ 0) where
  zeros-cell : (p : ℕ) → p ≤ 1 → cell_at p 0 area ≡ replicate 64 0
  zeros-cell p le =
      ext_get_or 0 _ _ (omega (arith, length-take 64 (drop (cell_place p 0) area), length-drop (cell_place p 0) area, long, length-replicate {A = ℕ} 64 0))
      (λ i lt.
      let inside : i < 64 = omega (arith, length-take 64 (drop (cell_place p 0) area), lt) in
      let left : get_or (take 64 (drop (cell_place p 0) area)) i 0 ≡ get_or area (cell_place p 0 + i) 0 = search (rules, places) in
      left ∙ zeros (cell_place p 0 + i) (omega arith) (omega arith) ∙ sym (get_or-replicate 64 i 0 0 inside))

  pub slot-says-all : stood area ≡ database (picked_slot area)
  slot-says-all =
      let p : ℕ = get_or area 0 0 % 2 in
      let looks : Looks p 0 area = record { slot = refl; cell = ap (λ (n : ℕ). n % 2) (zeros (cells p) (omega arith) (omega arith)) } in
      stood-is p 0 area looks
      ∙ ap (λ (c : List ℕ). said (slot_at p area) c) (zeros-cell p (omega arith))
      ∙ said-zeros (slot_at p area)
      ∙ ap database (sym (slot-is p area refl))

front-zeros : (l : List ℕ) → 4 ≤ length l → get_or l 0 0 ≡ 0 → get_or l 1 0 ≡ 0 → get_or l 2 0 ≡ 0 → get_or l 3 0 ≡ 0 → starts_with nat_eq l (0 ∷ 0 ∷ 0 ∷ 0 ∷ []) ≡ true
front-zeros [] le a b c d = absurd (omega (arith, le))
front-zeros (w ∷ []) le a b c d = absurd (omega (arith, le))
front-zeros (w ∷ x ∷ []) le a b c d = absurd (omega (arith, le))
front-zeros (w ∷ x ∷ y ∷ []) le a b c d = absurd (omega (arith, le))
front-zeros (w ∷ x ∷ y ∷ z ∷ l) le a b c d =
    let e : w ≡ 0 = a in
    let f : x ≡ 0 = b in
    let g : y ≡ 0 = c in
    let h : z ≡ 0 = d in
    rw (e, f, g, h) refl

empty-slot : (l : List ℕ) → starts_with nat_eq l (0 ∷ 0 ∷ 0 ∷ 0 ∷ []) ≡ true → database l ≡ Ok Empty
unfolding database
empty-slot l h = rw h refl

-- a byte of a part, and how long a part is
part-byte : (size start i : ℕ) (area : List ℕ) → i < size → get_or area (start + i) 0 ≡ 0 → get_or (take size (drop start area)) i 0 ≡ 0
part-byte size start i area lt is =
    let left : get_or (take size (drop start area)) i 0 ≡ get_or area (start + i) 0 = search (rules, places) in
    left ∙ is

part-long : (size start k : ℕ) (area : List ℕ) → k ≤ size → start + k ≤ length area → k ≤ length (take size (drop start area))
part-long size start k area le fits = omega (arith, length-take size (drop start area), length-drop start area)

-- a part whose first bytes are zeros
zeros-slot : (size start : ℕ) (area : List ℕ) → 4 ≤ size → start + 4 ≤ length area → ((i : ℕ) → i < 4 → get_or area (start + i) 0 ≡ 0) → database (take size (drop start area)) ≡ Ok Empty
zeros-slot size start area le fits zeros =
    empty-slot (take size (drop start area))
    (front-zeros (take size (drop start area)) (part-long size start 4 area le fits)
    (part-byte size start 0 area (omega arith) (zeros 0 (omega arith)))
    (part-byte size start 1 area (omega arith) (zeros 1 (omega arith)))
    (part-byte size start 2 area (omega arith) (zeros 2 (omega arith)))
    (part-byte size start 3 area (omega arith) (zeros 3 (omega arith))))

parity : (x : ℕ) → x % 2 ≤ 1
parity x = omega arith

pub all-zeros : (area : List ℕ) → length area ≡ 266240 → ((i : ℕ) → i < 266240 → get_or area i 0 ≡ 0) → stood area ≡ Ok Empty
all-zeros area long zeros =
    slot-says-all area long (λ i low high. zeros i (omega arith))
    ∙ ap database (slot-is (get_or area 0 0 % 2) area refl)
    ∙ at-place (get_or area 0 0 % 2) (parity (get_or area 0 0))
  where
    at-place : (p : ℕ) → p ≤ 1 → database (slot_at p area) ≡ Ok Empty
    at-place p le = zeros-slot 131072 (place p) area (omega arith) (omega (arith, long)) (λ i lt. zeros (place p + i) (omega arith))

pub zeros-sound : (area : List ℕ) → stood area ≡ Ok Empty → (disk : Disk) → disk.area ≡ area → disk.unsynced ≡ unmarked disk.unsynced → Sound (Some disk)
zeros-sound area is disk same settled a held = (Empty, ap stood (settled-area disk settled a held ∙ same) ∙ is)

-- the area of zeros itself
pub zeros-stand : Stands (replicate 266240 0) Empty
zeros-stand = all-zeros (replicate 266240 0) (length-replicate {A = ℕ} 266240 0) (λ i lt. get_or-replicate 266240 i 0 0 lt)
