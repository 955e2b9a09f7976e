-- A put of what a store holds.
use Rattle.std.proofs.Common.{◌≡◌, ℕ, ◌-◌, Bool, true, false, List, length, refl, sym, ap, subst, ◌∙◌, IsTrue, arith}
use Rattle.std.specs.Prelude.{Option, Some, None, IfSome, Ok, MatchBool, ⊤}
use Rattle.flow_table.specs.declared.position.Position.{Position}
use Rattle.flow_table.specs.Valid.{is_valid}
use Rattle.record_codec.specs.declared.entry.Entry.{Entry}
use Rattle.record_codec.specs.declared.entry.Db.{Db}
use Rattle.record_codec.specs.declared.entry.Db.TheVariants.{Empty, Full}
use Rattle.record_codec.specs.Spelling.{body, IfFull}
use Rattle.device_model.specs.Disk.{Disk, IsWhole, IsSettled, area_of}
use Rattle.device_model.specs.State.{State}
use Rattle.device_model.specs.How.{Through}
use Rattle.device_model.proofs.Passes.{same-room}
use Rattle.slot_store.specs.Slots.{stood, IsAt, Sound, OldOrNew}
use Rattle.slot_store.specs.Kept.{Kept, IsStorable, IsOf, IsPicked, HasRecord}
use Rattle.slot_store.specs.Put.{IsFull, moved, Wrote, Turns, Holds, IsCellPicked, IsPut}
use Rattle.slot_store.proofs.Disks.{at-area, turns-any, turns-sound}

-- ---- what a store holds at another position

pub same-body : (e : Entry) (p : Position) → body (record e { position = p }) ≡ body e
unfolding body
same-body e p = refl

pub storable-moved : (p : Position) (db : Db) → IsTrue (is_valid p) → IfFull IsStorable db → IfFull IsStorable (moved p db)
storable-moved p Empty valid s = tt
storable-moved p (Full e) valid s = record {
  right = record { position = valid; before = s.right.before; before_fits = s.right.before_fits; new = s.right.new; new_fits = s.right.new_fits; named = s.right.named; kinds = s.right.kinds; some = s.right.some; few = s.right.few; small = s.right.small; scripts = s.right.scripts; brought = s.right.brought };
  fits = omega (arith, ap (λ (b : List ℕ). length b) (same-body e p), s.fits);
}

pub full-moved : (p : Position) (db : Db) → IsFull db → IsFull (moved p db)
full-moved p Empty full = full
full-moved p (Full e) full = tt

-- the record of an entry at any position is one of the entry at another
record-moved : (p : Position) (db : Db) (cell : ℕ) (area : List ℕ) → HasRecord db cell area → HasRecord (moved p db) cell area
record-moved p Empty cell area has = has
record-moved p (Full e) cell area has = has

there-moved : (p : Position) (loaded : Bool) (db : Db) (cell : ℕ) (area : List ℕ) → MatchBool loaded ⊤ (HasRecord db cell area) → MatchBool loaded ⊤ (HasRecord (moved p db) cell area)
there-moved p true db cell area there = tt
there-moved p false db cell area there = record-moved p db cell area there

of-moved : (p : Position) (store : Kept) (disk : Option Disk) → IsOf store disk → IsOf (record store { db = moved p store.db }) disk
of-moved p store None of = tt
of-moved p store (Some d) of = record { picked = of.picked; record_there = there-moved p store.loaded store.db store.cell d.area of.record_there }

-- what a store was taken to
module _ (p : Position) (store taken : Kept) (is : taken ≡ record store { db = moved p store.db }) where
  pub taken-full : IsFull store.db → IsFull taken.db
  taken-full full = subst IsFull (sym (ap (λ (k : Kept). k.db) is)) (full-moved p store.db full)

  pub taken-of : (disk : Option Disk) → IsOf store disk → IsOf taken disk
  taken-of disk of = subst (λ (k : Kept). IsOf k disk) (sym is) (of-moved p store disk of)

  pub taken-db : taken.db ≡ moved p store.db
  taken-db = ap (λ (k : Kept). k.db) is

-- another entry was loaded
pub of-loaded : (e : Entry) (store : Kept) (disk : Option Disk) → IsOf store disk → IsOf (record store { db = Full e; loaded = true }) disk
of-loaded e store None of = tt
of-loaded e store (Some d) of = record { picked = of.picked; record_there = tt }

-- ---- what the writing needs

pub of-picked : (store : Kept) (disk : Option Disk) → IsOf store disk → IfSome disk (IsPicked store.picked)
of-picked store None of = tt
of-picked store (Some d) of = of.picked

pub of-settled : (store : Kept) (disk : Option Disk) → IsOf store disk → IsSettled disk
of-settled store None of = tt
of-settled store (Some d) of = of.picked.settled

has-there : (loaded : Bool) (H : Type 0) → loaded ≡ false → MatchBool loaded ⊤ H → H
has-there true H is there = absurd cc
has-there false H is there = there

pub of-cell : (e : Entry) (store : Kept) (disk : Option Disk) → store.db ≡ Full e → store.loaded ≡ false → IsOf store disk → IfSome disk (IsCellPicked store.picked store.cell)
of-cell e store None db put of = tt
of-cell e store (Some d) db put of =
    let has : HasRecord (Full e) store.cell d.area = subst (λ (x : Db). HasRecord x store.cell d.area) db (has-there store.loaded (HasRecord store.db store.cell d.area) put of.record_there) in
    record { slot = of.picked; of_slot = has.1 }

pub of-record : (e : Entry) (store : Kept) (disk : Option Disk) → store.db ≡ Full e → store.loaded ≡ false → IsOf store disk → IfSome disk (λ d. HasRecord (Full e) store.cell d.area)
of-record e store None db put of = tt
of-record e store (Some d) db put of = subst (λ (x : Db). HasRecord x store.cell d.area) db (has-there store.loaded (HasRecord store.db store.cell d.area) put of.record_there)

-- ---- what a put leaves

module _ (e : Entry) (db : Db) (is : db ≡ Full e) (old new : Option Disk) (turns : Turns e old new) where
  pub put-any : OldOrNew db old new
  put-any = subst (λ (d : Db). OldOrNew d old new) (sym is) (turns-any e old new turns)

  pub put-sound : Sound old → Sound new
  put-sound = turns-sound e old new turns

pub put-done : (e : Entry) (db : Db) (store : Kept) (old new : State) → db ≡ Full e → store.db ≡ db → store.loaded ≡ false → Wrote Through old new → IsWhole 266240 new.disk → IfSome new.disk (Holds e store.picked store.cell) → IsPut db store old new
put-done e db store old new is same put wrote whole holds =
    let full : store.db ≡ Full e = same ∙ is in
    record {
      db = same;
      stands = subst (λ (d : Db). IfSome (area_of new.disk) (λ a. stood a ≡ Ok d)) (sym full) (stands new.disk holds);
      is_of = of new.disk holds;
      is_at = subst (λ (d : Db). IsAt d new.disk) (sym full) (at-area 266240 new.disk (Full e) whole (settled new.disk holds) (stands new.disk holds));
      room = same-room old new wrote.passed;
      put = put;
    }
  where
    settled : (disk : Option Disk) → IfSome disk (Holds e store.picked store.cell) → IsSettled disk
    settled None h = tt
    settled (Some d) h = h.slot.settled

    stands : (disk : Option Disk) → IfSome disk (Holds e store.picked store.cell) → IfSome (area_of disk) (λ a. stood a ≡ Ok (Full e))
    stands None h = tt
    stands (Some d) h = h.stands

    there : (area : List ℕ) → HasRecord (Full e) store.cell area → MatchBool store.loaded ⊤ (HasRecord store.db store.cell area)
    there area h =
        let one : HasRecord store.db store.cell area = subst (λ (d : Db). HasRecord d store.cell area) (sym (same ∙ is)) h in
        subst (λ (b : Bool). MatchBool b ⊤ (HasRecord store.db store.cell area)) (sym put) one

    of : (disk : Option Disk) → IfSome disk (Holds e store.picked store.cell) → IsOf store disk
    of None h = tt
    of (Some d) h = record { picked = h.slot; record_there = there d.area h.record_there }
