-- Which bytes of an area stay.
use Rattle.std.proofs.Common.{◌≡◌, ℕ, ◌+◌, ◌-◌, Bool, true, false, List, length, refl, sym, ap, subst, ◌∙◌}
use Rattle.std.specs.Prelude.{Option, Some, None, IfSome, MatchBool}
use Rattle.flow_table.specs.declared.position.Position.{Position}
use Rattle.record_codec.specs.declared.entry.Db.{Db}
use Rattle.record_codec.specs.declared.entry.Db.TheVariants.{Empty, Full}
use Rattle.device_model.specs.Disk.{Disk, MayHold, ChangesOnly, IsApart, IsSynced, IsTold, IsWhole}
use Rattle.device_model.proofs.Refilled.{refilled_self}
use Rattle.slot_store.specs.declared.layout.TheConstants.{CELLS}
use Rattle.slot_store.specs.Slots.{slot_start, cells_start}
use Rattle.slot_store.specs.Kept.{Kept, IsPicked}
use Rattle.slot_store.specs.Put.{IsStaged, moved}
use Rattle.slot_store.specs.Written.{SameAt, Keeps, IsPastRecord, IsPastCell, IsSpared, size_of}
use Rattle.slot_store.proofs.Disks.{settled-area}
use Rattle.slot_store.proofs.Puts.{same-body}

-- what new may hold is what old may hold, with these bytes as they were
abbrev pub HoldsBut : (ℕ → Type 0) → Option Disk → Option Disk → Type 0
HoldsBut kept old new = (area : List ℕ) → MayHold new area → (before : List ℕ) × MayHold old before × SameAt kept before area

pub changes-but : (at count : ℕ) (old new : Option Disk) → ChangesOnly at count old new → HoldsBut (IsApart at count) old new
changes-but at count old new changes area held = let d = changes area held in (d.0, d.1, λ i out. d.2.outside i out)

pub staged-but : (slot count : ℕ) (old new : Option Disk) → IsStaged slot count old new → HoldsBut (λ i. IsApart (slot_start slot) count i × IsApart (cells_start slot) CELLS i) old new
staged-but slot count old new staged area held =
    let d = staged area held in
    (d.0, d.2, λ i both. d.4.outside i both.1 ∙ d.3.outside i both.0)

pub but-then : (k l : ℕ → Type 0) (old mid new : Option Disk) → HoldsBut k old mid → HoldsBut l mid new → HoldsBut (λ i. k i × l i) old new
but-then k l old mid new h j area held =
    let m = j area held in
    let b = h m.0 m.1 in
    (b.0, b.1, λ i both. m.2 i both.1 ∙ b.2 i both.0)

pub but-less : (k l : ℕ → Type 0) (old new : Option Disk) → ((i : ℕ) → l i → k i) → HoldsBut k old new → HoldsBut l old new
but-less k l old new less h area held = let d = h area held in (d.0, d.1, λ i is. d.2 i (less i is))

pub keeps-but : (p : ℕ) (kept : ℕ → Type 0) (old new : Option Disk) → IfSome old (IsPicked p) → (IsTold old → IsTold new) → IsWhole 266240 new → HoldsBut kept old new → IfSome old (λ o. Keeps kept o.area new)
keeps-but p kept None new is told whole h = tt
keeps-but p kept (Some o) None is told whole h = absurd (told tt)
keeps-but p kept (Some o) (Some n) is told whole h =
    let all : (area : List ℕ) → MayHold (Some n) area → SameAt kept o.area area = λ area held. let d = h area held in subst (λ (l : List ℕ). SameAt kept l area) (settled-area o is.settled d.0 d.1) d.2 in
    record { reads = all n.area (refilled_self (IsSynced n.unsynced) n.area whole.bytes); holds = all }

-- ---- the same of a store

size-moved : (p : Position) (db : Db) → size_of (moved p db) ≡ size_of db
size-moved p Empty = refl
size-moved p (Full e) = ap (λ (b : List ℕ). 16 + length b) (same-body e p)

-- a store that was loaded, and one that was not
pub spared-loaded : (p : Position) (store : Kept) (old new : Option Disk) → store.loaded ≡ true → IfSome old (λ o. Keeps (IsPastRecord (1 - store.picked) (size_of (moved p store.db))) o.area new) → IfSome old (λ o. Keeps (IsSpared store) o.area new)
spared-loaded p store old new is h = subst (λ (b : Bool). IfSome old (λ o. Keeps (λ i. MatchBool b (IsPastRecord (1 - store.picked) (size_of store.db) i) (IsPastCell store.picked (1 - store.cell) i)) o.area new)) (sym is)
    (subst (λ (n : ℕ). IfSome old (λ o. Keeps (IsPastRecord (1 - store.picked) n) o.area new)) (size-moved p store.db) h)

pub spared-put : (store : Kept) (old new : Option Disk) → store.loaded ≡ false → IfSome old (λ o. Keeps (IsPastCell store.picked (1 - store.cell)) o.area new) → IfSome old (λ o. Keeps (IsSpared store) o.area new)
spared-put store old new is h = subst (λ (b : Bool). IfSome old (λ o. Keeps (λ i. MatchBool b (IsPastRecord (1 - store.picked) (size_of store.db) i) (IsPastCell store.picked (1 - store.cell) i)) o.area new)) (sym is) h
