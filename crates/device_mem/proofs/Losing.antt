-- A loss after a call's effect is a loss in the call.
use Rattle.std.proofs.Common.{◌≡◌, inr, ⊎_elim, ℕ, ◌+◌, ◌-◌, ◌<◌, ◌≤◌, true, false, List, [], ◌∷◌, ◌++◌, length, replicate, refl, ◌∙◌, ap, arith}
use Rattle.std.specs.Prelude.{Option, Some, None, option_map}
use Rattle.std.proofs.lemmas.List.{length-replicate}
use Rattle.device_model.specs.declared.calls.Event.TheVariants.{Loss}
use Rattle.device_model.specs.Work.{work_lost}
use Rattle.device_model.specs.Disk.{Disk, IsApart, IsSynced, IsTorn, WhereTold, IsWhole, unmarked, written, synced}
use Rattle.upd_text.specs.Counts.{counted}
use Rattle.device_model.specs.State.{State, LosesPower, after_write, after_sync}
use Rattle.device_model.proofs.Refilled.{refilled_wider, length-overwritten, overwritten_before, overwritten_behind, synced_marked, unmarked_synced}

rest_after : (old mid new : State) → mid ≡ record old { disk = mid.disk } → new ≡ record mid { on = false; disk = new.disk; work = option_map work_lost mid.work; journal = mid.journal ++ Loss ∷ []; room = mid.room - 1; losses = counted mid.losses } → new ≡ record old { on = false; disk = new.disk; work = option_map work_lost old.work; journal = old.journal ++ Loss ∷ []; room = old.room - 1; losses = counted old.losses }
rest_after old mid new is l = l ∙ ap (λ (s : State). record s { on = false; disk = new.disk; work = option_map work_lost s.work; journal = s.journal ++ Loss ∷ []; room = s.room - 1; losses = counted s.losses }) is

-- a disk that is torn once it was synced
pub torn_synced : (old new : Option Disk) → WhereTold (IsTorn 0 0) (option_map synced old) new → WhereTold (IsTorn 0 0) old new
torn_synced None None h = tt
torn_synced None (Some n) h = absurd h
torn_synced (Some o) None h = absurd h
torn_synced (Some o) (Some n) h = record {
  area = refilled_wider (λ i. IsSynced (unmarked o.unsynced) i × IsApart 0 0 i) (λ i. IsSynced o.unsynced i × IsApart 0 0 i) o.area n.area (λ i out. (unmarked_synced o.unsynced i, out.1)) h.area;
  unsynced = h.unsynced ∙ ap (λ (n : ℕ). replicate n false) (length-replicate (length o.unsynced) false);
}

pub lost_synced : (old new : State) → LosesPower 0 0 (after_sync old) new → LosesPower 0 0 old new
lost_synced old new l = record { rest = rest_after old (after_sync old) new refl l.rest; disk = torn_synced old.disk new.disk l.disk }

-- a disk of this size that is torn once it was written
pub torn_written : (size at : ℕ) (bytes : List ℕ) → at + length bytes ≤ size → (old new : Option Disk) → IsWhole size old → WhereTold (IsTorn 0 0) (option_map (written at bytes) old) new → WhereTold (IsTorn at (length bytes)) old new
torn_written size at bytes fits None None w h = tt
torn_written size at bytes fits None (Some n) w h = absurd h
torn_written size at bytes fits (Some o) None w h = absurd h
torn_written size at bytes fits (Some o) (Some n) w h =
    let fits_area : at + length bytes ≤ length o.area = omega (arith, w.size) in
    let fits_flags : at + length bytes ≤ length o.unsynced = omega (arith, w.flags) in
    let count : length (replicate (length bytes) true) ≡ length bytes = length-replicate (length bytes) true in
    record {
      area = record {
        same_length = h.area.same_length ∙ length-overwritten 0 at bytes o.area fits_area;
        bytes = h.area.bytes;
        outside = λ i out. h.area.outside i (synced_marked at (length bytes) o.unsynced fits_flags i out.0 out.1, inr (omega arith)) ∙ ⊎_elim
            (λ (lt : i < at). overwritten_before 0 at bytes o.area fits_area i lt)
            (λ (le : at + length bytes ≤ i). overwritten_behind 0 at bytes o.area fits_area i le)
            out.1;
      };
      unsynced = h.unsynced ∙ ap (λ (n : ℕ). replicate n false) (length-overwritten false at (replicate (length bytes) true) o.unsynced (omega (arith, count)));
    }

pub lost_written : (at : ℕ) (bytes : List ℕ) → at + length bytes ≤ 266240 → (old new : State) → IsWhole 266240 old.disk → LosesPower 0 0 (after_write at bytes old) new → LosesPower at (length bytes) old new
lost_written at bytes fits old new w l = record { rest = rest_after old (after_write at bytes old) new refl l.rest; disk = torn_written 266240 at bytes fits old.disk new.disk w l.disk }
