-- What the disk may hold after a write, whatever it answered.
use Rattle.std.proofs.Common.{◌≡◌, ◌⊎◌, ⊎_elim, ℕ, ◌+◌, ◌<◌, ◌≤◌, Bool, true, false, List, length, refl, sym, ◌∙◌, ap, subst, arith}
use Rattle.std.specs.Prelude.{Option, Some, None, Result, Ok, Err, option_map, MatchBool}
use Rattle.device_model.specs.declared.calls.Down.{Down}
use Rattle.device_model.specs.declared.calls.Down.TheVariants.{Off, Fault}
use Rattle.device_model.specs.Disk.{Disk, IsApart, IsSynced, marked, unmarked, IsRefilled, IsTorn, IsSpoiled, WhereTold, IsDisk, IsWhole, MayHold, ChangesOnly, written}
use Rattle.device_model.specs.State.{State, LosesPower, EndsWrite}
use Rattle.device_model.proofs.Refilled.{refilled_self, refilled_none, refilled_trans, refilled_wider, refilled_split, synced_marked, unmarked_synced, length-overwritten, overwritten_before, overwritten_behind}

-- where nothing is unsynced, the area is what stands
settled : (old : List Bool) (n : Disk) (a : List ℕ) → n.unsynced ≡ unmarked old → IsRefilled (IsSynced n.unsynced) n.area a → a ≡ n.area
settled old n a e held = refilled_none (IsSynced n.unsynced) (λ i. subst (λ (u : List Bool). IsSynced u i) (sym e) (unmarked_synced old i)) n.area a held

module _ (size at count : ℕ) (fits : at + count ≤ size) where
  -- from any refill of the unsynced bytes and this range
  union : (o : Disk) → IsDisk size o → (a : List ℕ) → IsRefilled (λ i. IsSynced o.unsynced i × IsApart at count i) o.area a → (d : List ℕ) × IsRefilled (IsSynced o.unsynced) o.area d × IsRefilled (IsApart at count) d a
  union o whole a h = refilled_split (IsSynced o.unsynced) at count o.area a (omega (arith, whole.size)) whole.bytes h

  pub lost : (old new : Option Disk) → IsWhole size old → WhereTold (IsTorn at count) old new → ChangesOnly at count old new
  lost None None w h a held = (a, held, refilled_self (IsApart at count) a held)
  lost None (Some n) w h a held = absurd h
  lost (Some o) None w h a held = absurd h
  lost (Some o) (Some n) w h a held =
      let same : a ≡ n.area = settled o.unsynced n a h.unsynced held in
      union o w a (subst (λ (b : List ℕ). IsRefilled (λ i. IsSynced o.unsynced i × IsApart at count i) o.area b) (sym same) h.area)

  pub spoiled : (old new : Option Disk) → IsWhole size old → WhereTold (IsSpoiled at count) old new → ChangesOnly at count old new
  spoiled None None w h a held = (a, held, refilled_self (IsApart at count) a held)
  spoiled None (Some n) w h a held = absurd h
  spoiled (Some o) None w h a held = absurd h
  spoiled (Some o) (Some n) w h a held =
      let both : ℕ → Type 0 = λ i. IsSynced o.unsynced i × IsApart at count i in
      let fits_flags : at + count ≤ length o.unsynced = omega (arith, w.flags) in
      let held_marked = subst (λ (u : List Bool). IsRefilled (IsSynced u) n.area a) h.unsynced held in
      let second = refilled_wider (IsSynced (marked at count o.unsynced)) both n.area a (λ i out. synced_marked at count o.unsynced fits_flags i out.0 out.1) held_marked in
      let first = refilled_wider (IsApart at count) both o.area n.area (λ i out. out.1) h.area in
      union o w a (refilled_trans both o.area n.area a first second)

pub done : (size at : ℕ) (bytes : List ℕ) → at + length bytes ≤ size → (old : Option Disk) → IsWhole size old → ChangesOnly at (length bytes) old (option_map (written at bytes) old)
done size at bytes fits None w a held = (a, held, refilled_self _ a held)
done size at bytes fits (Some o) w a held =
    let fits_area : at + length bytes ≤ length o.area = omega (arith, w.size) in
    let fits_flags : at + length bytes ≤ length o.unsynced = omega (arith, w.flags) in
    union size at (length bytes) fits o w a (record {
      same_length = held.same_length ∙ length-overwritten 0 at bytes o.area fits_area;
      bytes = held.bytes;
      outside = λ i out. held.outside i (synced_marked at (length bytes) o.unsynced fits_flags i out.0 out.1) ∙ ⊎_elim
          (λ (lt : i < at). overwritten_before 0 at bytes o.area fits_area i lt)
          (λ (le : at + length bytes ≤ i). overwritten_behind 0 at bytes o.area fits_area i le)
          out.1;
    })

pub went-off : (on : Bool) (L E : Type 0) → on ≡ true → MatchBool on L E → L
went-off true L E e h = h
went-off false L E e h = absurd cc

-- a write to a device that is on changes only its range
pub write-changes : {T : Type 0} (size at : ℕ) (bytes : List ℕ) → at + length bytes ≤ size → (old : State) (result : Result T Down) (new : State) → IsWhole size old.disk → old.on ≡ true → EndsWrite at bytes old result new → ChangesOnly at (length bytes) old.disk new.disk
write-changes size at bytes fits old (Ok x) new w on ends a held = done size at bytes fits old.disk w a (subst (λ (d : Option Disk). MayHold d a) (ap (λ (s : State). s.disk) ends.1) held)
write-changes size at bytes fits old (Err Fault) new w on ends a held = spoiled size at (length bytes) fits old.disk new.disk w ends.1.disk a held
write-changes size at bytes fits old (Err Off) new w on ends a held = lost size at (length bytes) fits old.disk new.disk w (went-off old.on (LosesPower at (length bytes) old new) (new ≡ old) on ends).disk a held
