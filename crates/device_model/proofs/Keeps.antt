-- What a call that writes nothing leaves of the disk, whatever it answers.
use Rattle.std.proofs.Common.{◌≡◌, ◌⊎◌, inl, inr, ⊎_elim, ℕ, ◌+◌, ◌<◌, ◌≤◌, Bool, true, false, List, [], ◌∷◌, length, refl, sym, ◌∙◌, ap, subst, arith}
use Rattle.std.specs.Prelude.{Option, Some, None, Result, Ok, Err, option_map, MatchBool}
use Rattle.device_model.specs.declared.calls.Down.{Down}
use Rattle.device_model.specs.declared.calls.Down.TheVariants.{Off, Fault}
use Rattle.device_model.specs.Disk.{Disk, IsApart, IsSynced, IsRefilled, IsTorn, WhereTold, IsSettled, unmarked, synced, MayHold, KeepsDisk}
use Rattle.device_model.specs.declared.calls.Call.{Call}
use Rattle.device_model.specs.declared.calls.Ran.{Ran}
use Rattle.device_model.specs.declared.calls.Ran.TheVariants as ran
use Rattle.device_model.specs.declared.calls.Asked.{Asked}
use Rattle.device_model.specs.declared.calls.Asked.TheVariants as asked
use Rattle.device_model.specs.declared.calls.Event.TheVariants.{Pause}
use Rattle.device_model.specs.Work.{Work}
use Rattle.device_model.specs.State.{State, LosesPower, LosesIn, LosesStarted, LosesChild, AfterChild, EndsRead, EndsSync, EndsWork, EndsChild, EndsAsk, EndsPause, after_work, with_events}
use Rattle.device_model.proofs.Refilled.{refilled_none, refilled_wider, unmarked_synced}

pub same : (old new : Option Disk) → new ≡ old → KeepsDisk old new
same old new e = record { adds = λ a h. subst (λ (d : Option Disk). MayHold d a) e h; settled = λ s. e }

pub all_synced : (u : List Bool) → u ≡ unmarked u → (i : ℕ) → IsSynced u i
all_synced u e i = subst (λ (v : List Bool). IsSynced v i) (sym e) (unmarked_synced u i)

pub torn : (old new : Option Disk) → WhereTold (IsTorn 0 0) old new → KeepsDisk old new
torn None None h = record { adds = λ a held. held; settled = λ s. refl }
torn None (Some n) h = absurd h
torn (Some o) None h = absurd h
torn (Some o) (Some n) h = record {
  adds = λ a held.
      let area : a ≡ n.area = refilled_none (IsSynced n.unsynced) (λ i. subst (λ (u : List Bool). IsSynced u i) (sym h.unsynced) (unmarked_synced o.unsynced i)) n.area a held in
      refilled_wider (λ i. IsSynced o.unsynced i × IsApart 0 0 i) (IsSynced o.unsynced) o.area a (λ i out. (out, inr (omega arith))) (subst (λ (b : List ℕ). IsRefilled (λ i. IsSynced o.unsynced i × IsApart 0 0 i) o.area b) (sym area) h.area);
  settled = λ s.
      let area : n.area ≡ o.area = refilled_none (λ i. IsSynced o.unsynced i × IsApart 0 0 i) (λ i. (all_synced o.unsynced s i, inr (omega arith))) o.area n.area h.area in
      let flags : n.unsynced ≡ o.unsynced = h.unsynced ∙ sym s in
      ap (λ (x : List ℕ). Some (record n { area = x })) area ∙ ap (λ (u : List Bool). Some (record o { unsynced = u })) flags;
}

pub synced_keeps : (old : Option Disk) → KeepsDisk old (option_map synced old)
synced_keeps None = record { adds = λ a held. held; settled = λ s. refl }
synced_keeps (Some o) = record {
  adds = λ a held. refilled_wider (IsSynced (unmarked o.unsynced)) (IsSynced o.unsynced) o.area a (λ i out. unmarked_synced o.unsynced i) held;
  settled = λ s. ap (λ (u : List Bool). Some (record o { unsynced = u })) (sym s);
}

pub loses : (old new : State) → LosesPower 0 0 old new → KeepsDisk old.disk new.disk
loses old new l = torn old.disk new.disk l.disk

pub off : (b : Bool) (L E K : Type 0) → MatchBool b L E → (L → K) → (E → K) → K
off true L E K h f g = f h
off false L E K h f g = g h

stays : (old new : State) → new ≡ old → KeepsDisk old.disk new.disk
stays old new e = same old.disk new.disk (ap (λ (s : State). s.disk) e)

pub read_keeps : {T : Type 0} (old : State) (r : Result T Down) (new : State) → EndsRead old r new → KeepsDisk old.disk new.disk
read_keeps old (Ok x) new h = stays old new h.1
read_keeps old (Err Fault) new h = same old.disk new.disk (ap (λ (s : State). s.disk) h.1)
read_keeps old (Err Off) new h = off old.on (LosesPower 0 0 old new) (new ≡ old) (KeepsDisk old.disk new.disk) h (loses old new) (stays old new)

pub sync_keeps : {T : Type 0} (old : State) (r : Result T Down) (new : State) → EndsSync old r new → KeepsDisk old.disk new.disk
sync_keeps old (Ok x) new h = subst (λ (d : Option Disk). KeepsDisk old.disk d) (sym (ap (λ (s : State). s.disk) h.1)) (synced_keeps old.disk)
sync_keeps old (Err Fault) new h = same old.disk new.disk (ap (λ (s : State). s.disk) h.1)
sync_keeps old (Err Off) new h = off old.on (LosesPower 0 0 old new) (new ≡ old) (KeepsDisk old.disk new.disk) h (loses old new) (stays old new)

-- power was lost before an effect or after it
pub loses-in : (effect : State → State) (old new : State) → (effect old).disk ≡ old.disk → LosesIn effect old new → KeepsDisk old.disk new.disk
loses-in effect old new e (inl before) = loses old new before
loses-in effect old new e (inr after) = subst (λ (d : Option Disk). KeepsDisk d new.disk) e (torn (effect old).disk new.disk after.disk)

pub work_keeps : {T : Type 0} (change : Work → Work) (old : State) (r : Result T Down) (new : State) → EndsWork change old r new → KeepsDisk old.disk new.disk
work_keeps change old (Ok x) new h = same old.disk new.disk (ap (λ (s : State). s.disk) h.1)
work_keeps change old (Err Fault) new h = same old.disk new.disk (ap (λ (s : State). s.disk) h.1)
work_keeps change old (Err Off) new h = off old.on (LosesIn (after_work change) old new) (new ≡ old) (KeepsDisk old.disk new.disk) h (loses-in (after_work change) old new refl) (stays old new)

pub loses-started : (c : Call) (old new : State) → LosesStarted c old new → KeepsDisk old.disk new.disk
loses-started c old new after = torn old.disk new.disk after.disk

loses-child : (c : Call) (old new : State) → LosesChild c old new → KeepsDisk old.disk new.disk
loses-child c old new (inl before) = loses old new before
loses-child c old new (inr after) = loses-started c old new after

pub child_keeps : (c : Call) (old : State) (r : Ran) (new : State) → EndsChild c old r new → KeepsDisk old.disk new.disk
child_keeps c old (ran.Exit code) new h = same old.disk new.disk (ap (λ (s : State). s.disk) h.1.rest)
child_keeps c old ran.NotStarted new h = same old.disk new.disk (ap (λ (s : State). s.disk) h.1.rest)
child_keeps c old ran.Off new h = off old.on (LosesChild c old new) (new ≡ old) (KeepsDisk old.disk new.disk) h (loses-child c old new) (stays old new)

pub ask_keeps : (c : Call) (old : State) (r : Asked) (new : State) → EndsAsk c old r new → KeepsDisk old.disk new.disk
ask_keeps c old (asked.Reply code text) new h = same old.disk new.disk (ap (λ (s : State). s.disk) h.1.rest)
ask_keeps c old asked.NotStarted new h = same old.disk new.disk (ap (λ (s : State). s.disk) h.1.rest)
ask_keeps c old asked.Off new h = off old.on (LosesChild c old new) (new ≡ old) (KeepsDisk old.disk new.disk) h (loses-child c old new) (stays old new)

pub pause_keeps : {T E : Type 0} (seconds : ℕ) (old : State) (r : Result T E) (new : State) → EndsPause seconds old r new → KeepsDisk old.disk new.disk
pause_keeps seconds old (Ok x) new h = same old.disk new.disk (ap (λ (s : State). s.disk) h.1)
pause_keeps seconds old (Err e) new h = off old.on (LosesIn (with_events (Pause seconds ∷ [])) old new) (new ≡ old) (KeepsDisk old.disk new.disk) h (loses-in (with_events (Pause seconds ∷ [])) old new refl) (stays old new)
