-- Calls that start nothing: what one leaves, and two in a row.
use Rattle.std.proofs.Common.{◌≡◌, ℕ, Bool, true, false, List, [], refl, sym, ◌∙◌, ap, subst}
use Rattle.std.specs.Prelude.{Option, Some, None, Result, Ok, Err, MatchBool, option_map}
use Rattle.device_model.specs.declared.calls.Down.{Down}
use Rattle.device_model.specs.declared.calls.Down.TheVariants.{Off, Fault}
use Rattle.device_model.specs.Disk.{Disk, WhereTold, IsTorn, IsTold, KeepsDisk, MayHold, synced}
use Rattle.device_model.specs.State.{State, LosesPower, Fails, EndsRead, EndsSync}
use Rattle.device_model.specs.How.{How, Through, PowerLost, DiskFailed, how_of, Waited}
use Rattle.device_model.proofs.Passes.{passed-still, passed-lost, passed-then}

told-torn : (old new : Option Disk) → WhereTold (IsTorn 0 0) old new → IsTold old → IsTold new
told-torn None None h t = t
told-torn None (Some n) h t = absurd h
told-torn (Some o) None h t = absurd h
told-torn (Some o) (Some n) h t = tt

told-same : (old new : Option Disk) → new ≡ old → IsTold old → IsTold new
told-same old new e t = subst IsTold (sym e) t

-- a call that left all as it was
pub waited-same : (old new : State) → old.on ≡ true → new ≡ old → Waited Through old new
waited-same old new on e = record {
  passed =
      let still : new.on ≡ true = ap (λ (s : State). s.on) e ∙ on in
      passed-still Through old new (record { on = still; losses = ap (λ (s : State). s.losses) e; faults = ap (λ (s : State). s.faults) e }) still (ap (λ (s : State). s.journal) e) (ap (λ (s : State). s.room) e) (ap (λ (s : State). s.work) e);
  adds = λ a h. subst (λ (s : State). MayHold s.disk a) e h;
  told = told-same old.disk new.disk (ap (λ (s : State). s.disk) e);
}

waited-failed : (old new : State) → old.on ≡ true → Fails old new → Waited DiskFailed old new
waited-failed old new on e = record {
  passed =
      let still : new.on ≡ true = ap (λ (s : State). s.on) e ∙ on in
      passed-still DiskFailed old new (record { on = still; losses = ap (λ (s : State). s.losses) e; faults = ap (λ (s : State). s.faults) e }) still (ap (λ (s : State). s.journal) e) (ap (λ (s : State). s.room) e) (ap (λ (s : State). s.work) e);
  adds = λ a h. subst (λ (s : State). MayHold s.disk a) e h;
  told = told-same old.disk new.disk (ap (λ (s : State). s.disk) e);
}

waited-off : (old new : State) → old.on ≡ true → MatchBool old.on (LosesPower 0 0 old new) (new ≡ old) → KeepsDisk old.disk new.disk → Waited PowerLost old new
waited-off old new on h k =
    let l : LosesPower 0 0 old new = lost old.on on h in
    record { passed = passed-lost old new l; adds = k.adds; told = told-torn old.disk new.disk l.disk }
  where
    lost : (b : Bool) → b ≡ true → MatchBool b (LosesPower 0 0 old new) (new ≡ old) → LosesPower 0 0 old new
    lost true e h = h
    lost false e h = absurd cc

pub read-waits : {T : Type 0} (old : State) (r : Result T Down) (new : State) → old.on ≡ true → EndsRead old r new → KeepsDisk old.disk new.disk → Waited (how_of r) old new
read-waits old (Ok x) new on h k = waited-same old new on h.1
read-waits old (Err Fault) new on h k = waited-failed old new on h.1
read-waits old (Err Off) new on h k = waited-off old new on h k

told-synced : (disk : Option Disk) (new : Option Disk) → new ≡ option_map synced disk → IsTold disk → IsTold new
told-synced None new e t = absurd t
told-synced (Some d) new e t = subst IsTold (sym e) tt

pub sync-waits : {T : Type 0} (old : State) (r : Result T Down) (new : State) → old.on ≡ true → EndsSync old r new → KeepsDisk old.disk new.disk → Waited (how_of r) old new
sync-waits old (Ok x) new on h k = record {
  passed =
      let still : new.on ≡ true = ap (λ (s : State). s.on) h.1 ∙ on in
      passed-still Through old new (record { on = still; losses = ap (λ (s : State). s.losses) h.1; faults = ap (λ (s : State). s.faults) h.1 }) still (ap (λ (s : State). s.journal) h.1) (ap (λ (s : State). s.room) h.1) (ap (λ (s : State). s.work) h.1);
  adds = k.adds;
  told = told-synced old.disk new.disk (ap (λ (s : State). s.disk) h.1);
}
sync-waits old (Err Fault) new on h k = waited-failed old new on h.1
sync-waits old (Err Off) new on h k = waited-off old new on h k

-- two stretches, of which the first went through
pub waited-then : (how : How) (old mid new : State) → Waited Through old mid → Waited how mid new → Waited how old new
waited-then how old mid new a b = record {
  passed = passed-then [] [] how old mid new a.passed b.passed;
  adds = λ x h. a.adds x (b.adds x h);
  told = λ t. b.told (a.told t);
}
