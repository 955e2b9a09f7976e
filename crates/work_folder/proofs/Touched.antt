-- What a call of the work folder touches.
use Rattle.std.proofs.Common.{◌≡◌, ◌∙◌, ◌⊎◌, inl, inr, Bool, true, false, Option, Some, None, Result, Ok, Err, refl, sym, ap, subst}
use Rattle.std.specs.Prelude.{option_map, MatchBool}
use Rattle.device_model.specs.declared.calls.Down.{Down}
use Rattle.device_model.specs.declared.calls.Down.TheVariants.{Off, Fault}
use Rattle.upd_text.specs.Told.{WhereTold}
use Rattle.device_model.specs.Disk.{KeepsDisk}
use Rattle.device_model.specs.Work.{Work, work_failed}
use Rattle.device_model.specs.State.{State, LosesPower, LosesIn, EndsWork, after_work}
use Rattle.device_model.specs.How.{How, Through, PowerLost, DiskFailed, how_of, work_after}
use Rattle.device_model.proofs.Passes.{passed-still, passed-lost, passed-none}
use Rattle.work_folder.specs.Prepare.{IsReady, Touches}

changed_told : (change : Work → Work) (work : Option Work) → WhereTold (λ a b. Unit {0}) work (option_map change work)
changed_told change None = tt
changed_told change (Some w) = tt

still_told : (work : Option Work) → WhereTold (λ a b. Unit {0}) work work
still_told None = tt
still_told (Some w) = tt

touches_lost : (change : Work → Work) (old new : State) → new.disk ≡ old.disk → LosesIn (after_work change) old new → Touches PowerLost old new
touches_lost change old new disk (inl l) = record { ready = old.work; told = still_told old.work; passed = passed-lost old new l; disk = disk }
touches_lost change old new disk (inr l) = record { ready = option_map change old.work; told = changed_told change old.work; passed = passed-lost (after_work change old) new l; disk = disk }

off_by : (on : Bool) (lost : Type 0) (A : Type 0) (old new : State) → on ≡ true → MatchBool on lost (new ≡ old) → (lost → A) → A
off_by true lost A old new e h f = f h
off_by false lost A old new e h f = absurd cc

-- a call of the work folder on a device that is on and nothing of whose disk is unsynced
pub touches_call : {T : Type 0} (change : Work → Work) (old : State) (r : Result T Down) (new : State) → IsReady old → EndsWork change old r new → KeepsDisk old.disk new.disk → Touches (how_of r) old new
touches_call change old (Ok x) new ready h keeps =
    let disk = keeps.settled ready.settled in
    record {
      ready = new.work;
      told = subst (λ (w : Option Work). WhereTold (λ a b. Unit {0}) old.work w) (sym (ap (λ (s : State). s.work) h.1)) (changed_told change old.work);
      passed = passed-still Through (record old { work = new.work }) new (record { on = ap (λ (s : State). s.on) h.1 ∙ h.0; losses = ap (λ (s : State). s.losses) h.1; faults = ap (λ (s : State). s.faults) h.1 }) (ap (λ (s : State). s.on) h.1 ∙ h.0) (ap (λ (s : State). s.journal) h.1) (ap (λ (s : State). s.room) h.1) refl;
      disk = disk;
    }
touches_call change old (Err Fault) new ready h keeps =
    let disk = keeps.settled ready.settled in
    record {
      ready = new.work;
      told = subst (λ (w : Option Work). WhereTold (λ a b. Unit {0}) old.work w) (sym (ap (λ (s : State). s.work) h.1)) (changed_told work_failed old.work);
      passed = passed-still DiskFailed (record old { work = new.work }) new (record { on = ap (λ (s : State). s.on) h.1 ∙ h.0; losses = ap (λ (s : State). s.losses) h.1; faults = ap (λ (s : State). s.faults) h.1 }) (ap (λ (s : State). s.on) h.1 ∙ h.0) (ap (λ (s : State). s.journal) h.1) (ap (λ (s : State). s.room) h.1) refl;
      disk = disk;
    }
touches_call change old (Err Off) new ready h keeps = off_by old.on (LosesIn (after_work change) old new) (Touches PowerLost old new) old new ready.on h (touches_lost change old new (keeps.settled ready.settled))

-- no call was made
pub touches_nothing : (state : State) → IsReady state → Touches Through state state
touches_nothing state ready = record { ready = state.work; told = still_told state.work; passed = passed-none state ready.on; disk = refl }
