-- A deployment goes on after a mount.
use Rattle.std.proofs.Common.{◌≡◌, ⊎_elim, List, [], sym, ap, ◌∙◌, subst, refl}
use Rattle.std.specs.Prelude.{Option, Some, None, Bool, true, false, ◌&&◌}
use Rattle.device_model.specs.declared.calls.Event.{Event}
use Rattle.device_model.specs.Disk.{IsTold, area_of}
use Rattle.device_model.specs.State.{State}
use Rattle.device_model.specs.How.{How, Through, Passed}
use Rattle.device_model.proofs.Passes.{passed-then}
use Rattle.flow_table.specs.declared.position.Position.{Position}
use Rattle.flow_words.specs.Pieces.{End, Halted}
use Rattle.flow_drive.specs.declared.flow.DriveEnd.{DriveEnd}
use Rattle.flow_drive.specs.Drive.{Drove, Leads, drive_how, end_of as drive_end_of}
use Rattle.flow_drive.proofs.Uses.{drove-leads, drove-settled}
use Rattle.record_codec.specs.declared.entry.Entry.{Entry}
use Rattle.record_codec.specs.declared.entry.Db.{Db}
use Rattle.record_codec.specs.Spelling.{IsRight, IfFull}
use Rattle.slot_store.specs.Slots.{May}
use Rattle.slot_store.specs.Kept.{Kept}
use Rattle.client_top.specs.declared.status.Status.{Status}
use Rattle.client_top.specs.Finds.{Request, Starts, finds}
use Rattle.client_top.specs.Boot.{Boot, runs, breaks_off, is_stop}
use Rattle.client_top.specs.Answers.{row_of, end_of, how_of, Due, weighs, is_synced, source_count}
use Rattle.client_top.specs.Did.{Did, Shelf, is_install, LeadsTo, Reads}
use Rattle.client_top.specs.Steps.{Mounted}
use Rattle.client_top.proofs.Mounts.{told-same, may-read, alone}

not-both : (b c : Bool) → b ≡ false → (b && c) ≡ true → ⊥
not-both true c f t = cc
not-both false c f t = cc

pub not-none : {e : End} → Some e ≡ None → ⊥
not-none h = cc

module _ (asked : Request) (store store' : Kept) (old mid new : State) (mounted : Mounted store old mid) (right : IfFull IsRight store.db)
    (e : Entry) (p : Position) (end : DriveEnd) (status : Status) (shelf : Shelf)
    (found : finds asked store.db ≡ Starts e p) (goes_on : is_install asked.command ≡ false) (unread : weighs asked.command ≡ false)
    (drove : Drove asked.site e (is_stop asked.command) p end store' mid new)
    (ends : end_of status ≡ Some (drive_end_of end)) (how : how_of status ≡ drive_how end) (due : Due asked (Some store.db) (area_of old.disk) status)
    (synced : is_synced (row_of status).basis ≡ true → drive_how end ≡ Through) (source : source_count (row_of status).basis shelf.faults ≡ shelf.faults) where
  boot-to : (d : Db) → Leads asked.site e (is_stop asked.command) p drove.events (drive_end_of end) d → Boot asked store.db drove.events (end_of status) d
  boot-to d l = subst (λ (x : Option End). Boot asked store.db drove.events x d) (sym ends) (runs e p found l)

  came : IsTold old.disk → (d : Db) → May new.disk d → LeadsTo asked (Some store.db) drove.events (end_of status) old.disk d
  came told d may =
      let may_c = may-read asked store old mid mounted told in
      ⊎_elim (λ l. (may_c, boot-to d l))
      (λ h. (
        may_c,
        subst (λ (x : Option End). Boot asked store.db drove.events x d) (sym (ends ∙ ap Some h.0))
            (subst (λ (w : List Event). Boot asked store.db w (Some Halted) d) (sym h.1)
            (subst (λ (x : Db). Boot asked store.db [] (Some Halted) x) (sym (alone asked store old mid mounted told d h.2)) breaks_off)),
      ))
      (drove.each (mounted.wrote.told told) d may)

  pub drove-did : Did asked (Some store.db) status old new shelf shelf
  drove-did = record {
    events = drove.events;
    device = record {
      ready = old.work;
      told = told-same old.work;
      kept = λ h. refl;
      before = λ h. refl;
      passed = subst (λ (h : How). Passed drove.events h old new) (sym how) (passed-then [] drove.events (drive_how end) old mid new mounted.wrote.passed drove.passed);
      given = λ begins started. absurd (not-both (is_install asked.command) _ goes_on begins);
      leaves = λ none. absurd (not-none (sym ends ∙ none));
      settled = λ h. drove-settled drove (synced h);
      sound = λ s. drove.sound (mounted.adds.sound s);
    };
    answer = record {
      due = due;
      read = (right, mounted.is.stands);
      source = sym source;
      given = subst (λ (b : Bool). Reads b drove.events asked.content shelf.given shelf.given) (sym unread) refl;
    };
    database = record {
      path = ((drove-leads drove).0, boot-to (drove-leads drove).0 (drove-leads drove).1);
      came = came;
    };
  }
