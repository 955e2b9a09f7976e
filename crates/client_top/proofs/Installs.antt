-- A deployment begins after a mount: the work folder is filled, and the deployment goes on from its first position.
use Rattle.std.proofs.Common.{◌≡◌, ⊎_elim, List, [], sym, ap, ◌∙◌, subst}
use Rattle.std.specs.Prelude.{Option, Some, None, Bool, true, false, ◌&&◌, Ok, IfSome, ⊤}
use Rattle.upd_text.specs.Told.{WhereTold}
use Rattle.device_model.specs.declared.calls.Event.{Event}
use Rattle.device_model.specs.Disk.{Disk, IsTold, IsSettled, area_of}
use Rattle.device_model.specs.Work.{Work}
use Rattle.device_model.specs.State.{State}
use Rattle.device_model.specs.How.{How, Through, Passed, work_after}
use Rattle.device_model.proofs.Passes.{passed-then}
use Rattle.flow_table.specs.Table.{fresh_position}
use Rattle.flow_words.specs.Pieces.{End, Halted}
use Rattle.flow_drive.specs.declared.flow.DriveEnd.{DriveEnd}
use Rattle.flow_drive.specs.Drive.{Drove, Leads, drive_how, end_of as drive_end_of}
use Rattle.flow_drive.proofs.Uses.{drove-leads, drove-settled}
use Rattle.record_codec.specs.declared.entry.Db.{Db}
use Rattle.record_codec.specs.Held.{held}
use Rattle.record_codec.specs.Spelling.{IsRight, IfFull}
use Rattle.slot_store.specs.Slots.{May, Sound}
use Rattle.slot_store.specs.Kept.{Kept}
use Rattle.admit.specs.declared.admitted.Admitted.{Admitted}
use Rattle.work_folder.specs.Prepare.{Touches}
use Rattle.work_folder.specs.Rows.{rows_of}
use Rattle.work_folder.specs.Folder as folder
use Rattle.client_words.specs.declared.command.Command.TheVariants.{Install}
use Rattle.client_top.specs.declared.status.Status.{Status}
use Rattle.client_top.specs.declared.status.Status.TheVariants.{NoMemory}
use Rattle.client_top.specs.Finds.{Request, finds, begun}
use Rattle.client_top.specs.Boot.{Boot, breaks_off, Fits}
use Rattle.client_top.specs.Answers.{Words, row_of, end_of, how_of, Due, weighs, is_synced, source_count}
use Rattle.client_top.specs.Did.{StandsAlike, Did, Shelf, is_install, is_copied, prepares, LeadsTo, Reads}
use Rattle.client_top.specs.Steps.{Mounted}
use Rattle.client_top.proofs.Mounts.{may-read, alone, same-work, stays-at, mounted-alike, leaves-by, not-true}
use Rattle.client_top.proofs.Composed.{not-none}

told-one : (P : Work → Type 0) (old new : Option Work) → WhereTold (λ before now. P now) old new → IfSome new P
told-one P None None h = tt
told-one P None (Some n) h = absurd h
told-one P (Some o) None h = tt
told-one P (Some o) (Some n) h = h

true-false : true ≡ false → ⊥
true-false h = cc

-- the folder that the calls left is the one that stands, where the power stayed on
ready-work : {mid ready : State} (touched : Touches Through mid ready) → ready.work ≡ touched.ready
ready-work touched = touched.passed.work ∙ ap (λ (b : Bool). work_after b touched.ready) touched.passed.ends.on

-- a state with another work folder
abbrev with_work : Option Work → State → State
with_work work state = record state { work = work }

module _ (asked : Request) (store : Kept) (old mid ready : State) (mounted : Mounted store old mid) (right : IfFull IsRight store.db)
    (install : asked.command ≡ Ok Install) (copied : is_copied (finds asked store.db) ≡ true) where
  prepared : prepares asked (Some store.db) ≡ true
  prepared = ap (λ (w : Words). is_install w && is_copied (finds asked store.db)) install ∙ copied

  module _ (how : How) (touched : Touches how mid ready) where
    told-work : WhereTold (λ before now. ⊤) old.work touched.ready
    told-work = subst (λ (w : Option Work). WhereTold (λ before now. ⊤) w touched.ready) (same-work asked store old mid mounted) touched.told

    -- the mount, with the work folder as it is afterwards
    mounted-with : (work : Option Work) → Passed [] Through (with_work work old) (with_work work mid)
    mounted-with work = record {
      ends = record { on = mounted.wrote.passed.ends.on; losses = mounted.wrote.passed.ends.losses; faults = mounted.wrote.passed.ends.faults };
      journal = mounted.wrote.passed.journal;
      room = mounted.wrote.passed.room;
      work = sym (ap (λ (b : Bool). work_after b work) mounted.wrote.passed.ends.on);
    }

    pub filled-passed : Passed [] how (with_work touched.ready old) ready
    filled-passed = passed-then [] [] how (with_work touched.ready old) (with_work touched.ready mid) ready (mounted-with touched.ready) touched.passed

    pub filled-sound : Sound old.disk → Sound ready.disk
    filled-sound s = subst Sound (sym touched.disk) (mounted.adds.sound s)

  -- the folder wasn't filled
  module _ (status : Status) (shelf shelf' : Shelf) (touched : Touches (how_of status) mid ready) (boot : Boot asked store.db [] (end_of status) store.db)
      (due : Due asked (Some store.db) (area_of old.disk) status) (source : shelf'.faults ≡ source_count (row_of status).basis shelf.faults)
      (given : Reads (weighs asked.command) [] asked.content shelf.given shelf'.given) (remembers : status ≡ NoMemory → ⊥) where
    pub unprepared-did : Did asked (Some store.db) status old ready shelf shelf'
    unprepared-did = record {
      events = [];
      device = record {
        ready = touched.ready;
        told = told-work (how_of status) touched;
        kept = λ h. absurd (true-false (sym prepared ∙ h));
        before = λ h. absurd (remembers h);
        passed = filled-passed (how_of status) touched;
        given = λ begins started. absurd (not-true started);
        leaves = λ h. leaves-by (row_of status).basis asked store.db (area_of old.disk) status old ready due.rests (subst (λ (x : Option Disk). StandsAlike (area_of old.disk) (area_of x)) (sym touched.disk) (mounted-alike store old mid mounted));
        settled = λ h. subst IsSettled (sym touched.disk) mounted.is.settled;
        sound = filled-sound (how_of status) touched;
      };
      answer = record { due = due; read = (right, mounted.is.stands); source = source; given = given };
      database = record { path = (store.db, boot); came = stays-at asked store old mid mounted ready.disk (end_of status) touched.disk boot };
    }

  -- the folder was filled, and the deployment went on
  module _ (plan : Admitted) (store' : Kept) (new : State) (end : DriveEnd) (status : Status) (shelf shelf' : Shelf) (fits : Fits asked store.db plan)
      (touched : Touches Through mid ready) (filled : WhereTold (λ before now. folder.Stands asked.content (rows_of asked.site (held store.db) plan) now) mid.work ready.work)
      (drove : Drove asked.site (begun store.db plan) false fresh_position end store' ready new)
      (boots : (d : Db) → Leads asked.site (begun store.db plan) false fresh_position drove.events (drive_end_of end) d → Boot asked store.db drove.events (Some (drive_end_of end)) d)
      (ends : end_of status ≡ Some (drive_end_of end)) (how : how_of status ≡ drive_how end) (due : Due asked (Some store.db) (area_of old.disk) status)
      (synced : is_synced (row_of status).basis ≡ true → drive_how end ≡ Through) (source : shelf'.faults ≡ source_count (row_of status).basis shelf.faults)
      (given : Reads (weighs asked.command) drove.events asked.content shelf.given shelf'.given) where
    boot-to : (d : Db) → Leads asked.site (begun store.db plan) false fresh_position drove.events (drive_end_of end) d → Boot asked store.db drove.events (end_of status) d
    boot-to d l = subst (λ (x : Option End). Boot asked store.db drove.events x d) (sym ends) (boots d l)

    came : IsTold old.disk → (d : Db) → May new.disk d → LeadsTo asked (Some store.db) drove.events (end_of status) old.disk d
    came told d may =
        let may_c = may-read asked store old mid mounted told in
        ⊎_elim (λ l. (may_c, boot-to d l))
        (λ h. (
          may_c,
          subst (λ (x : Option End). Boot asked store.db drove.events x d) (sym (ends ∙ ap Some h.0))
              (subst (λ (w : List Event). Boot asked store.db w (Some Halted) d) (sym h.1)
              (subst (λ (x : Db). Boot asked store.db [] (Some Halted) x) (sym (alone asked store old mid mounted told d (subst (λ (x : Option Disk). May x d) touched.disk h.2))) breaks_off)),
        ))
        (drove.each (subst IsTold (sym touched.disk) (mounted.wrote.told told)) d may)

    pub install-did : Did asked (Some store.db) status old new shelf shelf'
    install-did = record {
      events = drove.events;
      device = record {
        ready = touched.ready;
        told = told-work Through touched;
        kept = λ h. absurd (true-false (sym prepared ∙ h));
        before = λ h. absurd (not-none (sym ends ∙ ap end_of h));
        passed = subst (λ (h : How). Passed drove.events h (with_work touched.ready old) new) (sym how) (passed-then [] drove.events (drive_how end) (with_work touched.ready old) ready new (filled-passed Through touched) drove.passed);
        given = λ begins started. record {
          plan = plan;
          fits = fits;
          last = (drove-leads drove).0;
          to = drive_end_of end;
          ends = ends;
          leads = (drove-leads drove).1;
          files = told-one _ mid.work touched.ready (subst (λ (w : Option Work). WhereTold (λ before now. folder.Stands asked.content (rows_of asked.site (held store.db) plan) now) mid.work w) (ready-work touched) filled);
        };
        leaves = λ none. absurd (not-none (sym ends ∙ none));
        settled = λ h. drove-settled drove (synced h);
        sound = λ s. drove.sound (filled-sound Through touched s);
      };
      answer = record { due = due; read = (right, mounted.is.stands); source = source; given = given };
      database = record {
        path = ((drove-leads drove).0, boot-to (drove-leads drove).0 (drove-leads drove).1);
        came = came;
      };
    }
