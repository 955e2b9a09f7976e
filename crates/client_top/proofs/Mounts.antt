-- What a mount promises, for what is done after it and where it fails.
use Rattle.std.proofs.Common.{◌≡◌, ℕ, List, [], refl, sym, ap, ◌∙◌, subst}
use Rattle.std.specs.Prelude.{Option, Some, None, Bool, true, false, IfSome, IsTrue, ⊤, Err}
use Rattle.upd_text.specs.Told.{WhereTold}
use Rattle.device_model.specs.Disk.{Disk, IsTold, IsSettled, area_of}
use Rattle.device_model.specs.Work.{Work}
use Rattle.device_model.specs.State.{State}
use Rattle.device_model.specs.How.{How, Through, Passed, SameArea, work_after}
use Rattle.io_model.specs.Source.{Content}
use Rattle.flow_words.specs.Pieces.{End}
use Rattle.record_codec.specs.declared.entry.Db.{Db}
use Rattle.record_codec.specs.Spelling.{IsRight, IfFull}
use Rattle.admit.proofs.Spared.{spares_none, reads_none}
use Rattle.slot_store.specs.Slots.{May, Stands}
use Rattle.slot_store.specs.Kept.{Kept}
use Rattle.slot_store.specs.Put.{Wrote}
use Rattle.slot_store.specs.Mount.{AddsNoDb, MountEnds, mount_how}
use Rattle.slot_store.specs.declared.store.MountFault.{MountFault}
use Rattle.slot_store.specs.declared.store.MountFault.TheVariants as mount_fault
use Rattle.client_words.specs.declared.command.UsageFault.{UsageFault}
use Rattle.client_top.specs.declared.status.Status.{Status}
use Rattle.client_top.specs.declared.status.Status.TheVariants.{DiskFault, NoMemory, PowerOff, BadStore, Usage}
use Rattle.client_top.specs.Finds.{Request, Answers, finds}
use Rattle.client_top.specs.Boot.{Boot}
use Rattle.client_top.specs.Answers.{Basis, Wording, Slot, Store, Files, Course, DeviceCount, SourceCount, Free, row_of, end_of, how_of, Due, Rests, reads, weighs, is_synced, source_count}
use Rattle.client_top.specs.Did.{Did, Shelf, StandsAlike, Reads, Leaves, LeadsTo}
use Rattle.client_top.specs.Steps.{Mounted, not_mounted, Tells}

pub told-same : (work : Option Work) → WhereTold (λ before now. ⊤) work work
told-same None = tt
told-same (Some w) = tt

pub not-true : false ≡ true → ⊥
not-true h = cc

none-some : {c : Db} → Some c ≡ None → ⊥
none-some h = cc

-- where nothing is read of the tree
pub reads-nothing : (b : Bool) (content : Content) (given : Option (List ℕ)) → Reads b [] content given given
reads-nothing true content given = reads_none content given given (spares_none content given given refl)
reads-nothing false content given = refl

-- ---- how the area is left

alike : (a : Option (List ℕ)) → StandsAlike a a
alike None = tt
alike (Some a) = λ d. ((λ h. h), (λ h. h))

pub same-alike : (old new : State) → SameArea old new → StandsAlike (area_of old.disk) (area_of new.disk)
same-alike old new same = subst (λ (a : Option (List ℕ)). StandsAlike (area_of old.disk) a) (sym same) (alike (area_of old.disk))

both-stand : (db : Db) (old new : Option Disk) → IfSome (area_of old) (λ a. Stands a db) → IfSome (area_of new) (λ a. Stands a db) → (IsTold old → IsTold new) → StandsAlike (area_of old) (area_of new)
both-stand db None new f s told = tt
both-stand db (Some o) None f s told = told tt
both-stand db (Some o) (Some n) f s told = λ d. ((λ h. s ∙ (sym f ∙ h)), (λ h. f ∙ (sym s ∙ h)))

pub mounted-alike : (store : Kept) (old new : State) → Mounted store old new → StandsAlike (area_of old.disk) (area_of new.disk)
mounted-alike store old new m = both-stand store.db old.disk new.disk m.is.stands m.is.holds m.wrote.told

-- an answer over a database that was read is none by its words or by a wrong field
pub leaves-by : (b : Basis) (asked : Request) (c : Db) (area : Option (List ℕ)) (status : Status) (old new : State) → Rests b asked (Some c) area status → StandsAlike (area_of old.disk) (area_of new.disk) → Leaves b old new
leaves-by Wording asked c area status old new rests same = absurd (none-some rests.0)
leaves-by (Slot offset) asked c area status old new rests same = absurd (none-some rests.0)
leaves-by Store asked c area status old new rests same = same
leaves-by Files asked c area status old new rests same = same
leaves-by Course asked c area status old new rests same = same
leaves-by DeviceCount asked c area status old new rests same = same
leaves-by SourceCount asked c area status old new rests same = same
leaves-by Free asked c area status old new rests same = same

-- ---- no database was read

module _ (asked : Request) (status : Status) (old new : State) (shelf : Shelf)
    (wrote : Wrote (how_of status) old new) (adds : AddsNoDb old.disk new.disk) (due : Due asked None (area_of old.disk) status)
    (source : source_count (row_of status).basis shelf.faults ≡ shelf.faults)
    (leaves : end_of status ≡ None → Leaves (row_of status).basis old new) (settled : is_synced (row_of status).basis ≡ true → IsSettled new.disk) where
  pub unread-did : Did asked None status old new shelf shelf
  unread-did = record {
    events = [];
    device = record {
      ready = old.work;
      told = told-same old.work;
      kept = λ h. refl;
      before = λ h. refl;
      passed = wrote.passed;
      given = λ begins started. tt;
      leaves = leaves;
      settled = settled;
      sound = adds.sound;
    };
    answer = record { due = due; read = tt; source = sym source; given = reads-nothing (weighs asked.command) asked.content shelf.given };
    database = record { path = refl; came = λ told d may. adds.may d may };
  }

-- the mount failed
pub not-mounted-tells : (asked : Request) (fault : MountFault) (old new : State) (shelf : Shelf) → IsTrue (reads asked.command) →
    Wrote (mount_how {S = Kept} (Err fault)) old new → AddsNoDb old.disk new.disk → MountEnds old (Err fault) new → Tells asked (not_mounted fault) old new shelf shelf
not-mounted-tells asked mount_fault.Off old new shelf asks wrote adds ends =
    record { from = None; did = unread-did asked PowerOff old new shelf wrote adds (record { whose = asks; rests = tt }) refl (λ h. absurd cc) (λ h. absurd (not-true h)); text = refl }
not-mounted-tells asked mount_fault.DiskFault old new shelf asks wrote adds ends =
    record { from = None; did = unread-did asked DiskFault old new shelf wrote adds (record { whose = asks; rests = tt }) refl (λ h. absurd cc) (λ h. absurd (not-true h)); text = refl }
not-mounted-tells asked (mount_fault.BadStore offset) old new shelf asks wrote adds ends =
    record { from = None; did = unread-did asked (BadStore offset) old new shelf wrote adds (record { whose = asks; rests = (refl, ends.fault) }) refl (λ h. ends.synced.area) (λ h. ends.synced.settled); text = refl }
not-mounted-tells asked mount_fault.NoMemory old new shelf asks wrote adds ends =
    record { from = None; did = unread-did asked NoMemory old new shelf wrote adds (record { whose = asks; rests = tt }) refl (λ h. same-alike old new ends) (λ h. absurd (not-true h)); text = refl }

-- wrong words: nothing is read
module _ (asked : Request) (fault : UsageFault) (old : State) (shelf : Shelf) (wrote : Wrote Through old old)
    (whose : IsTrue ((row_of (Usage fault)).whose asked.command)) (found : (c : Db) → finds asked c ≡ Answers (Usage fault)) where
  pub usage-tells : Tells asked (Usage fault) old old shelf shelf
  usage-tells = record {
    from = None;
    did = unread-did asked (Usage fault) old old shelf wrote (record { may = λ d m. m; sound = λ s. s }) (record { whose = whose; rests = (refl, found) }) refl (λ h. refl) (λ h. absurd (not-true h));
    text = refl;
  }

-- ---- a database was read

module _ (asked : Request) (store : Kept) (old mid : State) (mounted : Mounted store old mid) where
  pub may-read : IsTold old.disk → May old.disk store.db
  may-read told = mounted.adds.may store.db (mounted.is.is_at.stands (mounted.wrote.told told))

  pub alone : IsTold old.disk → (d : Db) → May mid.disk d → d ≡ store.db
  alone told d may = mounted.is.is_at.alone (mounted.wrote.told told) d may

  -- the power is on, and the work folder is as it was
  pub same-work : mid.work ≡ old.work
  same-work = mounted.wrote.passed.work ∙ ap (λ (b : Bool). work_after b old.work) mounted.wrote.passed.ends.on

  -- a boot that did nothing leads from the database that was read to the one that stands
  pub stays-at : (disk : Option Disk) (end : Option End) → disk ≡ mid.disk → Boot asked store.db [] end store.db → IsTold old.disk → (d : Db) → May disk d → LeadsTo asked (Some store.db) [] end old.disk d
  stays-at disk end is boot told d may =
      (may-read told, subst (λ (x : Db). Boot asked store.db [] end x) (sym (alone told d (subst (λ (x : Option Disk). May x d) is may))) boot)

  -- nothing was done but reading
  module _ (status : Status) (shelf shelf' : Shelf) (right : IfFull IsRight store.db) (how : how_of status ≡ Through) (boot : Boot asked store.db [] (end_of status) store.db)
      (due : Due asked (Some store.db) (area_of old.disk) status) (source : shelf'.faults ≡ source_count (row_of status).basis shelf.faults)
      (given : Reads (weighs asked.command) [] asked.content shelf.given shelf'.given) where
    pub still-did : Did asked (Some store.db) status old mid shelf shelf'
    still-did = record {
      events = [];
      device = record {
        ready = old.work;
        told = told-same old.work;
        kept = λ h. refl;
        before = λ h. refl;
        passed = subst (λ (h : How). Passed [] h old mid) (sym how) mounted.wrote.passed;
        given = λ begins started. absurd (not-true started);
        leaves = λ h. leaves-by (row_of status).basis asked store.db (area_of old.disk) status old mid due.rests (mounted-alike store old mid mounted);
        settled = λ h. mounted.is.settled;
        sound = mounted.adds.sound;
      };
      answer = record { due = due; read = (right, mounted.is.stands); source = source; given = given };
      database = record { path = (store.db, boot); came = stays-at mid.disk (end_of status) refl boot };
    }
