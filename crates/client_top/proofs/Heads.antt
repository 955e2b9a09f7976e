-- What a look at the store and the tree finds, and what is answered where it fails.
use Rattle.std.proofs.Common.{◌≡◌, ◌⊎◌, ⊎_elim, inl, inr, Bool, true, false, [], refl, sym, ap, subst, arith}
use Rattle.std.specs.Prelude.{◌≢◌, Option, Some, Result, Ok, Err, IsTrue}
use Rattle.device_model.specs.State.{State}
use Rattle.device_model.proofs.Passes.{room-through}
use Rattle.io_model.specs.Source.{Content, When}
use Rattle.io_model.specs.Source.Content.{Told, Untold}
use Rattle.script_names.specs.declared.site.Site.{Site}
use Rattle.admit.specs.Given.{SparesPayloads}
use Rattle.admit.proofs.Spared.{spares_none, reads_none}
use Rattle.flow_table.specs.declared.position.State.{State as At}
use Rattle.flow_table.specs.declared.position.State.TheVariants as at
use Rattle.record_codec.specs.declared.entry.Db.{Db}
use Rattle.record_codec.specs.declared.entry.Db.TheVariants.{Empty, Full}
use Rattle.record_codec.specs.Held.{position_of}
use Rattle.record_codec.specs.Spelling.{IsRight, IfFull}
use Rattle.slot_store.specs.Kept.{Kept}
use Rattle.slot_store.specs.Put.{Wrote}
use Rattle.slot_store.specs.Mount.{AddsNoDb, MountEnds, mount_how}
use Rattle.slot_store.specs.declared.store.MountFault.{MountFault}
use Rattle.slot_store.specs.declared.store.MountFault.TheVariants as mount_fault
use Rattle.client_words.specs.declared.command.Command.TheVariants as command
use Rattle.trace_check.specs.declared.note.Deed.{Deed}
use Rattle.trace_check.specs.declared.note.Deed.TheVariants.{Install, Resume, ResumeStop, Commit, Rollback}
use Rattle.trace_check.specs.declared.note.NoteHead.{NoteHead}
use Rattle.client_top.specs.declared.status.Status.{Status}
use Rattle.client_top.specs.declared.status.Status.TheVariants.{Done, Refused, NoUpdate, Inconsistent, RebootNeeded, DiskFault, SourceFault, NoMemory, SinkFault, Usage, PowerOff, BadStore, TooLarge, NotNow, NotInstalled}
use Rattle.client_top.specs.Answers.{Words, opens, weighs}
use Rattle.client_top.specs.Boot.{nothing}
use Rattle.client_top.specs.Did.{Shelf, Reads}
use Rattle.client_top.specs.Finds.{Request}
use Rattle.client_top.specs.Looks.{Looked, read, bad, Looks, PlansNote, OnlyLooks, FailsLook, unmounted}
use Rattle.client_top.specs.Steps.{Mounted, Tells, not_mounted, count_after}
use Rattle.client_top.specs.Traced.{as_asked, looks, deed_noted, head_held, head_of, is_noted}
use Rattle.client_top.proofs.Before.{Between, noted-reads}
use Rattle.client_top.proofs.Mounts.{still-did, not-mounted-tells, reads-nothing}

-- ---- what the device has left

pub same-room : (old mid : State) → Between old mid → mid.room ≡ old.room
same-room old mid b = omega (arith, room-through [] old mid b.wrote.passed)

-- ---- nothing was read

pub spares-same : (d : Deed) (content : Content) (shelf : Shelf) → OnlyLooks d content shelf shelf
spares-same Install content shelf = (refl, spares_none content shelf.given shelf.given refl)
spares-same Resume content shelf = refl
spares-same ResumeStop content shelf = refl
spares-same Commit content shelf = refl
spares-same Rollback content shelf = refl

-- ---- by what is held

held-deed : (d : Deed) (site : Site) (c : Db) → (head_held d site c).deed ≡ d
held-deed d site Empty = refl
held-deed d site (Full e) = refl

begins-held : (d : Deed) (site : Site) (content : Content) (c : Db) → (d ≡ Install → ⊥) → When content (λ t. Some (head_held d site c) ≡ head_of d site t c)
begins-held d site (Untold count) c not = tt
begins-held Install site (Told t) c not = absurd (not refl)
begins-held Resume site (Told t) c not = refl
begins-held ResumeStop site (Told t) c not = refl
begins-held Commit site (Told t) c not = refl
begins-held Rollback site (Told t) c not = refl

module _ (asked : Request) (d : Deed) (noted : deed_noted true asked.command ≡ Some d) (store : Kept) (old mid : State) (mounted : Mounted store old mid) (right : IfFull IsRight store.db) (shelf : Shelf) where
  pub held-looks : (d ≡ Install → ⊥) → (head : NoteHead) → head ≡ head_held d asked.site store.db → Looks d asked old mid shelf shelf (Ok (Some head))
  held-looks not head is = (
    subst (λ (h : NoteHead). Looked d asked.site asked.content old mid (Some h)) (sym is)
        (read store mounted right (record {
          told = begins-held d asked.site asked.content store.db not;
          head = record { of_deed = held-deed d asked.site store.db; some = λ k. absurd (not k); few = λ k. absurd (not k) };
        })),
    spares-same d asked.content shelf,
  )

  -- memory was wanting
  wanting : (shelf' : Shelf) → shelf'.faults ≡ shelf.faults → Reads (weighs asked.command) [] asked.content shelf.given shelf'.given → FailsLook d asked NoMemory old mid shelf shelf'
  wanting shelf' faults given = record {
    from = Some store.db;
    done = asked;
    does = as_asked;
    did = still-did asked store old mid mounted NoMemory shelf shelf' right refl nothing (record { whose = noted-reads d asked.command noted; rests = tt }) faults given;
    text = refl;
    unnoted = inl refl;
  }

  pub held-fails : FailsLook d asked NoMemory old mid shelf shelf
  held-fails = wanting shelf refl (reads-nothing (weighs asked.command) asked.content shelf.given)

-- ---- by the tree

idle-or-not : (s : At) → (s ≡ at.Idle) ⊎ (s ≢ at.Idle)
idle-or-not at.Idle = inl refl
idle-or-not s = inr (λ h. cc)

installs : (w : Words) → deed_noted true w ≡ Some Install → w ≡ Ok command.Install
installs (Ok command.Install) h = refl
installs (Ok command.Resume) h = absurd cc
installs (Ok command.ResumeStop) h = absurd cc
installs (Ok command.Commit) h = absurd cc
installs (Ok command.Rollback) h = absurd cc
installs w h = absurd cc

module _ (asked : Request) (noted : deed_noted true asked.command ≡ Some Install) (store : Kept) (old mid : State) (mounted : Mounted store old mid) (right : IfFull IsRight store.db)
    (shelf shelf' : Shelf) (spares : When asked.content (λ t. SparesPayloads t shelf.given shelf'.given)) where
  weighing : weighs asked.command ≡ true
  weighing = ap weighs (installs asked.command noted)

  spared : Reads (weighs asked.command) [] asked.content shelf.given shelf'.given
  spared = subst (λ (b : Bool). Reads b [] asked.content shelf.given shelf'.given) (sym weighing) (reads_none asked.content shelf.given shelf'.given spares)

  -- the tree couldn't be read: a check answers so whatever stands, an install where nothing is in progress
  unreadable : shelf'.faults ≡ count_after {A = Option NoteHead} (Err SourceFault) shelf.faults → FailsLook Install asked SourceFault old mid shelf shelf'
  unreadable faults = ⊎_elim
      (λ idle. record {
        from = Some store.db;
        done = asked;
        does = as_asked;
        did = still-did asked store old mid mounted SourceFault shelf shelf' right refl nothing
            (record { whose = weighing; rests = subst (λ (w : Words). IsTrue (opens w (position_of store.db).state)) (sym (installs asked.command noted)) (subst (λ (s : At). IsTrue (opens (Ok command.Install) s)) (sym idle) refl) }) faults spared;
        text = refl;
        unnoted = inr refl;
      })
      (λ busy. record {
        from = Some store.db;
        done = record asked { command = Ok command.Check };
        does = looks store.db refl refl busy refl;
        did = still-did (record asked { command = Ok command.Check }) store old mid mounted SourceFault shelf shelf' right refl nothing
            (record { whose = refl; rests = refl }) faults (reads_none asked.content shelf.given shelf'.given spares);
        text = refl;
        unnoted = inr refl;
      })
      (idle-or-not (position_of store.db).state)

  pub planned-looks : (result : Result (Option NoteHead) Status) → PlansNote asked.site asked.content store.db result → shelf'.faults ≡ count_after result shelf.faults → Looks Install asked old mid shelf shelf' result
  planned-looks (Ok found) plans faults = (read store mounted right plans, (faults, spares))
  planned-looks (Err SourceFault) plans faults = unreadable faults
  planned-looks (Err NoMemory) plans faults = wanting asked Install noted store old mid mounted right shelf shelf' faults spared
  planned-looks (Err (Done good)) plans faults = absurd plans
  planned-looks (Err (Refused refusal)) plans faults = absurd plans
  planned-looks (Err NoUpdate) plans faults = absurd plans
  planned-looks (Err Inconsistent) plans faults = absurd plans
  planned-looks (Err RebootNeeded) plans faults = absurd plans
  planned-looks (Err DiskFault) plans faults = absurd plans
  planned-looks (Err SinkFault) plans faults = absurd plans
  planned-looks (Err (Usage fault)) plans faults = absurd plans
  planned-looks (Err PowerOff) plans faults = absurd plans
  planned-looks (Err (BadStore offset)) plans faults = absurd plans
  planned-looks (Err (TooLarge bytes)) plans faults = absurd plans
  planned-looks (Err (NotNow when)) plans faults = absurd plans
  planned-looks (Err (NotInstalled how)) plans faults = absurd plans

-- ---- nothing was mounted

module _ (asked : Request) (d : Deed) (noted : deed_noted true asked.command ≡ Some d) (old mid : State) (shelf : Shelf) where
  fails-by : (fault : MountFault) → is_noted (not_mounted fault) ≡ false → Tells asked (not_mounted fault) old mid shelf shelf → FailsLook d asked (not_mounted fault) old mid shelf shelf
  fails-by fault stopped tells = record { from = tells.from; done = asked; does = as_asked; did = tells.did; text = tells.text; unnoted = inl stopped }

  pub unmounted-looks : (fault : MountFault) → Wrote (mount_how {S = Kept} (Err fault)) old mid → AddsNoDb old.disk mid.disk → MountEnds old (Err fault) mid → Looks d asked old mid shelf shelf (unmounted fault)
  unmounted-looks mount_fault.Off wrote adds ends = fails-by mount_fault.Off refl (not-mounted-tells asked mount_fault.Off old mid shelf (noted-reads d asked.command noted) wrote adds ends)
  unmounted-looks mount_fault.DiskFault wrote adds ends = fails-by mount_fault.DiskFault refl (not-mounted-tells asked mount_fault.DiskFault old mid shelf (noted-reads d asked.command noted) wrote adds ends)
  unmounted-looks mount_fault.NoMemory wrote adds ends = fails-by mount_fault.NoMemory refl (not-mounted-tells asked mount_fault.NoMemory old mid shelf (noted-reads d asked.command noted) wrote adds ends)
  unmounted-looks (mount_fault.BadStore offset) wrote adds ends = (bad offset wrote adds ends, spares-same d asked.content shelf)
