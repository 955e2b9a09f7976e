-- A command behind a look at the store and the tree: together they did what the command says.
use Rattle.std.proofs.Common.{◌≡◌, ℕ, Bool, true, false, List, [], refl, sym, ap, ◌∙◌, subst, append-nil}
use Rattle.std.specs.Prelude.{Option, Some, None, IfSome, Result, Ok, Err, IsTrue, not, ⊤}
use Rattle.upd_text.specs.Told.{WhereTold}
use Rattle.device_model.specs.declared.calls.Event.{Event}
use Rattle.device_model.specs.Disk.{Disk, IsTold, area_of}
use Rattle.device_model.specs.Work.{Work}
use Rattle.device_model.specs.State.{State}
use Rattle.device_model.specs.How.{Through, Passed, SameArea, has_start, work_after}
use Rattle.device_model.proofs.Passes.{passed-then, journal-through}
use Rattle.io_model.specs.Source.{Content}
use Rattle.admit.proofs.Spared.{reads_after}
use Rattle.flow_words.specs.Pieces.{End}
use Rattle.script_names.specs.declared.site.Site.{Site}
use Rattle.record_codec.specs.declared.entry.Db.{Db}
use Rattle.record_codec.specs.Spelling.{IsRight, IfFull}
use Rattle.slot_store.specs.Kept.{Kept}
use Rattle.slot_store.specs.Mount.{AddsNoDb, IsBad}
use Rattle.slot_store.specs.Put.{Wrote}
use Rattle.slot_store.specs.Slots.{Stands, stood}
use Rattle.client_words.specs.declared.command.Command.TheVariants.{Install, Resume, ResumeStop, Commit, Rollback}
use Rattle.trace_check.specs.declared.note.Deed.{Deed}
use Rattle.trace_check.specs.declared.note.Deed.TheVariants as deed
use Rattle.trace_check.specs.declared.note.NoteHead.{NoteHead}
use Rattle.client_top.specs.declared.status.Status.{Status}
use Rattle.client_top.specs.declared.status.Status.TheVariants.{Done, Usage}
use Rattle.client_top.specs.declared.status.Good.TheVariants.{Committed, Waiting, RolledBack, Shown, Admitted, Simulated}
use Rattle.client_top.specs.Answers.{Words, Basis, Wording, Slot, Store, Files, Course, DeviceCount, SourceCount, Free, row_of, end_of, how_of, source_count, weighs, reads, Rests}
use Rattle.client_top.specs.Did.{Did, Shelf, StandsAlike, Leaves, LeadsTo, Reads}
use Rattle.client_top.specs.Finds.{Request}
use Rattle.client_top.specs.Looks.{Looked, read, bad, OnlyLooks}
use Rattle.client_top.specs.Steps.{Mounted}
use Rattle.client_top.specs.Traced.{deed_noted}
use Rattle.client_top.proofs.Mounts.{mounted-alike, same-alike}

-- ---- the state between

-- what the look left, whatever it found: an area that is told stands for the same
pub record Between (old mid : State) : Type 0 where
  pub wrote : Wrote Through old mid
  pub adds : AddsNoDb old.disk mid.disk
  -- where the area between has a wrong field, it reads as before
  pub same : (offset : ℕ) → IfSome (area_of mid.disk) (λ a. stood a ≡ Err offset) → SameArea old mid
  pub alike : StandsAlike (area_of old.disk) (area_of mid.disk)

pub one-answer : (r : Result Db ℕ) (d : Db) (o : ℕ) → r ≡ Ok d → r ≡ Err o → ⊥
one-answer (Ok x) d o h k = cc
one-answer (Err x) d o h k = cc

untold : (old mid : Option Disk) → (IsTold old → IsTold mid) → area_of mid ≡ None → area_of mid ≡ area_of old
untold None mid told none = none
untold (Some o) None told none = absurd (told tt)
untold (Some o) (Some m) told none = absurd (some-none none)
  where
    some-none : {x : List ℕ} → Some x ≡ None → ⊥
    some-none h = cc

same-by : (store : Kept) (old mid : State) (area : Option (List ℕ)) → area_of mid.disk ≡ area → Mounted store old mid → (offset : ℕ) → IfSome area (λ a. stood a ≡ Err offset) → IfSome area (λ a. Stands a store.db) → SameArea old mid
same-by store old mid None is m offset wrong holds = untold old.disk mid.disk m.wrote.told is
same-by store old mid (Some a) is m offset wrong holds = absurd (one-answer (stood a) store.db offset holds wrong)

mounted-between : (store : Kept) (old mid : State) → Mounted store old mid → Between old mid
mounted-between store old mid m = record {
  wrote = m.wrote;
  adds = m.adds;
  same = λ offset wrong. same-by store old mid (area_of mid.disk) refl m offset wrong m.is.holds;
  alike = mounted-alike store old mid m;
}

bad-between : (offset : ℕ) (old mid : State) → Wrote Through old mid → AddsNoDb old.disk mid.disk → IsBad offset old mid → Between old mid
bad-between offset old mid wrote adds b = record { wrote = wrote; adds = adds; same = λ o wrong. b.synced.area; alike = same-alike old mid b.synced.area }

pub between : (d : Deed) (site : Site) (content : Content) (old mid : State) (found : Option NoteHead) → Looked d site content old mid found → Between old mid
between d site content old mid found (read store m right begins) = mounted-between store old mid m
between d site content old mid found (bad offset wrote adds b) = bad-between offset old mid wrote adds b

-- ---- what is there behind it

pub still-on : (old mid : State) → Between old mid → mid.on ≡ true
still-on old mid b = b.wrote.passed.ends.on

pub no-events : (old mid : State) → Between old mid → mid.journal ≡ old.journal
no-events old mid b = journal-through [] old mid b.wrote.passed ∙ append-nil old.journal

same-work : (old mid : State) → Between old mid → mid.work ≡ old.work
same-work old mid b = b.wrote.passed.work ∙ ap (λ (on : Bool). work_after on old.work) b.wrote.passed.ends.on

-- ---- the parts of what was done

module _ (old mid : State) (b : Between old mid) where
  ready-passed : (ready : Option Work) → Passed [] Through (record old { work = ready }) (record mid { work = ready })
  ready-passed ready = record {
    ends = record { on = b.wrote.passed.ends.on; losses = b.wrote.passed.ends.losses; faults = b.wrote.passed.ends.faults };
    journal = b.wrote.passed.journal;
    room = b.wrote.passed.room;
    work = sym (ap (λ (on : Bool). work_after on ready) b.wrote.passed.ends.on);
  }

  alike-then : (new : Option (List ℕ)) → StandsAlike (area_of mid.disk) new → StandsAlike (area_of old.disk) new
  alike-then new h = both (area_of old.disk) (area_of mid.disk) new b.alike h
    where
      both : (x y z : Option (List ℕ)) → StandsAlike x y → StandsAlike y z → StandsAlike x z
      both None y z f g = tt
      both (Some x) None z f g = absurd f
      both (Some x) (Some y) None f g = g
      both (Some x) (Some y) (Some z) f g = λ d. ((λ h. (g d).0 ((f d).0 h)), (λ h. (f d).1 ((g d).1 h)))

  leaves-then : (basis : Basis) (asked : Request) (from : Option Db) (status : Status) (new : State) → (basis ≡ Wording → ⊥) → Rests basis asked from (area_of mid.disk) status → Leaves basis mid new → Leaves basis old new
  leaves-then Wording asked from status new not rests h = absurd (not refl)
  leaves-then (Slot offset) asked from status new not rests h = h ∙ b.same offset rests.1
  leaves-then Store asked from status new not rests h = alike-then (area_of new.disk) h
  leaves-then Files asked from status new not rests h = alike-then (area_of new.disk) h
  leaves-then Course asked from status new not rests h = alike-then (area_of new.disk) h
  leaves-then DeviceCount asked from status new not rests h = alike-then (area_of new.disk) h
  leaves-then SourceCount asked from status new not rests h = alike-then (area_of new.disk) h
  leaves-then Free asked from status new not rests h = alike-then (area_of new.disk) h

  rests-then : (basis : Basis) (asked : Request) (from : Option Db) (status : Status) → Rests basis asked from (area_of mid.disk) status → Rests basis asked from (area_of old.disk) status
  rests-then (Slot offset) asked from status h = (h.0, subst (λ (a : Option (List ℕ)). IfSome a (λ x. stood x ≡ Err offset)) (b.same offset h.1) h.1)
  rests-then Wording asked from status h = h
  rests-then Store asked from status h = h
  rests-then Files asked from status h = h
  rests-then Course asked from status h = h
  rests-then DeviceCount asked from status h = h
  rests-then SourceCount asked from status h = h
  rests-then Free asked from status h = h

  stands-then : (c : Db) → IfSome (area_of mid.disk) (λ a. Stands a c) → IfSome (area_of old.disk) (λ a. Stands a c)
  stands-then c h = by (area_of old.disk) (area_of mid.disk) b.alike h
    where
      by : (x y : Option (List ℕ)) → StandsAlike x y → IfSome y (λ a. Stands a c) → IfSome x (λ a. Stands a c)
      by None y f h = tt
      by (Some x) None f h = absurd f
      by (Some x) (Some y) f h = (f c).1 h

  read-then : (from : Option Db) → IfSome from (λ c. IfFull IsRight c × IfSome (area_of mid.disk) (λ a. Stands a c)) → IfSome from (λ c. IfFull IsRight c × IfSome (area_of old.disk) (λ a. Stands a c))
  read-then None h = tt
  read-then (Some c) h = (h.0, stands-then c h.1)

  leads-then : (asked : Request) (from : Option Db) (events : List Event) (end : Option End) (d : Db) → LeadsTo asked from events end mid.disk d → LeadsTo asked from events end old.disk d
  leads-then asked None events end d h = b.adds.may d h
  leads-then asked (Some c) events end d h = (b.adds.may c h.0, h.1)

-- ---- the source

some-deed : {a b : Deed} → Some a ≡ Some b → b ≡ a
some-deed h = cc

spares-of : {a b : Deed} (content : Content) (old mid : Shelf) → Some a ≡ Some b → OnlyLooks b content old mid → OnlyLooks a content old mid
spares-of content old mid h s = subst (λ (d : Deed). OnlyLooks d content old mid) (some-deed h) s

-- a tree that wasn't looked into gave nothing
nothing-read : (w : Words) (events : List Event) (content : Content) (old mid new : Shelf) → mid ≡ old → Reads (weighs w) events content mid.given new.given → Reads (weighs w) events content old.given new.given
nothing-read w events content old mid new is h = subst (λ (s : Shelf). Reads (weighs w) events content s.given new.given) is h

given-then : (d : Deed) (w : Words) (events : List Event) (content : Content) (old mid new : Shelf) → deed_noted true w ≡ Some d → OnlyLooks d content old mid → Reads (weighs w) events content mid.given new.given → Reads (weighs w) events content old.given new.given
given-then d (Ok Install) events content old mid new h s r = reads_after (has_start events) content old.given mid.given new.given (spares-of content old mid h s).1 r
given-then d (Ok Resume) events content old mid new h s r = nothing-read (Ok Resume) events content old mid new (spares-of content old mid h s) r
given-then d (Ok ResumeStop) events content old mid new h s r = nothing-read (Ok ResumeStop) events content old mid new (spares-of content old mid h s) r
given-then d (Ok Commit) events content old mid new h s r = nothing-read (Ok Commit) events content old mid new (spares-of content old mid h s) r
given-then d (Ok Rollback) events content old mid new h s r = nothing-read (Ok Rollback) events content old mid new (spares-of content old mid h s) r
given-then d w events content old mid new h s r = absurd cc

spared-faults : (d : Deed) (content : Content) (old mid : Shelf) → OnlyLooks d content old mid → mid.faults ≡ old.faults
spared-faults deed.Install content old mid s = s.0
spared-faults deed.Resume content old mid s = ap (λ (x : Shelf). x.faults) s
spared-faults deed.ResumeStop content old mid s = ap (λ (x : Shelf). x.faults) s
spared-faults deed.Commit content old mid s = ap (λ (x : Shelf). x.faults) s
spared-faults deed.Rollback content old mid s = ap (λ (x : Shelf). x.faults) s

-- ---- the answer

pub noted-reads : (d : Deed) (w : Words) → deed_noted true w ≡ Some d → reads w ≡ true
noted-reads d (Ok Install) h = refl
noted-reads d (Ok Resume) h = refl
noted-reads d (Ok ResumeStop) h = refl
noted-reads d (Ok Commit) h = refl
noted-reads d (Ok Rollback) h = refl
noted-reads d w h = absurd cc

pub clash : (b : Bool) → b ≡ true → IsTrue (not b) → ⊥
clash true h k = cc
clash false h k = cc

no-wording : (status : Status) (w : Words) → reads w ≡ true → IsTrue ((row_of status).whose w) → (row_of status).basis ≡ Wording → ⊥
no-wording (Usage fault) w h whose is = clash (reads w) h whose
no-wording (Done Committed) w h whose is = absurd cc
no-wording (Done Waiting) w h whose is = absurd cc
no-wording (Done RolledBack) w h whose is = absurd cc
no-wording (Done Shown) w h whose is = absurd cc
no-wording (Done Admitted) w h whose is = absurd cc
no-wording (Done Simulated) w h whose is = absurd cc
no-wording status w h whose is = absurd cc

-- ---- the whole

module _ (asked : Request) (d : Deed) (noted : deed_noted true asked.command ≡ Some d) (old mid new : State) (b : Between old mid)
    (shelf0 shelf1 shelf2 : Shelf) (spares : OnlyLooks d asked.content shelf0 shelf1) where
  pub did-then : (from : Option Db) (status : Status) → Did asked from status mid new shelf1 shelf2 → Did asked from status old new shelf0 shelf2
  did-then from status did =
      let due = did.answer.due in
      let left = did.device in
      record {
        events = did.events;
        device = record {
          ready = left.ready;
          told = subst (λ (w : Option Work). WhereTold (λ before now. ⊤) w left.ready) (same-work old mid b) left.told;
          kept = λ h. left.kept h ∙ same-work old mid b;
          before = λ h. left.before h ∙ same-work old mid b;
          passed = passed-then [] did.events (how_of status) (record old { work = left.ready }) (record mid { work = left.ready }) new (ready-passed old mid b left.ready) left.passed;
          given = left.given;
          leaves = λ h. leaves-then old mid b (row_of status).basis asked from status new (no-wording status asked.command (noted-reads d asked.command noted) due.whose) due.rests (left.leaves h);
          settled = left.settled;
          sound = λ h. left.sound (b.adds.sound h);
        };
        answer = record {
          due = record { whose = due.whose; rests = rests-then old mid b (row_of status).basis asked from status due.rests };
          read = read-then old mid b from did.answer.read;
          source = did.answer.source ∙ ap (source_count (row_of status).basis) (spared-faults d asked.content shelf0 shelf1 spares);
          given = given-then d asked.command did.events asked.content shelf0 shelf1 shelf2 noted spares did.answer.given;
        };
        database = record {
          path = did.database.path;
          came = λ told e may. leads-then old mid b asked from did.events (end_of status) e (did.database.came (b.wrote.told told) e may);
        };
      }

  pub same-events : (from : Option Db) (status : Status) (did : Did asked from status mid new shelf1 shelf2) → (did-then from status did).events ≡ did.events
  unfolding did-then
  same-events from status did = refl
