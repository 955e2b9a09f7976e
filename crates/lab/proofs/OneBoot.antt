-- One boot of a device in memory.
use Rattle.std.proofs.Common.{◌≡◌, ℕ, ◌+◌, ◌-◌, ◌≤◌, Bool, true, false, cond, List, [], ◌∷◌, ◌++◌, length, refl, sym, ap, ◌∙◌, subst, append-nil, arith}
use Rattle.std.proofs.lemmas.List.Elements.{All-nil, All-cons}
use Rattle.std.specs.Prelude.{Option, Some, None, IfSome, Ok, Err, if◌then◌else◌}
use Rattle.device_model.specs.declared.calls.Event.{Event}
use Rattle.device_model.specs.declared.calls.Event.TheVariants.{Loss}
use Rattle.device_model.specs.Events.{Recorded}
use Rattle.device_model.specs.Disk.{Disk, IsTold, IsWhole, IsSettled, area_of}
use Rattle.device_model.specs.State.{State}
use Rattle.io_model.specs.Source.{Content, Tree}
use Rattle.io_model.specs.Source.Content.{Told, Untold}
use Rattle.io_model.specs.MemSource.{Shelf}
use Rattle.script_names.specs.declared.site.Site.{Site}
use Rattle.record_codec.specs.declared.entry.Db.{Db}
use Rattle.slot_store.specs.Slots.{Sound, stood}
use Rattle.device_mem.specs.declared.script.Plan.{Plan}
use Rattle.device_mem.specs.Fits.{Fits}
use Rattle.device_mem.specs.MemState.{MemState, FollowsPlan, powered}
use Rattle.client_words.specs.declared.command.Command.{Command}
use Rattle.client_words.specs.declared.command.Command.TheVariants.{Install, Resume, ResumeStop, Commit, Rollback, ShowProvides, ShowArtifact, ShowDeployment, Check, Simulate}
use Rattle.client_top.specs.declared.status.Status.{Status}
use Rattle.client_top.specs.declared.status.Status.TheVariants.{BadStore}
use Rattle.client_top.specs.Finds.{Request}
use Rattle.client_top.specs.Answers.{Words, row_of, end_of, is_synced, Rests}
use Rattle.client_top.specs.Asked.{asked_at}
use Rattle.client_top.specs.Did.{Did, Said, whole, cut, Obeyed, Path}
use Rattle.client_top.specs.Did as did
use Rattle.client_top.proofs.Boots.{follows}
use Rattle.lab.specs.declared.runs.BootRun.{BootRun}
use Rattle.lab.specs.Events.{ends_with_loss}
use Rattle.lab.specs.Path.{is_off, asked_of, goes, stays}
use Rattle.lab.specs.Campaign.{Campaigned, risen, is_disk_fault, is_source_fault, simulates, IsExpected}
use Rattle.lab.proofs.Ends.{boot-end, ends-by}
use Rattle.lab.proofs.Tallies.{count-one, Tallies, tallies, source-tally, expected}

-- ---- the sink never fails, so that the answer is the one that is meant

abbrev counts_of : Shelf → did.Shelf
counts_of s = record { faults = s.faults; given = Some s.given }

module _ {asked : Request} {old new : State} {source source' : did.Shelf} where
  said-did : {status : Status} (from : Option Db) (meant : Status) (text : List ℕ) → Did asked from meant old new source source' → Said meant text (record { told = None; faults = 0 }) (record { told = None; faults = 0 }) status → (from : Option Db) × Did asked from status old new source source'
  said-did from meant text did (whole w) = (from, did)
  said-did from meant text did (cut w) = absurd (omega (arith, w.count))

  pub obeyed-did : {status : Status} → Obeyed asked old new source source' (record { told = None; faults = 0 }) (record { told = None; faults = 0 }) status → (from : Option Db) × Did asked from status old new source source'
  obeyed-did o = said-did o.from o.meant _ o.did o.said

-- ---- the store is a record

differ : {offset : ℕ} {db : Db} → Err offset ≡ Ok db → ⊥
differ e = cc

pub no-bad-store : (disk : Option Disk) → IsTold disk → IsWhole 266240 disk → Sound disk → (offset : ℕ) → IfSome (area_of disk) (λ area. stood area ≡ Err offset) → ⊥
no-bad-store None told w sound offset bad = told
no-bad-store (Some disk) told w sound offset bad =
    let at = sound disk.area (record { same_length = refl; bytes = w.bytes; outside = λ i kept. refl }) in
    differ (sym bad ∙ at.1)

-- ---- what a boot did

-- no event where no database was read
path-end : (asked : Request) (from : Option Db) (events : List Event) (end : Option _) → Path asked from events end → ends_with_loss events ≡ false
path-end asked None events end path = subst (λ (l : List Event). ends_with_loss l ≡ false) (sym path) refl
path-end asked (Some c) events end path = boot-end path.1

room-kept : (n room : ℕ) (journal : List Event) → room ≡ n - length journal → n ≤ room + length journal
room-kept n room journal is = omega (arith, is)

module _ (site : Site) (command : Command) (m new : MemState) (s s' : Shelf) (status : Status) (room : ℕ) where
  abbrev the_run : BootRun
  the_run = record { command = command; events = record { events = new.device.journal; room = room }; status = status }

  module _ (from : Option Db) (did : Did (asked_of site (Told s.tree) command) from status (powered m).device new.device (counts_of s) (counts_of s')) (follows_plan : FollowsPlan new) (plan : new.plan ≡ (powered m).plan) (told : IsTold m.device.disk) (area : IsWhole 266240 m.device.disk) (obeyed : simulates command ≡ false) where
    tally : Tallies (is_off status) (is_disk_fault status) (record (powered m).device { work = did.device.ready }) new.device
    tally = tallies status did.device.passed.ends

    journal : new.device.journal ≡ did.events ++ (if is_off status then Loss ∷ [] else [])
    journal = did.device.passed.journal ∙ ap (λ (l : List Event). did.events ++ l) tally.on

    ended : ends_with_loss new.device.journal ≡ is_off status
    ended = ends-by did.events new.device.journal (is_off status) (path-end (asked_of site (Told s.tree) command) from did.events (end_of status) did.database.path) journal

    fits : Fits m.plan.script m.taken m.started (new.device.journal ++ []) new.taken new.started
    fits = subst (λ (j : List Event). Fits m.plan.script m.taken m.started j new.taken new.started) (sym (append-nil new.device.journal))
        (subst (λ (p : Plan). Fits p.script p.taken p.started new.device.journal new.taken new.started) plan follows_plan.fits)

    left : m.device.room + length m.device.journal ≤ new.device.room + length new.device.journal
    left = room-kept (m.device.room + length m.device.journal) new.device.room new.device.journal
        (did.device.passed.room ∙ ap (λ (l : List Event). m.device.room + length m.device.journal - length l) (sym did.device.passed.journal))

    bad : (offset : ℕ) → status ≡ BadStore offset → IfSome (area_of m.device.disk) (λ area. stood area ≡ Err offset)
    bad offset is = let h : Rests (row_of (BadStore offset)).basis (asked_of site (Told s.tree) command) from (area_of m.device.disk) (BadStore offset) = subst (λ (t : Status). Rests (row_of t).basis (asked_of site (Told s.tree) command) from (area_of m.device.disk) t) is did.answer.due.rests in h.1

    pub boot-campaign : s'.tree ≡ s.tree → s'.failing ≡ s.failing → Campaigned site (command ∷ []) m new s s' (the_run ∷ [])
    boot-campaign tree failing = record {
      commands = refl;
      none = λ e. absurd cc;
      reached = λ d may.
          let came = follows (asked_of site (Told s.tree) command) from (area_of m.device.disk) status did.events m.device.disk d did.answer.due.rests did.database.path (did.database.came told d may) in
          record {
            from = came.0;
            may = came.1;
            path = goes (record { events = did.events; journal = journal; boot = came.2; whose = did.answer.due.whose; answer = came.3 }) stays;
          };
      sound = did.device.sound;
      fits = fits;
      last = refl;
      script = ap (λ (p : Plan). p.script) plan;
      room = left;
      tree = tree;
      failing = failing;
      losses = tally.losses ∙ ap (risen m.device.losses) (ap (λ (b : Bool). cond b 1 0) (sym ended) ∙ sym (count-one (λ (r : BootRun). ends_with_loss r.events.events) the_run));
      off = All-cons (λ (r : BootRun). is_off r.status ≡ ends_with_loss r.events.events) the_run [] (sym ended) (All-nil (λ (r : BootRun). is_off r.status ≡ ends_with_loss r.events.events));
      faults = tally.faults ∙ ap (risen m.device.faults) (sym (count-one (λ (r : BootRun). is_disk_fault r.status) the_run));
      source_faults = did.answer.source ∙ source-tally status s.faults ∙ ap (risen s.faults) (sym (count-one (λ (r : BootRun). is_source_fault r.status) the_run));
      answers = λ sound. All-cons (λ (r : BootRun). IsExpected r.status) the_run []
          (expected command status obeyed did.answer.due.whose (λ offset is. no-bad-store m.device.disk told area sound offset (bad offset is)))
          (All-nil (λ (r : BootRun). IsExpected r.status));
    }

-- ---- as the code makes it

tree_in : Content → Tree
tree_in (Told tree) = tree
tree_in (Untold count) = []

trees : {a b : Tree} → Told a ≡ Told b → a ≡ b
unfolding tree_in
trees e = ap tree_in e

inside : {A : Type 0} → A → Option A → A
inside other (Some x) = x
inside other None = other

somes : {A : Type 0} (a b : A) → Some a ≡ Some b → a ≡ b
unfolding inside
somes a b e = ap (inside a) e

asked-is : (command : Command) → simulates command ≡ false → asked_at 0 (Ok command) ≡ Ok command
asked-is Install obeyed = refl
asked-is Resume obeyed = refl
asked-is ResumeStop obeyed = refl
asked-is Commit obeyed = refl
asked-is Rollback obeyed = refl
asked-is ShowProvides obeyed = refl
asked-is ShowArtifact obeyed = refl
asked-is ShowDeployment obeyed = refl
asked-is Check obeyed = refl
asked-is (Simulate seed rounds) obeyed = absurd cc

pub obeyed-campaign : (site : Site) (command : Command) (m on new : MemState) (s s' : Shelf) (status : Status) (room : ℕ) →
    simulates command ≡ false → on ≡ powered m →
    Obeyed (record { command = asked_at 0 (Ok command); site = site; content = Told s.tree }) on.device new.device (counts_of s) (counts_of s') (record { told = None; faults = 0 }) (record { told = None; faults = 0 }) status →
    FollowsPlan new → Some new.plan ≡ Some on.plan → IsTold m.device.disk → IsWhole 266240 m.device.disk → Told s'.tree ≡ Told s.tree → Some s'.failing ≡ Some s.failing →
    Campaigned site (command ∷ []) m new s s' (record { command = command; events = record { events = new.device.journal; room = room }; status = status } ∷ [])
obeyed-campaign site command m on new s s' status room obeyed power done follows_plan plan told area tree failing =
    let o = subst (λ (x : MemState). Obeyed (record { command = asked_at 0 (Ok command); site = site; content = Told s.tree }) x.device new.device (counts_of s) (counts_of s') (record { told = None; faults = 0 }) (record { told = None; faults = 0 }) status) power done in
    let p = subst (λ (w : Words). Obeyed (record { command = w; site = site; content = Told s.tree }) (powered m).device new.device (counts_of s) (counts_of s') (record { told = None; faults = 0 }) (record { told = None; faults = 0 }) status) (asked-is command obeyed) o in
    let did = obeyed-did p in
    boot-campaign site command m new s s' status room did.0 did.1 follows_plan (somes new.plan on.plan plan ∙ ap (λ (x : MemState). x.plan) power) told area obeyed (trees tree) (somes s'.failing s.failing failing)

-- where the disk was read through, nothing is unsynced
pub obeyed-settled : {asked : Request} {old new : State} {source source' : did.Shelf} (status : Status) → Obeyed asked old new source source' (record { told = None; faults = 0 }) (record { told = None; faults = 0 }) status → is_synced (row_of status).basis ≡ true → IsSettled new.disk
obeyed-settled status o = let d = obeyed-did o in d.1.device.settled

-- with the events that were kept
pub kept-campaign : (site : Site) (command : Command) (m new : MemState) (s s' : Shelf) (status : Status) (kept : Recorded) → kept.events ≡ new.device.journal →
    ((room : ℕ) → Campaigned site (command ∷ []) m new s s' (record { command = command; events = record { events = new.device.journal; room = room }; status = status } ∷ [])) →
    Campaigned site (command ∷ []) m new s s' (record { command = command; events = kept; status = status } ∷ [])
kept-campaign site command m new s s' status kept is made =
    subst (λ (j : List Event). Campaigned site (command ∷ []) m new s s' (record { command = command; events = record { events = j; room = kept.room }; status = status } ∷ [])) (sym is) (made kept.room)
