-- A round, boot by boot.
use Rattle.std.proofs.Common.{◌≡◌, ◌≢◌, ℕ, zero, suc, ◌+◌, true, false, List, [], ◌∷◌, ◌++◌, ◌≤◌, length, replicate, arith, refl, sym, ap, ◌∙◌, subst, append-nil}
use Rattle.std.specs.Prelude.{All, Option, Some, None, IsTrue, Ok}
use Rattle.std.specs.List.{AllByRecursion}
use Rattle.std.proofs.lemmas.List.Elements.{All-nil, All-cons, All-append, recursion_from_All}
use Rattle.device_model.specs.declared.calls.Event.{Event}
use Rattle.device_model.specs.Disk.{Disk, IsTold, IsSettled, IsWhole, IsSynced}
use Rattle.device_model.proofs.Refilled.{refilled_self}
use Rattle.io_model.specs.Source.{Content}
use Rattle.io_model.specs.Source.Content.{Told}
use Rattle.io_model.specs.MemSource.{Shelf}
use Rattle.script_names.specs.declared.site.Site.{Site}
use Rattle.flow_table.specs.declared.position.Outcome.{Outcome}
use Rattle.flow_table.specs.declared.position.Outcome.TheVariants.{Undecided}
use Rattle.flow_words.specs.Pieces.{End, Ended}
use Rattle.record_codec.specs.declared.entry.Db.{Db}
use Rattle.record_codec.specs.declared.entry.Db.TheVariants.{Empty}
use Rattle.slot_store.specs.Slots.{May, Sound, IsAt, stood}
use Rattle.slot_store.proofs.Disks.{at-area, settled-area}
use Rattle.slot_store.proofs.Zeros.{zeros-stand}
use Rattle.device_mem.specs.declared.script.Script.{Script}
use Rattle.device_mem.specs.Fits.{Fits}
use Rattle.device_mem.specs.MemState.{MemState}
use Rattle.device_mem.specs.Parts.{fresh_disk}
use Rattle.client_words.specs.declared.command.Command.{Command}
use Rattle.client_words.specs.declared.command.Command.TheVariants.{Install, Resume}
use Rattle.client_top.specs.declared.status.Status.{Status}
use Rattle.client_top.specs.declared.status.Status.TheVariants as status
use Rattle.client_top.specs.declared.status.Good.TheVariants as good
use Rattle.client_top.specs.Answers.{row_of, is_synced}
use Rattle.lab.specs.declared.runs.BootRun.{BootRun}
use Rattle.lab.specs.declared.draws.Round.{Round}
use Rattle.lab.specs.Path.{Step, Path, stays, goes}
use Rattle.lab.specs.Campaign.{Campaigned, simulates}
use Rattle.lab.specs.Trees.{tree_of}
use Rattle.lab.specs.Simulation.{GoesOn, EndsAs, Played, Until, ends, goes_on, IsUndisturbed, the_site, new_source, new_device}
use Rattle.lab.proofs.Rows.{campaigned-append, campaigned-none}
use Rattle.lab.proofs.Zeros.{zeros-hold}
use Rattle.lab.proofs.Turning.{Busy, busy, ended-at}
use Rattle.lab.proofs.Shortness.{short-rounds}
use Rattle.std.proofs.lemmas.List.{length-map, length-replicate}

-- ---- the commands of so many boots

abbrev boots_of : ℕ → List Command
boots_of zero = []
boots_of (suc n) = Install ∷ replicate n Resume

abbrev command_at : ℕ → Command
command_at zero = Install
command_at (suc n) = Resume

one-behind : {A : Type 0} (n : ℕ) (x : A) → replicate n x ++ x ∷ [] ≡ replicate (suc n) x
one-behind zero x = refl
one-behind (suc n) x = ap (λ l. x ∷ l) (one-behind n x)

boots-more : (n : ℕ) → boots_of n ++ command_at n ∷ [] ≡ boots_of (suc n)
boots-more zero = refl
boots-more (suc n) = ap (λ (l : List Command). Install ∷ l) (one-behind n Resume)

-- ---- the path

module _ (site : Site) (content : Content) where
  last-step : (row : List BootRun) (run : BootRun) {c d : Db} → Path site content c (row ++ run ∷ []) d → (m : Db) × Step site content m run d
  last-step [] run {c} (goes step stays) = (c, step)
  last-step (r ∷ row) run (goes step path) = last-step row run path

  until : (row : List BootRun) (run : BootRun) (o : Outcome) {c d : Db} → AllByRecursion (λ r. Busy site content r) row → AllByRecursion (λ r. GoesOn r.status) row
      → Path site content c (row ++ run ∷ []) d → EndsAs o run.status → Until site content o d c (row ++ run ∷ [])
  until [] run o all on (goes step stays) is = let at = ended-at site content run o step is in ends step is at.0
  until (r ∷ []) run o {c} all on (goes {m} step path) is = goes_on step on.0 (all.0 c m step) (until [] run o all.1 on.1 path is)
  until (r ∷ s ∷ row) run o {c} all on (goes {m} step path) is = goes_on step on.0 (all.0 c m step) (until (s ∷ row) run o all.1 on.1 path is)

-- ---- the disk

at-some : (disk : Option Disk) → IsTold disk → IsWhole 266240 disk → IsSettled disk → Sound disk → (db : Db) × IsAt db disk
at-some None told whole settled sound = absurd told
at-some (Some d) told whole settled sound =
    let k = sound d.area (refilled_self (IsSynced d.unsynced) d.area whole.bytes) in
    (k.0, at-area 266240 (Some d) k.0 whole settled k.1)

zeros-sound : (script : Script) → Sound (new_device script).device.disk
zeros-sound script area held = (Empty, ap stood (settled-area (fresh_disk (replicate 266240 0)) refl area held) ∙ zeros-stand)

-- ---- the answers

calm : (s : Status) → GoesOn s → IsUndisturbed s
calm (status.Done g) on = tt
calm (status.Refused r) on = tt
calm status.NoUpdate on = tt
calm status.Inconsistent on = tt
calm status.RebootNeeded on = tt
calm status.DiskFault on = absurd on
calm status.SourceFault on = absurd on
calm status.NoMemory on = absurd on
calm status.SinkFault on = absurd on
calm (status.Usage u) on = tt
calm status.PowerOff on = tt
calm (status.BadStore o) on = tt
calm (status.TooLarge b) on = tt
calm (status.NotNow w) on = tt
calm (status.NotInstalled o) on = tt

calm-all : (row : List BootRun) → AllByRecursion (λ r. GoesOn r.status) row → All (λ (r : BootRun). IsUndisturbed r.status) row
calm-all [] on = All-nil (λ (r : BootRun). IsUndisturbed r.status)
calm-all (r ∷ row) on = All-cons (λ (r : BootRun). IsUndisturbed r.status) r row (calm r.status on.0) (calm-all row on.1)

calm-end : (s : Status) (o : Outcome) → EndsAs o s → IsUndisturbed s
calm-end (status.Done g) o is = tt
calm-end (status.Refused r) o is = tt
calm-end status.NoUpdate o is = tt
calm-end status.Inconsistent o is = tt
calm-end status.RebootNeeded o is = tt
calm-end status.DiskFault o is = absurd cc
calm-end status.SourceFault o is = absurd cc
calm-end status.NoMemory o is = absurd cc
calm-end status.SinkFault o is = absurd cc
calm-end (status.Usage u) o is = tt
calm-end status.PowerOff o is = tt
calm-end (status.BadStore x) o is = tt
calm-end (status.TooLarge b) o is = tt
calm-end (status.NotNow w) o is = tt
calm-end (status.NotInstalled x) o is = tt

none-last : false ≡ true → ⊥
none-last h = cc

same-end : {o x : Outcome} → ◌≡◌ {A = Option End} (Some (Ended x)) (Some (Ended o)) → x ≡ o
same-end h = cc

-- an answer that tells an end tells how it was decided
decided : (command : Command) (s : Status) (o : Outcome) → IsTrue ((row_of s).whose (Ok command)) → EndsAs o s → o ≢ Undecided
decided command (status.Done good.Committed) o whose is = λ un. let x = same-end is ∙ un in cc
decided command (status.Done good.Waiting) o whose is = absurd cc
decided command (status.Done good.RolledBack) o whose is = λ un. let x = same-end is ∙ un in cc
decided command (status.Done good.Shown) o whose is = absurd cc
decided command (status.Done good.Admitted) o whose is = absurd cc
decided command (status.Done good.Simulated) o whose is = absurd cc
decided command (status.Refused r) o whose is = absurd cc
decided command status.NoUpdate o whose is = absurd cc
decided command status.Inconsistent o whose is = λ un. let x = same-end is ∙ un in cc
decided command status.RebootNeeded o whose is = absurd cc
decided command status.DiskFault o whose is = absurd cc
decided command status.SourceFault o whose is = absurd cc
decided command status.NoMemory o whose is = absurd cc
decided command status.SinkFault o whose is = absurd cc
decided command (status.Usage u) o whose is = absurd cc
decided command status.PowerOff o whose is = absurd cc
decided command (status.BadStore x) o whose is = absurd cc
decided command (status.TooLarge b) o whose is = absurd cc
decided command (status.NotNow w) o whose is = absurd cc
decided command (status.NotInstalled x) o whose is = λ un. none-last (subst (λ (y : Outcome). IsTrue ((row_of (status.NotInstalled y)).whose (Ok command))) (same-end is ∙ un) whose)

synced-end : (s : Status) (o : Outcome) → EndsAs o s → is_synced (row_of s).basis ≡ true
synced-end (status.Done good.Committed) o is = refl
synced-end (status.Done good.Waiting) o is = refl
synced-end (status.Done good.RolledBack) o is = refl
synced-end (status.Done good.Shown) o is = absurd cc
synced-end (status.Done good.Admitted) o is = absurd cc
synced-end (status.Done good.Simulated) o is = absurd cc
synced-end (status.Refused r) o is = absurd cc
synced-end status.NoUpdate o is = absurd cc
synced-end status.Inconsistent o is = refl
synced-end status.RebootNeeded o is = refl
synced-end status.DiskFault o is = absurd cc
synced-end status.SourceFault o is = absurd cc
synced-end status.NoMemory o is = absurd cc
synced-end status.SinkFault o is = absurd cc
synced-end (status.Usage u) o is = absurd cc
synced-end status.PowerOff o is = absurd cc
synced-end (status.BadStore x) o is = absurd cc
synced-end (status.TooLarge b) o is = absurd cc
synced-end (status.NotNow w) o is = absurd cc
synced-end (status.NotInstalled x) o is = refl

-- ---- the boots of a round so far

pub record Sofar (round : Round) (k : ℕ) (command : Command) (device : MemState) (source : Shelf) : Type 0 where
  runs : List BootRun
  campaign : Campaigned the_site (boots_of k) (new_device round.script) device (new_source (tree_of round.lengths)) source runs
  each_busy : All (λ (r : BootRun). Busy the_site (Told (tree_of round.lengths)) r) runs
  each_on : All (λ (r : BootRun). GoesOn r.status) runs
  next : command ≡ command_at k

pub sofar-none : (round : Round) → Sofar round 0 Install (new_device round.script) (new_source (tree_of round.lengths))
sofar-none round = record {
  runs = [];
  campaign = campaigned-none the_site (new_device round.script) (new_source (tree_of round.lengths));
  each_busy = All-nil (λ (r : BootRun). Busy the_site (Told (tree_of round.lengths)) r);
  each_on = All-nil (λ (r : BootRun). GoesOn r.status);
  next = refl;
}

module _ (round : Round) (k : ℕ) (command : Command) (mid new : MemState) (s s' : Shelf) (run : BootRun) (before : Sofar round k command mid s) (boot : Campaigned the_site (command ∷ []) mid new s s' (run ∷ [])) where
  abbrev tree : Content
  tree = Told (tree_of round.lengths)

  whole : Campaigned the_site (boots_of (suc k)) (new_device round.script) new (new_source (tree_of round.lengths)) s' (before.runs ++ run ∷ [])
  whole = subst (λ (l : List Command). Campaigned the_site l (new_device round.script) new (new_source (tree_of round.lengths)) s' (before.runs ++ run ∷ []))
      (ap (λ (c : Command). boots_of k ++ c ∷ []) before.next ∙ boots-more k)
      (campaigned-append the_site (boots_of k) (command ∷ []) (new_device round.script) mid new (new_source (tree_of round.lengths)) s s' before.runs (run ∷ []) before.campaign boot)

  fits-run : Fits mid.plan.script mid.taken mid.started run.events.events new.taken new.started
  fits-run = subst (λ (l : List Event). Fits mid.plan.script mid.taken mid.started l new.taken new.started) (append-nil run.events.events) boot.fits

  pub sofar-more : round.script.losses ≡ [] → GoesOn run.status → Sofar round (suc k) Resume new s'
  sofar-more none on = record {
    runs = before.runs ++ run ∷ [];
    campaign = whole;
    each_busy = All-append (λ (r : BootRun). Busy the_site (Told (tree_of round.lengths)) r) before.runs (run ∷ []) before.each_busy
        (All-cons (λ (r : BootRun). Busy the_site (Told (tree_of round.lengths)) r) run []
        (busy the_site (Told (tree_of round.lengths)) run on mid.plan.script mid.taken mid.started new.taken new.started (ap (λ (x : Script). x.losses) before.campaign.script ∙ none) fits-run)
        (All-nil (λ (r : BootRun). Busy the_site (Told (tree_of round.lengths)) r)));
    each_on = All-append (λ (r : BootRun). GoesOn r.status) before.runs (run ∷ []) before.each_on (All-cons (λ (r : BootRun). GoesOn r.status) run [] on (All-nil (λ (r : BootRun). GoesOn r.status)));
    next = refl;
  }

  pub played : (o : Outcome) → EndsAs o run.status → IsTold new.device.disk → IsWhole 266240 new.device.disk → (is_synced (row_of run.status).basis ≡ true → IsSettled new.device.disk) → Played round o
  played o is told area settled =
      let at = at-some new.device.disk told area (settled (synced-end run.status o is)) (whole.sound (zeros-sound round.script)) in
      let led = whole.reached at.0 (at.1.stands told) in
      let empty : led.from ≡ Empty = zeros-hold (fresh_disk (replicate 266240 0)) refl refl led.from led.may in
      let path : Path the_site (Told (tree_of round.lengths)) Empty (before.runs ++ run ∷ []) at.0 = subst (λ (c : Db). Path the_site (Told (tree_of round.lengths)) c (before.runs ++ run ∷ []) at.0) empty led.path in
      let last = last-step the_site (Told (tree_of round.lengths)) before.runs run path in
      record {
        times = k;
        runs = before.runs ++ run ∷ [];
        device = new;
        source = s';
        campaign = whole;
        undisturbed = All-append (λ (r : BootRun). IsUndisturbed r.status) before.runs (run ∷ []) (calm-all before.runs (recursion_from_All (λ (r : BootRun). GoesOn r.status) before.runs before.each_on)) (All-cons (λ (r : BootRun). IsUndisturbed r.status) run [] (calm-end run.status o is) (All-nil (λ (r : BootRun). IsUndisturbed r.status)));
        stands = at.0;
        may = at.1.stands told;
        alone = at.1.alone told;
        path = until the_site (Told (tree_of round.lengths)) before.runs run o (recursion_from_All (λ r. Busy the_site (Told (tree_of round.lengths)) r) before.runs before.each_busy) (recursion_from_All (λ r. GoesOn r.status) before.runs before.each_on) path is;
        outcome_is = (let e = ended-at the_site (Told (tree_of round.lengths)) run o last.1 is in e.1);
        decided = decided run.command run.status o last.1.whose is;
      }

-- ---- how many they are

may-some : (disk : Option Disk) → IsTold disk → IsWhole 266240 disk → Sound disk → (db : Db) × May disk db
may-some None told whole sound = absurd told
may-some (Some d) told whole sound =
    let held = refilled_self (IsSynced d.unsynced) d.area whole.bytes in
    let k = sound d.area held in
    (k.0, record { area = d.area; held = held; stands = k.1 })

boots-long : (k : ℕ) → length (boots_of k) ≡ k
boots-long zero = refl
boots-long (suc n) = ap suc (length-replicate n Resume)

module _ {round : Round} {command : Command} {device : MemState} {source : Shelf} (none : round.script.losses ≡ []) (told : IsTold device.device.disk) (area : IsWhole 266240 device.device.disk) where
  few-by : (k : ℕ) → Sofar round k command device source → k ≤ 28
  few-by zero s = omega arith
  few-by (suc n) s =
      let at = may-some device.device.disk told area (s.campaign.sound (zeros-sound round.script)) in
      let led = s.campaign.reached at.0 at.1 in
      let empty : led.from ≡ Empty = zeros-hold (fresh_disk (replicate 266240 0)) refl refl led.from led.may in
      let path : Path the_site (Told (tree_of round.lengths)) Empty s.runs at.0 = subst (λ (c : Db). Path the_site (Told (tree_of round.lengths)) c s.runs at.0) empty led.path in
      let short : length s.runs ≤ 28 = short-rounds round.script none the_site (tree_of round.lengths) n at.0 s.runs device.taken device.started path s.campaign.commands s.each_on s.campaign.fits in
      let many : length s.runs ≡ suc n = sym (length-map s.runs (λ (r : BootRun). r.command)) ∙ ap length s.campaign.commands ∙ boots-long (suc n) in
      omega (arith, short, many)

  pub sofar-few : (k : ℕ) → Sofar round k command device source → 29 ≤ k → ⊥
  sofar-few k s many = let few = few-by k s in omega (arith, few, many)

-- ---- as the code makes it

pub sofar-room : {round : Round} {k : ℕ} {command : Command} {device : MemState} {source : Shelf} → Sofar round k command device source → 168001 ≤ device.device.room + length device.device.journal
sofar-room s = let r = s.campaign.room in omega (arith, r)

at-obeys : (k : ℕ) → simulates (command_at k) ≡ false
at-obeys zero = refl
at-obeys (suc k) = refl

pub sofar-obeys : {round : Round} {k : ℕ} {command : Command} {device : MemState} {source : Shelf} → Sofar round k command device source → simulates command ≡ false
sofar-obeys {k} s = ap simulates s.next ∙ at-obeys k

pub step-boot : (site : Site) (command : Command) (mid new : MemState) (s s' : Shelf) (r run : BootRun) → site ≡ the_site → Campaigned site (command ∷ []) mid new s s' (run ∷ []) → r ≡ run → Campaigned the_site (command ∷ []) mid new s s' (r ∷ [])
step-boot site command mid new s s' r run at made is =
    subst (λ (x : Site). Campaigned x (command ∷ []) mid new s s' (r ∷ [])) at (subst (λ (x : BootRun). Campaigned site (command ∷ []) mid new s s' (x ∷ [])) (sym is) made)

pub sofar-next : {round : Round} {k : ℕ} {command : Command} {device : MemState} {source : Shelf} → Sofar round (suc k) command device source → Sofar round (k + 1) command device source
sofar-next {round} {k} {command} {device} {source} s = let same : suc k ≡ k + 1 = omega arith in subst (λ (n : ℕ). Sofar round n command device source) same s
