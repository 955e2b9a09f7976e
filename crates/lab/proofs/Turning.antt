-- What one boot of a round leaves, by its answer.
use Rattle.std.proofs.Common.{◌≡◌, ◌≢◌, ℕ, Bool, true, false, List, [], ◌∷◌, ◌++◌, refl, sym, ap, ◌∙◌, subst}
use Rattle.std.specs.Prelude.{Option, Some, IsTrue, Result, Ok, Err, if◌then◌else◌}
use Rattle.device_model.specs.declared.calls.Event.{Event}
use Rattle.device_model.specs.declared.calls.Event.TheVariants.{Start, End as Ends, Pause, Loss}
use Rattle.io_model.specs.Source.{Content}
use Rattle.io_model.specs.Source.Content.{Told, Untold}
use Rattle.script_names.specs.declared.site.Site.{Site}
use Rattle.flow_table.specs.declared.position.State.{State}
use Rattle.flow_table.specs.declared.position.State.TheVariants.{Idle}
use Rattle.flow_table.specs.declared.table.Order.{Order}
use Rattle.flow_table.specs.declared.table.Order.TheVariants as order
use Rattle.flow_table.specs.Table.{first_by}
use Rattle.flow_table.specs.declared.position.Outcome.{Outcome}
use Rattle.flow_words.specs.Pieces.{End, Ended, Waits, RebootNeeded, Halted}
use Rattle.flow_drive.specs.Calls.{callees}
use Rattle.record_codec.specs.declared.entry.Entry.{Entry}
use Rattle.record_codec.specs.declared.entry.Db.{Db}
use Rattle.record_codec.specs.declared.entry.Db.TheVariants.{Empty, Full}
use Rattle.record_codec.specs.Held.{position_of}
use Rattle.device_mem.specs.declared.script.Script.{Script}
use Rattle.device_mem.specs.Script.{taken_after}
use Rattle.device_mem.specs.Fits.{Fits}
use Rattle.upd_text.specs.Counts.{counted}
use Rattle.client_top.specs.declared.status.Status.{Status}
use Rattle.client_top.specs.declared.status.Status.TheVariants as status
use Rattle.client_words.specs.declared.command.Command.{Command}
use Rattle.client_words.specs.declared.command.Command.TheVariants.{Install, Resume, ResumeStop, Commit, Rollback, ShowProvides, ShowArtifact, ShowDeployment, Check, Simulate}
use Rattle.client_top.specs.declared.status.Good.TheVariants.{Committed, Waiting, RolledBack, Shown, Admitted, Simulated}
use Rattle.client_top.specs.Finds.{Request, Answers, Stays, Unsaid, begun, ordered, opening_at, starting, beginning, installed, found_for}
use Rattle.client_top.specs.Boot.{Boot, nothing, stays, runs, begins, breaks_off}
use Rattle.client_top.specs.Answers.{deploys, row_of, end_of}
use Rattle.lab.specs.declared.runs.BootRun.{BootRun}
use Rattle.lab.specs.Path.{Step, is_off, asked_of}
use Rattle.lab.specs.Simulation.{GoesOn}
use Rattle.lab.proofs.Busy.{starts_last, waits-busy, halted-busy, reboot-busy, ended-idle}

-- ---- a loss stands behind a start

none-last : false ≡ true → ⊥
none-last h = cc

later-start : (e : Event) (w : List Event) → starts_last w ≡ true → starts_last (e ∷ w) ≡ true
later-start e [] h = absurd (none-last h)
later-start e (f ∷ w) h = h

pub behind-start : (script : Script) (t s : ℕ) (events : List Event) (t' s' : ℕ) → script.losses ≡ [] → Fits script t s (events ++ Loss ∷ []) t' s' → starts_last events ≡ true
behind-start script t s [] t' s' none h = absurd (h.0 none)
behind-start script t s (Start c ∷ []) t' s' none h = refl
behind-start script t s (Start c ∷ Start d ∷ rest) t' s' none h = absurd h
behind-start script t s (Start c ∷ Pause n ∷ rest) t' s' none h = absurd h
behind-start script t s (Start c ∷ Ends a ∷ rest) t' s' none h =
    later-start (Start c) (Ends a ∷ rest) (later-start (Ends a) rest (behind-start script (taken_after script t c) (counted s) rest t' s' none h.2))
behind-start script t s (Start c ∷ Loss ∷ rest) t' s' none h =
    later-start (Start c) (Loss ∷ rest) (later-start Loss rest (behind-start script (taken_after script t c) (counted s) rest t' s' none h.1))
behind-start script t s (Ends a ∷ rest) t' s' none h = absurd h
behind-start script t s (Pause n ∷ rest) t' s' none h = later-start (Pause n) rest (behind-start script t s rest t' s' none h)
behind-start script t s (Loss ∷ rest) t' s' none h = absurd (h.0 none)

-- ---- one boot

pub some-one : {a b : End} → Some a ≡ Some b → a ≡ b
some-one h = cc

halted-empty : starts_last [] ≡ true → ⊥
halted-empty h = cc

boot-halted : {asked : Request} {c d : Db} {events : List Event} {end : Option End} → Boot asked c events end d → end ≡ Some Halted → starts_last events ≡ true → (position_of d).state ≢ Idle
boot-halted nothing is last = absurd cc
boot-halted (stays h) is last = absurd cc
boot-halted {asked} (runs e p found leads) is last = subst (λ (x : Db). (position_of x).state ≢ Idle) (sym leads.stands) (halted-busy (callees asked.site e) leads.goes (some-one is) last)
boot-halted {asked} {c} (begins plan i found fits leads) is last = subst (λ (x : Db). (position_of x).state ≢ Idle) (sym leads.stands) (halted-busy (callees asked.site (begun c plan)) leads.goes (some-one is) last)
boot-halted breaks_off is last = absurd (halted-empty last)

boot-reboots : {asked : Request} {c d : Db} {events : List Event} {end : Option End} → Boot asked c events end d → end ≡ Some RebootNeeded → (position_of d).state ≢ Idle
boot-reboots nothing is = absurd cc
boot-reboots (stays h) is = absurd cc
boot-reboots {asked} (runs e p found leads) is = subst (λ (x : Db). (position_of x).state ≢ Idle) (sym leads.stands) (reboot-busy (callees asked.site e) leads.goes (some-one is))
boot-reboots {asked} {c} (begins plan i found fits leads) is = subst (λ (x : Db). (position_of x).state ≢ Idle) (sym leads.stands) (reboot-busy (callees asked.site (begun c plan)) leads.goes (some-one is))
boot-reboots breaks_off is = absurd cc

-- what waits is in progress
idle-order : (o : Order) (c : Db) → (position_of c).state ≡ Idle → ordered o c ≡ Stays → ⊥
idle-order o Empty idle h = cc
idle-order o (Full x) idle h =
    let gone : Answers status.NoUpdate ≡ Stays = sym (ap (λ (s : State). opening_at x (first_by s o x.position)) idle) ∙ h in cc

no-start : (r : Result Entry Status) → starting r ≡ Stays → ⊥
no-start (Ok e) h = cc
no-start (Err s) h = cc

no-install : (s : State) (site : Site) (content : Content) (c : Db) → s ≡ Idle → beginning s site content c ≡ Stays → ⊥
no-install s site (Told t) c idle h = no-start (installed site t c) (sym (ap (λ (x : State). beginning x site (Told t) c) idle) ∙ h)
no-install s site (Untold n) c idle h = let gone : Unsaid ≡ Stays = sym (ap (λ (x : State). beginning x site (Untold n) c) idle) ∙ h in cc

stays-busy : (command : Command) (site : Site) (content : Content) (c : Db) → IsTrue (deploys (Ok command)) → found_for (Ok command) site content c ≡ Stays → (position_of c).state ≢ Idle
stays-busy Install site content c whose h = λ idle. no-install (position_of c).state site content c idle h
stays-busy Resume site content c whose h = λ idle. idle-order order.Resume c idle h
stays-busy ResumeStop site content c whose h = λ idle. idle-order order.ResumeStop c idle h
stays-busy Commit site content c whose h = λ idle. idle-order order.Commit c idle h
stays-busy Rollback site content c whose h = λ idle. idle-order order.Rollback c idle h
stays-busy ShowProvides site content c whose h = absurd (none-last whose)
stays-busy ShowArtifact site content c whose h = absurd (none-last whose)
stays-busy ShowDeployment site content c whose h = absurd (none-last whose)
stays-busy Check site content c whose h = absurd (none-last whose)
stays-busy (Simulate seed rounds) site content c whose h = absurd (none-last whose)

boot-waits : {command : Command} {site : Site} {content : Content} {c d : Db} {events : List Event} {end : Option End} → IsTrue (deploys (Ok command)) → Boot (asked_of site content command) c events end d → end ≡ Some Waits → (position_of d).state ≢ Idle
boot-waits whose nothing is = absurd cc
boot-waits {command} {site} {content} {c} whose (stays h) is = stays-busy command site content c whose h
boot-waits {site} whose (runs e p found leads) is = subst (λ (x : Db). (position_of x).state ≢ Idle) (sym leads.stands) (waits-busy (callees site e) leads.goes (some-one is))
boot-waits {site} {c} whose (begins plan i found fits leads) is = subst (λ (x : Db). (position_of x).state ≢ Idle) (sym leads.stands) (waits-busy (callees site (begun c plan)) leads.goes (some-one is))
boot-waits whose breaks_off is = absurd cc

boot-ended : {asked : Request} {c d : Db} {events : List Event} {end : Option End} (o : Outcome) → Boot asked c events end d → end ≡ Some (Ended o) → ((position_of d).state ≡ Idle) × ((position_of d).outcome ≡ o)
boot-ended o nothing is = absurd cc
boot-ended o (stays h) is = absurd cc
boot-ended {asked} o (runs e p found leads) is = subst (λ (x : Db). ((position_of x).state ≡ Idle) × ((position_of x).outcome ≡ o)) (sym leads.stands) (ended-idle (callees asked.site e) o leads.goes (some-one is))
boot-ended {asked} {c} o (begins plan i found fits leads) is = subst (λ (x : Db). ((position_of x).state ≡ Idle) × ((position_of x).outcome ≡ o)) (sym leads.stands) (ended-idle (callees asked.site (begun c plan)) o leads.goes (some-one is))
boot-ended o breaks_off is = absurd cc

-- ---- by the answer

-- behind this boot no deployment stands at Idle
abbrev pub Busy : Site → Content → BootRun → Type 0
Busy site content run = (c d : Db) → Step site content c run d → (position_of d).state ≢ Idle

module _ (site : Site) (content : Content) where
  by-loss : {c d : Db} (run : BootRun) → Step site content c run d → (off : Bool) → is_off run.status ≡ off → off ≡ true → end_of run.status ≡ Some Halted → (script : Script) (t s t' s' : ℕ) → script.losses ≡ [] → Fits script t s run.events.events t' s' → (position_of d).state ≢ Idle
  by-loss run step false is off end script t s t' s' none fits = absurd cc
  by-loss run step true is off end script t s t' s' none fits =
      let j : run.events.events ≡ step.events ++ Loss ∷ [] = step.journal ∙ ap (λ (b : Bool). step.events ++ (if b then Loss ∷ [] else [])) is in
      boot-halted step.boot end (behind-start script t s step.events t' s' none (subst (λ (l : List Event). Fits script t s l t' s') j fits))

  by-status : (st : Status) (run : BootRun) → run.status ≡ st → GoesOn st → (script : Script) (t s t' s' : ℕ) → script.losses ≡ [] → Fits script t s run.events.events t' s' → Busy site content run
  by-status status.RebootNeeded run is on script t s t' s' none fits = λ c d step. boot-reboots step.boot (ap end_of is)
  by-status status.PowerOff run is on script t s t' s' none fits = λ c d step. by-loss run step true (ap is_off is) refl (ap end_of is) script t s t' s' none fits
  by-status (status.Done Waiting) run is on script t s t' s' none fits = λ c d step. boot-waits {command = run.command} (subst (λ (x : Status). IsTrue ((row_of x).whose (Ok run.command))) is step.whose) step.boot (ap end_of is)
  by-status (status.Done Committed) run is on script t s t' s' none fits = absurd on
  by-status (status.Done RolledBack) run is on script t s t' s' none fits = absurd on
  by-status (status.Done Shown) run is on script t s t' s' none fits = absurd on
  by-status (status.Done Admitted) run is on script t s t' s' none fits = absurd on
  by-status (status.Done Simulated) run is on script t s t' s' none fits = absurd on
  by-status (status.Refused r) run is on script t s t' s' none fits = absurd on
  by-status status.NoUpdate run is on script t s t' s' none fits = absurd on
  by-status status.Inconsistent run is on script t s t' s' none fits = absurd on
  by-status status.DiskFault run is on script t s t' s' none fits = absurd on
  by-status status.SourceFault run is on script t s t' s' none fits = absurd on
  by-status status.NoMemory run is on script t s t' s' none fits = absurd on
  by-status status.SinkFault run is on script t s t' s' none fits = absurd on
  by-status (status.Usage u) run is on script t s t' s' none fits = absurd on
  by-status (status.BadStore o) run is on script t s t' s' none fits = absurd on
  by-status (status.TooLarge b) run is on script t s t' s' none fits = absurd on
  by-status (status.NotNow w) run is on script t s t' s' none fits = absurd on
  by-status (status.NotInstalled o) run is on script t s t' s' none fits = absurd on

  pub busy : (run : BootRun) → GoesOn run.status → (script : Script) (t s t' s' : ℕ) → script.losses ≡ [] → Fits script t s run.events.events t' s' → Busy site content run
  busy run on = by-status run.status run refl on

  pub ended-at : {c d : Db} (run : BootRun) (o : Outcome) → Step site content c run d → end_of run.status ≡ Some (Ended o) → ((position_of d).state ≡ Idle) × ((position_of d).outcome ≡ o)
  ended-at run o step is = boot-ended o step.boot is
