-- A resume that nothing hinders ends the deployment, or counts a state.
use Rattle.std.proofs.Common.{◌≡◌, ◌≢◌, ◌⊎◌, ⊎_elim, inl, inr, ℕ, ◌+◌, ◌≤◌, List, ◌∷◌, length, refl, sym, ap, ◌∙◌, subst, arith}
use Rattle.std.proofs.lemmas.List.Elements.{recursion_from_All}
use Rattle.std.specs.Prelude.{All, IsTrue, Option, Some, None, Ok}
use Rattle.std.specs.List.{AllByRecursion}
use Rattle.device_model.specs.declared.calls.Event.{Event}
use Rattle.io_model.specs.Source.{Content}
use Rattle.script_names.specs.declared.site.Site.{Site}
use Rattle.flow_table.specs.declared.position.State.{State}
use Rattle.flow_table.specs.declared.position.State.TheVariants as state
use Rattle.flow_table.specs.declared.position.Position.{Position}
use Rattle.flow_table.specs.declared.table.Order.TheVariants as order
use Rattle.flow_table.specs.declared.table.Opening.TheVariants as opening
use Rattle.flow_table.specs.Table.{first_by, first_of}
use Rattle.flow_table.specs.Bound.{Nearer, ended, counted}
use Rattle.flow_table.proofs.Resuming.{resume-enters}
use Rattle.flow_words.specs.Pieces.{End, Halted}
use Rattle.flow_words.proofs.PieceLemmas.{orders-go-on}
use Rattle.record_codec.specs.declared.entry.Db.{Db}
use Rattle.record_codec.specs.declared.entry.Db.TheVariants.{Empty, Full}
use Rattle.record_codec.specs.declared.entry.Entry.{Entry}
use Rattle.record_codec.specs.Held.{position_of}
use Rattle.client_words.specs.declared.command.Command.{Command}
use Rattle.client_words.specs.declared.command.Command.TheVariants.{Install, Resume}
use Rattle.client_top.specs.declared.status.Good.TheVariants.{Committed, Waiting, RolledBack, Shown, Admitted, Simulated}
use Rattle.client_top.specs.declared.status.Status.{Status}
use Rattle.client_top.specs.declared.status.Status.TheVariants.{Done, Refused, NoUpdate, Inconsistent, RebootNeeded, DiskFault, SourceFault, NoMemory, SinkFault, Usage, PowerOff, BadStore, TooLarge, NotNow, NotInstalled}
use Rattle.client_top.specs.Finds.{Answers, Stays, Starts, ordered, opening_at}
use Rattle.client_top.specs.Boot.{Boot, nothing, stays, runs, begins, breaks_off}
use Rattle.client_top.specs.Answers.{Words, row_of, end_of}
use Rattle.client_top.specs.Promises.{Replies}
use Rattle.lab.specs.declared.runs.BootRun.{BootRun}
use Rattle.lab.specs.Path.{Step, Path, stays as no_boot, goes, asked_of}
use Rattle.lab.specs.Bound.{IsUnhindered, IsResume}

-- ---- what a resume finds

never-install : (w : Words) → w ≡ Ok Resume → w ≡ Ok Install → ⊥
never-install w h k = cc

never-starts : {s : Status} {e : Entry} {p : Position} → Answers s ≡ Starts e p → ⊥
never-starts h = cc

never-stays : {e : Entry} {p : Position} → Stays ≡ Starts e p → ⊥
never-stays h = cc

entry-is : {e f : Entry} {p q : Position} → Starts e p ≡ Starts f q → (e ≡ f) × (p ≡ q)
entry-is h = (cc, cc)

idle-rests : (x : Entry) (s : State) (p : Position) → s ≡ state.Idle → opening_at x (first_by s order.Resume p) ≡ Answers NoUpdate
idle-rests x s p idle = subst (λ (t : State). opening_at x (first_by t order.Resume p) ≡ Answers NoUpdate) (sym idle) refl

-- where the deployment ended, there is no update
idle-finds : (c : Db) → (position_of c).state ≡ state.Idle → ordered order.Resume c ≡ Answers NoUpdate
idle-finds Empty idle = refl
idle-finds (Full x) idle = idle-rests x x.position.state x.position idle

-- ---- by the answer

module _ (site : Site) (content : Content) (c : Db) (e : Entry) (p : Position) (found : ordered order.Resume c ≡ Starts e p) where
  -- an answer with which nothing was done comes by a hindrance alone
  nothing-done : (status : Status) → end_of status ≡ None → IsTrue ((row_of status).whose (Ok Resume)) → Replies (row_of status).basis (asked_of site content Resume) c status → IsUnhindered status → ⊥
  nothing-done (Done Committed) end whose reply free = absurd cc
  nothing-done (Done Waiting) end whose reply free = absurd cc
  nothing-done (Done RolledBack) end whose reply free = absurd cc
  nothing-done (Done Shown) end whose reply free = absurd cc
  nothing-done (Done Admitted) end whose reply free = absurd cc
  nothing-done (Done Simulated) end whose reply free = absurd cc
  nothing-done (Refused refusal) end whose reply free = absurd cc
  nothing-done NoUpdate end whose reply free = never-starts (sym reply ∙ found)
  nothing-done Inconsistent end whose reply free = absurd cc
  nothing-done RebootNeeded end whose reply free = absurd cc
  nothing-done DiskFault end whose reply free = free
  nothing-done SourceFault end whose reply free = absurd cc
  nothing-done NoMemory end whose reply free = free
  nothing-done SinkFault end whose reply free = absurd cc
  nothing-done (Usage fault) end whose reply free = absurd cc
  nothing-done PowerOff end whose reply free = free
  nothing-done (BadStore offset) end whose reply free = free
  nothing-done (TooLarge bytes) end whose reply free = absurd cc
  nothing-done (NotNow when) end whose reply free = never-starts (sym reply ∙ found)
  nothing-done (NotInstalled how) end whose reply free = absurd cc

-- what is cut off is hindered
cut-off : (status : Status) → end_of status ≡ Some Halted → IsUnhindered status → ⊥
cut-off (Done Committed) end free = cc
cut-off (Done Waiting) end free = cc
cut-off (Done RolledBack) end free = cc
cut-off (Done Shown) end free = cc
cut-off (Done Admitted) end free = cc
cut-off (Done Simulated) end free = cc
cut-off (Refused refusal) end free = cc
cut-off NoUpdate end free = cc
cut-off Inconsistent end free = cc
cut-off RebootNeeded end free = cc
cut-off DiskFault end free = free
cut-off SourceFault end free = cc
cut-off NoMemory end free = free
cut-off SinkFault end free = cc
cut-off (Usage fault) end free = cc
cut-off PowerOff end free = free
cut-off (BadStore offset) end free = free
cut-off (TooLarge bytes) end free = cc
cut-off (NotNow when) end free = cc
cut-off (NotInstalled how) end free = cc

-- ---- one resume

module _ (site : Site) (content : Content) where
  idle-stays : {c d : Db} {events : List Event} {end : Option End} → (position_of c).state ≡ state.Idle → Boot (asked_of site content Resume) c events end d → (position_of d).state ≡ state.Idle
  idle-stays idle nothing = idle
  idle-stays idle (stays h) = idle
  idle-stays {c} idle (runs e p found leads) = absurd (never-starts (sym (idle-finds c idle) ∙ found))
  idle-stays idle (begins plan is found fits leads) = absurd (never-install (Ok Resume) refl is)
  idle-stays idle breaks_off = idle

  busy-nearer : (x : Entry) (p : Position) {d : Db} {events : List Event} {end : Option End} (status : Status) → first_of x.position order.Resume ≡ opening.Enter p →
      end ≡ end_of status → IsTrue ((row_of status).whose (Ok Resume)) → Replies (row_of status).basis (asked_of site content Resume) (Full x) status → IsUnhindered status →
      Boot (asked_of site content Resume) (Full x) events end d → Nearer x.position (position_of d)
  busy-nearer x p status enters end whose reply free nothing = absurd (nothing-done site content (Full x) x p (ap (opening_at x) enters) status (sym end) whose reply free)
  busy-nearer x p status enters end whose reply free (stays h) = absurd (never-stays (sym h ∙ ap (opening_at x) enters))
  busy-nearer x p status enters end whose reply free (runs e q found leads) =
      let same = entry-is (sym (ap (opening_at x) enters) ∙ found) in
      subst (λ (db : Db). Nearer x.position (position_of db)) (sym leads.stands)
      (orders-go-on x.position order.Resume (enters ∙ ap opening.Enter same.1) leads.goes)
  busy-nearer x p status enters end whose reply free (begins plan is found fits leads) = absurd (never-install (Ok Resume) refl is)
  busy-nearer x p status enters end whose reply free breaks_off = absurd (cut-off status (sym end) free)

  by-entry : (c : Db) {d : Db} {events : List Event} (status : Status) → (position_of c).state ≢ state.Idle →
      IsTrue ((row_of status).whose (Ok Resume)) → Replies (row_of status).basis (asked_of site content Resume) c status → IsUnhindered status →
      Boot (asked_of site content Resume) c events (end_of status) d → Nearer (position_of c) (position_of d)
  by-entry Empty status busy whose reply free boot = absurd (busy refl)
  by-entry (Full x) status busy whose reply free boot = let r = resume-enters x.position busy in busy-nearer x r.0 status r.1 refl whose reply free boot

  -- a boot that resumed, with its command written out
  record Resumed (c : Db) (status : Status) (d : Db) : Type 0 where
    events : List Event
    boot : Boot (asked_of site content Resume) c events (end_of status) d
    whose : IsTrue ((row_of status).whose (Ok Resume))
    reply : Replies (row_of status).basis (asked_of site content Resume) c status

  resumed : {c d : Db} {run : BootRun} → Step site content c run d → run.command ≡ Resume → Resumed c run.status d
  resumed {c} {d} {run} s is = record {
    events = s.events;
    boot = subst (λ (k : Command). Boot (asked_of site content k) c s.events (end_of run.status) d) is s.boot;
    whose = subst (λ (k : Command). IsTrue ((row_of run.status).whose (Ok k))) is s.whose;
    reply = subst (λ (k : Command). Replies (row_of run.status).basis (asked_of site content k) c run.status) is s.answer;
  }

  pub resume-nearer : (c d : Db) (run : BootRun) → Step site content c run d → IsResume run → (position_of c).state ≢ state.Idle → Nearer (position_of c) (position_of d)
  resume-nearer c d run s is busy = let r = resumed s is.command in by-entry c run.status busy r.whose r.reply is.unhindered r.boot

  resume-idle : {c d : Db} {run : BootRun} → Step site content c run d → IsResume run → (position_of c).state ≡ state.Idle → (position_of d).state ≡ state.Idle
  resume-idle s is idle = let r = resumed s is.command in idle-stays idle r.boot

  -- ---- resumes in a row

  -- the deployment ended, or as many states were counted as there were resumes
  abbrev Far : Db → ℕ → Db → Type 0
  Far c times d = ((position_of d).state ≡ state.Idle) ⊎ ((times + (position_of c).n ≤ (position_of d).n) × ((position_of d).n ≤ 28))

  idle-path : {c d : Db} {row : List BootRun} → Path site content c row d → AllByRecursion (λ r. IsResume r) row → (position_of c).state ≡ state.Idle → (position_of d).state ≡ state.Idle
  idle-path no_boot all idle = idle
  idle-path (goes s path) all idle = idle-path path all.1 (resume-idle s all.0 idle)

  pub is-idle : (s : State) → (s ≡ state.Idle) ⊎ (s ≢ state.Idle)
  is-idle state.Idle = inl refl
  is-idle state.Download = inr (λ h. cc)
  is-idle state.Install = inr (λ h. cc)
  is-idle state.Reboot = inr (λ h. cc)
  is-idle state.VerifyReboot = inr (λ h. cc)
  is-idle state.Commit = inr (λ h. cc)
  is-idle state.CommitLeave = inr (λ h. cc)
  is-idle state.Rollback = inr (λ h. cc)
  is-idle state.RollbackReboot = inr (λ h. cc)
  is-idle state.VerifyRollbackReboot = inr (λ h. cc)
  is-idle state.Failure = inr (λ h. cc)
  is-idle state.Cleanup = inr (λ h. cc)
  is-idle state.Wait = inr (λ h. cc)

  more-far : (c : Db) {m d : Db} {row : List BootRun} (run : BootRun) → Path site content m row d → AllByRecursion (λ r. IsResume r) row → Nearer (position_of c) (position_of m) →
      ((position_of m).n ≤ 28 → Far m (length row) d) → Far c (length (run ∷ row)) d
  more-far c run path all (ended idle) rest = inl (idle-path path all idle)
  more-far c {m} {d} {row} run path all (counted less few) rest =
      ⊎_elim (λ idle. inl idle) (λ far. let a = far.0 in let b = far.1 in inr (let e : length (run ∷ row) + (position_of c).n ≤ (position_of d).n = omega (arith, a, less) in (e, b))) (rest few)

  far : {c d : Db} {row : List BootRun} → Path site content c row d → AllByRecursion (λ r. IsResume r) row → (position_of c).n ≤ 28 → Far c (length row) d
  far {c} no_boot all few = inr (omega arith, few)
  far {c} (goes {m} {run} s path) all few =
      ⊎_elim
      (λ idle. inl (idle-path path all.1 (resume-idle s all.0 idle)))
      (λ busy. more-far c run path all.1 (resume-nearer c m run s all.0 busy) (far path all.1))
      (is-idle (position_of c).state)

  pub resumes-end : (c d : Db) (row : List BootRun) → Path site content c row d → All (λ r. IsResume r) row → (position_of c).n ≤ 28 → 29 ≤ length row + (position_of c).n → (position_of d).state ≡ state.Idle
  resumes-end c d row path all few many =
      ⊎_elim (λ idle. idle) (λ (h : (length row + (position_of c).n ≤ (position_of d).n) × ((position_of d).n ≤ 28)). absurd (let a = h.0 in let b = h.1 in omega (arith, a, b, many))) (far path (recursion_from_All (λ r. IsResume r) row all) few)
