-- A boot of a round does one thing: what it finds and what the script gives decide its events, its end, and what then stands.
use Rattle.std.proofs.Common.{◌≡◌, ℕ, Bool, true, false, List, [], ◌∷◌, ◌++◌, refl, sym, ap, ◌∙◌, subst, append-nil}
use Rattle.std.specs.Prelude.{Option, Some, Result, Ok, Err}
use Rattle.device_model.specs.declared.calls.Event.{Event}
use Rattle.device_model.specs.declared.calls.Event.TheVariants.{Loss}
use Rattle.io_model.specs.Source.{Content, Tree}
use Rattle.io_model.specs.Source.Content.{Told}
use Rattle.script_names.specs.declared.site.Site.{Site}
use Rattle.flow_table.specs.declared.position.State.{State}
use Rattle.flow_table.specs.declared.position.State.TheVariants as state
use Rattle.flow_table.specs.declared.position.Outcome.{Outcome}
use Rattle.flow_table.specs.declared.position.Position.{Position}
use Rattle.flow_table.specs.declared.table.Opening.{Opening}
use Rattle.flow_table.specs.declared.table.Opening.TheVariants as opening
use Rattle.flow_table.specs.declared.table.Order.TheVariants as order
use Rattle.flow_table.specs.Table.{first_of}
use Rattle.flow_words.specs.Decided.{IsThrough}
use Rattle.flow_words.specs.Pieces.{End, Ended, Waits, RebootNeeded, Halted, Pieces}
use Rattle.flow_words.specs.Words.{Callees, word_at}
use Rattle.flow_words.proofs.PieceLaws.{pieces-one}
use Rattle.flow_drive.specs.Calls.{callees}
use Rattle.flow_drive.specs.Drive.{Leads, at}
use Rattle.record_codec.specs.declared.entry.Entry.{Entry}
use Rattle.record_codec.specs.declared.entry.Db.{Db}
use Rattle.record_codec.specs.declared.entry.Db.TheVariants.{Empty, Full}
use Rattle.record_codec.specs.Held.{position_of}
use Rattle.device_mem.specs.declared.script.Script.{Script}
use Rattle.device_mem.specs.Fits.{Fits}
use Rattle.client_words.specs.declared.command.Command.{Command}
use Rattle.client_words.specs.declared.command.Command.TheVariants.{Install, Resume}
use Rattle.client_top.specs.declared.status.Good.TheVariants as good
use Rattle.client_top.specs.declared.status.Status.{Status}
use Rattle.client_top.specs.declared.status.Status.TheVariants as status
use Rattle.client_top.specs.Finds.{Request, Found, Stays, Starts, Unsaid, starting, installed, beginning, ordered, opening_at, finds}
use Rattle.client_top.specs.Boot.{Boot, nothing, stays, runs, begins, breaks_off, is_stop}
use Rattle.client_top.specs.Answers.{end_of}
use Rattle.lab.specs.declared.runs.BootRun.{BootRun}
use Rattle.lab.specs.Path.{Step, is_off, asked_of}
use Rattle.lab.specs.Simulation.{GoesOn, EndsAs}
use Rattle.lab.proofs.Busy.{starts_last}
use Rattle.lab.proofs.Halted.{halted-one, through-quiet}
use Rattle.lab.proofs.SameBoot.{tail_of, Way, same-events}
use Rattle.lab.proofs.Turning.{behind-start, some-one}

-- ---- what an answer tells

-- the answer tells an end, and whether the boot was cut off
pub record Tells (s : Status) : Type 0 where
  pub end : End
  pub is : end_of s ≡ Some end
  pub way : Way (is_off s) end

pub tells-on : (s : Status) → GoesOn s → Tells s
tells-on (status.Done good.Waiting) on = record { end = Waits; is = refl; way = tt }
tells-on status.RebootNeeded on = record { end = RebootNeeded; is = refl; way = tt }
tells-on status.PowerOff on = record { end = Halted; is = refl; way = refl }
tells-on (status.Done good.Committed) on = absurd on
tells-on (status.Done good.RolledBack) on = absurd on
tells-on (status.Done good.Shown) on = absurd on
tells-on (status.Done good.Admitted) on = absurd on
tells-on (status.Done good.Simulated) on = absurd on
tells-on (status.Refused r) on = absurd on
tells-on status.NoUpdate on = absurd on
tells-on status.Inconsistent on = absurd on
tells-on status.DiskFault on = absurd on
tells-on status.SourceFault on = absurd on
tells-on status.NoMemory on = absurd on
tells-on status.SinkFault on = absurd on
tells-on (status.Usage u) on = absurd on
tells-on (status.BadStore o) on = absurd on
tells-on (status.TooLarge b) on = absurd on
tells-on (status.NotNow w) on = absurd on
tells-on (status.NotInstalled o) on = absurd on

pub tells-end : (s : Status) (o : Outcome) → EndsAs o s → Tells s
tells-end (status.Done g) o is = record { end = Ended o; is = is; way = tt }
tells-end (status.Refused r) o is = absurd cc
tells-end status.NoUpdate o is = absurd cc
tells-end status.Inconsistent o is = record { end = Ended o; is = is; way = tt }
tells-end status.RebootNeeded o is = absurd cc
tells-end status.DiskFault o is = absurd cc
tells-end status.SourceFault o is = absurd cc
tells-end status.NoMemory o is = absurd cc
tells-end status.SinkFault o is = absurd cc
tells-end (status.Usage u) o is = absurd cc
tells-end status.PowerOff o is = absurd cc
tells-end (status.BadStore x) o is = absurd cc
tells-end (status.TooLarge b) o is = absurd cc
tells-end (status.NotNow w) o is = absurd cc
tells-end (status.NotInstalled x) o is = record { end = Ended o; is = is; way = tt }

-- ---- what is found in a told tree can be said

start-said : (r : Result Entry Status) → starting r ≡ Unsaid → ⊥
start-said (Ok e) h = cc
start-said (Err s) h = cc

begin-said : (s : State) (site : Site) (tree : Tree) (c : Db) → beginning s site (Told tree) c ≡ Unsaid → ⊥
begin-said state.Idle site tree c h = start-said (installed site tree c) h
begin-said state.Download site tree c h = cc
begin-said state.Install site tree c h = cc
begin-said state.Reboot site tree c h = cc
begin-said state.VerifyReboot site tree c h = cc
begin-said state.Commit site tree c h = cc
begin-said state.CommitLeave site tree c h = cc
begin-said state.Rollback site tree c h = cc
begin-said state.RollbackReboot site tree c h = cc
begin-said state.VerifyRollbackReboot site tree c h = cc
begin-said state.Failure site tree c h = cc
begin-said state.Cleanup site tree c h = cc
begin-said state.Wait site tree c h = cc

-- what a command finds can be said, over any database
abbrev pub IsSaid : Site → Content → Command → Type 0
IsSaid site content command = (c : Db) → finds (asked_of site content command) c ≡ Unsaid → ⊥

pub install-said : (site : Site) (tree : Tree) → IsSaid site (Told tree) Install
install-said site tree c h = begin-said (position_of c).state site tree c h

opening-said : (e : Entry) (o : Opening) → opening_at e o ≡ Unsaid → ⊥
opening-said e (opening.Enter p) h = cc
opening-said e opening.Stay h = cc
opening-said e opening.NoUpdate h = cc
opening-said e (opening.MustResume s) h = cc
opening-said e (opening.NoRollback s) h = cc

order-said : (c : Db) → ordered order.Resume c ≡ Unsaid → ⊥
order-said Empty h = cc
order-said (Full e) h = opening-said e (first_of e.position order.Resume) h

pub resume-said : (site : Site) (tree : Tree) → IsSaid site (Told tree) Resume
resume-said site tree c h = order-said c h

-- ---- one boot

-- from the database c a deployment waits, or it begins or goes on, with these events to this end, and then d stands
pub data Going (asked : Request) (c : Db) (events : List Event) (end : End) (d : Db) : Type 0 where
  rests : finds asked c ≡ Stays → events ≡ [] → end ≡ Waits → d ≡ c → Going asked c events end d
  leads : (e : Entry) (p : Position) → finds asked c ≡ Starts e p → Leads asked.site e (is_stop asked.command) p events end d → Going asked c events end d

booted : {asked : Request} {c d : Db} {events : List Event} {end : Option End} (x : End) → (finds asked c ≡ Unsaid → ⊥) → (events ≡ [] → x ≡ Halted → ⊥) → Boot asked c events end d → end ≡ Some x → Going asked c events x d
booted x said lost nothing is = absurd cc
booted x said lost (stays h) is = rests h refl (sym (some-one is)) refl
booted {asked} {d} {events} x said lost (runs e p found l) is = leads e p found (subst (λ (y : End). Leads asked.site e (is_stop asked.command) p events y d) (some-one is) l)
booted x said lost (begins plan i found fits l) is = absurd (said found)
booted x said lost breaks_off is = absurd (lost refl (sym (some-one is)))

-- ---- no boot ends with a start

lost-quiet : (w : List Event) → starts_last (w ++ Loss ∷ []) ≡ false
lost-quiet [] = refl
lost-quiet (e ∷ []) = refl
lost-quiet (e ∷ f ∷ w) = lost-quiet (f ∷ w)

tail-quiet : (w : List Event) (off : Bool) → (off ≡ false → starts_last w ≡ false) → starts_last (w ++ tail_of off) ≡ false
tail-quiet w true quiet = lost-quiet w
tail-quiet w false quiet = ap starts_last (append-nil w) ∙ quiet refl

way-through : {off : Bool} (x : End) → Way off x → off ≡ false → IsThrough x
way-through x way is = subst (λ (b : Bool). Way b x) is way

boot-quiet : {asked : Request} {c d : Db} {events : List Event} {end : Option End} (x : End) (off : Bool) → Way off x → Boot asked c events end d → end ≡ Some x → starts_last (events ++ tail_of off) ≡ false
boot-quiet x off way nothing is = absurd cc
boot-quiet x off way (stays h) is = tail-quiet [] off (λ no. refl)
boot-quiet {asked} {events} x off way (runs e p found l) is = tail-quiet events off (λ no. through-quiet (callees asked.site e) l.goes (subst IsThrough (sym (some-one is)) (way-through x way no)))
boot-quiet {asked} {c} {events} x off way (begins {end = y} plan i found fits l) is = tail-quiet events off (λ no. through-quiet _ l.goes (subst IsThrough (sym (some-one is)) (way-through x way no)))
boot-quiet x off way breaks_off is = tail-quiet [] off (λ no. refl)

-- ---- two boots

both-found : {a b : Found} {c : Found} → c ≡ a → c ≡ b → a ≡ b
both-found h k = sym h ∙ k

never-stays : {e : Entry} {p : Position} → Stays ≡ Starts e p → ⊥
never-stays h = cc

same-entry : {e f : Entry} {p q : Position} → Starts e p ≡ Starts f q → (e ≡ f) × (p ≡ q)
same-entry h = (cc, cc)

never-cut : {x : End} (off : Bool) → Way off x → x ≡ Waits → off ≡ false
never-cut true way is = let both : Waits ≡ Halted = sym is ∙ way in absurd cc
never-cut false way is = refl

-- both boots did the same
record Alike (w v : List Event) (off off' : Bool) (x y : End) (d d' : Db) : Type 0 where
  events : w ≡ v
  cut : off ≡ off'
  end : x ≡ y
  db : d ≡ d'

module _ (who : Callees) {stop : Bool} {p q r : Position} {x y : End} (w v : List Event) (g : Pieces (word_at who) stop p w x q) (g' : Pieces (word_at who) stop p v y r) (same : w ≡ v) where
  last-one : (off : Bool) → Way off x → Way off y → (off ≡ true → starts_last w ≡ true) → (x ≡ y) × (q ≡ r)
  last-one false a b last = pieces-one g (subst (λ (l : List Event). Pieces (word_at who) stop p l y r) (sym same) g') a b
  last-one true a b last = (a ∙ sym b, halted-one who g (subst (λ (l : List Event). Pieces (word_at who) stop p l y r) (sym same) g') (last refl))

module _ (script : Script) (t s : ℕ) (none : script.losses ≡ []) where
  -- a boot that is cut off was cut off behind a start
  cut-start : (w : List Event) (t1 s1 : ℕ) (off : Bool) → Fits script t s (w ++ tail_of off) t1 s1 → off ≡ true → starts_last w ≡ true
  cut-start w t1 s1 off h is = behind-start script t s w t1 s1 none (subst (λ (b : Bool). Fits script t s (w ++ tail_of b) t1 s1) is h)

  -- nothing is lost where nothing was started
  no-loss : {x : End} (w : List Event) (t1 s1 : ℕ) (off : Bool) → Way off x → Fits script t s (w ++ tail_of off) t1 s1 → w ≡ [] → x ≡ Halted → ⊥
  no-loss w t1 s1 true way h empty is = let last = cut-start w t1 s1 true h refl in let no : false ≡ true = ap starts_last (sym empty) ∙ last in absurd cc
  no-loss w t1 s1 false way h empty is = subst IsThrough is way

  module _ (site : Site) (e : Entry) (stop : Bool) (p : Position) {d d' : Db} {x y : End} (w v : List Event) (off off' : Bool) (t1 s1 t2 s2 : ℕ) (a : Way off x) (b : Way off' y)
      (h : Fits script t s (w ++ tail_of off) t1 s1) (k : Fits script t s (v ++ tail_of off') t2 s2) where
    leads-so : Leads site e stop p w x d → Leads site e stop p v y d' → Alike w v off off' x y d d'
    leads-so l l' =
        let one = same-events (callees site e) script t s none w v l.goes l'.goes t1 s1 t2 s2 off off' a b h k in
        let last = last-one (callees site e) w v l.goes l'.goes one.0 off a (subst (λ (o : Bool). Way o y) (sym one.1) b) (cut-start w t1 s1 off h) in
        record { events = one.0; cut = one.1; end = last.0; db = l.stands ∙ ap (at e) last.1 ∙ sym l'.stands }

  module _ (asked : Request) (c : Db) {d d' : Db} {x y : End} (w v : List Event) (off off' : Bool) (t1 s1 t2 s2 : ℕ) (a : Way off x) (b : Way off' y)
      (h : Fits script t s (w ++ tail_of off) t1 s1) (k : Fits script t s (v ++ tail_of off') t2 s2) where
    goes-so : Going asked c w x d → Going asked c v y d' → Alike w v off off' x y d d'
    goes-so (rests f none is same) (rests f' none' is' same') =
        record { events = none ∙ sym none'; cut = never-cut off a is ∙ sym (never-cut off' b is'); end = is ∙ sym is'; db = same ∙ sym same' }
    goes-so (rests f none is same) (leads e p found l) = absurd (never-stays (both-found f found))
    goes-so (leads e p found l) (rests f none is same) = absurd (never-stays (both-found f found))
    goes-so (leads e p found l) (leads e' p' found' l') =
        let one = same-entry (both-found found' found) in
        leads-so asked.site e (is_stop asked.command) p w v off off' t1 s1 t2 s2 a b h k l
        (subst (λ (f : Entry). Leads asked.site f (is_stop asked.command) p v y d') one.0 (subst (λ (q : Position). Leads asked.site e' (is_stop asked.command) q v y d') one.1 l'))

-- ---- as steps

-- the boot ends with no start
pub step-quiet : {site : Site} {content : Content} {c d : Db} (run : BootRun) → Step site content c run d → Tells run.status → starts_last run.events.events ≡ false
step-quiet run step tells = ap starts_last step.journal ∙ boot-quiet tells.end (is_off run.status) tells.way step.boot tells.is

-- both boots wrote the same journal, told the same end, and left the same database
pub record Same (run other : BootRun) (d d' : Db) : Type 0 where
  pub events : run.events.events ≡ other.events.events
  pub end : end_of run.status ≡ end_of other.status
  pub db : d ≡ d'

module _ (script : Script) (t s : ℕ) (none : script.losses ≡ []) {site : Site} {content : Content} (command : Command) (said : IsSaid site content command) where
  fitting : {c d : Db} (run : BootRun) (step : Step site content c run d) (t1 s1 : ℕ) → Fits script t s run.events.events t1 s1 → Fits script t s (step.events ++ tail_of (is_off run.status)) t1 s1
  fitting run step t1 s1 h = subst (λ (l : List Event). Fits script t s l t1 s1) step.journal h

  pub going : {c d : Db} (run : BootRun) (step : Step site content c run d) (tells : Tells run.status) (t1 s1 : ℕ) → Fits script t s run.events.events t1 s1 → run.command ≡ command → Going (asked_of site content command) c step.events tells.end d
  going {c} {d} run step tells t1 s1 h is =
      booted tells.end (said c) (no-loss script t s none step.events t1 s1 (is_off run.status) tells.way (fitting run step t1 s1 h))
      (subst (λ (k : Command). Boot (asked_of site content k) c step.events (end_of run.status) d) is step.boot) tells.is

  pub boots-alike : {c d d' : Db} (run other : BootRun) → Step site content c run d → Step site content c other d' → Tells run.status → Tells other.status → run.command ≡ command → other.command ≡ command
      → (t1 s1 t2 s2 : ℕ) → Fits script t s run.events.events t1 s1 → Fits script t s other.events.events t2 s2 → Same run other d d'
  boots-alike {c} run other step step' tells tells' is is' t1 s1 t2 s2 h k =
      let one = goes-so script t s none (asked_of site content command) c step.events step'.events (is_off run.status) (is_off other.status) t1 s1 t2 s2 tells.way tells'.way
      (fitting run step t1 s1 h) (fitting other step' t2 s2 k) (going run step tells t1 s1 h is) (going other step' tells' t2 s2 k is') in
      record {
        events = step.journal ∙ ap (λ (l : List Event). l ++ tail_of (is_off run.status)) one.events ∙ ap (λ (o : Bool). step'.events ++ tail_of o) one.cut ∙ sym step'.journal;
        end = tells.is ∙ ap (λ (x : End). Some x) one.end ∙ sym tells'.is;
        db = one.db;
      }
