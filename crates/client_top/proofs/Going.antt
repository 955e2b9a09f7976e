-- Resumes come to an end, and installs go well where each child does.
use Rattle.std.proofs.Common.{◌≡◌, ◌⊎◌, ⊎_elim, inl, inr, Bool, List, [], refl, sym, ap, ◌∙◌, subst}
use Rattle.std.specs.Prelude.{◌≢◌, Option, Some, IsTrue, Ok}
use Rattle.device_model.specs.declared.calls.Event.{Event}
use Rattle.flow_table.specs.Table.{first_of, fresh_position}
use Rattle.flow_table.specs.Bound.{Nearer}
use Rattle.flow_table.specs.declared.position.State.TheVariants as at
use Rattle.flow_table.specs.declared.position.Position.{Position}
use Rattle.flow_table.specs.declared.position.Outcome.TheVariants as outcome
use Rattle.flow_table.specs.declared.table.Opening.TheVariants as opening
use Rattle.flow_table.specs.declared.table.Order.TheVariants as order
use Rattle.flow_table.proofs.Resuming.{resume-enters}
use Rattle.flow_words.specs.Pieces.{End}
use Rattle.flow_words.specs.Well.{GoesWell, IsGoodEnd}
use Rattle.flow_words.proofs.PieceLemmas.{orders-go-on}
use Rattle.flow_words.proofs.WellLemmas.{pieces-well}
use Rattle.flow_drive.specs.Calls.{callees}
use Rattle.flow_drive.specs.Drive.{Leads}
use Rattle.record_codec.specs.declared.entry.Entry.{Entry}
use Rattle.record_codec.specs.declared.entry.Db.{Db}
use Rattle.record_codec.specs.declared.entry.Db.TheVariants.{Empty, Full}
use Rattle.record_codec.specs.Held.{position_of}
use Rattle.client_words.specs.declared.command.Command.TheVariants.{Install, Resume}
use Rattle.client_top.specs.declared.status.Status.{Status}
use Rattle.client_top.specs.declared.status.Status.TheVariants.{Done, Refused, NoUpdate, Inconsistent, RebootNeeded, DiskFault, SourceFault, NoMemory, SinkFault, Usage, PowerOff, BadStore, TooLarge, NotNow, NotInstalled}
use Rattle.client_top.specs.declared.status.Good.TheVariants.{Committed, Waiting, RolledBack, Shown, Admitted, Simulated}
use Rattle.client_top.specs.Finds.{Request, Found, Stays, Starts, Unsaid, finds, found_for, ordered, opening_at}
use Rattle.client_top.specs.Boot.{Boot, nothing, stays, runs, begins, breaks_off, is_stop}
use Rattle.client_top.specs.Answers.{Words, row_of, end_of}
use Rattle.client_top.specs.Promises.{Fulfils, IsOver, IsWell}
use Rattle.client_top.proofs.Starts.{install-starts}

some-one : {a b : End} → Some a ≡ Some b → a ≡ b
some-one h = cc

starts-one : {e f : Entry} {p q : Position} → Starts e p ≡ Starts f q → (e ≡ f) × (p ≡ q)
starts-one h = (cc, cc)

-- a boot that did what was found went on from there
pub went-on : (asked : Request) (c d : Db) (e : Entry) (p : Position) (events : List Event) (end : Option End) →
    finds asked c ≡ Starts e p → IsOver end → Boot asked c events end d → (to : End) × (end ≡ Some to) × Leads asked.site e (is_stop asked.command) p events to d
went-on asked c d e p events end is over nothing = absurd over
went-on asked c d e p events end is over (stays h) = absurd (never (sym h ∙ is))
  where
    never : {e : Entry} {p : Position} → Stays ≡ Starts e p → ⊥
    never h = cc
went-on asked c d e p events end is over (runs {end = to} f q h l) =
    let one = starts-one (sym h ∙ is) in
    (to, refl, subst (λ (x : Entry). Leads asked.site x (is_stop asked.command) p events to d) one.0 (subst (λ (x : Position). Leads asked.site f (is_stop asked.command) x events to d) one.1 l))
went-on asked c d e p events end is over (begins plan i h f l) = absurd (never (sym h ∙ is))
  where
    never : {e : Entry} {p : Position} → Unsaid ≡ Starts e p → ⊥
    never h = cc
went-on asked c d e p events end is over breaks_off = absurd over

-- what a resume finds
resume-starts : (e : Entry) → e.position.state ≢ at.Idle → (p : Position) × (ordered order.Resume (Full e) ≡ Starts e p) × (first_of e.position order.Resume ≡ opening.Enter p)
resume-starts e busy = let r = resume-enters e.position busy in (r.0, ap (opening_at e) r.1, r.1)

pub resumed : (w : Words) (asked : Request) (c d : Db) (events : List Event) (status : Status) → w ≡ Ok Resume → asked.command ≡ w → (position_of c).state ≢ at.Idle →
    (status ≡ NoMemory) ⊎ Fulfils (finds asked c) status → Boot asked c events (end_of status) d → (status ≡ NoMemory) ⊎ Nearer (position_of c) (position_of d)
resumed w asked Empty d events status resume is busy fulfils boot = absurd (busy refl)
resumed w asked (Full e) d events status resume is busy fulfils boot =
    let s = resume-starts e busy in
    let found : finds asked (Full e) ≡ Starts e s.0 = ap (λ (x : Words). found_for x asked.site asked.content (Full e)) (is ∙ resume) ∙ s.1 in
    ⊎_elim (λ none. inl none)
    (λ f.
    let l = (went-on asked (Full e) d e s.0 events (end_of status) found (subst (λ (x : Found). Fulfils x status) found f) boot).2 in
    inr (subst (λ (x : Db). Nearer e.position (position_of x)) (sym l.stands) (orders-go-on e.position order.Resume s.2 l.goes)))
    fulfils

-- ---- an install

well-by : (w : Words) (status : Status) (to : End) → IsTrue ((row_of status).whose w) → end_of status ≡ Some to → IsGoodEnd to → IsOver (end_of status) → IsWell status
well-by w (Done Committed) to whose is good over = tt
well-by w (Done Waiting) to whose is good over = tt
well-by w RebootNeeded to whose is good over = tt
well-by w (Done RolledBack) to whose is good over = subst IsGoodEnd (sym (some-one is)) good
well-by w Inconsistent to whose is good over = subst IsGoodEnd (sym (some-one is)) good
well-by w (Done Shown) to whose is good over = absurd over
well-by w (Done Admitted) to whose is good over = absurd over
well-by w (Done Simulated) to whose is good over = absurd over
well-by w (Refused r) to whose is good over = absurd over
well-by w NoUpdate to whose is good over = absurd over
well-by w DiskFault to whose is good over = absurd over
well-by w SourceFault to whose is good over = absurd over
well-by w NoMemory to whose is good over = absurd over
well-by w SinkFault to whose is good over = absurd over
well-by w (Usage u) to whose is good over = absurd over
well-by w PowerOff to whose is good over = absurd over
well-by w (BadStore o) to whose is good over = absurd over
well-by w (TooLarge b) to whose is good over = absurd over
well-by w (NotNow n) to whose is good over = absurd over
well-by w (NotInstalled outcome.Kept) to whose is good over = subst IsGoodEnd (sym (some-one is)) good
well-by w (NotInstalled outcome.RolledBack) to whose is good over = subst IsGoodEnd (sym (some-one is)) good
well-by w (NotInstalled outcome.Undecided) to whose is good over = subst IsGoodEnd (sym (some-one is)) good
well-by w (NotInstalled outcome.Inconsistent) to whose is good over = subst IsGoodEnd (sym (some-one is)) good
well-by w (NotInstalled outcome.Committed) to whose is good over = absurd cc

fresh-started : (w : Words) (asked : Request) (c : Db) (e : Entry) (p : Position) → w ≡ Ok Install → asked.command ≡ w → finds asked c ≡ Starts e p → (p ≡ fresh_position) × (e.kinds ≢ [])
fresh-started w asked c e p install is found =
    let s = install-starts (position_of c).state asked.site asked.content c e p (sym (ap (λ (x : Words). found_for x asked.site asked.content c) (is ∙ install)) ∙ found) in
    (s.2, subst (λ (x : Entry). x.kinds ≢ []) (sym s.1) s.3)

pub well : (can : Bool) (asked : Request) (c d : Db) (e : Entry) (p : Position) (events : List Event) (status : Status) → IsTrue ((row_of status).whose asked.command) → asked.command ≡ Ok Install → finds asked c ≡ Starts e p →
    (status ≡ NoMemory) ⊎ Fulfils (finds asked c) status → Boot asked c events (end_of status) d → GoesWell can events → (status ≡ NoMemory) ⊎ IsWell status
well can asked c d e p events status whose install found fulfils boot goes =
    ⊎_elim (λ none. inl none)
    (λ f.
    let over : IsOver (end_of status) = subst (λ (x : Found). Fulfils x status) found f in
    let went = went-on asked c d e p events (end_of status) found over boot in
    let fresh = fresh-started asked.command asked c e p install refl found in
    let led : Leads asked.site e (is_stop asked.command) fresh_position events went.0 d = subst (λ (x : Position). Leads asked.site e (is_stop asked.command) x events went.0 d) fresh.0 went.2 in
    inr (well-by asked.command status went.0 whose went.1 (pieces-well can (callees asked.site e) fresh.1 led.goes refl goes) over))
    fulfils
