-- What is noted of a boot is one that the flow has.
use Rattle.std.proofs.Common.{◌≡◌, ◌⊎◌, inl, inr, ℕ, ◌+◌, Bool, false, List, [], refl, sym, ap, ◌∙◌, subst, arith}
use Rattle.std.specs.Prelude.{◌==◌, if◌then◌else◌, Option, Some, None, Result, Ok}
use Rattle.std.proofs.lemmas.Bool.Decides.{eqb_tells}
use Rattle.device_model.specs.declared.calls.Event.{Event}
use Rattle.io_model.specs.Source.{Content}
use Rattle.script_names.specs.declared.site.Site.{Site}
use Rattle.admit.specs.declared.admitted.Admitted.{Admitted}
use Rattle.flow_table.specs.declared.position.State.{State}
use Rattle.flow_table.specs.declared.position.State.TheVariants as at_state
use Rattle.flow_table.specs.declared.position.Position.{Position}
use Rattle.flow_table.specs.declared.table.Opening.{Opening}
use Rattle.flow_table.specs.declared.table.Opening.TheVariants as opening
use Rattle.flow_table.specs.declared.table.Order.{Order}
use Rattle.flow_table.specs.declared.table.Order.TheVariants as order
use Rattle.flow_table.specs.Table.{first_of, fresh_position}
use Rattle.flow_words.specs.Pieces.{End, Pieces}
use Rattle.flow_words.specs.Words.{Callees, word_at}
use Rattle.flow_drive.specs.Calls.{callees}
use Rattle.flow_drive.specs.Drive.{Leads, at}
use Rattle.record_codec.specs.declared.entry.Entry.{Entry}
use Rattle.record_codec.specs.declared.entry.Db.{Db}
use Rattle.record_codec.specs.declared.entry.Db.TheVariants.{Empty, Full}
use Rattle.record_codec.specs.Held.{position_of}
use Rattle.client_words.specs.declared.command.Command.{Command}
use Rattle.client_words.specs.declared.command.Command.TheVariants as command
use Rattle.client_words.specs.declared.command.UsageFault.{UsageFault}
use Rattle.trace_check.specs.declared.note.Deed.{Deed}
use Rattle.trace_check.specs.declared.note.Deed.TheVariants as deed
use Rattle.trace_check.specs.declared.note.NoteEnd.TheVariants as noted_end
use Rattle.trace_check.specs.declared.note.NoteHead.{NoteHead}
use Rattle.trace_check.specs.Follows.{Did, nothing as did_nothing, stays as did_stay, runs as did_run, breaks_off as did_break_off, opens, opening_of, installing, noted, is_stop as is_noted_stop, callees as noted_callees}
use Rattle.client_top.specs.Finds.{Request, Found, Answers, Stays, Starts, Unsaid, finds, found_for, beginning, opening_at, ordered, begun, id_of}
use Rattle.client_top.specs.Boot.{Boot, nothing, stays, runs, begins, breaks_off, is_stop}
use Rattle.client_top.specs.Notes.{deed_of, end_noted}
use Rattle.client_top.specs.NoteHeads.{callees_in, HasLists, deployed, untold, not_begun, IsHead}
use Rattle.client_top.specs.Steps.{command_of}
use Rattle.client_top.proofs.Starts.{install-starts, check-never}
use Rattle.client_top.proofs.Waits.{waiting}

-- ---- which deed

deed_by : Order → Deed
deed_by order.Resume = deed.Resume
deed_by order.ResumeStop = deed.ResumeStop
deed_by order.Commit = deed.Commit
deed_by order.Rollback = deed.Rollback

-- an install, or an order
data Deeds (w : Command) (x : Deed) : Type 0 where
  installs : w ≡ command.Install → x ≡ deed.Install → Deeds w x
  orders : (o : Order) → w ≡ command_of o → x ≡ deed_by o → Deeds w x

same-deed : {x y : Deed} → Some x ≡ Some y → y ≡ x
same-deed h = cc

deeds : (w : Command) (x : Deed) → deed_of w ≡ Some x → Deeds w x
unfolding deed_by
deeds command.Install x h = installs refl (same-deed h)
deeds command.Resume x h = orders order.Resume refl (same-deed h)
deeds command.ResumeStop x h = orders order.ResumeStop refl (same-deed h)
deeds command.Commit x h = orders order.Commit refl (same-deed h)
deeds command.Rollback x h = orders order.Rollback refl (same-deed h)
deeds w x h = absurd cc

-- ---- an order

order-opens : (o : Order) (p : Position) → opens (deed_by o) p ≡ first_of p o
unfolding deed_by
order-opens order.Resume p = refl
order-opens order.ResumeStop p = refl
order-opens order.Commit p = refl
order-opens order.Rollback p = refl

order-finds : (o : Order) (site : Site) (content : Content) (c : Db) → found_for (Ok (command_of o)) site content c ≡ ordered o c
order-finds order.Resume site content c = refl
order-finds order.ResumeStop site content c = refl
order-finds order.Commit site content c = refl
order-finds order.Rollback site content c = refl

order-stops : (o : Order) → is_noted_stop (deed_by o) ≡ is_stop (Ok (command_of o))
unfolding deed_by
order-stops order.Resume = refl
order-stops order.ResumeStop = refl
order-stops order.Commit = refl
order-stops order.Rollback = refl

order-installs : (o : Order) → deed_by o ≡ deed.Install → ⊥
unfolding deed_by
order-installs order.Resume h = cc
order-installs order.ResumeStop h = cc
order-installs order.Commit h = cc
order-installs order.Rollback h = cc

never-install : (o : Order) → command_of o ≡ command.Install → ⊥
never-install order.Resume h = cc
never-install order.ResumeStop h = cc
never-install order.Commit h = cc
never-install order.Rollback h = cc

entered : (x e : Entry) (p : Position) (o : Opening) → opening_at x o ≡ Starts e p → (x ≡ e) × (o ≡ opening.Enter p)
entered x e p (opening.Enter q) h = (cc, cc)
entered x e p opening.Stay h = absurd cc
entered x e p opening.NoUpdate h = absurd cc
entered x e p (opening.MustResume s) h = absurd cc
entered x e p (opening.NoRollback s) h = absurd cc

-- the deployment of the database goes on
order-starts : (o : Order) (c : Db) (e : Entry) (p : Position) → ordered o c ≡ Starts e p → (c ≡ Full e) × (first_of (position_of c) o ≡ opening.Enter p)
order-starts o Empty e p h = absurd cc
order-starts o (Full x) e p h = let w = entered x e p (first_of x.position o) h in (ap Full w.0, w.1)

stayed : (x : Entry) (o : Opening) → opening_at x o ≡ Stays → o ≡ opening.Stay
stayed x (opening.Enter q) h = absurd cc
stayed x opening.Stay h = refl
stayed x opening.NoUpdate h = absurd cc
stayed x (opening.MustResume s) h = absurd cc
stayed x (opening.NoRollback s) h = absurd cc

order-stays : (o : Order) (c : Db) → ordered o c ≡ Stays → first_of (position_of c) o ≡ opening.Stay
order-stays o Empty h = absurd cc
order-stays o (Full x) h = stayed x (first_of x.position o) h

-- ---- an install

-- it begins only where nothing is in progress
install-opens : (s : State) (site : Site) (content : Content) (c : Db) (f : Found) (p : Position) → beginning s site content c ≡ f → ((status : _) → f ≡ Answers status → ⊥) → installing s p ≡ opening.Enter fresh_position
install-opens at_state.Idle site content c f p h other = refl
install-opens s site content c f p h other = absurd (other _ (sym h))

install-moves : (site : Site) (content : Content) (c : Db) → found_for (Ok command.Install) site content c ≡ Stays → ⊥
install-moves site content c h =
    let w = waiting (Ok command.Install) site content c h in
    let waits : (position_of c).state ≡ at_state.Wait = ap (λ (x : Db). (position_of x).state) w.is ∙ w.waits in
    let busy : beginning at_state.Wait site content c ≡ Stays = subst (λ (s : State). beginning s site content c ≡ Stays) waits h in
    absurd cc

-- ---- what a deployment that begins is

other-number : (id : ℕ) → (if id == 65535 then 1 else id + 1) ≡ id → ⊥
other-number id h = elim (eqb_tells id 65535) [
  | inl k ↦ let one : 1 ≡ id = subst (λ (b : Bool). (if b then 1 else id + 1) ≡ id) k.0 h in let e = k.1 in absurd (omega (arith, one, e))
  | inr k ↦ let more : id + 1 ≡ id = subst (λ (b : Bool). (if b then 1 else id + 1) ≡ id) k.0 h in absurd (omega (arith, more))
]

same-number : {i j : ℕ} → Some i ≡ Some j → i ≡ j
same-number h = cc

-- it isn't the one that stood before
begun-other : (c : Db) (plan : Admitted) (p : Position) → at (begun c plan) p ≡ c → ⊥
begun-other Empty plan p h = absurd cc
begun-other (Full x) plan p h = other-number x.id (same-number (ap id_of h))

-- ---- a boot

module _ (asked : Request) (w : Command) (c : Db) (x : Deed) (is : asked.command ≡ Ok w) where
  found-by : (f : Found) (v : Command) → w ≡ v → finds asked c ≡ f → found_for (Ok v) asked.site asked.content c ≡ f
  found-by f v same h = subst (λ (r : Result Command UsageFault). found_for r asked.site asked.content c ≡ f) (is ∙ ap (λ (u : Command). Ok u) same) h

  ordered-by : (f : Found) (o : Order) → w ≡ command_of o → finds asked c ≡ f → ordered o c ≡ f
  ordered-by f o same h = sym (order-finds o asked.site asked.content c) ∙ found-by f (command_of o) same h

  -- where it stays as it is
  opens-stay : Deeds w x → finds asked c ≡ Stays → opens x (position_of c) ≡ opening.Stay
  opens-stay (installs u v) h = absurd (install-moves asked.site asked.content c (found-by Stays command.Install u h))
  opens-stay (orders o u v) h = ap (λ (y : Deed). opens y (position_of c)) v ∙ order-opens o (position_of c) ∙ order-stays o c (ordered-by Stays o u h)

  -- a deployment that is entered: an install's begins, an order's is that of the database
  record Entering (e : Entry) (p : Position) (stop : Bool) : Type 0 where
    opens_so : opens x (position_of c) ≡ opening.Enter p
    stops : is_noted_stop x ≡ stop
    whose : ((plan : Admitted) × (x ≡ deed.Install) × (e ≡ begun c plan)) ⊎ ((x ≡ deed.Install → ⊥) × (c ≡ Full e))

  install-enters : (e : Entry) (p : Position) (f : Found) (plan : Admitted) → w ≡ command.Install → x ≡ deed.Install → finds asked c ≡ f → ((status : _) → f ≡ Answers status → ⊥) → p ≡ fresh_position → e ≡ begun c plan → Entering e p false
  install-enters e p f plan u v h other fresh begins_so = record {
    opens_so = ap (λ (y : Deed). opens y (position_of c)) v ∙ install-opens (position_of c).state asked.site asked.content c f (position_of c) (found-by f command.Install u h) other ∙ ap opening.Enter (sym fresh);
    stops = ap is_noted_stop v;
    whose = inl (plan, v, begins_so);
  }

  starts-entering : Deeds w x → (e : Entry) (p : Position) → finds asked c ≡ Starts e p → Entering e p (is_stop asked.command)
  starts-entering (installs u v) e p h =
      let i = install-starts (position_of c).state asked.site asked.content c e p (found-by (Starts e p) command.Install u h) in
      subst (λ (b : Bool). Entering e p b) (ap is_stop (sym (is ∙ ap (λ (k : Command). Ok k) u))) (install-enters e p (Starts e p) i.0 u v h (λ status k. absurd cc) i.2 i.1)
  starts-entering (orders o u v) e p h =
      let s = order-starts o c e p (ordered-by (Starts e p) o u h) in
      record {
        opens_so = ap (λ (y : Deed). opens y (position_of c)) v ∙ order-opens o (position_of c) ∙ s.1;
        stops = ap is_noted_stop v ∙ order-stops o ∙ ap is_stop (sym (is ∙ ap (λ (k : Command). Ok k) u));
        whose = inr (λ k. order-installs o (sym v ∙ k), s.0);
      }

  same-word : {v : Command} → asked.command ≡ Ok v → w ≡ v
  same-word {v = v} h = let both : Ok w ≡ Ok v = sym is ∙ h in cc

  begins-entering : Deeds w x → (plan : Admitted) → asked.command ≡ Ok command.Install → finds asked c ≡ Unsaid → Entering (begun c plan) fresh_position false
  begins-entering (installs u v) plan i h = install-enters (begun c plan) fresh_position Unsaid plan u v h (λ status k. absurd cc) refl refl
  begins-entering (orders o u v) plan i h = absurd (never-install o (sym u ∙ same-word i))

  -- the payload types and scripts stay but for an install
  entering-keeps : {e : Entry} {p : Position} {stop : Bool} {events : List Event} {end : End} {d : Db} → Entering e p stop → Leads asked.site e stop p events end d → (x ≡ deed.Install) ⊎ (callees_in asked.site d ≡ callees_in asked.site c)
  entering-keeps t l = elim t.whose [
    | inl k ↦ inl k.1
    | inr k ↦ inr (ap (callees_in asked.site) l.stands ∙ ap (callees_in asked.site) (sym k.1))
  ]

  pub lists-kept : {events : List Event} {end : Option End} {d : Db} → deed_of w ≡ Some x → Boot asked c events end d → (x ≡ deed.Install) ⊎ (callees_in asked.site d ≡ callees_in asked.site c)
  lists-kept of nothing = inr refl
  lists-kept of (stays h) = inr refl
  lists-kept of (runs e p h l) = entering-keeps (starts-entering (deeds w x of) e p h) l
  lists-kept of (begins plan i h f l) = entering-keeps (begins-entering (deeds w x of) plan i h) l
  lists-kept of breaks_off = inr refl

-- ---- its note

some-none : {end : End} → Some end ≡ None → ⊥
some-none h = cc

module _ (asked : Request) (w : Command) (c : Db) (head : NoteHead) (is : asked.command ≡ Ok w) (from : head.from ≡ position_of c) where
  opening-is : {o : Opening} → opens head.deed (position_of c) ≡ o → opening_of head ≡ o
  opening-is h = ap (opens head.deed) from ∙ h

  module _ {e : Entry} {p : Position} {stop : Bool} {events : List Event} {end : End} {d : Db} (t : Entering asked w c head.deed is e p stop) (l : Leads asked.site e stop p events end d) where
    led : noted_callees head ≡ callees_in asked.site d → Did head events (noted end) (position_of d)
    led same =
        let who : callees asked.site e ≡ noted_callees head = sym (same ∙ ap (callees_in asked.site) l.stands) in
        let goes = subst (λ (b : Bool). Pieces (word_at (noted_callees head)) b p events end l.last) (sym t.stops) (subst (λ (k : Callees). Pieces (word_at k) stop p events end l.last) who l.goes) in
        subst (λ (q : Position). Did head events (noted end) q) (sym (ap position_of l.stands)) (did_run p (opening-is t.opens_so) goes)

    never-same : head.deed ≡ deed.Install → d ≡ c → ⊥
    never-same i same = elim t.whose [
      | inl k ↦ begun-other c k.0 l.last (ap (λ (y : Entry). at y l.last) (sym k.2) ∙ sym l.stands ∙ same)
      | inr k ↦ k.0 i
    ]

    by-lists : HasLists asked.site c (Some end) d head → Did head events (noted end) (position_of d)
    by-lists (deployed same) = led same
    by-lists (untold none) = absurd (some-none none)
    by-lists (not_begun i cut same) = absurd (never-same i same)

  by-boot : {events : List Event} {end : Option End} {d : Db} → deed_of w ≡ Some head.deed → Boot asked c events end d → HasLists asked.site c end d head → Did head events (end_noted end) (position_of d)
  by-boot of nothing lists = subst (λ (q : Position). Did head [] noted_end.Nothing q) from did_nothing
  by-boot of (stays h) lists = subst (λ (q : Position). Did head [] noted_end.Waits q) from (did_stay (opening-is (opens-stay asked w c head.deed is (deeds w head.deed of) h)))
  by-boot of (runs e p h l) lists = by-lists (starts-entering asked w c head.deed is (deeds w head.deed of) e p h) l lists
  by-boot of (begins plan i h f l) lists = by-lists (begins-entering asked w c head.deed is (deeds w head.deed of) plan i h) l lists
  by-boot of breaks_off lists = subst (λ (q : Position). Did head [] noted_end.Halted q) from did_break_off

-- what is noted of a boot is one that the flow has
pub boot-noted : (asked : Request) (w : Command) (c d : Db) (events : List Event) (end : Option End) (head : NoteHead) → asked.command ≡ Ok w → Boot asked c events end d → IsHead asked.site w c end d head → Did head events (end_noted end) (position_of d)
boot-noted asked w c d events end head is boot h = by-boot asked w c head is h.from h.deed boot h.lists

-- ---- commands that aren't noted

never-starts : (w : Command) (site : Site) (content : Content) (c : Db) (e : Entry) (p : Position) → deed_of w ≡ None → found_for (Ok w) site content c ≡ Starts e p → ⊥
never-starts command.Check site content c e p none h = check-never site content c e p h
never-starts w site content c e p none h = cc

-- they leave the database as it is
pub unnoted-same : (asked : Request) (w : Command) (c d : Db) (events : List Event) (end : Option End) → asked.command ≡ Ok w → deed_of w ≡ None → Boot asked c events end d → d ≡ c
unnoted-same asked w c d events end is none nothing = refl
unnoted-same asked w c d events end is none (stays h) = refl
unnoted-same asked w c d events end is none (runs e p h l) = absurd (never-starts w asked.site asked.content c e p none (found-by asked w c deed.Install is (Starts e p) w refl h))
unnoted-same asked w c d events end is none (begins plan i h f l) =
    let some : Some deed.Install ≡ None = sym (ap deed_of (same-word asked w c deed.Install is i)) ∙ none in
    absurd cc
unnoted-same asked w c d events end is none breaks_off = refl
