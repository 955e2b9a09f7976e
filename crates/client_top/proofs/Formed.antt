-- The note of a boot over what is told has a text.
use Rattle.std.proofs.Common.{◌≡◌, ℕ, Bool, true, false, List, [], length, refl, sym, ap, ◌∙◌, subst, arith}
use Rattle.std.specs.Prelude.{◌≤◌, ◌&&◌, ◌||◌, nat_le, Option, Some, Result, Ok, Err}
use Rattle.std.specs.List.{list_all}
use Rattle.std.proofs.lemmas.Bool.Decides.{nat_tests}
use Rattle.device_model.specs.declared.calls.Event.{Event}
use Rattle.io_model.specs.Source.{Tree, Content}
use Rattle.io_model.specs.Source.Content.{Told}
use Rattle.script_names.specs.declared.site.Site.{Site}
use Rattle.admit.specs.Admit.{head_plan_of}
use Rattle.admit.specs.declared.admitted.Admitted.{Admitted as Plan}
use Rattle.admit.specs.declared.refusal.Refusal.{Refusal}
use Rattle.flow_table.specs.Valid.{is_valid}
use Rattle.flow_table.specs.declared.table.TheConstants.{MOST_KINDS}
use Rattle.flow_table.specs.declared.position.Position.{Position}
use Rattle.flow_table.specs.declared.table.Order.{Order}
use Rattle.flow_table.specs.declared.table.Order.TheVariants as order
use Rattle.flow_table.specs.Table.{first_of}
use Rattle.flow_table.specs.declared.position.State.{State}
use Rattle.flow_table.specs.declared.position.State.TheVariants as at
use Rattle.flow_words.specs.Pieces.{End, Ended, Waits, RebootNeeded, Halted}
use Rattle.flow_drive.specs.Calls.{callees}
use Rattle.record_codec.specs.declared.entry.Entry.{Entry}
use Rattle.record_codec.specs.declared.entry.Db.{Db}
use Rattle.record_codec.specs.declared.entry.Db.TheVariants.{Empty, Full}
use Rattle.record_codec.specs.Held.{held, position_of}
use Rattle.record_codec.specs.Spelling.{IsRight, IfFull}
use Rattle.client_words.specs.declared.command.Command.TheVariants as command
use Rattle.trace_check.specs.declared.note.Deed.{Deed}
use Rattle.trace_check.specs.declared.note.Deed.TheVariants.{Install, Resume, ResumeStop, Commit, Rollback}
use Rattle.trace_check.specs.declared.note.NoteHead.{NoteHead}
use Rattle.trace_check.specs.Follows.{noted as ended}
use Rattle.trace_check.specs.Form.{has_text, is_place, is_noted as is_event_noted}
use Rattle.trace_check.proofs.Noted.{pieces-noted, all-noted}
use Rattle.client_top.specs.declared.status.Status.{Status}
use Rattle.client_top.specs.declared.status.Status.TheVariants.{Done, DiskFault, PowerOff}
use Rattle.client_top.specs.declared.status.Good.TheVariants.{Committed, Waiting, RolledBack, Shown, Admitted, Simulated}
use Rattle.client_top.specs.Answers.{Words, end_of}
use Rattle.client_top.specs.Boot.{Boot, nothing, stays, runs, begins, breaks_off}
use Rattle.client_top.specs.Finds.{Request, Found, Starts, Stays, Unsaid, finds, found_for, begun, beginning, installed, ordered, starting}
use Rattle.client_top.specs.Notes.{end_noted}
use Rattle.client_top.specs.Looks.{IsHeadOf}
use Rattle.client_top.specs.Traced.{deed_noted, head_of, head_held, head_planned, unless_refused, with_lists, is_noted}
use Rattle.client_top.proofs.Starts.{starting-at, after-head, opened}
use Rattle.client_top.proofs.Waits.{waiting, never-begins}

both : (a b : Bool) → a ≡ true → b ≡ true → (a && b) ≡ true
both true true h k = refl
both true false h k = absurd cc
both false b h k = absurd cc

-- ---- where it began

either : (a b : Bool) → a ≡ true → (a || b) ≡ true
either true b h = refl
either false b h = absurd cc

other : (a : Bool) → (a || true) ≡ true
other true = refl
other false = refl

place-of : (c : Db) → IfFull IsRight c → is_place (position_of c) ≡ true
place-of Empty right = other (is_valid (position_of Empty))
place-of (Full e) right = either (is_valid e.position) _ right.position

-- ---- how many types it has

many : (kinds : List (List ℕ)) → 1 ≤ length kinds → length kinds ≤ MOST_KINDS → (nat_le 1 (length kinds) && nat_le (length kinds) MOST_KINDS) ≡ true
many kinds some few = both (nat_le 1 (length kinds)) (nat_le (length kinds) MOST_KINDS) (grind (arith, nat_tests)) (grind (arith, nat_tests))

some-deed : {a b : Deed} → Some a ≡ Some b → b ≡ a
some-deed h = cc

abbrev is_first : Deed → Bool
is_first Install = true
is_first Resume = false
is_first ResumeStop = false
is_first Commit = false
is_first Rollback = false

differ : (d x : Deed) → d ≡ x → is_first x ≡ false → d ≡ Install → ⊥
differ d x is other_one k = clash (is_first d) (ap is_first k) (ap is_first is ∙ other_one)
  where
    clash : (b : Bool) → b ≡ true → b ≡ false → ⊥
    clash true h g = cc
    clash false h g = cc

order-full : (o : Order) (c : Db) (e : Entry) (p : Position) → ordered o c ≡ Starts e p → c ≡ Full e
order-full o Empty e p h = absurd cc
order-full o (Full x) e p h = ap Full (opened x e p (first_of x.position o) h).0

ok-plan : {p q : Plan} → ◌≡◌ {A = Result Plan Refusal} (Ok p) (Ok q) → p ≡ q
ok-plan h = cc

some-head : {a b : NoteHead} → Some a ≡ Some b → b ≡ a
some-head h = cc

module _ (site : Site) (t : Tree) (c : Db) where
  -- an install's head is of its tree's plan, each other one of what is held
  is-held : (d : Deed) (head : NoteHead) → (d ≡ Install → ⊥) → head_of d site t c ≡ Some head → head ≡ head_held d site c
  is-held Install head not h = absurd (not refl)
  is-held Resume head not h = some-head h
  is-held ResumeStop head not h = some-head h
  is-held Commit head not h = some-head h
  is-held Rollback head not h = some-head h

  is-planned : (head : NoteHead) (plan : Plan) → head_plan_of t site.device_type (held c) ≡ Ok plan → head_of Install site t c ≡ Some head → head ≡ head_planned site c plan
  is-planned head plan is h = by (head_plan_of t site.device_type (held c)) is h
    where
      by : (r : Result Plan Refusal) → r ≡ Ok plan → unless_refused site c r ≡ Some head → head ≡ head_planned site c plan
      by (Ok p) k g = some-head g ∙ ap (head_planned site c) (ok-plan k)
      by (Err r) k g = absurd cc

  held-from : (d : Deed) (x : Db) → (head_held d site x).from ≡ position_of x
  held-from d Empty = refl
  held-from d (Full e) = refl

  head-from : (d : Deed) (head : NoteHead) → head_of d site t c ≡ Some head → head.from ≡ position_of c
  head-from Install head h = by (head_plan_of t site.device_type (held c)) h
    where
      by : (r : Result Plan Refusal) → unless_refused site c r ≡ Some head → head.from ≡ position_of c
      by (Ok p) g = ap (λ (x : NoteHead). x.from) (some-head g)
      by (Err r) g = absurd cc
  head-from Resume head h = ap (λ (x : NoteHead). x.from) (some-head h) ∙ held-from Resume c
  head-from ResumeStop head h = ap (λ (x : NoteHead). x.from) (some-head h) ∙ held-from ResumeStop c
  head-from Commit head h = ap (λ (x : NoteHead). x.from) (some-head h) ∙ held-from Commit c
  head-from Rollback head h = ap (λ (x : NoteHead). x.from) (some-head h) ∙ held-from Rollback c

-- ---- a deployment that begins or goes on

installed-by : (c : Db) (site : Site) (t : Tree) (e : Entry) (p : Position) → starting (installed site t c) ≡ Starts e p → (plan : Plan) × (e ≡ begun c plan) × (head_plan_of t site.device_type (held c) ≡ Ok plan)
installed-by c site t e p h = after-head c t e (head_plan_of t site.device_type (held c)) (starting-at e p (installed site t c) h).0

heads-by : (s : State) (c : Db) (site : Site) (t : Tree) (e : Entry) (p : Position) → beginning s site (Told t) c ≡ Starts e p → (plan : Plan) × (e ≡ begun c plan) × (head_plan_of t site.device_type (held c) ≡ Ok plan)
heads-by at.Idle c site t e p h = installed-by c site t e p h
heads-by s c site t e p h = absurd cc

never-unsaid : (s : State) (c : Db) (site : Site) (t : Tree) → beginning s site (Told t) c ≡ Unsaid → ⊥
never-unsaid at.Idle c site t h = by (installed site t c) h
  where
    by : (r : Result Entry Status) → starting r ≡ Unsaid → ⊥
    by (Ok e) h = cc
    by (Err s) h = cc
never-unsaid s c site t h = cc

-- what the head has of the deployment that runs
pub record Of (head : NoteHead) (c : Db) (e : Entry) : Type 0 where
  pub kinds : e.kinds ≡ head.kinds
  pub some : 1 ≤ length head.kinds
  pub few : length head.kinds ≤ MOST_KINDS

module _ (site : Site) (t : Tree) (c : Db) (right : IfFull IsRight c) (head : NoteHead) where
  of-held : (d : Deed) (e : Entry) → (d ≡ Install → ⊥) → head_of d site t c ≡ Some head → c ≡ Full e → Of head c e
  of-held d e not h is =
      let held_is : head ≡ head_held d site (Full e) = subst (λ (x : Db). head ≡ head_held d site x) is (is-held site t c d head not h) in
      let kinds : head.kinds ≡ e.kinds = ap (λ (x : NoteHead). x.kinds) held_is in
      let fits : IsRight e = subst (IfFull IsRight) is right in
      record {
        kinds = sym kinds;
        some = subst (λ (l : List (List ℕ)). 1 ≤ length l) (sym kinds) fits.some;
        few = subst (λ (l : List (List ℕ)). length l ≤ MOST_KINDS) (sym kinds) fits.few;
      }

  of-planned : (e : Entry) (p : Position) → IsHeadOf Install head → head_of Install site t c ≡ Some head → beginning (position_of c).state site (Told t) c ≡ Starts e p → Of head c e
  of-planned e p is h found =
      let w = heads-by (position_of c).state c site t e p found in
      record {
        kinds = ap (λ (x : Entry). x.kinds) w.1 ∙ sym (ap (λ (x : NoteHead). x.kinds) (is-planned site t c head w.0 w.2 h));
        some = is.some refl;
        few = is.few refl;
      }

  of-order : (d : Deed) (o : Order) (e : Entry) (p : Position) → (d ≡ Install → ⊥) → head_of d site t c ≡ Some head → ordered o c ≡ Starts e p → Of head c e
  of-order d o e p not h found = of-held d e not h (order-full o c e p found)

  -- the head of a boot that runs a deployment is of that
  of-runs : (d : Deed) (w : Words) (e : Entry) (p : Position) → deed_noted true w ≡ Some d → IsHeadOf d head → head_of d site t c ≡ Some head → found_for w site (Told t) c ≡ Starts e p → Of head c e
  of-runs d (Ok command.Install) e p noted is h found =
      let same = some-deed noted in
      of-planned e p (subst (λ (x : Deed). IsHeadOf x head) same is) (subst (λ (x : Deed). head_of x site t c ≡ Some head) same h) found
  of-runs d (Ok command.Resume) e p noted is h found = of-order d order.Resume e p (differ d Resume (some-deed noted) refl) h found
  of-runs d (Ok command.ResumeStop) e p noted is h found = of-order d order.ResumeStop e p (differ d ResumeStop (some-deed noted) refl) h found
  of-runs d (Ok command.Commit) e p noted is h found = of-order d order.Commit e p (differ d Commit (some-deed noted) refl) h found
  of-runs d (Ok command.Rollback) e p noted is h found = of-order d order.Rollback e p (differ d Rollback (some-deed noted) refl) h found
  of-runs d w e p noted is h found = absurd cc

  -- and so is that of one that leaves it waiting
  orders : (d : Deed) (w : Words) → deed_noted true w ≡ Some d → found_for w site (Told t) c ≡ Stays → d ≡ Install → ⊥
  orders d (Ok command.Install) noted found k = never-begins (position_of c).state site (Told t) c found
  orders d (Ok command.Resume) noted found k = differ d Resume (some-deed noted) refl k
  orders d (Ok command.ResumeStop) noted found k = differ d ResumeStop (some-deed noted) refl k
  orders d (Ok command.Commit) noted found k = differ d Commit (some-deed noted) refl k
  orders d (Ok command.Rollback) noted found k = differ d Rollback (some-deed noted) refl k
  orders d w noted found k = absurd cc

  of-waits : (d : Deed) (w : Words) → deed_noted true w ≡ Some d → head_of d site t c ≡ Some head → (found : found_for w site (Told t) c ≡ Stays) → Of head c (waiting w site (Told t) c found).entry
  of-waits d w noted h found = of-held d (waiting w site (Told t) c found).entry (orders d w noted found) h (waiting w site (Told t) c found).is

  -- ---- the text

  module _ (events : List Event) (began : is_place head.from ≡ true) where
    listed : (e : Entry) → Of head c e → list_all (is_event_noted head.kinds) events ≡ true → (is_place head.from && ((nat_le 1 (length head.kinds) && nat_le (length head.kinds) MOST_KINDS) && list_all (is_event_noted head.kinds) events)) ≡ true
    listed e of calls = both (is_place head.from) _ began (both (nat_le 1 (length head.kinds) && nat_le (length head.kinds) MOST_KINDS) _ (many head.kinds of.some of.few) calls)

    form-of : (e : Entry) → Of head c e → list_all (is_event_noted head.kinds) events ≡ true → (end : End) → (end ≡ Halted → ⊥) → has_text (with_lists (ended end) head) events (ended end) ≡ true
    form-of e of calls (Ended o) not = listed e of calls
    form-of e of calls Waits not = listed e of calls
    form-of e of calls RebootNeeded not = listed e of calls
    form-of e of calls Halted not = absurd (not refl)

-- no boot that is noted was cut off
not-halted : (status : Status) → is_noted status ≡ true → end_of status ≡ Some Halted → ⊥
not-halted DiskFault noted h = absurd cc
not-halted PowerOff noted h = absurd cc
not-halted (Done Committed) noted h = absurd cc
not-halted (Done Waiting) noted h = absurd cc
not-halted (Done RolledBack) noted h = absurd cc
not-halted (Done Shown) noted h = absurd cc
not-halted (Done Admitted) noted h = absurd cc
not-halted (Done Simulated) noted h = absurd cc
not-halted status noted h = absurd cc

some-end : {a b : End} → Some a ≡ Some b → a ≡ b
some-end h = cc

module _ (asked : Request) (t : Tree) (told : asked.content ≡ Told t) (c : Db) (right : IfFull IsRight c) (d : Deed) (noted : deed_noted true asked.command ≡ Some d)
    (head : NoteHead) (is : IsHeadOf d head) (h : head_of d asked.site t c ≡ Some head) where
  began : is_place head.from ≡ true
  began = subst (λ (p : Position). is_place p ≡ true) (sym (head-from asked.site t c d head h)) (place-of c right)

  found-told : (f : Found) → finds asked c ≡ f → found_for asked.command asked.site (Told t) c ≡ f
  found-told f found = subst (λ (x : Content). found_for asked.command asked.site x c ≡ f) told found

  install-unsaid : asked.command ≡ Ok command.Install → finds asked c ≡ Unsaid → ⊥
  install-unsaid install found = never-unsaid (position_of c).state c asked.site t (subst (λ (w : Words). found_for w asked.site (Told t) c ≡ Unsaid) install (found-told Unsaid found))

  by-boot : {events : List Event} {x : Option End} {y : Db} → (x ≡ Some Halted → ⊥) → Boot asked c events x y → has_text (with_lists (end_noted x) head) events (end_noted x) ≡ true
  by-boot not nothing = both (is_place head.from) true began refl
  by-boot not (stays found) =
      let waits = found-told Stays found in
      form-of asked.site t c right head [] began (waiting asked.command asked.site (Told t) c waits).entry (of-waits asked.site t c right head d asked.command noted h waits) refl Waits (λ k. cc)
  by-boot {events} not (runs {end} e p found leads) =
      let of = of-runs asked.site t c right head d asked.command e p noted is h (found-told (Starts e p) found) in
      form-of asked.site t c right head events began e of (all-noted head.kinds events (pieces-noted head.kinds (callees asked.site e) of.kinds leads.goes)) end (λ k. not (ap Some k))
  by-boot not (begins plan install found fits leads) = absurd (install-unsaid install found)
  by-boot not breaks_off = absurd (not refl)

  -- the note of a boot that is noted has a text
  pub formed : {events : List Event} {y : Db} (status : Status) → is_noted status ≡ true → Boot asked c events (end_of status) y → has_text (with_lists (end_noted (end_of status)) head) events (end_noted (end_of status)) ≡ true
  formed status due boot = by-boot (not-halted status due) boot
