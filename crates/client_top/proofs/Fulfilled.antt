-- What is answered where no count rose.
use Rattle.std.proofs.Common.{◌≡◌, ◌⊎◌, ⊎_elim, inl, inr, ℕ, List, refl, sym, ◌∙◌, subst}
use Rattle.std.specs.Prelude.{Option, Some, None, Result, Ok, Err, IfSome}
use Rattle.upd_text.specs.Counts.{Rose}
use Rattle.device_model.specs.declared.calls.Event.{Event}
use Rattle.device_model.specs.Disk.{Disk, IsTold, area_of}
use Rattle.device_model.specs.State.{State}
use Rattle.flow_table.specs.declared.position.Outcome.TheVariants as outcome
use Rattle.flow_words.specs.Pieces.{End, Ended, Waits, RebootNeeded as Reboots, Halted}
use Rattle.record_codec.specs.declared.entry.Db.{Db}
use Rattle.slot_store.specs.Slots.{Stands, stood}
use Rattle.client_top.specs.declared.status.Status.{Status}
use Rattle.client_top.specs.declared.status.Status.TheVariants.{Done, Refused, NoUpdate, Inconsistent, RebootNeeded, DiskFault, SourceFault, NoMemory, SinkFault, Usage, PowerOff, BadStore, TooLarge, NotNow, NotInstalled}
use Rattle.client_top.specs.declared.status.Good.TheVariants.{Committed, Waiting, RolledBack, Shown, Admitted, Simulated}
use Rattle.client_top.specs.Finds.{Request, Found, Answers, finds}
use Rattle.client_top.specs.Boot.{Boot, nothing, stays, runs, begins, breaks_off}
use Rattle.client_top.specs.Answers.{row_of, end_of, Says, Due, source_count}
use Rattle.client_top.specs.Did.{Did, Shelf}
use Rattle.client_top.specs.Promises.{Calm, Fulfils, IsOver}
use Rattle.client_top.proofs.Boots.{halts, at-least}

over : (e : End) → (e ≡ Halted → ⊥) → IsOver (Some e)
over (Ended o) h = tt
over Waits h = tt
over Reboots h = tt
over Halted h = absurd (h refl)

some-one : {a b : End} → Some a ≡ Some b → a ≡ b
some-one h = cc

not-none : {a : End} → None ≡ Some a → ⊥
not-none h = cc

-- a boot that wasn't cut off did what was found
pub went : (asked : Request) (c : Db) (events : List Event) (d : Db) (status : Status) (x : Option End) (end : End) →
    x ≡ end_of status → x ≡ Some end → (end ≡ Halted → ⊥) → Boot asked c events x d → Fulfils (finds asked c) status
went asked c events d status x end is some not nothing = absurd (not-none some)
went asked c events d status x end is some not (stays h) = subst (λ (f : Found). Fulfils f status) (sym h) (sym is)
went asked c events d status x end is some not (runs {end = e1} e p h l) =
    subst (λ (f : Found). Fulfils f status) (sym h) (subst IsOver is (over e1 (λ halted. not (sym (some-one some) ∙ halted))))
went asked c events d status x end is some not (begins plan i h f l) = subst (λ (f : Found). Fulfils f status) (sym h) tt
went asked c events d status x end is some not breaks_off = absurd (not (sym (some-one some)))

files : (asked : Request) (c : Db) (status : Status) → Says (finds asked c) asked.site asked.content c status → Fulfils (finds asked c) status
files asked c status (inl h) = subst (λ (f : Found). Fulfils f status) (sym h) refl
files asked c status (inr h) = subst (λ (f : Found). Fulfils f status) (sym h.0) tt

stored : (asked : Request) (c : Db) (status : Status) → finds asked c ≡ Answers status → Fulfils (finds asked c) status
stored asked c status h = subst (λ (f : Found). Fulfils f status) (sym h) refl

-- by the answer, over the database that was read
read : (asked : Request) (c : Db) (area : Option (List ℕ)) (events : List Event) (d : Db) (status : Status) →
    Due asked (Some c) area status → Boot asked c events (end_of status) d →
    (end_of status ≡ Some Halted → ⊥) → (status ≡ SourceFault → ⊥) → ((o : ℕ) → status ≡ BadStore o → ⊥) →
    (status ≡ NoMemory) ⊎ Fulfils (finds asked c) status
read asked c area events d (Done Shown) due boot h s b = inr (stored asked c (Done Shown) due.rests)
read asked c area events d (Done Admitted) due boot h s b = inr (files asked c (Done Admitted) due.rests)
read asked c area events d (Refused r) due boot h s b = inr (files asked c (Refused r) due.rests)
read asked c area events d NoUpdate due boot h s b = inr (stored asked c NoUpdate due.rests)
read asked c area events d (Usage u) due boot h s b = absurd (none-some due.rests.0)
  where
    none-some : Some c ≡ None → ⊥
    none-some h = cc
read asked c area events d (TooLarge n) due boot h s b = inr (files asked c (TooLarge n) due.rests)
read asked c area events d (NotNow w) due boot h s b = inr (stored asked c (NotNow w) due.rests)
read asked c area events d (Done Committed) due boot h s b = inr (went asked c events d (Done Committed) (Some (Ended outcome.Committed)) (Ended outcome.Committed) refl refl (λ h. cc) boot)
read asked c area events d (Done Waiting) due boot h s b = inr (went asked c events d (Done Waiting) (Some Waits) Waits refl refl (λ h. cc) boot)
read asked c area events d (Done RolledBack) due boot h s b = inr (went asked c events d (Done RolledBack) (Some (Ended outcome.RolledBack)) (Ended outcome.RolledBack) refl refl (λ h. cc) boot)
read asked c area events d Inconsistent due boot h s b = inr (went asked c events d Inconsistent (Some (Ended outcome.Inconsistent)) (Ended outcome.Inconsistent) refl refl (λ h. cc) boot)
read asked c area events d RebootNeeded due boot h s b = inr (went asked c events d RebootNeeded (Some Reboots) Reboots refl refl (λ h. cc) boot)
read asked c area events d (NotInstalled o) due boot h s b = inr (went asked c events d (NotInstalled o) (Some (Ended o)) (Ended o) refl refl (λ h. cc) boot)
read asked c area events d (Done Simulated) due boot h s b = absurd cc
read asked c area events d DiskFault due boot h s b = absurd (h refl)
read asked c area events d SourceFault due boot h s b = absurd (s refl)
read asked c area events d NoMemory due boot h s b = inl refl
read asked c area events d PowerOff due boot h s b = absurd (h refl)
read asked c area events d (BadStore o) due boot h s b = absurd (b o refl)
read asked c area events d SinkFault due boot h s b = absurd cc

-- and where none was read
unread : (asked : Request) (c : Db) (area : Option (List ℕ)) (status : Status) → Due asked None area status →
    (end_of status ≡ Some Halted → ⊥) → ((o : ℕ) → status ≡ BadStore o → ⊥) → (status ≡ NoMemory) ⊎ Fulfils (finds asked c) status
unread asked c area (Usage u) due h b = inr (stored asked c (Usage u) (due.rests.1 c))
unread asked c area DiskFault due h b = absurd (h refl)
unread asked c area PowerOff due h b = absurd (h refl)
unread asked c area NoMemory due h b = inl refl
unread asked c area SinkFault due h b = absurd cc
unread asked c area (Done Simulated) due h b = absurd cc
unread asked c area (BadStore o) due h b = absurd (b o refl)
unread asked c area (Done Shown) due h b = absurd due.rests
unread asked c area (Done Admitted) due h b = absurd due.rests
unread asked c area (Done Committed) due h b = absurd due.rests
unread asked c area (Done Waiting) due h b = absurd due.rests
unread asked c area (Done RolledBack) due h b = absurd due.rests
unread asked c area (Refused r) due h b = absurd due.rests
unread asked c area NoUpdate due h b = absurd due.rests
unread asked c area Inconsistent due h b = absurd due.rests
unread asked c area RebootNeeded due h b = absurd due.rests
unread asked c area SourceFault due h b = absurd due.rests
unread asked c area (TooLarge n) due h b = absurd due.rests
unread asked c area (NotNow w) due h b = absurd due.rests
unread asked c area (NotInstalled o) due h b = absurd due.rests

clash : (r : Result Db ℕ) (x : Db) (o : ℕ) → r ≡ Ok x → r ≡ Err o → ⊥
clash (Ok z) x o e f = cc
clash (Err z) x o e f = cc

one-db : (r : Result Db ℕ) (x y : Db) → r ≡ Ok x → r ≡ Ok y → x ≡ y
one-db (Ok z) x y e f = cc
one-db (Err z) x y e f = cc

-- an area that stands for a database has no wrong field
no-bad : (asked : Request) (from : Option Db) (area : Option (List ℕ)) (c : Db) (status : Status) (o : ℕ) → Due asked from area status → IfSome area (λ a. Stands a c) → (area ≡ None → ⊥) → status ≡ BadStore o → ⊥
no-bad asked from None c status o due stands told is = told refl
no-bad asked from (Some a) c status o due stands told is =
    let bad : Due asked from (Some a) (BadStore o) = subst (λ (s : Status). Due asked from (Some a) s) is due in
    clash (stood a) c o stands bad.rests.1

same : (from c : Db) (area : Option (List ℕ)) → IfSome area (λ a. Stands a from) → IfSome area (λ a. Stands a c) → (area ≡ None → ⊥) → from ≡ c
same from c None f s told = absurd (told refl)
same from c (Some a) f s told = one-db (stood a) from c f s

area-told : (disk : Option Disk) → IsTold disk → area_of disk ≡ None → ⊥
area-told None told h = told
area-told (Some d) told h = cc

source-rose : (asked : Request) (from : Option Db) (status : Status) (old new : State) (source source' : Shelf) → Did asked from status old new source source' → (Rose source.faults source'.faults → ⊥) → status ≡ SourceFault → ⊥
source-rose asked from status old new source source' did calm is =
    calm (at-least source.faults source'.faults (subst (λ (s : Status). source'.faults ≡ source_count (row_of s).basis source.faults) is did.answer.source))

calm-goes : (asked : Request) (from : Option Db) (status : Status) (old new : State) (source source' : Shelf) → Did asked from status old new source source' → Calm old new source source' → end_of status ≡ Some Halted → ⊥
calm-goes asked from status old new source source' did calm h = ⊎_elim (λ a. calm.losses a) (λ b. calm.faults b) (halts asked from status old new source source' did h)

no-bad-read : (asked : Request) (f : Db) (area : Option (List ℕ)) (status : Status) (o : ℕ) → Due asked (Some f) area status → status ≡ BadStore o → ⊥
no-bad-read asked f area status o due is = none (subst (λ (s : Status). Due asked (Some f) area s) is due).rests.0
  where
    none : {x : Db} → Some x ≡ None → ⊥
    none h = cc

-- over the database that was read
pub fulfilled-from : (asked : Request) (f : Db) (status : Status) (old new : State) (source source' : Shelf) → Did asked (Some f) status old new source source' → Calm old new source source' → (status ≡ NoMemory) ⊎ Fulfils (finds asked f) status
fulfilled-from asked f status old new source source' did calm =
    read asked f (area_of old.disk) did.events did.database.path.0 status did.answer.due did.database.path.1 (calm-goes asked (Some f) status old new source source' did calm) (source-rose asked (Some f) status old new source source' did calm.files) (λ o. no-bad-read asked f (area_of old.disk) status o did.answer.due)

-- over the database that the area stands for
pub fulfilled : (asked : Request) (from : Option Db) (status : Status) (old new : State) (source source' : Shelf) (c : Db) → Did asked from status old new source source' → Calm old new source source' → IsTold old.disk → IfSome (area_of old.disk) (λ a. Stands a c) → (status ≡ NoMemory) ⊎ Fulfils (finds asked c) status
fulfilled asked None status old new source source' c did calm told stands =
    unread asked c (area_of old.disk) status did.answer.due (calm-goes asked None status old new source source' did calm) (λ o. no-bad asked None (area_of old.disk) c status o did.answer.due stands (area-told old.disk told))
fulfilled asked (Some f) status old new source source' c did calm told stands =
    subst (λ (x : Db). (status ≡ NoMemory) ⊎ Fulfils (finds asked x) status) (same f c (area_of old.disk) did.answer.read.1 stands (area-told old.disk told))
    (fulfilled-from asked f status old new source source' did calm)
