-- Where boots lead, by what was found and by the answer.
use Rattle.std.proofs.Common.{◌≡◌, ◌⊎◌, ⊎_elim, inl, inr, ℕ, List, [], refl, sym, ◌∙◌, subst, arith}
use Rattle.std.specs.Prelude.{Option, Some, None}
use Rattle.upd_text.specs.Counts.{counted, Rose}
use Rattle.device_model.specs.declared.calls.Event.{Event}
use Rattle.device_model.specs.Disk.{Disk}
use Rattle.device_model.specs.State.{State}
use Rattle.flow_table.specs.declared.position.Position.{Position}
use Rattle.flow_words.specs.Pieces.{End, Halted}
use Rattle.record_codec.specs.declared.entry.Entry.{Entry}
use Rattle.record_codec.specs.declared.entry.Db.{Db}
use Rattle.slot_store.specs.Slots.{May}
use Rattle.client_top.specs.declared.status.Status.{Status}
use Rattle.client_top.specs.declared.status.Status.TheVariants.{Done, Refused, NoUpdate, Inconsistent, RebootNeeded, DiskFault, SourceFault, NoMemory, SinkFault, Usage, PowerOff, BadStore, TooLarge, NotNow, NotInstalled}
use Rattle.client_top.specs.declared.status.Good.TheVariants.{Committed, Waiting, RolledBack, Shown, Admitted, Simulated}
use Rattle.client_top.specs.Finds.{Request, Answers, Stays, Starts, Unsaid, finds}
use Rattle.client_top.specs.Boot.{Boot, nothing, stays, runs, begins, breaks_off}
use Rattle.client_top.specs.Answers.{Basis, Wording, Slot, Store, Files, Course, DeviceCount, SourceCount, Free, row_of, end_of, Rests, Says}
use Rattle.client_top.specs.Did.{Did, Shelf, Path, LeadsTo}
use Rattle.client_top.specs.Promises.{IsUntied, Replies}

-- what a boot came to, where an answer was found
pub ran : {asked : Request} {c : Db} {events : List Event} {end : Option End} {d : Db} (s : Status) →
    Boot asked c events end d → finds asked c ≡ Answers s → (end ≡ None) ⊎ (end ≡ Some Halted)
ran s nothing is = inl refl
ran s (stays h) is = absurd (never (sym h ∙ is))
  where
    never : {s : Status} → Stays ≡ Answers s → ⊥
    never h = cc
ran s (runs e p h l) is = absurd (never (sym h ∙ is))
  where
    never : {e : Entry} {p : Position} {s : Status} → Starts e p ≡ Answers s → ⊥
    never h = cc
ran s (begins plan i h f l) is = absurd (never (sym h ∙ is))
  where
    never : {s : Status} → Unsaid ≡ Answers s → ⊥
    never h = cc
ran s breaks_off is = inr refl

answers-one : {a b : Status} → Answers a ≡ Answers b → a ≡ b
answers-one h = cc

none-some : {A : Type 0} {x : A} → Some x ≡ None → ⊥
none-some h = cc

neither : {e : Option End} → (e ≡ None → ⊥) → (e ≡ Some Halted → ⊥) → (e ≡ None) ⊎ (e ≡ Some Halted) → ⊥
neither n h x = ⊎_elim (λ a. n a) (λ a. h a) x

files-one : (asked : Request) (c : Db) (status due : Status) → Says (finds asked c) asked.site asked.content c status → finds asked c ≡ Answers due → status ≡ due
files-one asked c status due (inl h) is = answers-one (sym h ∙ is)
files-one asked c status due (inr h) is = absurd (never (sym h.0 ∙ is))
  where
    never : {s : Status} → Unsaid ≡ Answers s → ⊥
    never h = cc

-- an answer to a database that was read
pub exact : (asked : Request) (c : Db) (area : Option (List ℕ)) (events : List Event) (d : Db) (status due : Status) →
    Rests (row_of status).basis asked (Some c) area status → Boot asked c events (end_of status) d → finds asked c ≡ Answers due → (status ≡ due) ⊎ IsUntied (row_of status).basis
exact asked c area events d (Done Shown) due rests boot is = inl (answers-one (sym rests ∙ is))
exact asked c area events d (Done Admitted) due rests boot is = inl (files-one asked c (Done Admitted) due rests is)
exact asked c area events d (Refused r) due rests boot is = inl (files-one asked c (Refused r) due rests is)
exact asked c area events d NoUpdate due rests boot is = inl (answers-one (sym rests ∙ is))
exact asked c area events d (Usage u) due rests boot is = absurd (none-some rests.0)
exact asked c area events d (TooLarge b) due rests boot is = inl (files-one asked c (TooLarge b) due rests is)
exact asked c area events d (NotNow w) due rests boot is = inl (answers-one (sym rests ∙ is))
exact asked c area events d (Done Committed) due rests boot is = absurd (neither (λ h. cc) (λ h. cc) (ran due boot is))
exact asked c area events d (Done Waiting) due rests boot is = absurd (neither (λ h. cc) (λ h. cc) (ran due boot is))
exact asked c area events d (Done RolledBack) due rests boot is = absurd (neither (λ h. cc) (λ h. cc) (ran due boot is))
exact asked c area events d Inconsistent due rests boot is = absurd (neither (λ h. cc) (λ h. cc) (ran due boot is))
exact asked c area events d RebootNeeded due rests boot is = absurd (neither (λ h. cc) (λ h. cc) (ran due boot is))
exact asked c area events d (NotInstalled o) due rests boot is = absurd (neither (λ h. cc) (λ h. cc) (ran due boot is))
exact asked c area events d (Done Simulated) due rests boot is = inr tt
exact asked c area events d DiskFault due rests boot is = inr tt
exact asked c area events d SourceFault due rests boot is = inr tt
exact asked c area events d NoMemory due rests boot is = inr tt
exact asked c area events d PowerOff due rests boot is = inr tt
exact asked c area events d (BadStore o) due rests boot is = inr tt
exact asked c area events d SinkFault due rests boot is = inr tt

pub at-least : (a b : ℕ) → b ≡ counted a → Rose a b
at-least a b e = omega arith

-- a command halts only where a count rose
pub halts : (asked : Request) (from : Option Db) (status : Status) (old new : State) (source source' : Shelf) →
    Did asked from status old new source source' → end_of status ≡ Some Halted → Rose old.losses new.losses ⊎ Rose old.faults new.faults
halts asked from PowerOff old new source source' d h = inl (at-least old.losses new.losses d.device.passed.ends.losses)
halts asked from DiskFault old new source source' d h = inr (at-least old.faults new.faults d.device.passed.ends.faults)
halts asked from (Done Committed) old new source source' d h = absurd cc
halts asked from (Done Waiting) old new source source' d h = absurd cc
halts asked from (Done RolledBack) old new source source' d h = absurd cc
halts asked from (Done Shown) old new source source' d h = absurd cc
halts asked from (Done Admitted) old new source source' d h = absurd cc
halts asked from (Done Simulated) old new source source' d h = absurd cc
halts asked from (Refused r) old new source source' d h = absurd cc
halts asked from NoUpdate old new source source' d h = absurd cc
halts asked from Inconsistent old new source source' d h = absurd cc
halts asked from RebootNeeded old new source source' d h = absurd cc
halts asked from SourceFault old new source source' d h = absurd cc
halts asked from NoMemory old new source source' d h = absurd cc
halts asked from SinkFault old new source source' d h = absurd cc
halts asked from (Usage u) old new source source' d h = absurd cc
halts asked from (BadStore o) old new source source' d h = absurd cc
halts asked from (TooLarge b) old new source source' d h = absurd cc
halts asked from (NotNow w) old new source source' d h = absurd cc
halts asked from (NotInstalled o) old new source source' d h = absurd cc

-- a boot in which no database was read
pub unread : (asked : Request) (area : Option (List ℕ)) (status : Status) (d : Db) → Rests (row_of status).basis asked None area status → Boot asked d [] (end_of status) d × Replies (row_of status).basis asked d status
unread asked area (Usage u) d rests = (nothing, rests.1 d)
unread asked area DiskFault d rests = (breaks_off, tt)
unread asked area PowerOff d rests = (breaks_off, tt)
unread asked area NoMemory d rests = (nothing, tt)
unread asked area SinkFault d rests = (nothing, tt)
unread asked area (Done Simulated) d rests = (nothing, tt)
unread asked area (BadStore o) d rests = (nothing, tt)
unread asked area (Done Shown) d rests = absurd rests
unread asked area (Done Admitted) d rests = absurd rests
unread asked area (Done Committed) d rests = absurd rests
unread asked area (Done Waiting) d rests = absurd rests
unread asked area (Done RolledBack) d rests = absurd rests
unread asked area (Refused r) d rests = absurd rests
unread asked area NoUpdate d rests = absurd rests
unread asked area Inconsistent d rests = absurd rests
unread asked area RebootNeeded d rests = absurd rests
unread asked area SourceFault d rests = absurd rests
unread asked area (TooLarge b) d rests = absurd rests
unread asked area (NotNow w) d rests = absurd rests
unread asked area (NotInstalled o) d rests = absurd rests

-- what the database that was read replies
replies : (asked : Request) (c : Db) (area : Option (List ℕ)) (b : Basis) (status : Status) → Rests b asked (Some c) area status → Replies b asked c status
replies asked c area Wording status rests = absurd (none-some rests.0)
replies asked c area (Slot o) status rests = tt
replies asked c area Store status rests = rests
replies asked c area Files status rests = rests
replies asked c area Course status rests = tt
replies asked c area DeviceCount status rests = tt
replies asked c area SourceCount status rests = tt
replies asked c area Free status rests = tt

pub follows : (asked : Request) (from : Option Db) (area : Option (List ℕ)) (status : Status) (events : List Event) (old : Option Disk) (d : Db) → Rests (row_of status).basis asked from area status → Path asked from events (end_of status) → LeadsTo asked from events (end_of status) old d → (c : Db) × May old c × Boot asked c events (end_of status) d × Replies (row_of status).basis asked c status
follows asked (Some c) area status events old d rests path l = (c, l.0, l.1, replies asked c area (row_of status).basis status rests)
follows asked None area status events old d rests path l =
    let u = unread asked area status d rests in
    (d, l, subst (λ (w : List Event). Boot asked d w (end_of status) d) (sym path) u.0, u.1)

still : (asked : Request) (c : Db) (events : List Event) (x : Option End) (d : Db) → x ≡ None → Boot asked c events x d → events ≡ []
still asked c events x d is nothing = refl
still asked c events x d is (stays h) = refl
still asked c events x d is (runs e p h l) = absurd (none-some is)
still asked c events x d is (begins plan i h f l) = absurd (none-some is)
still asked c events x d is breaks_off = refl

pub quiet : (asked : Request) (from : Option Db) (events : List Event) (end : Option End) → end ≡ None → Path asked from events end → events ≡ []
quiet asked None events end is path = path
quiet asked (Some c) events end is path = still asked c events end path.0 is path.1
