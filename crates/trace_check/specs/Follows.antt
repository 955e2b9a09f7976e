-- Which boots a note may tell of.
use Rattle.std.specs.Prelude.{◌≡◌, ◌⊎◌, ℕ, ◌+◌, Bool, true, false, List, [], ◌∷◌, Option, Some, IfSome, if◌then◌else◌}
use Rattle.std.specs.List.{slice_get}
use Rattle.device_model.specs.declared.calls.Event.{Event}
use Rattle.device_model.specs.declared.calls.Event.TheVariants.{Start, End as Ends, Pause, Loss}
use Rattle.flow_table.specs.declared.position.Position.{Position}
use Rattle.flow_table.specs.declared.position.State.{State}
use Rattle.flow_table.specs.declared.position.State.TheVariants.{Idle}
use Rattle.flow_table.specs.declared.table.Order.TheVariants as order
use Rattle.flow_table.specs.declared.table.Opening.{Opening}
use Rattle.flow_table.specs.declared.table.Opening.TheVariants as opening
use Rattle.flow_table.specs.Table.{first_of, fresh_position}
use Rattle.flow_words.specs.Words.{Callees, word_at}
use Rattle.flow_words.specs.Pieces.{End, Pieces}
use Rattle.flow_words.specs.Pieces as end
use Rattle.trace_check.specs.declared.note.Deed.{Deed}
use Rattle.trace_check.specs.declared.note.Deed.TheVariants.{Install, Resume, ResumeStop, Commit, Rollback}
use Rattle.trace_check.specs.declared.note.NoteEnd.{NoteEnd}
use Rattle.trace_check.specs.declared.note.NoteEnd.TheVariants.{Nothing, Ended, Waits, RebootNeeded, Halted}
use Rattle.trace_check.specs.declared.note.NoteHead.{NoteHead}
use Rattle.trace_check.specs.declared.note.Note.{Note}

-- ---- how a boot begins

-- whom the deployment calls
abbrev pub callees : NoteHead → Callees
callees head = record { kinds = head.kinds; own = head.site; brought = head.scripts }

-- an install begins where nothing is in progress; whether its tree is admitted isn't asked
abbrev pub installing : State → Position → Opening
installing Idle p = opening.Enter fresh_position
installing s p = opening.MustResume s

-- what the command does at the position from which the boot began
abbrev pub opens : Deed → Position → Opening
opens Install p = installing p.state p
opens Resume p = first_of p order.Resume
opens ResumeStop p = first_of p order.ResumeStop
opens Commit p = first_of p order.Commit
opens Rollback p = first_of p order.Rollback

abbrev pub opening_of : NoteHead → Opening
opening_of head = opens head.deed head.from

-- the deployment waits before it commits
abbrev pub is_stop : Deed → Bool
is_stop ResumeStop = true
is_stop Install = false
is_stop Resume = false
is_stop Commit = false
is_stop Rollback = false

-- From a position the states of the deployment lead with these events to this end, at the last position.
abbrev pub Goes : NoteHead → Position → List Event → End → Position → Type 0
Goes head = Pieces (word_at (callees head)) (is_stop head.deed)

-- ---- what a boot may do

-- how an end of the flow is noted
abbrev pub noted : End → NoteEnd
noted (end.Ended o) = Ended o
noted end.Waits = Waits
noted end.RebootNeeded = RebootNeeded
noted end.Halted = Halted

-- With these events, none of which is a loss, the boot comes to this end, and then the database is at this position.
pub data Did (head : NoteHead) : List Event → NoteEnd → Position → Type 0 where
  -- nothing was done
  nothing : Did head [] Nothing head.from
  -- the deployment waits, and stays as it is
  stays : opening_of head ≡ opening.Stay → Did head [] Waits head.from
  -- a deployment begins or goes on
  runs : {events : List Event} {e : End} {last : Position} (first : Position) → opening_of head ≡ opening.Enter first → Goes head first events e last → Did head events (noted e) last
  -- it was cut off before the first position was put
  breaks_off : Did head [] Halted head.from

-- the events without a loss at the end
abbrev pub is_loss : Event → Bool
is_loss (Start c) = false
is_loss (Ends a) = false
is_loss (Pause seconds) = false
is_loss Loss = true

abbrev pub without_loss : List Event → List Event
without_loss [] = []
without_loss (e ∷ []) = if is_loss e then [] else e ∷ []
without_loss (e ∷ f ∷ events) = e ∷ without_loss (f ∷ events)

-- a loss stands only at the end of a boot that was cut off
abbrev pub powered : NoteEnd → List Event → List Event
powered Halted events = without_loss events
powered Nothing events = events
powered (Ended o) events = events
powered Waits events = events
powered RebootNeeded events = events

-- The note tells of a boot that leaves the database at this position.
abbrev pub Follows : Note → Position → Type 0
Follows note p = Did note.head (powered note.end note.events.events) note.end p

-- ---- boots in a row

-- The next note may have other payload types and scripts where a deployment begins, where one of the two notes none of them
-- since nothing was done, and after an install that was cut off before its first position was put.
pub data MayDiffer (note : Note) (p : Position) (next : Note) : Type 0 where
  begins : next.head.deed ≡ Install → MayDiffer note p next
  none_noted : note.end ≡ Nothing → MayDiffer note p next
  notes_none : next.end ≡ Nothing → MayDiffer note p next
  not_begun : note.head.deed ≡ Install → note.end ≡ Halted → p ≡ note.head.from → MayDiffer note p next

-- the next boot goes on where the database is
pub record GoesOn (note : Note) (p : Position) (next : Note) : Type 0 where
  pub from : next.head.from ≡ p
  pub lists : MayDiffer note p next ⊎ ((next.head.kinds ≡ note.head.kinds) × (next.head.scripts ≡ note.head.scripts))

-- the note tells of a boot, and the next one, if there is one, goes on from it
pub record Linked (note : Note) (next : Option Note) : Type 0 where
  pub position : Position
  pub follows : Follows note position
  pub goes_on : IfSome next (λ n. GoesOn note position n)

-- each note is linked to the next one
abbrev pub Chain : List Note → Type 0
Chain notes = (i : ℕ) (note : Note) → slice_get notes i ≡ Some note → Linked note (slice_get notes (i + 1))
