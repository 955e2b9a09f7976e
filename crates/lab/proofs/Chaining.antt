-- The notes of boots in a row are a chain.
use Rattle.std.proofs.Common.{◌≡◌, ◌⊎◌, inl, inr, ℕ, zero, suc, ◌+◌, Bool, true, false, List, [], ◌∷◌, ◌++◌, refl, sym, ap, ◌∙◌, subst, append-nil, arith}
use Rattle.std.specs.Prelude.{Option, Some, None, IfSome, if◌then◌else◌}
use Rattle.std.specs.List.{slice_get}
use Rattle.device_model.specs.declared.calls.Event.{Event}
use Rattle.device_model.specs.declared.calls.Event.TheVariants.{Start, End, Pause, Loss}
use Rattle.io_model.specs.Source.{Content}
use Rattle.io_model.specs.Source.Content.{Told}
use Rattle.io_model.specs.MemSource.{Shelf}
use Rattle.script_names.specs.declared.site.Site.{Site}
use Rattle.flow_words.specs.Power.{ArePowered}
use Rattle.flow_words.specs.Words.{Callees}
use Rattle.record_codec.specs.declared.entry.Db.{Db}
use Rattle.record_codec.specs.Held.{position_of}
use Rattle.slot_store.specs.Slots.{May}
use Rattle.device_mem.specs.MemState.{MemState}
use Rattle.client_words.specs.declared.command.Command.{Command}
use Rattle.trace_check.specs.declared.note.Deed.{Deed}
use Rattle.trace_check.specs.declared.note.Deed.TheVariants.{Install}
use Rattle.trace_check.specs.declared.note.Note.{Note}
use Rattle.trace_check.specs.declared.note.NoteEnd.{NoteEnd}
use Rattle.trace_check.specs.declared.note.NoteEnd.TheVariants.{Nothing, Halted}
use Rattle.trace_check.specs.Follows.{Did, callees, without_loss, powered, Follows, begins, none_noted, notes_none, not_begun, GoesOn, Linked, Chain}
use Rattle.trace_check.proofs.Exact.{did-powered}
use Rattle.trace_check.proofs.Judging.{loss-last}
use Rattle.client_top.specs.declared.status.Status.{Status}
use Rattle.client_top.specs.declared.status.Status.TheVariants.{PowerOff}
use Rattle.client_top.specs.Answers.{end_of}
use Rattle.client_top.specs.Notes.{deed_of, end_noted}
use Rattle.client_top.specs.NoteHeads.{callees_in, HasLists, deployed, untold, not_begun as cut_off}
use Rattle.client_top.proofs.Noted.{boot-noted, lists-kept, unnoted-same}
use Rattle.lab.specs.declared.runs.BootRun.{BootRun}
use Rattle.lab.specs.Path.{Step, Path, stays, goes, is_off, asked_of}
use Rattle.lab.specs.Campaign.{Campaigned}
use Rattle.lab.specs.Noted.{IsNoteOf, Noted, none, one, looks, unmoved, LedNoted}

-- ---- without the loss

quiet : (events : List Event) → ArePowered events → without_loss events ≡ events
quiet [] h = refl
quiet (Start c ∷ []) h = refl
quiet (End a ∷ []) h = refl
quiet (Pause s ∷ []) h = refl
quiet (Loss ∷ []) h = absurd h.0
quiet (e ∷ f ∷ events) h = ap (λ (l : List Event). e ∷ l) (quiet (f ∷ events) h.1)

powered-quiet : (e : NoteEnd) (events : List Event) → ArePowered events → powered e events ≡ events
powered-quiet Halted events h = quiet events h
powered-quiet e events h = refl

off-halts : (s : Status) → is_off s ≡ true → end_noted (end_of s) ≡ Halted
off-halts PowerOff h = refl
off-halts s h = absurd cc

unlost : (off : Bool) (e : NoteEnd) (all events : List Event) → (off ≡ true → e ≡ Halted) → ArePowered events → all ≡ events ++ (if off then Loss ∷ [] else []) → powered e all ≡ events
unlost true e all events halts h are = ap (λ (k : NoteEnd). powered k all) (halts refl) ∙ ap without_loss are ∙ loss-last events Loss refl
unlost false e all events halts h are = ap (powered e) (are ∙ append-nil events) ∙ powered-quiet e events h

-- ---- one boot

-- a note goes on from this database
record Onto (site : Site) (m : Db) (note : Note) : Type 0 where
  from : note.head.from ≡ position_of m
  lists : (note.head.deed ≡ Install) ⊎ ((note.end ≡ Nothing) ⊎ (callees note.head ≡ callees_in site m))

module _ (site : Site) (content : Content) {c m : Db} {run : BootRun} {note : Note} (step : Step site content c run m) (n : IsNoteOf site c run m note) where
  follows : Follows note (position_of m)
  follows =
      let did = boot-noted (asked_of site content run.command) run.command c m step.events (end_of run.status) note.head refl step.boot n.head in
      let mute = did-powered note.head step.events (end_noted (end_of run.status)) (position_of m) did in
      let same : powered note.end note.events.events ≡ step.events =
      ap (λ (l : List Event). powered note.end l) n.events ∙ ap (λ (e : NoteEnd). powered e run.events.events) n.end
      ∙ unlost (is_off run.status) (end_noted (end_of run.status)) run.events.events step.events (off-halts run.status) mute step.journal in
      subst (λ (l : List Event). Did note.head l note.end (position_of m)) (sym same) (subst (λ (e : NoteEnd). Did note.head step.events e (position_of m)) (sym n.end) did)

  onto-lists : HasLists site c (end_of run.status) m note.head → (note.head.deed ≡ Install) ⊎ ((note.end ≡ Nothing) ⊎ (callees note.head ≡ callees_in site c))
  onto-lists (deployed k) = elim (lists-kept (asked_of site content run.command) run.command c note.head.deed refl n.head.deed step.boot) [
    | inl i ↦ inl i
    | inr kept ↦ inr (inr (k ∙ kept))
  ]
  onto-lists (untold free) = inr (inl (n.end ∙ ap end_noted free))
  onto-lists (cut_off i cut same) = inl i

  onto : Onto site c note
  onto = record { from = n.head.from; lists = onto-lists n.head.lists }

  by-lists : {next : Note} → HasLists site c (end_of run.status) m note.head → Onto site m next → GoesOn note (position_of m) next
  by-lists (untold free) o = record { from = o.from; lists = inl (none_noted (n.end ∙ ap end_noted free)) }
  by-lists (cut_off i cut same) o = record { from = o.from; lists = inl (not_begun i (n.end ∙ ap end_noted cut) (ap position_of same ∙ sym n.head.from)) }
  by-lists (deployed k) o = record {
    from = o.from;
    lists = elim o.lists [
      | inl i ↦ inl (begins i)
      | inr (inl free) ↦ inl (notes_none free)
      | inr (inr h) ↦ inr (ap (λ (w : Callees). w.kinds) (h ∙ sym k), ap (λ (w : Callees). w.brought) (h ∙ sym k))
    ];
  }

  linked : (next : Option Note) → IfSome next (Onto site m) → Linked note next
  linked None o = record { position = position_of m; follows = follows; goes_on = tt }
  linked (Some next) o = record { position = position_of m; follows = follows; goes_on = by-lists n.head.lists o }

-- ---- boots in a row

more : (note : Note) (notes : List Note) → Linked note (slice_get notes 0) → Chain notes → Chain (note ∷ notes)
more note notes l chain zero x is = let it : note ≡ x = cc in subst (λ (y : Note). Linked y (slice_get notes 0)) it l
more note notes l chain (suc i) x is = let next : suc (i + 1) ≡ suc i + 1 = omega arith in subst (λ (k : ℕ). Linked x (slice_get (note ∷ notes) k)) next (chain i x is)

no-note : Chain []
no-note i x is = absurd cc

module _ (site : Site) (content : Content) where
  first-onto : {c d : Db} {runs : List BootRun} {notes : List Note} → Noted site content c runs d notes → IfSome (slice_get notes 0) (Onto site c)
  first-onto none = tt
  first-onto (one step n rest) = onto site content step n
  first-onto (looks {c = c} {m = m} {run = run} {notes = notes} step free rest) =
      subst (λ (x : Db). IfSome (slice_get notes 0) (Onto site x)) (unnoted-same (asked_of site content run.command) run.command c m step.events (end_of run.status) refl free step.boot) (first-onto rest)
  first-onto (unmoved {notes = notes} step cut same rest) = subst (λ (x : Db). IfSome (slice_get notes 0) (Onto site x)) same (first-onto rest)

  chained : {c d : Db} {runs : List BootRun} {notes : List Note} → Noted site content c runs d notes → Chain notes
  chained none = no-note
  chained (one {note = note} {notes = notes} step n rest) = more note notes (linked site content step n (slice_get notes 0) (first-onto rest)) (chained rest)
  chained (looks step free rest) = chained rest
  chained (unmoved step cut same rest) = chained rest

  -- the boots that were noted are a path
  pathed : {c d : Db} {runs : List BootRun} {notes : List Note} → Noted site content c runs d notes → Path site content c runs d
  pathed none = stays
  pathed (one step n rest) = goes step (pathed rest)
  pathed (looks step free rest) = goes step (pathed rest)
  pathed (unmoved step cut same rest) = goes step (pathed rest)

  -- ---- each path has notes

  note_of : Db → BootRun → Db → Deed → Note
  note_of c run m deed = record {
    head = record { deed = deed; from = position_of c; kinds = (callees_in site m).kinds; scripts = (callees_in site m).brought; site = (callees_in site m).own };
    events = run.events;
    end = end_noted (end_of run.status);
  }

  is-note : (c m : Db) (run : BootRun) (deed : Deed) → deed_of run.command ≡ Some deed → IsNoteOf site c run m (note_of c run m deed)
  unfolding note_of
  is-note c m run deed is = record { head = record { deed = is; from = refl; lists = deployed refl }; events = refl; end = refl }

  adding : {c m d : Db} {run : BootRun} {runs : List BootRun} → Step site content c run m → ((notes : List Note) × Noted site content m runs d notes) → (o : Option Deed) → deed_of run.command ≡ o → ((notes : List Note) × Noted site content c (run ∷ runs) d notes)
  adding step rest None is = (rest.0, looks step is rest.1)
  adding {c = c} {m = m} {run = run} step rest (Some deed) is = (note_of c run m deed ∷ rest.0, one step (is-note c m run deed is) rest.1)

  noted-so : {c d : Db} {runs : List BootRun} → Path site content c runs d → ((notes : List Note) × Noted site content c runs d notes)
  noted-so stays = ([], none)
  noted-so (goes {run = run} step path) = adding step (noted-so path) (deed_of run.command) refl

-- ---- as laws

pub are-chain : (site : Site) (content : Content) (c d : Db) (runs : List BootRun) (notes : List Note) → Noted site content c runs d notes → Chain notes
are-chain site content c d runs notes h = chained site content h

pub are-path : (site : Site) (content : Content) (c d : Db) (runs : List BootRun) (notes : List Note) → Noted site content c runs d notes → Path site content c runs d
are-path site content c d runs notes h = pathed site content h

pub are-noted : (site : Site) (content : Content) (c d : Db) (runs : List BootRun) → Path site content c runs d → ((notes : List Note) × Noted site content c runs d notes)
are-noted site content c d runs path = noted-so site content path

pub campaign-noted : (site : Site) (boots : List Command) (old new : MemState) (source source' : Shelf) (runs : List BootRun) (d : Db) → Campaigned site boots old new source source' runs → May new.device.disk d → LedNoted site (Told source.tree) old.device.disk runs d
campaign-noted site boots old new source source' runs d campaign may =
    let leads = campaign.reached d may in
    let notes = noted-so site (Told source.tree) leads.path in
    record { from = leads.from; may = leads.may; notes = notes.0; noted = notes.1; chain = chained site (Told source.tree) notes.1 }
