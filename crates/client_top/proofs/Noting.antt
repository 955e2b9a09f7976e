-- A command behind its look, with its note behind its text.
use Rattle.std.proofs.Common.{◌≡◌, ⊎_elim, inl, inr, ℕ, Bool, true, false, List, [], ◌++◌, refl, sym, ap, ◌∙◌, subst, append-nil}
use Rattle.std.specs.Prelude.{if◌then◌else◌, Option, Some, None, IfSome, Result, Ok, Err}
use Rattle.std.specs.Option.{option_and_then}
use Rattle.device_model.specs.declared.calls.Event.{Event}
use Rattle.device_model.specs.Disk.{Disk, IsTold, area_of}
use Rattle.device_model.specs.State.{State}
use Rattle.device_model.specs.How.{How, Through, Passed}
use Rattle.device_model.proofs.Passes.{journal-through}
use Rattle.io_model.specs.Source.{Content, Tree, When}
use Rattle.io_model.specs.Source.Content.{Told, Untold}
use Rattle.io_model.specs.Sink.{Written, Puts, Writes, WritesFront}
use Rattle.io_model.specs.declared.sink.SinkFault.{SinkFault as Fault}
use Rattle.record_codec.specs.declared.entry.Db.{Db}
use Rattle.record_codec.specs.Spelling.{IsRight, IfFull}
use Rattle.slot_store.specs.Slots.{Stands, stood}
use Rattle.trace_check.specs.declared.note.Deed.{Deed}
use Rattle.trace_check.specs.declared.note.NoteEnd.{NoteEnd}
use Rattle.trace_check.specs.declared.note.NoteEnd.TheVariants.{Nothing, Ended, Waits, RebootNeeded, Halted}
use Rattle.trace_check.specs.declared.note.NoteHead.{NoteHead}
use Rattle.trace_check.specs.Form.{has_text}
use Rattle.trace_check.specs.Texts.{note_text}
use Rattle.trace_check.proofs.Puts.{writes-both, front-first, front-second}
use Rattle.client_top.specs.declared.status.Status.{Status}
use Rattle.client_top.specs.declared.status.Status.TheVariants.{Done, DiskFault, SourceFault, NoMemory, SinkFault, PowerOff, BadStore, Usage}
use Rattle.client_top.specs.declared.status.Good.TheVariants.{Committed, Waiting, RolledBack, Shown, Admitted, Simulated}
use Rattle.client_top.specs.Answers.{row_of, end_of, how_of, text_of, reads, Due}
use Rattle.client_top.specs.Boot.{Boot}
use Rattle.client_top.specs.Did.{Did, Path, Shelf, Obeyed, Said, whole, cut}
use Rattle.client_top.specs.Finds.{Request}
use Rattle.client_top.specs.Looks.{Looked, read, bad, IsHeadOf, OnlyLooks, FailsLook, AddsNote, written, status_by}
use Rattle.client_top.specs.Notes.{end_noted}
use Rattle.client_top.specs.Traced.{Traced, NotesBoot, IsNoteOf, IsDue, DoesAs, as_asked, looks, none, one, deed_noted, head_of, is_noted, noted_text, text_by, text_due, with_lists}
use Rattle.flow_words.specs.Pieces.{End}
use Rattle.client_top.proofs.Before.{Between, between, did-then, same-events, no-events, noted-reads, clash, one-answer}
use Rattle.client_top.proofs.Formed.{formed}

-- ---- what was written

through : (status : Status) → is_noted status ≡ true → how_of status ≡ Through
through DiskFault h = absurd cc
through PowerOff h = absurd cc
through (Done Committed) h = refl
through (Done Waiting) h = refl
through (Done RolledBack) h = refl
through (Done Shown) h = refl
through (Done Admitted) h = refl
through (Done Simulated) h = refl
through status h = refl

by-test : (b : Bool) (x y : List ℕ) → b ≡ false → (if b then x else y) ≡ y
by-test true x y h = absurd cc
by-test false x y h = refl

-- events matter where a boot is noted
written-same : (found : Option NoteHead) (u v : List Event) (status : Status) → (is_noted status ≡ true → u ≡ v) → written found u status ≡ written found v status
written-same None u v status same = refl
written-same (Some head) u v status same = by (is_noted status) refl
  where
    by : (b : Bool) → is_noted status ≡ b → written (Some head) u status ≡ written (Some head) v status
    by true is = ap (λ (w : List Event). written (Some head) w status) (same is)
    by false is = by-test (is_noted status) _ [] is ∙ sym (by-test (is_noted status) _ [] is)

written-unnoted : (found : Option NoteHead) (events : List Event) (status : Status) → is_noted status ≡ false → written found events status ≡ []
written-unnoted None events status h = refl
written-unnoted (Some head) events status h = by-test (is_noted status) _ [] h

lists-deed : (e : NoteEnd) (head : NoteHead) → (with_lists e head).deed ≡ head.deed
lists-deed Nothing head = refl
lists-deed (Ended o) head = refl
lists-deed Waits head = refl
lists-deed RebootNeeded head = refl
lists-deed Halted head = refl

-- what is written is nothing, or a note of the boot
note-of : (deed : Deed) (found : Option NoteHead) (events : List Event) (status : Status) → IfSome found (λ head. IsHeadOf deed head) → IsNoteOf deed events (end_noted (end_of status)) (written found events status)
note-of deed None events status is = none
note-of deed (Some head) events status is = by (is_noted status) (has_text full events e) refl
  where
    e : NoteEnd
    e = end_noted (end_of status)

    full : NoteHead
    full = with_lists e head

    by : (a b : Bool) → has_text full events e ≡ b → IsNoteOf deed events e (if a then (if b then note_text full events e else []) else [])
    by true true has = one full (lists-deed e head ∙ is.of_deed) has
    by true false has = none
    by false b has = none

-- a note that has its text is the one that is due
written-due : (head : NoteHead) (events : List Event) (status : Status) → (is_noted status ≡ true → has_text (with_lists (end_noted (end_of status)) head) events (end_noted (end_of status)) ≡ true) → written (Some head) events status ≡ text_by (Some head) events status
written-due head events status has = by (is_noted status) refl
  where
    e : NoteEnd
    e = end_noted (end_of status)

    full : NoteHead
    full = with_lists e head

    by : (a : Bool) → is_noted status ≡ a → (if a then (if has_text full events e then note_text full events e else []) else []) ≡ (if a then noted_text head events e else [])
    by true is = ap (λ (b : Bool). if b then note_text full events e else []) (has is)
    by false is = refl

due-is : (status : Status) (due text : List ℕ) → text ≡ due → IsDue status due text
due-is SourceFault due text h = inr h
due-is status due text h = h

-- ---- over what is told

told-area : (disk : Option Disk) → IsTold disk → (area : Option (List ℕ)) → area_of disk ≡ area → area ≡ None → ⊥
told-area None told area is gone = told
told-area (Some d) told area is gone = absurd (some-none (is ∙ gone))
  where
    some-none : {x : List ℕ} → Some x ≡ None → ⊥
    some-none h = cc

one-db : (area : Option (List ℕ)) (c d : Db) → (area ≡ None → ⊥) → IfSome area (λ a. Stands a c) → IfSome area (λ a. Stands a d) → c ≡ d
one-db None c d told x y = absurd (told refl)
one-db (Some a) c d told x y = by (stood a) x y
  where
    by : (r : Result Db ℕ) → r ≡ Ok c → r ≡ Ok d → c ≡ d
    by (Ok z) x y = cc
    by (Err z) x y = cc

no-fault : (area : Option (List ℕ)) (c : Db) (o : ℕ) → (area ≡ None → ⊥) → IfSome area (λ a. Stands a c) → IfSome area (λ a. stood a ≡ Err o) → ⊥
no-fault None c o told x y = told refl
no-fault (Some a) c o told x y = one-answer (stood a) c o x y

-- where no database was read, nothing is noted, unless the area stands for none
unread : (asked : Request) (area : Option (List ℕ)) (status : Status) (c : Db) → reads asked.command ≡ true → (area ≡ None → ⊥) → IfSome area (λ a. Stands a c) → Due asked None area status → is_noted status ≡ false
unread asked area (Usage fault) c is told stands due = absurd (clash (reads asked.command) is due.whose)
unread asked area (BadStore o) c is told stands due = absurd (no-fault area c o told stands due.rests.1)
unread asked area DiskFault c is told stands due = refl
unread asked area PowerOff c is told stands due = refl
unread asked area NoMemory c is told stands due = refl
unread asked area SinkFault c is told stands due = refl
unread asked area (Done Simulated) c is told stands due = absurd cc
unread asked area status c is told stands due = absurd due.rests

module _ (asked : Request) (d : Deed) (noted : deed_noted true asked.command ≡ Some d) (t : Tree) (content : asked.content ≡ Told t) (disk : Option Disk) (told : IsTold disk) where
  no-area : area_of disk ≡ None → ⊥
  no-area = told-area disk told (area_of disk) refl

  -- the store and the tree were looked at
  due-read : (from : Option Db) (status : Status) (events : List Event) (c : Db) (found : Option NoteHead) → IfFull IsRight c → IfSome (area_of disk) (λ a. Stands a c) → found ≡ head_of d asked.site t c → IfSome found (λ head. IsHeadOf d head)
      → Due asked from (area_of disk) status → IfSome from (λ x. IfFull IsRight x × IfSome (area_of disk) (λ a. Stands a x)) → ((x : Db) → from ≡ Some x → (y : Db) × Boot asked x events (end_of status) y)
      → written found events status ≡ text_due d asked.site t from events status
  due-read None status events c found right stands is head due reads boot =
      written-unnoted found events status (unread asked (area_of disk) status c (noted-reads d asked.command noted) no-area stands due)
  due-read (Some x) status events c found right stands is head due reads boot =
      let same : c ≡ x = one-db (area_of disk) c x no-area stands reads.1 in
      ap (λ (f : Option NoteHead). written f events status) (is ∙ ap (head_of d asked.site t) same)
      ∙ by (head_of d asked.site t x) refl (subst (λ (f : Option NoteHead). IfSome f (λ head. IsHeadOf d head)) (is ∙ ap (head_of d asked.site t) same) head)
    where
      by : (f : Option NoteHead) → head_of d asked.site t x ≡ f → IfSome f (λ head. IsHeadOf d head) → written f events status ≡ text_by f events status
      by None h is_head = refl
      by (Some one_head) h is_head = written-due one_head events status (λ due_here. formed asked t content x reads.0 d noted one_head is_head h status due_here (boot x refl).1)

  -- the store is a record of none
  due-bad : (from : Option Db) (status : Status) (events : List Event) (o : ℕ) → IfSome (area_of disk) (λ a. stood a ≡ Err o) → IfSome from (λ x. IfFull IsRight x × IfSome (area_of disk) (λ a. Stands a x)) → [] ≡ text_due d asked.site t from events status
  due-bad None status events o wrong reads = refl
  due-bad (Some x) status events o wrong reads = absurd (no-fault (area_of disk) x o no-area reads.1 wrong)

-- ---- the whole

path-boot : (asked : Request) (from : Option Db) (events : List Event) (end : Option End) → Path asked from events end → (x : Db) → from ≡ Some x → (y : Db) × Boot asked x events end y
path-boot asked None events end path x is = absurd cc
path-boot asked (Some c) events end path x is = subst (λ (z : Db). (y : Db) × Boot asked z events end y) (some-is is) path
  where
    some-is : Some c ≡ Some x → c ≡ x
    some-is h = cc

module _ (asked : Request) (d : Deed) (noted : deed_noted true asked.command ≡ Some d) (old new : State) (shelf shelf' : Shelf) (from : Option Db) (status : Status) (did : Did asked from status old new shelf shelf') where
  due-by : (mid : State) (found : Option NoteHead) → Looked d asked.site asked.content old mid found → IsTold old.disk → (content : Content) → asked.content ≡ content → When content (λ t. IsDue status (text_due d asked.site t from did.events status) (written found did.events status))
  due-by mid found looked told (Untold count) is = tt
  due-by mid found (read store m right begins) told (Told t) is =
      due-is status _ _
      (due-read asked d noted t is old.disk told from status did.events store.db found right m.is.stands (subst (λ (x : Content). When x (λ u. found ≡ head_of d asked.site u store.db)) is begins.told) begins.head
      did.answer.due did.answer.read (path-boot asked from did.events (end_of status) did.database.path))
  due-by mid found (bad offset wrote adds b) told (Told t) is = due-is status _ _ (due-bad asked d noted t is old.disk told from status did.events offset b.fault did.answer.read)

  head-of : (mid : State) (found : Option NoteHead) → Looked d asked.site asked.content old mid found → IfSome found (λ head. IsHeadOf d head)
  head-of mid found (read store m right begins) = begins.head
  head-of mid found (bad offset wrote adds b) = tt

  notes-by : (mid : State) (found : Option NoteHead) → Looked d asked.site asked.content old mid found → NotesBoot d asked old.disk from did.events status (written found did.events status)
  notes-by mid found looked = record {
    of_boot = note-of d found did.events status (head-of mid found looked);
    due = λ told. due-by mid found looked told asked.content refl;
  }

said-by : (meant : Status) (text note : List ℕ) (before out behind : Written) (found : Option NoteHead) (journal : List Event) (status result : Status) → (status ≡ meant → written found journal status ≡ note) → Said meant text before out status → AddsNote (written found journal status) out status behind result → Said meant (text ++ note) before behind result
said-by meant text note before out behind found journal status result same (whole w) adds = by adds.put adds.puts adds.is
  where
    by : (r : Result (Unit {0}) Fault) → Puts out (written found journal meant) r behind → result ≡ status_by r meant → Said meant (text ++ note) before behind result
    by (Ok u) puts result_is =
        subst (λ (s : Status). Said meant (text ++ note) before behind s) (sym result_is)
        (whole (writes-both before out behind text note w (subst (λ (l : List ℕ). Writes out l behind) (same refl) puts)))
    by (Err e) puts result_is =
        subst (λ (s : Status). Said meant (text ++ note) before behind s) (sym result_is)
        (cut (front-second before out behind text note w (subst (λ (l : List ℕ). WritesFront out l behind) (same refl) puts)))
said-by meant text note before out behind found journal status result same (cut f) adds = by adds.put adds.is
  where
    front : WritesFront before (text ++ note) behind
    front = subst (λ (w : Written). WritesFront before (text ++ note) w) (sym (adds.still refl)) (front-first before out text note f)

    by : (r : Result (Unit {0}) Fault) → result ≡ status_by r SinkFault → Said meant (text ++ note) before behind result
    by (Ok u) result_is = subst (λ (s : Status). Said meant (text ++ note) before behind s) (sym result_is) (cut front)
    by (Err e) result_is = subst (λ (s : Status). Said meant (text ++ note) before behind s) (sym result_is) (cut front)

module _ (asked : Request) (d : Deed) (noted : deed_noted true asked.command ≡ Some d) (old mid new : State) (found : Option NoteHead) (looked : Looked d asked.site asked.content old mid found)
    (shelf0 shelf1 shelf2 : Shelf) (spares : OnlyLooks d asked.content shelf0 shelf1) (before out behind : Written) (status result : Status) (fresh : old.journal ≡ [])
    (obeyed : Obeyed asked mid new shelf1 shelf2 before out status) (adds : AddsNote (written found new.journal status) out status behind result) where
  abbrev b : Between old mid
  b = between d asked.site asked.content old mid found looked

  abbrev did : Did asked obeyed.from obeyed.meant old new shelf0 shelf2
  did = did-then asked d noted old mid new b shelf0 shelf1 shelf2 spares obeyed.from obeyed.meant obeyed.did

  happened : is_noted obeyed.meant ≡ true → new.journal ≡ did.events
  happened h =
      let went = record mid { work = obeyed.did.device.ready } in
      journal-through obeyed.did.events went new (subst (λ (how : How). Passed obeyed.did.events how went new) (through obeyed.meant h) obeyed.did.device.passed)
      ∙ ap (λ (l : List Event). l ++ obeyed.did.events) (no-events old mid b ∙ fresh)
      ∙ sym (same-events asked d noted old mid new b shelf0 shelf1 shelf2 spares obeyed.from obeyed.meant obeyed.did)

  pub traced-by : Traced (Some d) asked old new shelf0 shelf2 before behind result
  traced-by = record {
    from = obeyed.from;
    meant = obeyed.meant;
    note = written found did.events obeyed.meant;
    done = asked;
    does = as_asked;
    did = did;
    notes = notes-by asked d noted old new shelf0 shelf2 obeyed.from obeyed.meant did mid found looked;
    said = said-by obeyed.meant (text_of asked.command obeyed.from obeyed.meant) (written found did.events obeyed.meant) before out behind found new.journal status result
        (λ is. ap (written found new.journal) is ∙ written-same found new.journal did.events obeyed.meant happened) obeyed.said adds;
  }

-- ---- without a note

plain : {meant : Status} {text : List ℕ} {before behind : Written} {result : Status} → Said meant text before behind result → Said meant (text ++ []) before behind result
plain {meant} {text} {before} {behind} {result} said = subst (λ (l : List ℕ). Said meant l before behind result) (sym (append-nil text)) said

pub traced-none : {asked : Request} {old new : State} {shelf shelf' : Shelf} {before behind : Written} {result : Status} → Obeyed asked old new shelf shelf' before behind result → Traced None asked old new shelf shelf' before behind result
traced-none {asked} obeyed = record { from = obeyed.from; meant = obeyed.meant; note = []; done = asked; does = as_asked; did = obeyed.did; notes = refl; said = plain obeyed.said }

not-looks : {asked done : Request} {from : Option Db} {status : Status} → DoesAs None asked from status done → done ≡ asked
not-looks as_asked = refl
not-looks (looks c h is busy source) = absurd (none-some h)
  where
    none-some : {x : Deed} → None ≡ Some x → ⊥
    none-some h = cc

pub untraced : {asked : Request} {old new : State} {shelf shelf' : Shelf} {before behind : Written} {result : Status} → Traced None asked old new shelf shelf' before behind result → Obeyed asked old new shelf shelf' before behind result
untraced {asked} {old} {new} {shelf} {shelf'} {before} {behind} {result} t = record {
  from = t.from;
  meant = t.meant;
  did = subst (λ (r : Request). Did r t.from t.meant old new shelf shelf') (not-looks t.does) t.did;
  said = subst (λ (l : List ℕ). Said t.meant l before behind result) (ap (λ (l : List ℕ). text_of asked.command t.from t.meant ++ l) t.notes ∙ append-nil (text_of asked.command t.from t.meant)) t.said;
}

module _ (asked : Request) (d : Deed) (old new : State) (shelf shelf' : Shelf) (before behind : Written) (status : Status) (fails : FailsLook d asked status old new shelf shelf') where
  no-note : (t : Tree) → IsDue status (text_due d asked.site t fails.from fails.did.events status) []
  no-note t = ⊎_elim (λ h. due-is status _ [] (sym (undue (option_and_then (head_of d asked.site t) fails.from) h))) (λ h. subst (λ (s : Status). IsDue s (text_due d asked.site t fails.from fails.did.events s) []) (sym h) (inl refl)) fails.unnoted
    where
      undue : (f : Option NoteHead) → is_noted status ≡ false → text_by f fails.did.events status ≡ []
      undue None h = refl
      undue (Some head) h = by-test (is_noted status) _ [] h

  unnoted : NotesBoot d asked old.disk fails.from fails.did.events status []
  unnoted = record { of_boot = none; due = λ told. by asked.content }
    where
      by : (content : Content) → When content (λ t. IsDue status (text_due d asked.site t fails.from fails.did.events status) [])
      by (Untold count) = tt
      by (Told t) = no-note t

  failed : (result : Status) → Said status (row_of status).text before behind result → Traced (Some d) asked old new shelf shelf' before behind result
  failed result said = record {
    from = fails.from;
    meant = status;
    note = [];
    done = fails.done;
    does = fails.does;
    did = fails.did;
    notes = unnoted;
    said = plain (subst (λ (text : List ℕ). Said status text before behind result) (sym fails.text) said);
  }

  -- the look failed, which was told, or the sink failed too
  pub failed-whole : Writes before (row_of status).text behind → Traced (Some d) asked old new shelf shelf' before behind status
  failed-whole w = failed status (whole w)

  pub failed-cut : WritesFront before (row_of status).text behind → Traced (Some d) asked old new shelf shelf' before behind SinkFault
  failed-cut w = failed SinkFault (cut w)
