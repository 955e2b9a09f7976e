-- What is written of a note behind an answer.
use Rattle.std.proofs.Common.{◌≡◌, ℕ, Bool, true, false, List, [], refl, sym, ap, subst}
use Rattle.std.specs.Prelude.{if◌then◌else◌, Some, Result, Ok}
use Rattle.device_model.specs.declared.calls.Event.{Event}
use Rattle.io_model.specs.Sink.{Written, Puts}
use Rattle.io_model.specs.declared.sink.SinkFault.{SinkFault as Fault}
use Rattle.trace_check.specs.declared.note.NoteEnd.{NoteEnd}
use Rattle.trace_check.specs.declared.note.NoteHead.{NoteHead}
use Rattle.trace_check.specs.Form.{has_text}
use Rattle.trace_check.specs.Texts.{note_text}
use Rattle.trace_check.specs.Told.{Tells}
use Rattle.trace_check.proofs.Puts.{writes-none}
use Rattle.client_top.specs.declared.status.Status.{Status}
use Rattle.client_top.specs.Answers.{end_of}
use Rattle.client_top.specs.Looks.{AddsNote, written, written_by, status_by}
use Rattle.client_top.specs.Notes.{end_noted}
use Rattle.client_top.specs.Traced.{is_noted, with_lists}

pub adds-nothing : (w : Written) (status : Status) → AddsNote [] w status w status
adds-nothing w status = record { put = Ok tt; puts = writes-none w; still = λ h. refl; is = refl }

pub adds-unnoted : (head : NoteHead) (events : List Event) (status : Status) (w : Written) → is_noted status ≡ false → AddsNote (written (Some head) events status) w status w status
adds-unnoted head events status w none =
    let e = end_noted (end_of status) in
    subst (λ (text : List ℕ). AddsNote text w status w status) (sym (ap (λ (b : Bool). if b then written_by (with_lists e head) events e else []) none)) (adds-nothing w status)

puts-by : (head : NoteHead) (events : List Event) (e : NoteEnd) (old new : Written) (r : Result (Unit {0}) Fault) (b : Bool) → has_text head events e ≡ b → Tells head events e old r new → Puts old (if b then note_text head events e else []) r new
puts-by head events e old new r true h t = t.whole h
puts-by head events e old new r false h t =
    let n = t.nothing h in
    subst (λ (x : Result (Unit {0}) Fault). Puts old [] x new) (sym n.0) (subst (λ (w : Written). Puts old [] (Ok tt) w) (sym n.1) (writes-none old))

-- the note was written, or the sink failed
pub adds-note : (head : NoteHead) (events : List Event) (status : Status) (e : NoteEnd) (old new : Written) (r : Result (Unit {0}) Fault) → is_noted status ≡ true → e ≡ end_noted (end_of status) → Tells (with_lists e head) events e old r new → AddsNote (written (Some head) events status) old status new (status_by r status)
adds-note head events status e old new r noted is t =
    let last = end_noted (end_of status) in
    let due = subst (λ (x : NoteEnd). Tells (with_lists x head) events x old r new) is t in
    let puts = puts-by (with_lists last head) events last old new r (has_text (with_lists last head) events last) refl due in
    subst (λ (text : List ℕ). AddsNote text old status new (status_by r status)) (sym (ap (λ (b : Bool). if b then written_by (with_lists last head) events last else []) noted))
    (record { put = r; puts = puts; still = λ h. absurd (both (is_noted status) noted h); is = refl })
  where
    both : (b : Bool) → b ≡ true → b ≡ false → ⊥
    both true h k = cc
    both false h k = cc
