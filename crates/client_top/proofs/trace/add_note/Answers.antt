use Rattle.std.proofs.Common.{List, sym, subst}
use Rattle.std.specs.Prelude.{Option, Some, Result}
use Rattle.device_model.specs.declared.calls.Event.{Event}
use Rattle.io_model.specs.declared.sink.SinkFault.{SinkFault as Fault}
use Rattle.trace_check.specs.declared.note.NoteHead.{NoteHead}
use Rattle.trace_check.specs.Told.{Tells}
use Rattle.client_top.specs.Looks.{AddsNote, written, status_by}
use Rattle.client_top.specs.Traced.{with_lists}
use Rattle.client_top.specs.declared.status.Status.TheVariants.{SinkFault}
use Rattle.client_top.proofs.Behind.{adds-nothing, adds-unnoted, adds-note}
use Rattle.client_top.proofs.trace.add_note.Goals as goal

pub returns-in_default : goal.returns-in_default
returns-in_default g c =
    let w = g.O.Sink.means c.args.out.now in
    let journal = (g.D.Device.means c.args.device.now).journal in
    subst (λ (h : Option NoteHead). AddsNote (written h journal c.args.status) w c.args.status w c.args.status) (sym c.in_default.is) (adds-nothing w c.args.status)

pub returns-in_default-end_noted : goal.returns-in_default-end_noted
returns-in_default-end_noted g c =
    let w = g.O.Sink.means c.args.out.now in
    let journal = (g.D.Device.means c.args.device.now).journal in
    subst (λ (h : Option NoteHead). AddsNote (written h journal c.args.status) w c.args.status w c.args.status) (sym c.in-Some.is)
    (adds-unnoted c.in-Some.head journal c.args.status w c.in_default-end_noted.ensures)

pub returns-in-Ok : goal.returns-in-Ok
returns-in-Ok g c =
    let old = g.O.Sink.means c.args.out.now in
    let new = g.O.Sink.means c.write_note.new.out in
    let journal = (g.D.Device.means c.args.device.now).journal in
    let e = c.in-Some-end_noted.end in
    let told = subst (λ (h : NoteHead). Tells h c.journal.result.now.events e old c.write_note.result new) c.with_lists-head.ensures c.write_note.ensures in
    let noted = adds-note c.in-Some.head journal c.args.status e old new c.write_note.result c.in-Some-end_noted.ensures.0 c.in-Some-end_noted.ensures.1 (subst (λ (w : List Event). Tells (with_lists e c.in-Some.head) w e old c.write_note.result new) c.journal.ensures told) in
    subst (λ (h : Option NoteHead). AddsNote (written h journal c.args.status) old c.args.status new c.args.status) (sym c.in-Some.is)
    (subst (λ (r : Result (Unit {0}) Fault). AddsNote (written (Some c.in-Some.head) journal c.args.status) old c.args.status new (status_by r c.args.status)) c.in-Ok.is noted)

pub returns : goal.returns
returns g c =
    let old = g.O.Sink.means c.args.out.now in
    let new = g.O.Sink.means c.write_note.new.out in
    let journal = (g.D.Device.means c.args.device.now).journal in
    let e = c.in-Some-end_noted.end in
    let told = subst (λ (h : NoteHead). Tells h c.journal.result.now.events e old c.write_note.result new) c.with_lists-head.ensures c.write_note.ensures in
    let noted = adds-note c.in-Some.head journal c.args.status e old new c.write_note.result c.in-Some-end_noted.ensures.0 c.in-Some-end_noted.ensures.1 (subst (λ (w : List Event). Tells (with_lists e c.in-Some.head) w e old c.write_note.result new) c.journal.ensures told) in
    subst (λ (h : Option NoteHead). AddsNote (written h journal c.args.status) old c.args.status new SinkFault) (sym c.in-Some.is)
    (subst (λ (r : Result (Unit {0}) Fault). AddsNote (written (Some c.in-Some.head) journal c.args.status) old c.args.status new (status_by r c.args.status)) c.in-Err.is noted)
