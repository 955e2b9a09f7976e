use Rattle.std.proofs.Common.{refl, subst, arith}
use Rattle.io_model.specs.Source.{Content}
use Rattle.client_top.specs.Did.{Shelf, Obeyed}
use Rattle.client_top.specs.Finds.{Request}
use Rattle.client_top.proofs.Before.{between, still-on}
use Rattle.client_top.proofs.Heads.{same-room}
use Rattle.client_top.proofs.Noting.{traced-by, failed-whole, failed-cut}
use Rattle.client_top.proofs.trace.trace.Goals as goal

pub answer-status-requires-clause-on : goal.answer-status-requires-clause-on
answer-status-requires-clause-on g c =
    let asked : Request = record { command = c.args.asked; site = c.args.site.now; content = g.S.Source.content c.args.source.now } in
    let found = c.in-Ok.ensures.looks asked c.requires.deed refl refl in
    still-on (g.D.Device.means c.args.device.now) (g.D.Device.means c.look.new.device) (between c.args.deed asked.site asked.content (g.D.Device.means c.args.device.now) (g.D.Device.means c.look.new.device) c.in-Ok.head found.0)

pub answer-status-requires-clause-room : goal.answer-status-requires-clause-room
answer-status-requires-clause-room g c =
    let asked : Request = record { command = c.args.asked; site = c.args.site.now; content = g.S.Source.content c.args.source.now } in
    let found = c.in-Ok.ensures.looks asked c.requires.deed refl refl in
    let room = same-room (g.D.Device.means c.args.device.now) (g.D.Device.means c.look.new.device) (between c.args.deed asked.site asked.content (g.D.Device.means c.args.device.now) (g.D.Device.means c.look.new.device) c.in-Ok.head found.0) in
    omega (arith, c.requires.room, room)

pub returns-in-Ok-clause-traced : goal.returns-in-Ok-clause-traced
returns-in-Ok-clause-traced g c =
    let asked : Request = record { command = c.args.asked; site = c.args.site.now; content = g.S.Source.content c.args.source.now } in
    let shelf0 : Shelf = record { faults = g.S.Source.faults c.args.source.now; given = g.S.Source.given c.args.source.now } in
    let shelf1 : Shelf = record { faults = g.S.Source.faults c.look.new.source; given = g.S.Source.given c.look.new.source } in
    let shelf2 : Shelf = record { faults = g.S.Source.faults c.answer-status.new.source; given = g.S.Source.given c.answer-status.new.source } in
    let old = g.D.Device.means c.args.device.now in
    let mid = g.D.Device.means c.look.new.device in
    let new = g.D.Device.means c.answer-status.new.device in
    let before = g.O.Sink.means c.args.out.now in
    let out = g.O.Sink.means c.answer-status.new.out in
    let behind = g.O.Sink.means c.add_note.new.out in
    let found = c.in-Ok.ensures.looks asked c.requires.deed refl refl in
    let obeyed = subst (λ (x : Content). Obeyed (record { command = c.args.asked; site = c.args.site.now; content = x }) mid new shelf1 shelf2 before out c.answer-status.result) c.in-Ok.ensures.tree c.answer-status.ensures.obeyed in
    traced-by asked c.args.deed c.requires.deed old mid new c.in-Ok.head found.0 shelf0 shelf1 shelf2 found.1 before out behind c.answer-status.result c.add_note.result c.requires.fresh obeyed c.add_note.ensures

pub returns-in-Ok-tell-clause-traced : goal.returns-in-Ok-tell-clause-traced
returns-in-Ok-tell-clause-traced g c =
    let asked : Request = record { command = c.args.asked; site = c.args.site.now; content = g.S.Source.content c.args.source.now } in
    let shelf0 : Shelf = record { faults = g.S.Source.faults c.args.source.now; given = g.S.Source.given c.args.source.now } in
    let shelf1 : Shelf = record { faults = g.S.Source.faults c.look.new.source; given = g.S.Source.given c.look.new.source } in
    failed-whole asked c.args.deed (g.D.Device.means c.args.device.now) (g.D.Device.means c.look.new.device) shelf0 shelf1 (g.O.Sink.means c.args.out.now) (g.O.Sink.means c.tell.new.out) c.in-Err.status
    (c.in-Err.ensures.looks asked c.requires.deed refl refl) c.in-Ok-tell.ensures

pub returns-in-Err-tell-clause-traced : goal.returns-in-Err-tell-clause-traced
returns-in-Err-tell-clause-traced g c =
    let asked : Request = record { command = c.args.asked; site = c.args.site.now; content = g.S.Source.content c.args.source.now } in
    let shelf0 : Shelf = record { faults = g.S.Source.faults c.args.source.now; given = g.S.Source.given c.args.source.now } in
    let shelf1 : Shelf = record { faults = g.S.Source.faults c.look.new.source; given = g.S.Source.given c.look.new.source } in
    failed-cut asked c.args.deed (g.D.Device.means c.args.device.now) (g.D.Device.means c.look.new.device) shelf0 shelf1 (g.O.Sink.means c.args.out.now) (g.O.Sink.means c.tell.new.out) c.in-Err.status
    (c.in-Err.ensures.looks asked c.requires.deed refl refl) c.in-Err-tell.ensures
