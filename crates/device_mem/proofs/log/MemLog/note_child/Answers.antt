use Rattle.std.proofs.Common.{◌∙◌, ap, [], ◌∷◌, ◌++◌, arith}
use Rattle.device_model.specs.declared.calls.Call.{Call}
use Rattle.device_model.specs.declared.calls.Event.TheVariants.{Start, End}
use Rattle.device_mem.specs.Losses.{count_losses}
use Rattle.device_mem.proofs.Played.{fits_more, two, count_losses-append, events_of}
use Rattle.device_mem.proofs.log.MemLog.note_child.Goals as goal

pub invariant_of-self-clause-fits : goal.invariant_of-self-clause-fits
invariant_of-self-clause-fits c =
    let m = c.args.self.now in
    let first = events_of c.note.ensures ∙ ap (λ (k : Call). m.journal.events ++ Start k ∷ []) c.twin.ensures in
    fits_more m.plan.script m.plan.taken m.plan.started m.taken m.started c.taken_by-self.result c.count_one-self.result m.journal.events (Start c.args.call.now ∷ End c.args.answer ∷ []) c.note-2.new.journal.events m.fits
    (two (Start c.args.call.now) (End c.args.answer) m.journal.events c.note.new.journal.events c.note-2.new.journal.events first (events_of c.note-2.ensures))
    (c.requires.goes_on, c.requires.answer, (c.taken_by-self.ensures, c.count_one-self.ensures))

pub invariant_of-self-clause-losses_are : goal.invariant_of-self-clause-losses_are
invariant_of-self-clause-losses_are c =
    omega (arith, ap count_losses (events_of c.note-2.ensures), count_losses-append c.note.new.journal.events (End c.args.answer ∷ []), ap count_losses (events_of c.note.ensures), count_losses-append c.args.self.now.journal.events (Start c.twin.result ∷ []))
