use Rattle.std.proofs.Common.{ap, refl, [], ◌∷◌, arith}
use Rattle.device_model.specs.declared.calls.Event.TheVariants.{Pause}
use Rattle.device_mem.specs.Losses.{count_losses}
use Rattle.device_mem.proofs.Played.{fits_more, count_losses-append, events_of}
use Rattle.device_mem.proofs.log.MemLog.note_pause.Goals as goal

pub invariant_of-self-clause-fits : goal.invariant_of-self-clause-fits
invariant_of-self-clause-fits c =
    let m = c.args.self.now in
    fits_more m.plan.script m.plan.taken m.plan.started m.taken m.started m.taken m.started m.journal.events (Pause c.args.seconds ∷ []) c.note.new.journal.events m.fits (events_of c.note.ensures) (refl, refl)

pub invariant_of-self-clause-losses_are : goal.invariant_of-self-clause-losses_are
invariant_of-self-clause-losses_are c = omega (arith, ap count_losses (events_of c.note.ensures), count_losses-append c.args.self.now.journal.events (Pause c.args.seconds ∷ []))
