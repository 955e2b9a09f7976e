-- The room for events that a boot leaves.
use Rattle.std.proofs.Common.{◌≡◌, ℕ, [], ◌++◌, length, length-append, ap, ◌∙◌, arith}
use Rattle.std.specs.Prelude.{◌+◌, ◌≤◌}
use Rattle.device_model.specs.State.{State}
use Rattle.device_model.specs.How.{loss_at}
use Rattle.io_model.specs.Sink.{Written}
use Rattle.client_top.specs.declared.status.Status.{Status}
use Rattle.client_top.specs.Finds.{Request}
use Rattle.client_top.specs.Did.{Obeyed, Shelf}

-- what a journal took, it gives back where power comes on
pub roomy : {asked : Request} {old new : State} {shelf shelf' : Shelf} {before behind : Written} {result : Status} (n : ℕ) → Obeyed asked old new shelf shelf' before behind result → old.journal ≡ [] → n ≤ old.room → n ≤ new.room + length new.journal
roomy {old} {new} n o empty room =
    let passed = o.did.device.passed in
    let taken = o.did.events ++ loss_at new.on in
    let journal = ap length passed.journal ∙ length-append old.journal taken in
    let none = ap length empty in
    omega (arith, passed.room, journal, none, room)
