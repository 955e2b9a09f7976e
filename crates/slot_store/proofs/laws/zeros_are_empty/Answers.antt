use Rattle.std.proofs.Common.{replicate}
use Rattle.slot_store.proofs.Zeros.{zeros-stand, zeros-sound}
use Rattle.slot_store.proofs.laws.zeros_are_empty.Goals as goal

pub returns-clause-stands : goal.returns-clause-stands
returns-clause-stands c = zeros-stand

pub returns-clause-sound : goal.returns-clause-sound
returns-clause-sound c = zeros-sound (replicate 266240 0) zeros-stand
