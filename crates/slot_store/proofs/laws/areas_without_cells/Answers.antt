use Rattle.slot_store.proofs.Zeros.{slot-says-all}
use Rattle.slot_store.proofs.laws.areas_without_cells.Goals as goal

pub returns : goal.returns
returns c = slot-says-all
