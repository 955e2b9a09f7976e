use Rattle.std.proofs.Common.{refl}
use Rattle.slot_store.specs.Slots.{slot_start, slot_size, cells_start, cell_offset, cell_size}
use Rattle.slot_store.proofs.laws.the_area_in_numbers.Goals as goal

pub returns-clause-slots : goal.returns-clause-slots
unfolding slot_start slot_size
returns-clause-slots c = (refl, refl, refl, refl)

pub returns-clause-cells : goal.returns-clause-cells
unfolding cells_start
returns-clause-cells c = (refl, refl, refl)

pub returns-clause-cell : goal.returns-clause-cell
unfolding cell_offset cell_size
returns-clause-cell c = (refl, refl, refl)

pub returns-clause-parities : goal.returns-clause-parities
unfolding slot_start cells_start cell_offset
returns-clause-parities c = (refl, refl, refl, refl, refl, refl)
