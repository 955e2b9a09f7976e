use Rattle.std.proofs.Common.{◌≡◌, ◌-◌, ◌≤◌, length}
use Rattle.file_module.specs.Contents.{WhenTold}
use Rattle.file_module.specs.Copying.{piece}
use Rattle.file_module.proofs.compare.has_saved_bytes.Given as goal

abbrev pub invariant-pieces : goal.invariant-pieces
invariant-pieces g l =
    let means = g.P.Place.means in
    record {
      still : means l.place ≡ means l.fn.place;
      past : 1 ≤ l.at;
      within : l.at ≤ l.size;
      same : WhenTold (means l.fn.place) (piece 1 (l.at - 1) (means l.fn.place).saved ≡ piece 0 (l.at - 1) (means l.fn.place).target);
      buffer : length l.buffer ≡ length l.fn.buffer;
      beside : length l.beside ≡ 4096;
    }

abbrev pub decreases-pieces : goal.decreases-pieces
decreases-pieces g l = l.size - l.at
