use Rattle.std.proofs.Common.{◌≡◌, ◌-◌, ◌≤◌, length}
use Rattle.file_module.specs.declared.answer.FileAct.TheVariants.{Done}
use Rattle.file_module.specs.Contents.{content, WhenTold}
use Rattle.file_module.specs.Answers.{TouchesFresh}
use Rattle.file_module.specs.Copying.{piece, AddsFresh}
use Rattle.file_module.proofs.copy.copy_slot.Given as goal

abbrev pub invariant-pieces : goal.invariant-pieces
invariant-pieces g l =
    let means = g.P.Place.means in
    record {
      touches : TouchesFresh Done (means l.fn.place) (means l.place);
      above : l.from ≤ l.at;
      within : l.at ≤ l.size;
      adds : WhenTold (means l.fn.place) (AddsFresh (piece l.from (l.at - l.from) (content l.slot (means l.fn.place))) (means l.fn.place) (means l.place));
      buffer : length l.buffer ≡ length l.fn.buffer;
    }

abbrev pub decreases-pieces : goal.decreases-pieces
decreases-pieces g l = l.size - l.at
