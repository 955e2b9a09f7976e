use Rattle.client_top.specs.Answers.{end_of}
use Rattle.client_top.proofs.Looking.{no-folder, no-events, no-work, no-more}
use Rattle.client_top.proofs.laws.looking_changes_nothing.Goals as goal

pub returns : goal.returns
returns c = λ asked from status old new source source_after did looks. (
  no-events asked from did.events (end_of status) looks did.database.path,
  no-work did.events new.on did.device.ready old.work new.work (no-events asked from did.events (end_of status) looks did.database.path) (did.device.kept (no-folder asked from looks)) did.device.passed.work,
  λ told d may. no-more asked from did.events (end_of status) old.disk d looks (did.database.came told d may),
)
