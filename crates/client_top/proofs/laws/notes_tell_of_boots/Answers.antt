use Rattle.client_top.proofs.Noted.{boot-noted}
use Rattle.client_top.proofs.laws.notes_tell_of_boots.Goals as goal

pub returns : goal.returns
returns c = boot-noted
