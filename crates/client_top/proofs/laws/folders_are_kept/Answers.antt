use Rattle.client_top.proofs.Kept.{kept}
use Rattle.client_top.proofs.laws.folders_are_kept.Goals as goal

pub returns : goal.returns
returns c = λ asked from status old new source source_after did busy. did.device.kept (kept asked.command asked.site asked.content from busy)
