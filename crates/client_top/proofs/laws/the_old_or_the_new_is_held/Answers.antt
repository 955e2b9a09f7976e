use Rattle.client_top.proofs.HeldAfter.{holds}
use Rattle.client_top.proofs.laws.the_old_or_the_new_is_held.Goals as goal

pub returns : goal.returns
returns c = λ asked from d events end right boot. holds asked from d events end right boot
