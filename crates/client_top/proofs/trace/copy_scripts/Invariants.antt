use Rattle.std.proofs.Common.{◌≡◌, take}
use Rattle.client_top.proofs.trace.copy_scripts.Given as goal

abbrev pub invariant-loop-script : goal.invariant-loop-script
invariant-loop-script l = l.copy ≡ take l.script-index l.scripts
