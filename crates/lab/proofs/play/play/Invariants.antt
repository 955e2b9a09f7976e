use Rattle.device_mem.specs.Mem.{mem_of}
use Rattle.lab.proofs.Playing.{Sofar}
use Rattle.lab.proofs.play.play.Given as goal

abbrev pub invariant-loop-i : goal.invariant-loop-i
invariant-loop-i l = Sofar l.fn.round l._i l.command (mem_of l.device) l.source
