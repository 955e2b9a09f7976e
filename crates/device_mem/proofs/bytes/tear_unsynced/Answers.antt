use Rattle.std.proofs.Common.{◌≡◌, arith, subst, get_or, false}
use Rattle.device_mem.specs.declared.script.Tear.{Tear}
use Rattle.device_mem.specs.Tears.{torn_byte}
use Rattle.device_mem.proofs.Tearing.{torn_area-by}
use Rattle.device_mem.proofs.bytes.tear_unsynced.Goals as goal

pub returns-clause-refilled : goal.returns-clause-refilled
returns-clause-refilled c = record { same_length = c.loop-i.auto.area; bytes = c.loop-i.invariant.bytes; outside = c.loop-i.invariant.same }

pub returns-clause-torn : goal.returns-clause-torn
returns-clause-torn c =
    torn_area-by c.args.tear c.args.unsynced.now c.args.before.now c.args.area.now c.loop-i.area (omega (arith, c.requires.unsynced)) (omega (arith, c.requires.before)) c.loop-i.auto.area
    (λ k inside. subst (λ (t : Tear). get_or c.loop-i.area k 0 ≡ torn_byte t (get_or c.args.unsynced.now k false) (get_or c.args.before.now k 0) (get_or c.args.area.now k 0)) c.loop-i.invariant.tear (c.loop-i.invariant.torn k (omega (arith, c.loop-i.auto.area))))
