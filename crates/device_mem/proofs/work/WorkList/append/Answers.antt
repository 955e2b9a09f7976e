use Rattle.device_mem.proofs.Appending.{append_at, append_behind, on_ok}
use Rattle.std.proofs.Common.{refl}
use Rattle.device_mem.proofs.work.WorkList.append.Goals as goal

pub returns-in-Some-clause-ok : goal.returns-in-Some-clause-ok
returns-in-Some-clause-ok c = on_ok c.extend.result (append_at c.args.part c.args.path.now c.args.bytes.now c.self.inside.files.items c.args.self.now c.in-Some.i c.index_mut.result.now c.extend.new.self (cc) (cc) (cc)) c.extend.ensures.ok

pub returns-clause-ok : goal.returns-clause-ok
returns-clause-ok c = on_ok c.push.result (append_behind c.args.part c.args.path.now c.args.bytes.now c.args.self.now c.args.self.now c.push.new.self c.in_ok-file.file refl (cc) c.in_ok-file.ensures) c.push.ensures.ok
