use Rattle.std.proofs.Common.{refl}
use Rattle.admit.proofs.Spared.{spares_none, reads_none}
use Rattle.work_folder.specs.Rows.{rows_of, copied_of}
use Rattle.work_folder.proofs.Copied.{some_nothing}
use Rattle.work_folder.proofs.Payloads.{all_payloads, some_payloads, stopped_after}
use Rattle.work_folder.proofs.Places.{rows_apart}
use Rattle.work_folder.proofs.Filled.{stands}
use Rattle.work_folder.proofs.fill.prepare.Goals as goal

pub returns-clause-folder : goal.returns-clause-folder
returns-clause-folder g c =
    let means = g.D.Device.means in
    let plan = c.args.admitted.now in
    let rows = rows_of c.args.site.now c.args.current.now plan in
    stands (g.S.Source.content c.args.source.now) rows (rows_apart c.args.site.now c.args.current.now plan c.requires.of_source.distinct) (means c.args.device.now) (means c.clear.new.device) (means c.put_all.new.device) (means c.sync.new.device) c.in-Ok.ensures.done c.in-Ok-put_all.ensures.done c.in-Ok-sync.ensures.done

pub returns-in-Err-clause-stopped : goal.returns-in-Err-clause-stopped
returns-in-Err-clause-stopped g c =
    let given = g.S.Source.given c.args.source.now in
    some_nothing (g.S.Source.content c.args.source.now) (copied_of c.args.admitted.now) c.in-Err.fault given given c.in-Err.ensures.cause refl

pub returns-in-Err-sync-clause-stopped : goal.returns-in-Err-sync-clause-stopped
returns-in-Err-sync-clause-stopped g c = stopped_after (g.S.Source.content c.args.source.now) (copied_of c.args.admitted.now) c.in-Err-sync.fault (g.S.Source.given c.args.source.now) (g.S.Source.given c.put_all.new.source) c.in-Err-sync.ensures.cause c.in-Ok-put_all.ensures.copied

pub returns-in-Err-clause-payloads_in_part : goal.returns-in-Err-clause-payloads_in_part
returns-in-Err-clause-payloads_in_part g c =
    let content = g.S.Source.content c.args.source.now in
    let given = g.S.Source.given c.args.source.now in
    reads_none content given given (spares_none content given given refl)

pub returns-in-Err-put_all-clause-payloads_in_part : goal.returns-in-Err-put_all-clause-payloads_in_part
returns-in-Err-put_all-clause-payloads_in_part g c = some_payloads (g.S.Source.content c.args.source.now) c.args.admitted.now c.requires.of_source c.in-Err-put_all.fault (g.S.Source.given c.args.source.now) (g.S.Source.given c.put_all.new.source) c.in-Err-put_all.ensures.stopped

pub returns-in-Err-sync-clause-payloads_in_part : goal.returns-in-Err-sync-clause-payloads_in_part
returns-in-Err-sync-clause-payloads_in_part g c =
    let content = g.S.Source.content c.args.source.now in
    let given = g.S.Source.given in
    some_payloads content c.args.admitted.now c.requires.of_source c.in-Err-sync.fault (given c.args.source.now) (given c.put_all.new.source) (stopped_after content (copied_of c.args.admitted.now) c.in-Err-sync.fault (given c.args.source.now) (given c.put_all.new.source) c.in-Err-sync.ensures.cause c.in-Ok-put_all.ensures.copied)

pub returns-clause-payloads : goal.returns-clause-payloads
returns-clause-payloads g c = all_payloads (g.S.Source.content c.args.source.now) c.args.admitted.now c.requires.of_source (g.S.Source.given c.args.source.now) (g.S.Source.given c.put_all.new.source) c.in-Ok-put_all.ensures.copied
