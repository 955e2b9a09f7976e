use Rattle.std.proofs.Common.{refl}
use Rattle.admit.proofs.Spared.{spares_none, reads_none}
use Rattle.admit.proofs.chain.admit.Goals as goal

pub returns-in-Err-clause-payloads : goal.returns-in-Err-clause-payloads
returns-in-Err-clause-payloads g c =
    let content = g.S.Source.content c.args.source.now in
    let given = g.S.Source.given c.args.source.now in
    reads_none content given given (spares_none content given given refl)

pub returns-in-Err-admit_head-clause-payloads : goal.returns-in-Err-admit_head-clause-payloads
returns-in-Err-admit_head-clause-payloads g c = reads_none (g.S.Source.content c.args.source.now) (g.S.Source.given c.args.source.now) (g.S.Source.given c.admit_head.new.source) c.in-Err-admit_head.ensures.payloads
