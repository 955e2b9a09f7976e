use Rattle.std.proofs.Common.{◌≡◌, ◌∙◌, sym}
use Rattle.trace_check.proofs.Chains.{take-same}
use Rattle.trace_check.proofs.Same.{bytes-alike}
use Rattle.trace_check.proofs.verdict.same_kinds.Goals as goal

pub loop-i-preserved : goal.loop-i-preserved
loop-i-preserved c =
    let same : c.bytes.result.now ≡ c.bytes-in-loop-i.result.now = bytes-alike c.bytes.result.now c.bytes-in-loop-i.result.now c.if-ne.ensures in
    let it : c.at.result.now ≡ c.at-in-loop-i.result.now = sym c.bytes.ensures.bytes ∙ same ∙ c.bytes-in-loop-i.ensures.bytes in
    take-same c.args.a.now c.args.b.now c.loop-i.i c.at.result.now c.at-in-loop-i.result.now c.at.ensures c.at-in-loop-i.ensures it c.loop-i.invariant
