use Rattle.std.proofs.Common.{rules, ◌≡◌, ◌∙◌, false}
use Rattle.std.specs.Prelude.{not}
use Rattle.admit.specs.Admit.{has_info}
use Rattle.admit.proofs.Payloads.{passed_one}
use Rattle.admit.proofs.fields.no_type_info.Goals as goal

pub loop-payload-preserved : goal.loop-payload-preserved
loop-payload-preserved c =
    let there : not (has_info c.args.heads.now c.loop-payload.payload) ≡ false = search rules in
    passed_one (λ k. not (has_info c.args.heads.now k)) c.loop-payload.payload c.args.count c.loop-payload-test.true there ∙ c.loop-payload.invariant
