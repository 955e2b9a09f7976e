use Rattle.std.proofs.Common.{◌≡◌, ℕ, ◌+◌, Bool, false, cond, drop, subst, ◌∙◌, arith}
use Rattle.flow_table.specs.declared.table.Heard.TheVariants.{Failed, Fine}
use Rattle.flow_words.specs.Course.{done}
use Rattle.flow_words.specs.Words.{is_failed, questions, together}
use Rattle.flow_words.proofs.Reach.{Reaches}
use Rattle.flow_words.proofs.Payloads.{one-stop, one-more}
use Rattle.flow_drive.proofs.payloads.ask_all.Goals as goal

pub returns-in-Off-clause-ran : goal.returns-in-Off-clause-ran
returns-in-Off-clause-ran g c =
    one-stop c.args.kinds.now c.args.query c.loop-k.so_far c.loop-k.k _ c.loop-k-test.true c.index-kinds-k.is c.loop-k.invariant.so_far c.in-Off.ensures.ran

pub loop-k-preserved : goal.loop-k-preserved
loop-k-preserved g c =
    let kinds = c.args.kinds.now in
    let heard = c.in-Heard.heard in
    let good : is_failed heard ≡ false = cc in
    record {
      on = c.in-Heard.ensures.ran.stretch.passed.ends.on;
      plan = c.in-Heard.ensures.plan ∙ c.loop-k.invariant.plan;
      so_far = rw c.together-so_far.ensures
          (subst (λ (b : Bool). Reaches (questions 0 kinds c.args.query Fine) (g.D.Device.means c.args.device.now) (cond b (done Failed) (questions (c.loop-k.k + 1) (drop (c.loop-k.k + 1) kinds) c.args.query (together c.loop-k.so_far heard))) (g.D.Device.means c.ask_one.new.device)) good
          (one-more kinds c.args.query c.loop-k.so_far c.loop-k.k _ c.loop-k-test.true c.index-kinds-k.is c.loop-k.invariant.so_far c.in-Heard.ensures.ran));
      room = omega arith;
    }
