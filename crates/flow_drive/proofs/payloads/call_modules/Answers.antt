use Rattle.std.proofs.Common.{◌≡◌, ℕ, ◌≤◌, ◌+◌, ◌*◌, true, false, arith}
use Rattle.flow_words.proofs.Payloads.{module-stop, module-good, module-bad}
use Rattle.flow_drive.proofs.payloads.call_modules.Goals as goal
use Rattle.flow_drive.proofs.payloads.call_modules.Goals.{in-Done, in-Failed+else-not-every}

pub returns-in-Off-clause-ran : goal.returns-in-Off-clause-ran
returns-in-Off-clause-ran g c =
    module-stop c.args.kinds.now c.args.state c.args.every c.loop-k.good c.loop-k.k _ c.loop-k-test.true c.index-kinds-k.is c.loop-k.invariant.so_far c.in-Off.ensures.ran

pub loop-k-preserved : goal.loop-k-preserved
loop-k-preserved g c = elim c.match-call_module.branch [
  | in-Done w ↦ record {
    on = w.in-Done.ensures.ran.stretch.passed.ends.on;
    plan = cc;
    so_far = rw w.good-is (module-good c.args.kinds.now c.args.state c.args.every c.loop-k.good c.loop-k.k _ c.loop-k-test.true c.index-kinds-k.is c.loop-k.invariant.so_far w.in-Done.ensures.ran);
    room = omega arith;
  }
  | in-Failed+else-not-every w ↦ record {
    on = w.in-Failed.ensures.ran.stretch.passed.ends.on;
    plan = cc;
    so_far = rw w.good-is (module-bad c.args.kinds.now c.args.state c.args.every c.loop-k.good c.loop-k.k _ c.loop-k-test.true c.index-kinds-k.is c.loop-k.invariant.so_far (cc) w.in-Failed.ensures.ran);
    room = omega arith;
  }
]
