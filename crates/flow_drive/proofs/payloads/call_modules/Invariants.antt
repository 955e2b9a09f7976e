use Rattle.std.proofs.Common.{◌≡◌, ℕ, ◌≤◌, ◌+◌, ◌*◌, drop, true}
use Rattle.flow_words.specs.Words.{modules}
use Rattle.flow_words.proofs.Reach.{Reaches}
use Rattle.flow_drive.proofs.payloads.call_modules.Given as goal

abbrev pub invariant-loop-k : goal.invariant-loop-k
invariant-loop-k g l =
    let means = g.D.Device.means in
    record {
      on : (means l.device).on ≡ true;
      plan : g.D.Device.plan l.device ≡ g.D.Device.plan l.fn.device;
      so_far : Reaches (modules 0 l.kinds l.state l.every true) (means l.fn.device) (modules l.k (drop l.k l.kinds) l.state l.every l.good) (means l.device);
      room : (means l.fn.device).room ≤ (means l.device).room + 2 * l.k;
    }
