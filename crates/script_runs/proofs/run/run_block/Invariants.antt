use Rattle.std.proofs.Common.{◌≡◌, ◌≤◌, ◌+◌, ◌*◌, true}
use Rattle.flow_words.specs.Scripts.{block}
use Rattle.flow_words.proofs.Reach.{Reaches}
use Rattle.script_runs.proofs.run.run_block.Given as goal

abbrev pub invariant-tries : goal.invariant-tries
invariant-tries g l =
    let means = g.D.Device.means in
    record {
      few : l.left ≤ 30;
      on : (means l.device).on ≡ true;
      plan : g.D.Device.plan l.device ≡ g.D.Device.plan l.fn.device;
      so_far : Reaches (block l.fn.name 30) (means l.fn.device) (block l.name l.left) (means l.device);
      room : (means l.fn.device).room + 3 * l.left ≤ (means l.device).room + 90;
    }

abbrev pub decreases-tries : goal.decreases-tries
decreases-tries g l = l.left
