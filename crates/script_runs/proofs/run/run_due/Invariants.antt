use Rattle.std.proofs.Common.{◌≡◌, ◌≤◌, ◌+◌, ◌*◌, length, true}
use Rattle.script_names.specs.Left.{left}
use Rattle.flow_words.specs.Scripts.{run}
use Rattle.flow_words.proofs.Reach.{Reaches}
use Rattle.script_runs.proofs.run.run_due.Given as goal

abbrev pub invariant-loop-script : goal.invariant-loop-script
invariant-loop-script g l =
    let means = g.D.Device.means in
    record {
      on : (means l.device).on ≡ true;
      plan : g.D.Device.plan l.device ≡ g.D.Device.plan l.fn.device;
      so_far : Reaches (run (left l.fn.due) l.mode) (means l.fn.device) (run (left l.script-iterator) l.mode) (means l.device);
      room : 92 * length (left l.script-iterator) + 1 ≤ (means l.device).room;
      taken : (means l.fn.device).room + 92 * length (left l.script-iterator) ≤ (means l.device).room + 92 * length (left l.fn.due);
    }
