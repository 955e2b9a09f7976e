use Rattle.std.proofs.Common.{◌≡◌, ℕ, ◌≤◌, ◌+◌, ◌*◌, drop, true}
use Rattle.flow_table.specs.declared.table.Heard.TheVariants.{Fine}
use Rattle.flow_words.specs.Words.{questions}
use Rattle.flow_words.proofs.Reach.{Reaches}
use Rattle.flow_drive.proofs.payloads.ask_all.Given as goal

abbrev pub invariant-loop-k : goal.invariant-loop-k
invariant-loop-k g l =
    let means = g.D.Device.means in
    record {
      on : (means l.device).on ≡ true;
      plan : g.D.Device.plan l.device ≡ g.D.Device.plan l.fn.device;
      so_far : Reaches (questions 0 l.kinds l.query Fine) (means l.fn.device) (questions l.k (drop l.k l.kinds) l.query l.so_far) (means l.device);
      room : (means l.fn.device).room ≤ (means l.device).room + 2 * l.k;
    }
