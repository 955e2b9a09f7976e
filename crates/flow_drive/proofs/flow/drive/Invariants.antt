use Rattle.std.proofs.Common.{◌≡◌, ◌≤◌, ◌+◌, ◌*◌, true, IsTrue}
use Rattle.device_model.specs.declared.device.TheConstants.{STATE_EVENTS}
use Rattle.flow_table.specs.declared.position.Position.{Position}
use Rattle.flow_table.specs.Valid.{is_valid}
use Rattle.record_codec.specs.declared.entry.Entry.{Entry}
use Rattle.record_codec.specs.declared.entry.Db.TheVariants.{Full}
use Rattle.slot_store.specs.Kept.{IsOf}
use Rattle.slot_store.specs.Put.{IsFull, moved}
use Rattle.flow_drive.specs.Drive.{at}
use Rattle.flow_drive.proofs.Falls.{remaining}
use Rattle.flow_drive.proofs.Going.{SoFar}
use Rattle.flow_drive.proofs.flow.drive.Given as goal

abbrev pub invariant-states : goal.invariant-states
invariant-states g l =
    let means = g.D.Device.means in
    record {
      on : (means l.device).on ≡ true;
      plan : g.D.Device.plan l.device ≡ g.D.Device.plan l.fn.device;
      valid : IsTrue (is_valid l.position);
      full : IsFull l.store.db;
      is_of : IsOf l.store (means l.device).disk;
      room : STATE_EVENTS * remaining l.position + 1 ≤ (means l.device).room;
      so_far : (e : Entry) → l.fn.store.db ≡ Full e → ((p : Position) → moved p l.store.db ≡ at e p) × SoFar l.site e l.stop l.fn.entry l.position (means l.fn.device) (means l.device);
    }

abbrev pub decreases-states : goal.decreases-states
decreases-states g l = remaining l.position
