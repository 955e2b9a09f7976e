use Rattle.std.proofs.Common.{refl, sym, ◌∙◌, subst, arith}
use Rattle.record_codec.specs.declared.entry.Db.{Db}
use Rattle.slot_store.specs.Put.{IsFull}
use Rattle.flow_table.specs.declared.table.Heard.{Heard}
use Rattle.flow_table.proofs.Steps.{next_entered}
use Rattle.flow_words.specs.Course.{Course}
use Rattle.flow_words.specs.Stretch.{Finishes, Stops}
use Rattle.flow_words.specs.Pieces.{ends, waits}
use Rattle.flow_table.proofs.Positions.{running}
use Rattle.slot_store.proofs.Puts.{full-moved}
use Rattle.flow_drive.specs.declared.flow.DriveEnd.TheVariants as drive_end
use Rattle.flow_drive.proofs.Falls.{remaining-few, remaining-falls}
use Rattle.flow_drive.proofs.Going.{so-far-start, rests, reboots-there, lost-there, goes-further}
use Rattle.flow_drive.proofs.Turns.{still-of, same-word, moves-full, moves-at, turn-cut, turn-stands, ended-decided}
use Rattle.flow_drive.proofs.flow.drive.Goals as goal

pub states-init : goal.states-init
states-init g c = record {
  on = c.requires.on;
  plan = refl;
  valid = c.requires.valid;
  full = c.requires.entry;
  is_of = c.requires.of;
  room = omega (arith, c.requires.room, remaining-few c.args.entry c.requires.valid);
  so_far = λ e is. (moves-full e c.args.store.now.db is, so-far-start c.args.site.now e c.args.stop c.args.entry (g.D.Device.means c.args.device.now) c.requires.on);
}

pub returns-in-Err-clause-drove : goal.returns-in-Err-clause-drove
returns-in-Err-clause-drove g c = λ e is. rw c.cut_off.ensures
    (turn-cut c.args.site.now e c.args.stop c.args.entry c.states.position c.states.store.db (g.D.Device.means c.args.device.now) (g.D.Device.means c.states.device) (c.states.invariant.so_far e is)
    c.in-Err.down c.put.new.self (g.D.Device.means c.put.new.device) c.in-Err.ensures.wrote c.in-Err.ensures.any c.in-Err.ensures.sound)

pub returns-in-Idle-clause-decided : goal.returns-in-Idle-clause-decided
returns-in-Idle-clause-decided g c = ended-decided c.states.position c.states.invariant.valid c.in-Idle.is

pub returns-in-Idle-clause-drove : goal.returns-in-Idle-clause-drove
returns-in-Idle-clause-drove g c = λ e is.
    let old = g.D.Device.means c.args.device.now in
    let mid = g.D.Device.means c.put.new.device in
    let stood = turn-stands c.args.site.now e c.args.stop c.args.entry c.states.position c.states.store.db old (g.D.Device.means c.states.device) (c.states.invariant.so_far e is) c.put.new.self mid c.in-Ok.ensures.wrote c.in-Ok.ensures.ok c.in-Ok.ensures.sound in
    rests c.args.site.now e c.args.stop c.args.entry c.states.position c.put.new.self old mid stood (drive_end.Ended c.states.position.outcome) refl (ends c.in-Idle.is refl)

pub returns-in-Wait-clause-drove : goal.returns-in-Wait-clause-drove
returns-in-Wait-clause-drove g c = λ e is.
    let old = g.D.Device.means c.args.device.now in
    let mid = g.D.Device.means c.put.new.device in
    let stood = turn-stands c.args.site.now e c.args.stop c.args.entry c.states.position c.states.store.db old (g.D.Device.means c.states.device) (c.states.invariant.so_far e is) c.put.new.self mid c.in-Ok.ensures.wrote c.in-Ok.ensures.ok c.in-Ok.ensures.sound in
    rests c.args.site.now e c.args.stop c.args.entry c.states.position c.put.new.self old mid stood drive_end.Waits refl (waits c.in-Wait.is)

pub returns-in-Off-clause-drove : goal.returns-in-Off-clause-drove
returns-in-Off-clause-drove g c = λ e is.
    let old = g.D.Device.means c.args.device.now in
    let mid = g.D.Device.means c.put.new.device in
    let new = g.D.Device.means c.run_state.new.device in
    let here = c.states.position in
    let stood = turn-stands c.args.site.now e c.args.stop c.args.entry here c.states.store.db old (g.D.Device.means c.states.device) (c.states.invariant.so_far e is) c.put.new.self mid c.in-Ok.ensures.wrote c.in-Ok.ensures.ok c.in-Ok.ensures.sound in
    let word = same-word c.args.site.now c.in-Full.held e here here (sym c.in-Full.is ∙ c.db.ensures.value ∙ stood.rests.db) in
    lost-there c.args.site.now e c.args.stop c.args.entry here c.put.new.self old mid stood new (subst (λ (t : Course Heard). Stops t mid new) word c.in-Off.ensures.ran)

pub returns-in-Stop-clause-drove : goal.returns-in-Stop-clause-drove
returns-in-Stop-clause-drove g c = λ e is.
    let old = g.D.Device.means c.args.device.now in
    let mid = g.D.Device.means c.put.new.device in
    let new = g.D.Device.means c.run_state.new.device in
    let here = c.states.position in
    let stood = turn-stands c.args.site.now e c.args.stop c.args.entry here c.states.store.db old (g.D.Device.means c.states.device) (c.states.invariant.so_far e is) c.put.new.self mid c.in-Ok.ensures.wrote c.in-Ok.ensures.ok c.in-Ok.ensures.sound in
    let word = same-word c.args.site.now c.in-Full.held e here here (sym c.in-Full.is ∙ c.db.ensures.value ∙ stood.rests.db) in
    reboots-there c.args.site.now e c.args.stop c.args.entry here c.put.new.self old mid stood c.in-Heard.heard new (running here.state c.in_default.not-Idle c.in_default.not-Wait)
    (subst (λ (t : Course Heard). Finishes t c.in-Heard.heard mid new) word c.in-Heard.ensures.ran) (sym c.in-Stop.ensures)

pub states-smaller : goal.states-smaller
states-smaller g c = remaining-falls c.states.position c.in-Enter.entered c.in-Heard.heard c.args.stop c.in_default.not-Idle (sym c.in-Enter.ensures)

pub states-preserved : goal.states-preserved
states-preserved g c =
    let old = g.D.Device.means c.args.device.now in
    let mid = g.D.Device.means c.put.new.device in
    let new = g.D.Device.means c.run_state.new.device in
    let here = c.states.position in
    let falls = remaining-falls here c.in-Enter.entered c.in-Heard.heard c.args.stop c.in_default.not-Idle (sym c.in-Enter.ensures) in
    record {
      on = c.in-Heard.ensures.ran.stretch.passed.ends.on;
      plan = c.in-Heard.ensures.plan ∙ c.in-Ok.ensures.plan ∙ c.states.invariant.plan;
      valid = (next_entered here c.in-Enter.entered c.in-Heard.heard c.args.stop c.states.invariant.valid (sym c.in-Enter.ensures)).valid;
      full = subst (λ (x : Db). IsFull x) (sym c.in-Ok.ensures.ok.db) (full-moved here c.states.store.db c.states.invariant.full);
      is_of = still-of c.put.new.self mid.disk new.disk c.in-Ok.ensures.ok.is_of c.in-Heard.ensures.ran.stretch.disk;
      room = omega (arith, c.in-Ok.ensures.ok.room, c.in-Heard.ensures.room, c.states.invariant.room, falls);
      so_far = λ e is.
          let stood = turn-stands c.args.site.now e c.args.stop c.args.entry here c.states.store.db old (g.D.Device.means c.states.device) (c.states.invariant.so_far e is) c.put.new.self mid c.in-Ok.ensures.wrote c.in-Ok.ensures.ok c.in-Ok.ensures.sound in
          let word = same-word c.args.site.now c.in-Full.held e here here (sym c.in-Full.is ∙ c.db.ensures.value ∙ stood.rests.db) in (
            moves-at e here c.put.new.self.db stood.rests.db,
            goes-further c.args.site.now e c.args.stop c.args.entry here c.put.new.self old mid stood c.in-Heard.heard c.in-Enter.entered new (running here.state c.in_default.not-Idle c.in_default.not-Wait)
                (subst (λ (t : Course Heard). Finishes t c.in-Heard.heard mid new) word c.in-Heard.ensures.ran) (sym c.in-Enter.ensures),
          );
    }
