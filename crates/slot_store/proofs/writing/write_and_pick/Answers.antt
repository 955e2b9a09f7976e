use Rattle.std.proofs.Common.{◌≡◌, ◌∙◌, inl, inr, [], ◌∷◌, length, ap, subst}
use Rattle.device_model.specs.Disk.{ChangesOnly}
use Rattle.device_model.specs.State.{State, after_write, after_sync}
use Rattle.slot_store.proofs.Disks.{on-ok}
use Rattle.slot_store.proofs.writing.write_and_pick.Goals as goal

pub returns-in-Err-clause-leaves : goal.returns-in-Err-clause-leaves
returns-in-Err-clause-leaves g c = inl c.write_synced.ensures.leaves

pub returns-clause-ok : goal.returns-clause-ok
returns-clause-ok g c =
    let old = g.D.Device.means c.args.device.now in
    let mid = g.D.Device.means c.write_synced.new.device in
    let new = g.D.Device.means c.write_synced-2.new.device in
    on-ok c.write_synced-2.result (new ≡ after_sync (after_write c.args.selector (c.args.number ∷ []) mid)) (new ≡ after_sync (after_write c.args.selector (c.args.number ∷ []) (after_sync (after_write c.args.at c.args.bytes.now old))))
    (λ (e : new ≡ after_sync (after_write c.args.selector (c.args.number ∷ []) mid)). e ∙ ap (λ (s : State). after_sync (after_write c.args.selector (c.args.number ∷ []) s)) c.in-Ok.ensures.ok)
    c.write_synced-2.ensures.ok

pub returns-clause-leaves : goal.returns-clause-leaves
returns-clause-leaves g c =
    let new = (g.D.Device.means c.write_synced-2.new.device).disk in
    inr (
      subst (λ (s : State). ChangesOnly c.args.at (length c.args.bytes.now) (g.D.Device.means c.args.device.now).disk s.disk) c.in-Ok.ensures.ok c.write_synced.ensures.leaves,
      subst (λ (s : State). ChangesOnly c.args.selector 1 s.disk new) c.in-Ok.ensures.ok c.write_synced-2.ensures.leaves,
    )
