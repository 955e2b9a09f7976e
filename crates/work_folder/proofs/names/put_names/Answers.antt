use Rattle.std.proofs.Common.{◌≡◌, ◌∙◌, List, [], ◌∷◌, ◌++◌, ℕ, subst, codes}
use Rattle.device_model.specs.declared.calls.Part.TheVariants.{Tree}
use Rattle.device_model.specs.Work.{with_bytes}
use Rattle.device_model.specs.State.{after_work}
use Rattle.device_model.specs.How.{Through}
use Rattle.work_folder.specs.Rows.{payload_names}
use Rattle.work_folder.specs.Folder.{lines_of}
use Rattle.work_folder.proofs.Above.{all_above_nothing, fewer_above}
use Rattle.work_folder.proofs.Listing.{Listed-none, Listed-more, Listed-all}
use Rattle.work_folder.proofs.Steps.{adds_names, touches_then}
use Rattle.work_folder.proofs.names.put_names.Goals as goal

pub names-init : goal.names-init
names-init g c =
    let means = g.D.Device.means in
    let told = c.in_ok-append.ensures in
    record {
      listed = Listed-none (payload_names c.args.k c.args.lines.now) (Tree c.args.k) (codes "header/files") (means c.args.device.now) (means c.append.new.device) (all_above_nothing c.args.k c.args.lines.now)
          (subst (λ (p : List ℕ). means c.append.new.device ≡ after_work (with_bytes (Tree c.args.k) p []) (means c.args.device.now)) c.name-path.ensures told.done);
      touches = told.touches;
      ready = told.ready;
      plan = told.plan;
      path = c.name-path.ensures;
    }

pub names-smaller : goal.names-smaller
names-smaller g c = fewer_above (payload_names c.args.k c.args.lines.now) c.names.last.now c.in-Some.next.now c.in-Some.ensures

pub names-preserved : goal.names-preserved
names-preserved g c =
    let means = g.D.Device.means in
    let told = c.in_ok-put_name.ensures in
    let inv = c.names.invariant in
    let next = c.in-Some.next.now in
    let old = means c.args.device.now in
    let mid = means c.names.device in
    let new = means c.put_name.new.device in
    record {
      listed = Listed-more (payload_names c.args.k c.args.lines.now) c.names.last.now next (Tree c.args.k) (codes "header/files") old mid new inv.listed c.in-Some.ensures
          (subst (λ (p : List ℕ). new ≡ after_work (with_bytes (Tree c.args.k) p (next ++ 10 ∷ [])) mid) inv.path told.done);
      touches = touches_then Through old mid new inv.touches told.touches;
      ready = told.ready;
      plan = told.plan ∙ inv.plan;
      path = inv.path;
    }

pub returns-clause-done : goal.returns-clause-done
returns-clause-done g c = λ content.
    let means = g.D.Device.means in
    let names = payload_names c.args.k c.args.lines.now in
    let listed = c.names.invariant.listed in
    let old = means c.args.device.now in
    let now = means c.names.device in
    adds_names content (Tree c.args.k) (codes "header/files") (lines_of listed.done) names old now (Listed-all names c.names.last.now c.names.last.now (Tree c.args.k) (codes "header/files") old now now listed c.in_default.ensures) listed.added
