use Rattle.std.proofs.Common.{◌∙◌, ℕ, List, [], ◌∷◌, refl, ap, codes}
use Rattle.provides_map.specs.Pairs.{get}
use Rattle.provides_map.specs.After.{artifact_name, artifact_group}
use Rattle.work_folder.specs.Rows.{or_nothing}
use Rattle.work_folder.specs.Adding.{value_file}
use Rattle.work_folder.proofs.Steps.{values_then, value_step}
use Rattle.work_folder.proofs.values.put_current.Goals as goal

pub returns-clause-done : goal.returns-clause-done
returns-clause-done g c =
    let means = g.D.Device.means in
    let k = c.args.k in
    let held = c.args.held.now in
    let device_type = c.args.site.now.device_type in
    let name = or_nothing (get held artifact_name) in
    let group = or_nothing (get held artifact_group) in
    let none = means c.args.device.now in
    let one = means c.put_value.new.device in
    let two = means c.put_value-2.new.device in
    let three = means c.put_value-3.new.device in
    let four = means c.put_value-4.new.device in
    let a = value_step k (codes "version") (codes "3") (codes "3") none one refl c.in_ok-put_value.ensures.done in
    let b = value_step k (codes "current_artifact_name") c.held_value.result.now name one two (c.held_value.ensures ∙ ap (λ (k : List ℕ). or_nothing (get held k)) c.name-artifact_name.ensures) c.in_ok-put_value-2.ensures.done in
    let d = value_step k (codes "current_artifact_group") c.held_value-2.result.now group two three (c.held_value-2.ensures ∙ ap (λ (k : List ℕ). or_nothing (get held k)) c.name-artifact_group.ensures) c.in_ok-put_value-3.ensures.done in
    let e = value_step k (codes "current_device_type") c.bytes.result.now device_type three four c.bytes.ensures.bytes c.in_ok-put_value-4.ensures.done in
    values_then (value_file k (codes "version") (codes "3") ∷ []) (value_file k (codes "current_artifact_name") name ∷ value_file k (codes "current_artifact_group") group ∷ value_file k (codes "current_device_type") device_type ∷ []) none one four a
    (values_then (value_file k (codes "current_artifact_name") name ∷ []) (value_file k (codes "current_artifact_group") group ∷ value_file k (codes "current_device_type") device_type ∷ []) one two four b
    (values_then (value_file k (codes "current_artifact_group") group ∷ []) (value_file k (codes "current_device_type") device_type ∷ []) two three four d e))
