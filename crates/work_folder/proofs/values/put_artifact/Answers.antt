use Rattle.std.proofs.Common.{[], ◌∷◌, codes}
use Rattle.work_folder.specs.Rows.{or_nothing}
use Rattle.work_folder.specs.Adding.{value_file}
use Rattle.work_folder.proofs.Steps.{values_then, value_step}
use Rattle.work_folder.proofs.values.put_artifact.Goals as goal

pub returns-clause-done : goal.returns-clause-done
returns-clause-done g c =
    let means = g.D.Device.means in
    let k = c.args.k in
    let header = c.args.header.now in
    let none = means c.args.device.now in
    let one = means c.put_value.new.device in
    let two = means c.put_value-2.new.device in
    let three = means c.put_value-3.new.device in
    let a = value_step k (codes "header/artifact_name") c.bytes.result.now header.name none one c.bytes.ensures.bytes c.in_ok-put_value.ensures.done in
    let b = value_step k (codes "header/artifact_group") c.text_of.result.now (or_nothing header.group) one two c.text_of.ensures c.in_ok-put_value-2.ensures.done in
    let d = value_step k (codes "header/payload_type") c.bytes-2.result.now c.args.kind.now two three c.bytes-2.ensures.bytes c.in_ok-put_value-3.ensures.done in
    values_then (value_file k (codes "header/artifact_name") header.name ∷ []) (value_file k (codes "header/artifact_group") (or_nothing header.group) ∷ value_file k (codes "header/payload_type") c.args.kind.now ∷ []) none one three a
    (values_then (value_file k (codes "header/artifact_group") (or_nothing header.group) ∷ []) (value_file k (codes "header/payload_type") c.args.kind.now ∷ []) one two three b d)
