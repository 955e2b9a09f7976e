use Rattle.std.proofs.Common.{◌++◌, map, refl}
use Rattle.admit.specs.Differing.{listed_of}
use Rattle.work_folder.specs.Rows.{header_rows, header_lines}
use Rattle.work_folder.specs.Adding.{current_files, artifact_files}
use Rattle.work_folder.proofs.Copied.{some_nothing}
use Rattle.work_folder.proofs.Steps.{adds_then, adds_values, value_row}
use Rattle.work_folder.proofs.trees.put_payload.Goals as goal

pub returns-in-Err-clause-stopped : goal.returns-in-Err-clause-stopped
returns-in-Err-clause-stopped g c =
    let given = g.S.Source.given c.args.source.now in
    some_nothing (g.S.Source.content c.args.source.now) (header_lines c.args.k (listed_of c.args.admitted.now)) c.in-Err.fault given given c.in-Err.ensures.cause refl

pub returns-in-Err-put_artifact-clause-stopped : goal.returns-in-Err-put_artifact-clause-stopped
returns-in-Err-put_artifact-clause-stopped g c =
    let given = g.S.Source.given c.args.source.now in
    some_nothing (g.S.Source.content c.args.source.now) (header_lines c.args.k (listed_of c.args.admitted.now)) c.in-Err-put_artifact.fault given given c.in-Err-put_artifact.ensures.cause refl

pub returns-in-Ok-put_headers-clause-done : goal.returns-in-Ok-put_headers-clause-done
returns-in-Ok-put_headers-clause-done g c =
    let means = g.D.Device.means in
    let source = g.S.Source.content c.args.source.now in
    let plan = c.args.admitted.now in
    let k = c.args.k in
    let none = means c.args.device.now in
    let one = means c.put_current.new.device in
    let two = means c.put_artifact.new.device in
    let three = means c.put_headers.new.device in
    let current = map value_row (current_files k c.args.site.now c.args.current.now) in
    let artifact = map value_row (artifact_files k plan.header c.args.kind.now) in
    let a = adds_values source (current_files k c.args.site.now c.args.current.now) none one c.in-Ok.ensures.done in
    let b = adds_values source (artifact_files k plan.header c.args.kind.now) one two c.in-Ok-put_artifact.ensures.done in
    adds_then source current (artifact ++ header_rows plan k) none one three a
    (adds_then source artifact (header_rows plan k) one two three b c.in-Ok-put_headers.ensures.done)
