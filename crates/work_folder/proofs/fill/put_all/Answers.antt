use Rattle.std.proofs.Common.{◌∙◌, ◌≡◌, ℕ, List, ◌++◌, length}
use Rattle.std.specs.List.{zip, filter_map}
use Rattle.manifest_sums.specs.declared.manifest.Line.{Line}
use Rattle.work_folder.specs.declared.groups.Group.{Group}
use Rattle.work_folder.specs.declared.groups.Group.TheVariants as group
use Rattle.admit.specs.Differing.{listed_of}
use Rattle.work_folder.specs.Rows.{Row, row_in, payloads_rows, headers_lines, group_lines}
use Rattle.work_folder.proofs.Copied.{all_then, some_then, some_front, all_of, some_of}
use Rattle.work_folder.proofs.Steps.{adds_then, adds_of}
use Rattle.work_folder.proofs.fill.put_all.Goals as goal

grouped : Group → List Line → List ℕ → List Row
grouped g lines numbers = filter_map (row_in g) (zip lines numbers)

pub returns-clause-done : goal.returns-clause-done
unfolding grouped
returns-clause-done g c =
    let means = g.D.Device.means in
    let content = g.S.Source.content in
    let plan = c.args.admitted.now in
    let source = content c.args.source.now in
    let lines = c.lines-lines.result.now in
    let numbers = c.as_slice-numbers.result.now in
    let same_lines : lines ≡ plan.manifest = c.lines-lines.ensures in
    let same_numbers : numbers ≡ plan.numbers = c.as_slice-numbers.ensures.items in
    let none = means c.args.device.now in
    let one = means c.put_payloads.new.device in
    let two = means c.put_group.new.device in
    let three = means c.put_group-2.new.device in
    let first = c.in-Ok.ensures.same in
    let second = c.in-Ok-put_group.ensures.same ∙ first in
    let trees = payloads_rows c.args.site.now c.args.current.now plan 0 plan.header.kinds in
    let payload = grouped group.Payload plan.manifest plan.numbers in
    let scripts = grouped group.Scripts plan.manifest plan.numbers in
    let e = adds_of (grouped group.Payload) source (content c.put_payloads.new.source) plan.manifest lines plan.numbers numbers one two first same_lines same_numbers c.in-Ok-put_group.ensures.done in
    let f = adds_of (grouped group.Scripts) source (content c.put_group.new.source) plan.manifest lines plan.numbers numbers two three second same_lines same_numbers c.in-Ok-put_group-2.ensures.done in
    adds_then source trees (payload ++ scripts) none one three c.in-Ok.ensures.done (adds_then source payload scripts one two three e f)

pub returns-in-Err-clause-stopped : goal.returns-in-Err-clause-stopped
returns-in-Err-clause-stopped g c =
    let content = g.S.Source.content in
    let given = g.S.Source.given in
    let plan = c.args.admitted.now in
    let source = content c.args.source.now in
    let listed = listed_of plan in
    let headers = headers_lines 0 (length plan.header.kinds) listed in
    let payload = group_lines group.Payload listed in
    let scripts = group_lines group.Scripts listed in
    some_front source headers (payload ++ scripts) c.in-Err.fault (given c.args.source.now) (given c.put_payloads.new.source) c.in-Err.ensures.stopped

pub returns-in-Err-put_group-clause-stopped : goal.returns-in-Err-put_group-clause-stopped
returns-in-Err-put_group-clause-stopped g c =
    let content = g.S.Source.content in
    let given = g.S.Source.given in
    let plan = c.args.admitted.now in
    let source = content c.args.source.now in
    let listed = listed_of plan in
    let headers = headers_lines 0 (length plan.header.kinds) listed in
    let payload = group_lines group.Payload listed in
    let scripts = group_lines group.Scripts listed in
    some_then source headers (payload ++ scripts) c.in-Err-put_group.fault (given c.args.source.now) (given c.put_payloads.new.source) (given c.put_group.new.source) c.in-Ok.ensures.copied (some_front source payload scripts c.in-Err-put_group.fault (given c.put_payloads.new.source) (given c.put_group.new.source) (some_of (group_lines group.Payload) c.in-Err-put_group.fault source (content c.put_payloads.new.source) plan c.lines-lines.result.now c.as_slice-numbers.result.now (given c.put_payloads.new.source) (given c.put_group.new.source) c.in-Ok.ensures.same c.lines-lines.ensures c.as_slice-numbers.ensures.items c.in-Err-put_group.ensures.stopped))

pub returns-in-Err-put_group-2-clause-stopped : goal.returns-in-Err-put_group-2-clause-stopped
returns-in-Err-put_group-2-clause-stopped g c =
    let content = g.S.Source.content in
    let given = g.S.Source.given in
    let plan = c.args.admitted.now in
    let source = content c.args.source.now in
    let listed = listed_of plan in
    let headers = headers_lines 0 (length plan.header.kinds) listed in
    let payload = group_lines group.Payload listed in
    let scripts = group_lines group.Scripts listed in
    some_then source headers (payload ++ scripts) c.in-Err-put_group-2.fault (given c.args.source.now) (given c.put_payloads.new.source) (given c.put_group-2.new.source) c.in-Ok.ensures.copied (some_then source payload scripts c.in-Err-put_group-2.fault (given c.put_payloads.new.source) (given c.put_group.new.source) (given c.put_group-2.new.source) (all_of (group_lines group.Payload) source (content c.put_payloads.new.source) plan c.lines-lines.result.now c.as_slice-numbers.result.now (given c.put_payloads.new.source) (given c.put_group.new.source) c.in-Ok.ensures.same c.lines-lines.ensures c.as_slice-numbers.ensures.items c.in-Ok-put_group.ensures.copied) (some_of (group_lines group.Scripts) c.in-Err-put_group-2.fault source (content c.put_group.new.source) plan c.lines-lines.result.now c.as_slice-numbers.result.now (given c.put_group.new.source) (given c.put_group-2.new.source) (c.in-Ok-put_group.ensures.same ∙ c.in-Ok.ensures.same) c.lines-lines.ensures c.as_slice-numbers.ensures.items c.in-Err-put_group-2.ensures.stopped))

pub returns-clause-copied : goal.returns-clause-copied
returns-clause-copied g c =
    let content = g.S.Source.content in
    let given = g.S.Source.given in
    let plan = c.args.admitted.now in
    let source = content c.args.source.now in
    let listed = listed_of plan in
    let headers = headers_lines 0 (length plan.header.kinds) listed in
    let payload = group_lines group.Payload listed in
    let scripts = group_lines group.Scripts listed in
    all_then source headers (payload ++ scripts) (given c.args.source.now) (given c.put_payloads.new.source) (given c.put_group-2.new.source) c.in-Ok.ensures.copied (all_then source payload scripts (given c.put_payloads.new.source) (given c.put_group.new.source) (given c.put_group-2.new.source) (all_of (group_lines group.Payload) source (content c.put_payloads.new.source) plan c.lines-lines.result.now c.as_slice-numbers.result.now (given c.put_payloads.new.source) (given c.put_group.new.source) c.in-Ok.ensures.same c.lines-lines.ensures c.as_slice-numbers.ensures.items c.in-Ok-put_group.ensures.copied) (all_of (group_lines group.Scripts) source (content c.put_group.new.source) plan c.lines-lines.result.now c.as_slice-numbers.result.now (given c.put_group.new.source) (given c.put_group-2.new.source) (c.in-Ok-put_group.ensures.same ∙ c.in-Ok.ensures.same) c.lines-lines.ensures c.as_slice-numbers.ensures.items c.in-Ok-put_group-2.ensures.copied))
