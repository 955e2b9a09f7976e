use Rattle.std.proofs.Common.{◌≡◌, ◌∙◌, sym}
use Rattle.std.proofs.lemmas.Slice.Eq.{bytes_eq-Decides}
use Rattle.std.proofs.lemmas.Bool.{both_ways}
use Rattle.work_folder.proofs.Copied.{wrong_one, all_one, some_one, sum_told}
use Rattle.work_folder.proofs.Steps.{adds_copy}
use Rattle.work_folder.proofs.copy.copy_line.Goals as goal

pub returns-then-is-clause-done : goal.returns-then-is-clause-done
returns-then-is-clause-done g c =
    let means = g.D.Device.means in
    let copied = c.in-Ok.ensures.file in
    let same : c.args.line.now.sum ≡ c.in-Ok.found = (bytes_eq-Decides c.args.line.now.sum c.in-Ok.found).0 (sym c.is.ensures ∙ c.if-is.true) in
    adds_copy (g.S.Source.content c.args.source.now) c.args.part c.args.path.now copied.bytes c.args.n c.args.line.now.sum (means c.args.device.now) (means c.copy_file.new.device) (record { summed = sym copied.summed ∙ sym same; same = copied.same }) copied.added

pub returns-then-is-clause-copied : goal.returns-then-is-clause-copied
returns-then-is-clause-copied g c =
    let content = g.S.Source.content c.args.source.now in
    let given = g.S.Source.given in
    let copied = c.in-Ok.ensures.file in
    all_one content c.args.line.now c.args.n c.in-Ok.found (given c.args.source.now) (given c.copy_file.new.source) c.in-Ok.ensures.given (sum_told content c.args.n c.in-Ok.found copied.bytes copied.summed copied.same) ((bytes_eq-Decides c.args.line.now.sum c.in-Ok.found).0 (sym c.is.ensures ∙ c.if-is.true))

pub returns-in-Err-clause-stopped : goal.returns-in-Err-clause-stopped
returns-in-Err-clause-stopped g c = some_one (g.S.Source.content c.args.source.now) c.args.line.now c.args.n c.in-Err.fault (g.S.Source.given c.args.source.now) (g.S.Source.given c.copy_file.new.source) c.in-Err.ensures.stopped c.in-Err.ensures.differs

pub returns-clause-stopped : goal.returns-clause-stopped
returns-clause-stopped g c =
    let content = g.S.Source.content c.args.source.now in
    let given = g.S.Source.given in
    let copied = c.in-Ok.ensures.file in
    rw (c.twin.ensures, c.twin-2.ensures) (wrong_one content c.args.line.now c.args.n c.in-Ok.found (given c.args.source.now) (given c.copy_file.new.source) c.in-Ok.ensures.given (sum_told content c.args.n c.in-Ok.found copied.bytes copied.summed copied.same) (λ e. both_ways _ (sym c.is.ensures ∙ c.if-is.false) ((bytes_eq-Decides c.args.line.now.sum c.in-Ok.found).1 e)))
