use Rattle.std.proofs.Common.{◌<◌, [], ◌∷◌, None, sym, subst}
use Rattle.std.specs.Prelude.{Option}
use Rattle.std.specs.List.{zip, Contains}
use Rattle.std.specs.Str.{bytes_eq}
use Rattle.std.proofs.lemmas.List.Elements.{All-contains}
use Rattle.io_model.specs.Source.{count_of}
use Rattle.device_model.specs.declared.calls.Part.TheVariants.{Tree}
use Rattle.admit.specs.Differing.{Listed}
use Rattle.work_folder.specs.Rows.{copied_or_empty}
use Rattle.work_folder.specs.Adding.{Adds}
use Rattle.work_folder.proofs.Lines.{find_among, of_numbers}
use Rattle.work_folder.proofs.Steps.{adds_value}
use Rattle.work_folder.proofs.header.put_header.Goals as goal

pub copy_line-requires-clause-file : goal.copy_line-requires-clause-file
copy_line-requires-clause-file g c =
    let listed = zip c.args.lines.now c.args.numbers.now in
    let count = count_of (g.S.Source.content c.args.source.now) in
    let among : Contains listed (c.in-Some.line.now, c.in-Some.n) = find_among (λ (r : Listed). bytes_eq r.0.path c.args.from.now) listed (c.in-Some.line.now, c.in-Some.n) c.in-Some.ensures.found in
    All-contains (λ (r : Listed). r.1 < count) listed (c.in-Some.line.now, c.in-Some.n) (of_numbers (λ n. n < count) c.args.lines.now c.args.numbers.now c.requires.files) among

pub returns-in-Ok-append-clause-done : goal.returns-in-Ok-append-clause-done
returns-in-Ok-append-clause-done g c =
    let means = g.D.Device.means in
    let content = g.S.Source.content c.args.source.now in
    let path = c.args.path.now in
    let added = subst (λ p. Adds content (copied_or_empty c.args.k p None ∷ []) (means c.args.device.now) (means c.append.new.device)) c.name-path.ensures
    (adds_value content (Tree c.args.k) c.name-path.result [] (means c.args.device.now) (means c.append.new.device) c.in-Ok-append.ensures.done) in
    subst (λ (o : Option Listed). Adds content (copied_or_empty c.args.k path o ∷ []) (means c.args.device.now) (means c.append.new.device)) (sym c.in-None.ensures.found) added
