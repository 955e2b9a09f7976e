use Rattle.std.proofs.Common.{◌≡◌, ◌∙◌, ℕ, List, [], ◌∷◌, ◌++◌, refl, codes}
use Rattle.std.specs.List.{zip}
use Rattle.manifest_sums.specs.declared.manifest.Line.{Line}
use Rattle.device_model.specs.declared.calls.Part.TheVariants.{Tree}
use Rattle.work_folder.specs.Rows.{Row, Names, payload_names, header_row}
use Rattle.admit.specs.Places.{spelled}
use Rattle.admit.specs.declared.place.TreePlace.TheVariants.{TypeInfo, MetaData}
use Rattle.admit.specs.Differing.{listed_of}
use Rattle.work_folder.specs.Rows.{line_with}
use Rattle.work_folder.proofs.Copied.{all_then, some_then, some_front, some_nothing, all_of, some_of}
use Rattle.work_folder.proofs.Steps.{adds_then, adds_of}
use Rattle.work_folder.proofs.trees.put_headers.Goals as goal

copied : ℕ → List ℕ → List ℕ → List Line → List ℕ → List Row
copied k path from lines numbers = header_row k path from (zip lines numbers) ∷ []

abbrev named : ℕ → List Line → List ℕ → List Row
named k lines numbers = Names (Tree k) (codes "header/files") (payload_names k lines) ∷ []

pub returns-clause-done : goal.returns-clause-done
unfolding copied
returns-clause-done g c =
    let means = g.D.Device.means in
    let content = g.S.Source.content in
    let plan = c.args.admitted.now in
    let source = content c.args.source.now in
    let lines = c.lines-lines.result.now in
    let numbers = c.as_slice-numbers.result.now in
    let same_lines : lines ≡ plan.manifest = c.lines-lines.ensures in
    let same_numbers : numbers ≡ plan.numbers = c.as_slice-numbers.ensures.items in
    let none = means c.args.device.now in
    let one = means c.put_header.new.device in
    let two = means c.put_names.new.device in
    let three = means c.put_header-2.new.device in
    let four = means c.put_header-3.new.device in
    let info = copied c.args.k (codes "header/header-info") (codes "header/header-info") in
    let type = copied c.args.k (codes "header/type-info") (spelled (TypeInfo c.args.k)) in
    let meta = copied c.args.k (codes "header/meta-data") (spelled (MetaData c.args.k)) in
    let first = c.in-Ok.ensures.same in
    let second = c.in-Ok-put_header.ensures.same ∙ first in
    let a = adds_of info source source plan.manifest lines plan.numbers numbers none one refl same_lines same_numbers c.in-Ok.ensures.done in
    let b = adds_of (named c.args.k) source source plan.manifest lines plan.numbers numbers one two refl same_lines same_numbers (c.in-Ok-put_names.ensures.done source) in
    let d = adds_of type source (content c.put_header.new.source) plan.manifest lines plan.numbers numbers two three first same_lines same_numbers (rw c.info_path.ensures at c.in-Ok-put_header.ensures.done) in
    let e = adds_of meta source (content c.put_header-2.new.source) plan.manifest lines plan.numbers numbers three four second same_lines same_numbers (rw c.meta_path.ensures at c.in-Ok-put_header-2.ensures.done) in
    let rows = λ (F : List Line → List ℕ → List Row). F plan.manifest plan.numbers in
    adds_then source (rows info) (rows (named c.args.k) ++ (rows type ++ rows meta)) none one four a
    (adds_then source (rows (named c.args.k)) (rows type ++ rows meta) one two four b
    (adds_then source (rows type) (rows meta) two three four d e))

pub returns-in-Err-clause-stopped : goal.returns-in-Err-clause-stopped
returns-in-Err-clause-stopped g c =
    let content = g.S.Source.content in
    let given = g.S.Source.given in
    let plan = c.args.admitted.now in
    let source = content c.args.source.now in
    let listed = listed_of plan in
    let info = line_with (codes "header/header-info") listed in
    let type = line_with (spelled (TypeInfo c.args.k)) listed in
    let meta = line_with (spelled (MetaData c.args.k)) listed in
    some_front source info (type ++ meta) c.in-Err.fault (given c.args.source.now) (given c.put_header.new.source) (some_of (line_with (codes "header/header-info")) c.in-Err.fault source (content c.args.source.now) plan c.lines-lines.result.now c.as_slice-numbers.result.now (given c.args.source.now) (given c.put_header.new.source) refl c.lines-lines.ensures c.as_slice-numbers.ensures.items c.in-Err.ensures.stopped)

pub returns-in-Err-put_names-clause-stopped : goal.returns-in-Err-put_names-clause-stopped
returns-in-Err-put_names-clause-stopped g c =
    let content = g.S.Source.content in
    let given = g.S.Source.given in
    let plan = c.args.admitted.now in
    let source = content c.args.source.now in
    let listed = listed_of plan in
    let info = line_with (codes "header/header-info") listed in
    let type = line_with (spelled (TypeInfo c.args.k)) listed in
    let meta = line_with (spelled (MetaData c.args.k)) listed in
    some_then source info (type ++ meta) c.in-Err-put_names.fault (given c.args.source.now) (given c.put_header.new.source) (given c.put_header.new.source) (all_of (line_with (codes "header/header-info")) source (content c.args.source.now) plan c.lines-lines.result.now c.as_slice-numbers.result.now (given c.args.source.now) (given c.put_header.new.source) refl c.lines-lines.ensures c.as_slice-numbers.ensures.items c.in-Ok.ensures.copied) (some_nothing source (type ++ meta) c.in-Err-put_names.fault (given c.put_header.new.source) (given c.put_header.new.source) c.in-Err-put_names.ensures.cause refl)

pub returns-in-Err-put_header-clause-stopped : goal.returns-in-Err-put_header-clause-stopped
returns-in-Err-put_header-clause-stopped g c =
    let content = g.S.Source.content in
    let given = g.S.Source.given in
    let plan = c.args.admitted.now in
    let source = content c.args.source.now in
    let listed = listed_of plan in
    let info = line_with (codes "header/header-info") listed in
    let type = line_with (spelled (TypeInfo c.args.k)) listed in
    let meta = line_with (spelled (MetaData c.args.k)) listed in
    some_then source info (type ++ meta) c.in-Err-put_header.fault (given c.args.source.now) (given c.put_header.new.source) (given c.put_header-2.new.source) (all_of (line_with (codes "header/header-info")) source (content c.args.source.now) plan c.lines-lines.result.now c.as_slice-numbers.result.now (given c.args.source.now) (given c.put_header.new.source) refl c.lines-lines.ensures c.as_slice-numbers.ensures.items c.in-Ok.ensures.copied) (some_front source type meta c.in-Err-put_header.fault (given c.put_header.new.source) (given c.put_header-2.new.source) (some_of (line_with (spelled (TypeInfo c.args.k))) c.in-Err-put_header.fault source (content c.put_header.new.source) plan c.lines-lines.result.now c.as_slice-numbers.result.now (given c.put_header.new.source) (given c.put_header-2.new.source) c.in-Ok.ensures.same c.lines-lines.ensures c.as_slice-numbers.ensures.items (rw c.info_path.ensures at c.in-Err-put_header.ensures.stopped)))

pub returns-in-Err-put_header-2-clause-stopped : goal.returns-in-Err-put_header-2-clause-stopped
returns-in-Err-put_header-2-clause-stopped g c =
    let content = g.S.Source.content in
    let given = g.S.Source.given in
    let plan = c.args.admitted.now in
    let source = content c.args.source.now in
    let listed = listed_of plan in
    let info = line_with (codes "header/header-info") listed in
    let type = line_with (spelled (TypeInfo c.args.k)) listed in
    let meta = line_with (spelled (MetaData c.args.k)) listed in
    some_then source info (type ++ meta) c.in-Err-put_header-2.fault (given c.args.source.now) (given c.put_header.new.source) (given c.put_header-3.new.source) (all_of (line_with (codes "header/header-info")) source (content c.args.source.now) plan c.lines-lines.result.now c.as_slice-numbers.result.now (given c.args.source.now) (given c.put_header.new.source) refl c.lines-lines.ensures c.as_slice-numbers.ensures.items c.in-Ok.ensures.copied) (some_then source type meta c.in-Err-put_header-2.fault (given c.put_header.new.source) (given c.put_header-2.new.source) (given c.put_header-3.new.source) (all_of (line_with (spelled (TypeInfo c.args.k))) source (content c.put_header.new.source) plan c.lines-lines.result.now c.as_slice-numbers.result.now (given c.put_header.new.source) (given c.put_header-2.new.source) c.in-Ok.ensures.same c.lines-lines.ensures c.as_slice-numbers.ensures.items (rw c.info_path.ensures at c.in-Ok-put_header.ensures.copied)) (some_of (line_with (spelled (MetaData c.args.k))) c.in-Err-put_header-2.fault source (content c.put_header-2.new.source) plan c.lines-lines.result.now c.as_slice-numbers.result.now (given c.put_header-2.new.source) (given c.put_header-3.new.source) (c.in-Ok-put_header.ensures.same ∙ c.in-Ok.ensures.same) c.lines-lines.ensures c.as_slice-numbers.ensures.items (rw c.meta_path.ensures at c.in-Err-put_header-2.ensures.stopped)))

pub returns-clause-copied : goal.returns-clause-copied
returns-clause-copied g c =
    let content = g.S.Source.content in
    let given = g.S.Source.given in
    let plan = c.args.admitted.now in
    let source = content c.args.source.now in
    let listed = listed_of plan in
    let info = line_with (codes "header/header-info") listed in
    let type = line_with (spelled (TypeInfo c.args.k)) listed in
    let meta = line_with (spelled (MetaData c.args.k)) listed in
    all_then source info (type ++ meta) (given c.args.source.now) (given c.put_header.new.source) (given c.put_header-3.new.source) (all_of (line_with (codes "header/header-info")) source (content c.args.source.now) plan c.lines-lines.result.now c.as_slice-numbers.result.now (given c.args.source.now) (given c.put_header.new.source) refl c.lines-lines.ensures c.as_slice-numbers.ensures.items c.in-Ok.ensures.copied) (all_then source type meta (given c.put_header.new.source) (given c.put_header-2.new.source) (given c.put_header-3.new.source) (all_of (line_with (spelled (TypeInfo c.args.k))) source (content c.put_header.new.source) plan c.lines-lines.result.now c.as_slice-numbers.result.now (given c.put_header.new.source) (given c.put_header-2.new.source) c.in-Ok.ensures.same c.lines-lines.ensures c.as_slice-numbers.ensures.items (rw c.info_path.ensures at c.in-Ok-put_header.ensures.copied)) (all_of (line_with (spelled (MetaData c.args.k))) source (content c.put_header-2.new.source) plan c.lines-lines.result.now c.as_slice-numbers.result.now (given c.put_header-2.new.source) (given c.put_header-3.new.source) (c.in-Ok-put_header.ensures.same ∙ c.in-Ok.ensures.same) c.lines-lines.ensures c.as_slice-numbers.ensures.items (rw c.meta_path.ensures at c.in-Ok-put_header-2.ensures.copied)))
