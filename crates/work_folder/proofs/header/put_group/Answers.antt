use Rattle.std.proofs.Common.{rules, ◌∙◌, ◌+◌, ◌++◌, ◌∷◌, List, [], get_or, take, drop, sym, subst, arith}
use Rattle.std.specs.List.{zip, filter_map, cons_option}
use Rattle.std.proofs.lemmas.List.{take_all}
use Rattle.std.proofs.lemmas.Slice.Zip.{length-zip}
use Rattle.device_model.specs.How.{Through}
use Rattle.io_model.specs.Source.{Content}
use Rattle.admit.specs.Differing.{Listed}
use Rattle.work_folder.specs.Rows.{Row, row_in, is_in, group_lines}
use Rattle.work_folder.specs.Prepare.{CopiesAll, CopiesSome}
use Rattle.work_folder.specs.Adding.{Adds}
use Rattle.work_folder.proofs.Lines.{filter_map-more, filter-more, filter-whole}
use Rattle.work_folder.proofs.Copied.{all_then, some_then, some_front}
use Rattle.work_folder.proofs.Steps.{adds_then, touches_then}
use Rattle.work_folder.proofs.header.put_group.Goals as goal

pub loop-i-preserved : goal.loop-i-preserved
loop-i-preserved g c =
    let means = g.D.Device.means in
    let content = g.S.Source.content c.args.source.now in
    let given = g.S.Source.given in
    let inv = c.loop-i.invariant in
    let told = c.in-Ok.ensures in
    let lines = c.args.lines.now in
    let numbers = c.args.numbers.now in
    let line = c.index-lines-i.result in
    let n = get_or numbers c.loop-i.i 0 in
    let before = filter_map (row_in c.args.group) (take c.loop-i.i (zip lines numbers)) in
    let one = cons_option (row_in c.args.group (line, n)) [] in
    let old = means c.args.device.now in
    let mid = means c.loop-i.device in
    let new = means c.put_in_group.new.device in
    let step : Adds content one mid new = subst (λ (t : Content). Adds t one mid new) inv.same told.done in
    record {
      so_far = subst (λ (rows : List Row). Adds content rows old new) (sym (filter_map-more (row_in c.args.group) lines numbers c.loop-i.i line c.loop-i-test.true c.requires.count c.index-lines-i.is)) (adds_then content before one old mid new inv.so_far step);
      copied = subst (λ (l : List Listed). CopiesAll content l (given c.args.source.now) (given c.put_in_group.new.source)) (sym (filter-more (is_in c.args.group) lines numbers c.loop-i.i line c.loop-i-test.true c.requires.count c.index-lines-i.is))
          (all_then content (group_lines c.args.group (take c.loop-i.i (zip lines numbers))) (group_lines c.args.group ((line, n) ∷ [])) (given c.args.source.now) (given c.loop-i.source) (given c.put_in_group.new.source) inv.copied (subst (λ (t : Content). CopiesAll t (group_lines c.args.group ((line, n) ∷ [])) (given c.loop-i.source) (given c.put_in_group.new.source)) inv.same told.copied));
      touches = touches_then Through old mid new inv.touches told.touches;
      ready = told.ready;
      buffer = search rules;
      plan = told.plan ∙ inv.plan;
      source_plan = told.source_plan ∙ inv.source_plan;
      same = told.same ∙ inv.same;
      faults = told.counts ∙ inv.faults;
    }

pub returns-clause-done : goal.returns-clause-done
returns-clause-done g c =
    let means = g.D.Device.means in
    let content = g.S.Source.content c.args.source.now in
    let listed = zip c.args.lines.now c.args.numbers.now in
    subst (λ (l : List Listed). Adds content (filter_map (row_in c.args.group) l) (means c.args.device.now) (means c.loop-i.device)) (take_all c.loop-i.i listed (omega (arith, length-zip c.args.lines.now c.args.numbers.now, c.loop-i-test.false, c.requires.count))) c.loop-i.invariant.so_far

pub returns-in-Err-clause-stopped : goal.returns-in-Err-clause-stopped
returns-in-Err-clause-stopped g c =
    let content = g.S.Source.content c.args.source.now in
    let given = g.S.Source.given in
    let inv = c.loop-i.invariant in
    let lines = c.args.lines.now in
    let numbers = c.args.numbers.now in
    let line = c.index-lines-i.result in
    let n = get_or numbers c.loop-i.i 0 in
    let before = group_lines c.args.group (take c.loop-i.i (zip lines numbers)) in
    let one = group_lines c.args.group ((line, n) ∷ []) in
    let rest = group_lines c.args.group (drop (c.loop-i.i + 1) (zip lines numbers)) in
    let stopped : CopiesSome content one c.in-Err.fault (given c.loop-i.source) (given c.put_in_group.new.source) = subst (λ (t : Content). CopiesSome t one c.in-Err.fault (given c.loop-i.source) (given c.put_in_group.new.source)) inv.same c.in-Err.ensures.stopped in
    subst (λ (l : List Listed). CopiesSome content l c.in-Err.fault (given c.args.source.now) (given c.put_in_group.new.source)) (sym (filter-whole (is_in c.args.group) lines numbers c.loop-i.i line c.loop-i-test.true c.requires.count c.index-lines-i.is))
    (some_then content before (one ++ rest) c.in-Err.fault (given c.args.source.now) (given c.loop-i.source) (given c.put_in_group.new.source) inv.copied
    (some_front content one rest c.in-Err.fault (given c.loop-i.source) (given c.put_in_group.new.source) stopped))

pub returns-clause-copied : goal.returns-clause-copied
returns-clause-copied g c =
    let content = g.S.Source.content c.args.source.now in
    let given = g.S.Source.given in
    let listed = zip c.args.lines.now c.args.numbers.now in
    subst (λ (l : List Listed). CopiesAll content (group_lines c.args.group l) (given c.args.source.now) (given c.loop-i.source)) (take_all c.loop-i.i listed (omega (arith, length-zip c.args.lines.now c.args.numbers.now, c.loop-i-test.false, c.requires.count))) c.loop-i.invariant.copied
