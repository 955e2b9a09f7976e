use Rattle.std.proofs.Common.{rules, ◌≡◌, ◌∙◌, ◌+◌, ◌-◌, ◌<◌, ◌++◌, List, ℕ, length, get_or, take, sym, subst, ap, arith}
use Rattle.std.proofs.lemmas.List.{take_all}
use Rattle.device_model.specs.How.{Through}
use Rattle.io_model.specs.Source.{Content}
use Rattle.admit.specs.IsOf.{IsOf}
use Rattle.admit.specs.Differing.{Listed, listed_of}
use Rattle.work_folder.specs.Rows.{Row, payload_rows, payloads_rows, header_lines, headers_lines}
use Rattle.work_folder.specs.Prepare.{CopiesAll, CopiesSome}
use Rattle.work_folder.specs.Adding.{Adds}
use Rattle.work_folder.proofs.Headers.{rows_more, lines_more, lines_around}
use Rattle.work_folder.proofs.Copied.{all_then, some_then, some_front}
use Rattle.work_folder.proofs.Steps.{adds_then, touches_then}
use Rattle.work_folder.proofs.trees.put_payloads.Goals as goal

pub loop-k-preserved : goal.loop-k-preserved
loop-k-preserved g c =
    let means = g.D.Device.means in
    let content = g.S.Source.content c.args.source.now in
    let given = g.S.Source.given in
    let inv = c.loop-k.invariant in
    let told = c.in-Ok.ensures in
    let plan = c.args.admitted.now in
    let listed = listed_of plan in
    let kinds = plan.header.kinds in
    let k = c.loop-k.k in
    let kind = c.index-kinds-k.result in
    let lt : k < length kinds = rw c.as_slice-kinds.ensures.items at c.loop-k-test.true in
    let is : kind ≡ get_or kinds k kind = rw c.as_slice-kinds.ensures.items at c.index-kinds-k.is in
    let before = payloads_rows c.args.site.now c.args.current.now plan 0 (take k kinds) in
    let one = payload_rows c.args.site.now c.args.current.now plan k kind in
    let old = means c.args.device.now in
    let mid = means c.loop-k.device in
    let new = means c.put_payload.new.device in
    let step : Adds content one mid new = subst (λ (t : Content). Adds t one mid new) inv.same told.done in
    record {
      so_far = subst (λ (rows : List Row). Adds content rows old new) (sym (rows_more c.args.site.now c.args.current.now plan kinds k kind lt is)) (adds_then content before one old mid new inv.so_far step);
      copied = subst (λ (l : List Listed). CopiesAll content l (given c.args.source.now) (given c.put_payload.new.source)) (sym (lines_more k listed))
          (all_then content (headers_lines 0 k listed) (header_lines k listed) (given c.args.source.now) (given c.loop-k.source) (given c.put_payload.new.source) inv.copied (subst (λ (t : Content). CopiesAll t (header_lines k listed) (given c.loop-k.source) (given c.put_payload.new.source)) inv.same told.copied));
      within = omega (arith, lt);
      touches = touches_then Through old mid new inv.touches told.touches;
      ready = told.ready;
      buffer = search rules;
      of_source = subst (λ (t : Content). IsOf t plan) (sym told.same) inv.of_source;
      plan = told.plan ∙ inv.plan;
      source_plan = told.source_plan ∙ inv.source_plan;
      same = told.same ∙ inv.same;
      faults = told.counts ∙ inv.faults;
    }

pub returns-clause-done : goal.returns-clause-done
returns-clause-done g c =
    let means = g.D.Device.means in
    let content = g.S.Source.content c.args.source.now in
    let plan = c.args.admitted.now in
    let kinds = plan.header.kinds in
    subst (λ (l : List (List ℕ)). Adds content (payloads_rows c.args.site.now c.args.current.now plan 0 l) (means c.args.device.now) (means c.loop-k.device)) (take_all c.loop-k.k kinds (omega (arith, c.loop-k-test.false, ap length c.as_slice-kinds.ensures.items))) c.loop-k.invariant.so_far

pub returns-in-Err-clause-stopped : goal.returns-in-Err-clause-stopped
returns-in-Err-clause-stopped g c =
    let content = g.S.Source.content c.args.source.now in
    let given = g.S.Source.given in
    let inv = c.loop-k.invariant in
    let plan = c.args.admitted.now in
    let listed = listed_of plan in
    let kinds = plan.header.kinds in
    let k = c.loop-k.k in
    let lt : k < length kinds = rw c.as_slice-kinds.ensures.items at c.loop-k-test.true in
    let before = headers_lines 0 k listed in
    let one = header_lines k listed in
    let rest = headers_lines (k + 1) (length kinds - (k + 1)) listed in
    let stopped : CopiesSome content one c.in-Err.fault (given c.loop-k.source) (given c.put_payload.new.source) = subst (λ (t : Content). CopiesSome t one c.in-Err.fault (given c.loop-k.source) (given c.put_payload.new.source)) inv.same c.in-Err.ensures.stopped in
    subst (λ (l : List Listed). CopiesSome content l c.in-Err.fault (given c.args.source.now) (given c.put_payload.new.source)) (sym (lines_around k (length kinds) listed lt))
    (some_then content before (one ++ rest) c.in-Err.fault (given c.args.source.now) (given c.loop-k.source) (given c.put_payload.new.source) inv.copied
    (some_front content one rest c.in-Err.fault (given c.loop-k.source) (given c.put_payload.new.source) stopped))

pub returns-clause-copied : goal.returns-clause-copied
returns-clause-copied g c =
    let content = g.S.Source.content c.args.source.now in
    let given = g.S.Source.given in
    let plan = c.args.admitted.now in
    let kinds = plan.header.kinds in
    let all : c.loop-k.k ≡ length kinds = omega (arith, c.loop-k-test.false, c.loop-k.invariant.within, ap length c.as_slice-kinds.ensures.items) in
    subst (λ (n : ℕ). CopiesAll content (headers_lines 0 n (listed_of plan)) (given c.args.source.now) (given c.loop-k.source)) all c.loop-k.invariant.copied
