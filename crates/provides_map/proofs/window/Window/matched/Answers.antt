use Rattle.std.proofs.Common.{◌≡◌, ◌<◌, ℕ, List, get_or, drop, arith, subst}
use Rattle.std.specs.Prelude.{◌+◌}
use Rattle.std.proofs.lemmas.List.{take_rest}
use Rattle.provides_map.specs.Match.{is_match}
use Rattle.provides_map.specs.Window.{TellsRow}
use Rattle.provides_map.proofs.Windows.{front_begins, front_step, front_none, front_whole, front_star}
use Rattle.provides_map.proofs.window.Window.matched.Goals as goal
use Rattle.provides_map.proofs.window.Window.matched.Goals.{then-loop-i-test+else-pattern-i-ne-STAR, else-loop-i-test}

pub loop-i-init : goal.loop-i-init
loop-i-init c = record { within = omega arith; front = front_begins c.args.self.now c.args.pattern.now c.args.among }

pub loop-i-preserved : goal.loop-i-preserved
loop-i-preserved c =
    let fits : get_or c.args.pattern.now c.loop-i.i 0 < 256 = omega (arith, c.type_inv.pattern c.loop-i.i) in
    record {
      within = omega arith;
      front = front_step c.args.self.now c.args.pattern.now c.args.among c.loop-i.front c.loop-i.i c.loop-i.invariant.front (omega arith) (omega arith) fits c.if-pattern-i-ne-STAR.true;
    }

pub returns-then-i-pattern : goal.returns-then-i-pattern
returns-then-i-pattern c held start test told tells =
    front_whole c.args.self.now c.args.pattern.now c.args.among c.loop-i.front c.loop-i.i c.loop-i.invariant.front held start test told tells (omega arith) (omega arith)

pub returns-then-front-eq0 : goal.returns-then-front-eq0
returns-then-front-eq0 c held start test told tells =
    front_none c.args.self.now c.args.pattern.now c.args.among c.loop-i.front c.loop-i.i c.loop-i.invariant.front held start test told tells c.if-front-eq0.true

pub returns : goal.returns
returns c held start test told tells =
    let window = c.args.self.now in
    let pattern = c.args.pattern.now in
    let i = c.loop-i.i in
    let star : get_or pattern i 0 ≡ 42 = elim c.loop-i-test.branch [
      | then-loop-i-test+else-pattern-i-ne-STAR w ↦ w.if-pattern-i-ne-STAR.false
      | else-loop-i-test w ↦ absurd (omega arith)
    ] in
    let row = subst (λ (rest : List ℕ). TellsRow held start c.row_of.result (is_match rest)) (take_rest pattern (i + 1)) (c.row_of.ensures.row held start told) in
    front_star window pattern c.args.among c.loop-i.front i c.loop-i.invariant.front held start test told tells (omega arith) star c.any_from.result
    (c.any_from.ensures held start (is_match (drop (i + 1) pattern)) row)
