use Rattle.std.proofs.Common.{◌≡◌, ℕ, arith, take, sym, ap, ◌∙◌, eq-eqb}
use Rattle.provides_map.specs.Match.{is_match, some_suffix}
use Rattle.provides_map.proofs.Ends.{back_step, back_differs, back_lacks, suffix_empty}
use Rattle.provides_map.proofs.pattern.behind_star.Goals as goal
use Rattle.provides_map.proofs.pattern.behind_star.Goals.{then-j-eq0-via-then-j-eq0, then-j-eq0-via-else-j-eq0+then-key-j}

pub loop-i-preserved : goal.loop-i-preserved
loop-i-preserved c = record {
  within = omega arith;
  in_key = omega arith;
  same = sym (back_step c.args.pattern.now c.args.key.now c.loop-i.i c.loop-i.j (omega arith) (omega arith) (grind arith) (omega arith) (omega arith) (grind arith)) ∙ c.loop-i.invariant.same;
}

pub returns-then-j-eq0 : goal.returns-then-j-eq0
returns-then-j-eq0 c = elim c.then-j-eq0.branch [
  | then-j-eq0-via-then-j-eq0 w ↦ sym (back_lacks c.args.pattern.now c.args.key.now c.loop-i.i c.loop-i.j (omega arith) (omega arith) (grind arith) (omega arith)) ∙ c.loop-i.invariant.same
  | then-j-eq0-via-else-j-eq0+then-key-j w ↦ sym (back_differs c.args.pattern.now c.args.key.now c.loop-i.i c.loop-i.j (omega arith) (omega arith) (grind arith) (omega arith) (omega arith) (grind arith)) ∙ c.loop-i.invariant.same
]

pub returns-then-i-eq0 : goal.returns-then-i-eq0
returns-then-i-eq0 c =
    let none : c.loop-i.i ≡ 0 = omega arith in
    let rest = take c.loop-i.j c.args.key.now in
    eq-eqb c.loop-i.i 0 none ∙ sym (suffix_empty rest) ∙ ap (λ (n : ℕ). some_suffix (is_match (take n c.args.pattern.now)) rest) (sym none) ∙ c.loop-i.invariant.same
