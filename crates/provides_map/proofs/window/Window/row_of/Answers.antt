use Rattle.std.proofs.Common.{◌≡◌, ◌<◌, ◌-◌, ℕ, List, [], length, get_or, drop, arith, subst}
use Rattle.std.specs.Prelude.{◌+◌}
use Rattle.std.proofs.lemmas.Grind.{common_steps}
use Rattle.provides_map.specs.Match.{is_match}
use Rattle.provides_map.specs.Window.{TellsRow}
use Rattle.provides_map.specs.declared.row.Row.{Row}
use Rattle.provides_map.proofs.Windows.{row_begins, row_star, row_byte}
use Rattle.provides_map.proofs.window.Window.row_of.Goals as goal

pub loop-i-init : goal.loop-i-init
loop-i-init c =
    let pattern = c.args.pattern.now in
    let row : Row = record { words = c.args.self.now.ends; places = c.args.self.now.longest + 1 } in
    let none : [] ≡ drop (length pattern) pattern = grind (arith, common_steps) in
    record {
      within = omega arith;
      places = omega arith;
      told = λ held start told. subst (λ (rest : List ℕ). TellsRow held start row (is_match rest)) none (row_begins held start c.args.self.now told);
    }

pub loop-i-preserved-then-pattern-i-eq-STAR : goal.loop-i-preserved-then-pattern-i-eq-STAR
loop-i-preserved-then-pattern-i-eq-STAR c =
    let pattern = c.args.pattern.now in
    let i = c.loop-i.i in
    record {
      within = omega arith;
      places = c.star.ensures.places;
      told = λ held start told. row_star held start c.star.new.self pattern i (i - 1) (omega arith) (omega arith) c.if-pattern-i-eq-STAR.true
          (c.star.ensures.row held start (is_match (drop i pattern)) (c.loop-i.invariant.told held start told));
    }

pub loop-i-preserved : goal.loop-i-preserved
loop-i-preserved c =
    let pattern = c.args.pattern.now in
    let i = c.loop-i.i in
    let b = get_or pattern (i - 1) 0 in
    let fits : b < 256 = omega (arith, c.type_inv.pattern (i - 1)) in
    record {
      within = omega arith;
      places = c.byte.ensures.places;
      told = λ held start told. row_byte held start c.byte.new.self pattern i (i - 1) (omega arith) (omega arith) c.if-pattern-i-eq-STAR.false
          (c.byte.ensures.row held start b (is_match (drop i pattern)) (c.loop-i.invariant.told held start told) (told.same b fits));
    }

pub returns-clause-row : goal.returns-clause-row
returns-clause-row c held start told =
    let none : c.loop-i.i ≡ 0 = omega arith in
    subst (λ (n : ℕ). TellsRow held start c.loop-i.row (is_match (drop n c.args.pattern.now))) none (c.loop-i.invariant.told held start told)
