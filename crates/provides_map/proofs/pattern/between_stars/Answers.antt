use Rattle.std.proofs.Common.{◌≢◌, ℕ, List, [], get_or, sym, ap, ◌∙◌, arith}
use Rattle.std.proofs.lemmas.List.{take_rest}
use Rattle.provides_map.specs.Match.{is_match, some_suffix}
use Rattle.provides_map.proofs.Tries.{tried_begins, tried_star, tried_byte, tried_differs, tried_past, tried_ends}
use Rattle.provides_map.proofs.pattern.between_stars.Goals as goal
use Rattle.provides_map.proofs.pattern.between_stars.Goals.{else-i-pattern-via-then-i-pattern+else-pattern-i-eq-STAR, else-i-pattern-via-else-i-pattern}
use Rattle.provides_map.proofs.pattern.between_stars.Goals.{else-i-pattern-2-via-then-i-pattern-2+else-pattern-i, else-i-pattern-2-via-else-i-pattern-2}

pub loop-j-preserved-then-pattern-i-eq-STAR : goal.loop-j-preserved-then-pattern-i-eq-STAR
loop-j-preserved-then-pattern-i-eq-STAR c =
    let s = c.loop-j in
    record {
      star = omega arith;
      within = omega arith;
      start = omega arith;
      in_key = omega arith;
      tried = tried_star (some_suffix (is_match c.args.pattern.now) c.args.key.now) c.args.pattern.now c.args.key.now s.star s.start s.i s.j s.invariant.tried (omega arith) (grind arith);
    }

pub loop-j-preserved-then-pattern-i : goal.loop-j-preserved-then-pattern-i
loop-j-preserved-then-pattern-i c =
    let s = c.loop-j in
    let other : get_or c.args.pattern.now s.i 0 ≢ 42 = elim c.else-i-pattern.branch [
      | else-i-pattern-via-then-i-pattern+else-pattern-i-eq-STAR w ↦ grind arith
      | else-i-pattern-via-else-i-pattern w ↦ absurd (omega arith)
    ] in
    record {
      star = omega arith;
      within = omega arith;
      start = omega arith;
      in_key = omega arith;
      tried = tried_byte (some_suffix (is_match c.args.pattern.now) c.args.key.now) c.args.pattern.now c.args.key.now s.star s.start s.i s.j s.invariant.tried (omega arith) other (omega arith) (grind arith);
    }

pub loop-j-preserved : goal.loop-j-preserved
loop-j-preserved c =
    let s = c.loop-j in
    record {
      star = omega arith;
      within = omega arith;
      start = omega arith;
      in_key = omega arith;
      tried = elim c.else-i-pattern.branch [
        | else-i-pattern-via-then-i-pattern+else-pattern-i-eq-STAR w ↦ (elim c.else-i-pattern-2.branch [
          | else-i-pattern-2-via-then-i-pattern-2+else-pattern-i v ↦ tried_differs (some_suffix (is_match c.args.pattern.now) c.args.key.now) c.args.pattern.now c.args.key.now s.star s.start s.i s.j s.invariant.tried (omega arith) (grind arith) (omega arith) (grind arith)
          | else-i-pattern-2-via-else-i-pattern-2 v ↦ absurd (omega arith)
        ])
        | else-i-pattern-via-else-i-pattern w ↦ tried_past (some_suffix (is_match c.args.pattern.now) c.args.key.now) c.args.pattern.now c.args.key.now s.star s.start s.i s.j s.invariant.tried (omega arith) (omega arith)
      ];
    }

pub loop-j-init : goal.loop-j-init
loop-j-init c = record { star = omega arith; within = omega arith; start = omega arith; in_key = omega arith; tried = tried_begins c.args.pattern.now c.args.key.now }

pub returns : goal.returns
returns c =
    let s = c.loop-j in
    let pattern = c.args.pattern.now in
    c.only_stars.ensures
    ∙ ap (λ (l : List ℕ). is_match l []) (take_rest pattern s.i)
    ∙ sym (tried_ends (some_suffix (is_match pattern) c.args.key.now) pattern c.args.key.now s.star s.start s.i s.j s.invariant.tried (omega arith))
