use Rattle.std.proofs.Common.{◌≡◌, ◌<◌, ◌^◌, ℕ, List, [], get_or, length, take, ap, ◌∙◌, subst, arith}
use Rattle.std.specs.Prelude.{not, ◌&&◌}
use Rattle.std.specs.List.{list_any}
use Rattle.std.proofs.lemmas.Grind.{common_steps}
use Rattle.provides_map.specs.Match.{is_match}
use Rattle.provides_map.specs.Marks.{Tells}
use Rattle.provides_map.proofs.MarkLemmas.{all_left, told_more}
use Rattle.provides_map.proofs.marks.unmatched.Goals as goal

pub loop-pattern-init : goal.loop-pattern-init
loop-pattern-init c = all_left c.args.held.now c.args.start

pub loop-pattern-preserved : goal.loop-pattern-preserved
loop-pattern-preserved c =
    let held = c.args.held.now in
    let patterns : List (List ℕ) = c.args.patterns.now in
    let items : c.as_slice-pattern-items.result.now ≡ patterns = c.as_slice-pattern-items.ensures.items in
    let i = c.loop-pattern.pattern-index in
    let lt : i < length patterns = omega (arith, ap length items) in
    let fits : c.matched.result < 2 ^ 64 = omega arith in
    let read : c.pattern-item.result ≡ get_or patterns i [] = grind (arith, common_steps) in
    let pattern : c.bytes.result.now ≡ get_or patterns i [] = c.bytes.ensures.bytes ∙ c.name.ensures ∙ read in
    let found = c.matched.ensures held c.args.start (λ (key : List ℕ). not (list_any (λ (p : List ℕ). is_match p key) (take i patterns))) c.of-window.ensures c.loop-pattern.invariant in
    told_more held c.args.start c.loop-pattern.left c.matched.result patterns i lt fits c.loop-pattern.invariant
    (subst (λ (p : List ℕ). Tells held c.args.start c.matched.result (λ key. not (list_any (λ (p : List ℕ). is_match p key) (take i patterns)) && is_match p key)) pattern found)
