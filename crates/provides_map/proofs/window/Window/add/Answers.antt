use Rattle.std.proofs.Common.{◌<◌, ◌*◌, ◌%◌, ◌^◌, ℕ, List, [], length, get_or, set, refl, sym, subst, arith}
use Rattle.std.specs.Prelude.{bit_or}
use Rattle.std.proofs.Common.{rules}
use Rattle.provides_map.specs.Window.{AddsEnd, word_at}
use Rattle.provides_map.proofs.Fills.{adds_begins, adds_step, adds_end}
use Rattle.provides_map.proofs.window.Window.add.Goals as goal

pub loop-j-init : goal.loop-j-init
loop-j-init c = record { ends = refl; longest = refl; added = adds_begins c.args.self.now.same c.args.k }

pub loop-j-preserved : goal.loop-j-preserved
loop-j-preserved c =
    let same = c.loop-j.self.same in
    let b = get_or c.args.key.now c.loop-j.j 0 in
    let fits : b < 256 = omega (arith, c.type_inv.key c.loop-j.j) in
    let row : b < length same = search rules in
    let place : c.loop-j.j < length (get_or same b []) = search rules in
    record {
      ends = c.loop-j.invariant.ends;
      longest = c.loop-j.invariant.longest;
      added = adds_step c.args.self.now.same same c.args.k c.args.key.now c.loop-j.j b (bit_or (word_at same b c.loop-j.j) (1 * 2 ^ c.args.k % 2 ^ 64))
          c.requires.room (omega arith) refl refl row place c.loop-j.invariant.added;
    }

pub returns-clause-ends : goal.returns-clause-ends
returns-clause-ends c =
    let ends = c.args.self.now.ends in
    let n = length c.args.key.now in
    let place : n < length ends = search rules in
    subst (λ (l : List ℕ). AddsEnd ends (set l n (bit_or (get_or l n 0) (1 * 2 ^ c.args.k % 2 ^ 64))) c.args.k c.args.key.now) (sym c.loop-j.invariant.ends)
    (adds_end ends c.args.k c.args.key.now (bit_or (get_or ends n 0) (1 * 2 ^ c.args.k % 2 ^ 64)) c.requires.room place refl)
