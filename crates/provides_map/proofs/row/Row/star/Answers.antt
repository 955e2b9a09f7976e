use Rattle.std.proofs.Common.{arith, ◌≡◌, ℕ, subst}
use Rattle.provides_map.proofs.Rows.{Spread, spread_ends}
use Rattle.provides_map.proofs.row.Row.star.Goals as goal

pub returns-clause-row : goal.returns-clause-row
returns-clause-row c held start test told =
    let none : c.loop-j.j ≡ 0 = omega arith in
    let spread : Spread c.args.self.now.words c.loop-j.self.words c.loop-j.any 0 c.args.self.now.places
    = subst (λ (n : ℕ). Spread c.args.self.now.words c.loop-j.self.words c.loop-j.any n c.args.self.now.places) none c.loop-j.invariant.spread in
    spread_ends c.args.self.now c.loop-j.self c.loop-j.any c.loop-j.invariant.places spread held start test told
