use Rattle.std.proofs.Common.{◌≡◌, take}
use Rattle.provides_map.specs.Window.{AddsBytes}
use Rattle.provides_map.proofs.window.Window.add.Given as goal

abbrev pub invariant-loop-j : goal.invariant-loop-j
invariant-loop-j l = record {
  ends : l.self.ends ≡ l.fn.self.ends;
  longest : l.self.longest ≡ l.fn.self.longest;
  added : AddsBytes l.fn.self.same l.self.same l.k (take l.j l.key);
}
