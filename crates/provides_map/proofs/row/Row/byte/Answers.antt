use Rattle.std.proofs.Common.{◌≡◌, ◌≤◌, ◌⊎◌, arith, refl, inl, inr, length-set}
use Rattle.std.specs.Prelude.{bit_and, slice_index_or, ◌+◌}
use Rattle.provides_map.specs.declared.row.Row.{Row}
use Rattle.provides_map.proofs.Rows.{moved_step, moved_ends}
use Rattle.provides_map.proofs.row.Row.byte.Goals as goal
use Rattle.provides_map.proofs.row.Row.byte.Goals.{then-any-eq0, else-any-eq0}

pub loop-j-preserved : goal.loop-j-preserved
loop-j-preserved c =
    let row = c.loop-j.self.words in
    let word = bit_and (slice_index_or row (c.loop-j.j + 1) 0) (slice_index_or c.args.same.now c.loop-j.j 0) in
    record {
      size = simp length-set c.loop-j.invariant.size;
      places = c.loop-j.invariant.places;
      moved = moved_step c.args.self.now.words row c.args.same.now c.loop-j.any c.loop-j.j word (omega arith) refl c.loop-j.invariant.moved;
    }

pub returns-clause-row : goal.returns-clause-row
returns-clause-row c held start byte test told bytes =
    let new : Row = record { words = c.loop-j.self.words; places = c.if-any-eq0.self } in
    let less : c.if-any-eq0.self ≤ c.loop-j.j = elim c.if-any-eq0.branch [
      | then-any-eq0 w ↦ omega arith
      | else-any-eq0 w ↦ omega arith
    ] in
    let whole : (c.loop-j.j ≤ c.if-any-eq0.self) ⊎ (c.loop-j.any ≡ 0) = elim c.if-any-eq0.branch [
      | then-any-eq0 w ↦ inr (omega arith)
      | else-any-eq0 w ↦ inl (omega arith)
    ] in
    moved_ends c.args.self.now new c.args.same.now c.loop-j.any c.loop-j.j c.requires (omega arith) c.loop-j.invariant.moved held start byte test told bytes less whole
