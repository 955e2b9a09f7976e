use Rattle.std.proofs.Common.{◌≡◌, ◌<◌, length, map, drop}
use Rattle.std.specs.Prelude.{fold}
use Rattle.std.specs.List.{All}
use Rattle.tree_writer.specs.Order.{named, insert, by_name, files_at}
use Rattle.tree_writer.proofs.order.in_order.Given as goal

abbrev pub invariant-loop-i : goal.invariant-loop-i
invariant-loop-i l = record {
  all : All (λ j. j < length l.files) l.order.items;
  made : fold insert (files_at l.files l.order.items) (map named (drop l.i l.files)) ≡ by_name l.files;
}
