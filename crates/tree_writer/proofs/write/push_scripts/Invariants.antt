use Rattle.std.proofs.Common.{◌≡◌, ◌++◌, map, drop}
use Rattle.tree_writer.specs.Order.{file_at}
use Rattle.tree_writer.specs.Files.{as_file, script_entry}
use Rattle.tree_writer.proofs.write.push_scripts.Given as goal

abbrev pub invariant-loop-i : goal.invariant-loop-i
invariant-loop-i l = l.tree ++ map (λ i. as_file (script_entry (file_at l.scripts i))) (drop l.i-index l.i-items) ≡ l.fn.tree ++ map (λ i. as_file (script_entry (file_at l.scripts i))) l.i-items
