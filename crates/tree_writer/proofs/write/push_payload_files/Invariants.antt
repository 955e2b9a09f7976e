use Rattle.std.proofs.Common.{◌≡◌, ◌++◌, map, drop}
use Rattle.tree_writer.specs.Order.{file_at}
use Rattle.tree_writer.specs.Files.{as_file, payload_entry}
use Rattle.tree_writer.proofs.write.push_payload_files.Given as goal

abbrev pub invariant-loop-i : goal.invariant-loop-i
invariant-loop-i l = l.tree ++ map (λ i. as_file (payload_entry l.k (file_at l.files i))) (drop l.i-index l.i-items) ≡ l.fn.tree ++ map (λ i. as_file (payload_entry l.k (file_at l.files i))) l.i-items
