use Rattle.std.proofs.Common.{◌≡◌, ◌++◌, map, drop}
use Rattle.tree_writer.specs.Files.{as_file, data_entries}
use Rattle.tree_writer.proofs.write.push_payloads.Given as goal

abbrev pub invariant-loop-k : goal.invariant-loop-k
invariant-loop-k l = l.tree ++ map as_file (data_entries l.k (drop l.k l.payloads)) ≡ l.fn.tree ++ map as_file (data_entries 0 l.payloads)
