use Rattle.std.proofs.Common.{◌≡◌, ◌+◌, ◌≤◌, drop, length}
use Rattle.std.specs.Prelude.{fold}
use Rattle.std.specs.BTreeSet.{insert_key}
use Rattle.upd_text.specs.Order.{byte_cmp}
use Rattle.admit.specs.Admit.{script_names, in_order}
use Rattle.admit.proofs.scripts.all_scripts.Given as goal

abbrev pub invariant-loop-head : goal.invariant-loop-head
invariant-loop-head l = record {
  same : fold (insert_key byte_cmp) l.scripts (script_names (drop l.head-index l.heads)) ≡ in_order (script_names l.heads);
  room : length l.scripts + length (script_names (drop l.head-index l.heads)) ≤ 64;
}
