use Rattle.std.proofs.Common.{◌≡◌, ◌++◌, take, drop}
use Rattle.std.specs.BTreeSet.{insert_key}
use Rattle.upd_text.specs.Order.{byte_cmp}
use Rattle.script_names.proofs.script.ScriptList.place_for.Given as goal

abbrev pub invariant-loop-i : goal.invariant-loop-i
invariant-loop-i l = insert_key byte_cmp l.scripts l.name ≡ take l.i l.scripts ++ insert_key byte_cmp (drop l.i l.scripts) l.name
