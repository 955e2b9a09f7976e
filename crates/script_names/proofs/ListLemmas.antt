-- A script behind all others.
use Rattle.std.proofs.Common.{ℕ, ◌<◌, List, [], ◌∷◌, ◌++◌, length, length-append, IsTrue, arith}
use Rattle.upd_text.specs.Order.{is_below, byte_cmp}
use Rattle.upd_text.proofs.OrderLemmas.{less, all_push, sorted_push}
use Rattle.script_names.specs.Scripts.{IsScript, AreScripts, last_script}

pub scripts_push : (names : List (List ℕ)) (name : List ℕ) → AreScripts names → length names < 64 → IsTrue (is_below (last_script names) name) → IsScript name → AreScripts (names ++ name ∷ [])
scripts_push names name are room above is = record {
  sorted = sorted_push [] names name are.sorted (less (byte_cmp (last_script names) name) above);
  few = omega (arith, length-append names (name ∷ []));
  scripts = all_push IsScript names name are.scripts is;
}
