use Rattle.std.proofs.Common.{◌≡◌, ℕ, ◌+◌, ◌∙◌, List, sym, ap, arith, drop, length, ◌∷◌}
use Rattle.std.specs.List.{fold, cons_option}
use Rattle.std.specs.BTreeSet.{insert_key}
use Rattle.std.proofs.lemmas.List.{drop_more}
use Rattle.upd_text.specs.Order.{byte_cmp}
use Rattle.admit.specs.Admit.{script_name, script_names}
use Rattle.admit.specs.Table.{FileHead}
use Rattle.admit.proofs.ScriptLemmas.{fold_next, length_next}
use Rattle.admit.proofs.scripts.all_scripts.Goals as goal

pub loop-head-preserved : goal.loop-head-preserved
loop-head-preserved c =
    let rest : List FileHead = drop (c.loop-head.head-index + 1) c.args.heads.now in
    let name = script_name c.head-item.result.path in
    let more : drop c.loop-head.head-index c.args.heads.now ≡ c.head-item.result ∷ rest = drop_more c.args.heads.now c.loop-head.head-index c.head-item.result (omega arith) ∙ ap (λ (h : FileHead). h ∷ rest) (sym c.head-item.is) in
    let names : script_names (drop c.loop-head.head-index c.args.heads.now) ≡ cons_option name (script_names rest) = ap script_names more in
    record {
      same = ap (λ (s : List (List ℕ)). fold (insert_key byte_cmp) s (script_names rest)) c.in_ok-put_script.ensures ∙ fold_next name c.loop-head.scripts (script_names rest) ∙ ap (λ (n : List (List ℕ)). fold (insert_key byte_cmp) c.loop-head.scripts n) (sym names) ∙ c.loop-head.invariant.same;
      room = omega (arith, length_next name c.loop-head.scripts (script_names rest), ap length c.in_ok-put_script.ensures, ap length names, c.loop-head.invariant.room);
    }
