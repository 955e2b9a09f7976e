-- The scripts of a tree.
use Rattle.std.proofs.Common.{◌≡◌, ℕ, ◌+◌, ◌≤◌, true, false, cond, ltb, List, length, Option, Some, None, refl, arith}
use Rattle.std.specs.Prelude.{fold}
use Rattle.std.specs.List.{All, cons_option}
use Rattle.std.specs.BTreeSet.{insert_key}
use Rattle.std.proofs.lemmas.Bool.Decides.{nat_tests}
use Rattle.upd_text.specs.Order.{byte_cmp}
use Rattle.std.specs.Option.{is_some}
use Rattle.script_names.specs.declared.place.Place.{Place}
use Rattle.script_names.specs.Scripts.{is_artifact_script, is_artifact_place, place_of}
use Rattle.script_names.proofs.Inserted.{length-insert_key}
use Rattle.admit.specs.Admit.{script_names, bad_script, bad_script_name, too_many_scripts, with_script}
use Rattle.admit.specs.Table.{FileHead}
use Rattle.admit.specs.declared.refusal.Refusal.{Refusal}
use Rattle.admit.specs.declared.refusal.Refusal.TheVariants.{BadScriptName}
use Rattle.admit.proofs.TableLemmas.{none_at_all}

few_from : (n : ℕ) (refusal : Refusal) → cond (ltb 64 n) (Some refusal) None ≡ None → n ≤ 64
few_from n refusal h = elim (ltb 64 n) as (λ b. b ≡ ltb 64 n → cond b (Some refusal) None ≡ None → n ≤ 64) [
  | true ↦ (λ e k. absurd cc)
  | false ↦ (λ e k. grind (arith, nat_tests))
] refl h

pub few_scripts : (heads : List FileHead) → too_many_scripts heads ≡ None → length (script_names heads) ≤ 64
unfolding too_many_scripts
few_scripts heads h = few_from (length (script_names heads)) _ h

pub good_scripts : (heads : List FileHead) → bad_script_name heads ≡ None → All (λ (head : FileHead). bad_script head.path ≡ None) heads
unfolding bad_script_name
good_scripts heads h = none_at_all BadScriptName (λ (head : FileHead). bad_script head.path) heads h

-- ---- one more script

pub fold_next : (o : Option (List ℕ)) (names rest : List (List ℕ)) → fold (insert_key byte_cmp) (with_script names o) rest ≡ fold (insert_key byte_cmp) names (cons_option o rest)
fold_next None names rest = refl
fold_next (Some name) names rest = refl

pub length_next : (o : Option (List ℕ)) (names rest : List (List ℕ)) → length (with_script names o) + length rest ≤ length names + length (cons_option o rest)
length_next None names rest = omega arith
length_next (Some name) names rest = omega (arith, length-insert_key names name)

no_place : (o : Option Place) → is_some o ≡ false → is_artifact_place o ≡ false
no_place None h = refl
no_place (Some place) h = absurd cc

pub no_script : (name : List ℕ) → is_some (place_of name) ≡ false → is_artifact_script name ≡ false
no_script name h = no_place (place_of name) h
