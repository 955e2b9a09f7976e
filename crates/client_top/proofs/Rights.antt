-- The entry of a deployment that begins is right.
use Rattle.std.proofs.Common.{◌≡◌, ℕ, ◌*◌, List, [], ◌∷◌, ◌++◌, length, length-append, refl, sym, subst, arith}
use Rattle.std.specs.Prelude.{◌<◌, ◌≤◌, ◌^◌, ◌&&◌, Bool, true, false, Option, Some, IsSomeAnd, IsTrue}
use Rattle.std.specs.List.{AllPass, AllByRecursion, sum_by}
use Rattle.std.proofs.lemmas.List.Elements.{recursion_from_All}
use Rattle.std.proofs.lemmas.List.Sums.{sum_by-cons}
use Rattle.upd_text.specs.Text.{IsName}
use Rattle.upd_text.specs.Parts.{is_plain}
use Rattle.upd_text.proofs.TextLemmas.{name_parts}
use Rattle.artifact_meta.specs.Header.{AreKinds}
use Rattle.script_names.specs.Scripts.{AreScripts, is_artifact_script}
use Rattle.provides_map.specs.Pairs.{Pairs, IsMap, get}
use Rattle.provides_map.specs.After.{after, artifact_name}
use Rattle.provides_map.specs.Merge.{pair_length}
use Rattle.provides_map.proofs.Effects.{after_name}
use Rattle.admit.specs.declared.admitted.Admitted.{Admitted}
use Rattle.admit.specs.Change.{change_of}
use Rattle.flow_table.specs.Valid.{is_valid, is_outcome, is_undoable, is_reboot, is_count}
use Rattle.flow_table.specs.Table.{fresh_position}
use Rattle.record_codec.specs.declared.length.TheConstants.{LARGEST_RECORD}
use Rattle.record_codec.specs.Keys.{is_name}
use Rattle.record_codec.specs.Spelling.{IsRight, record_length, body, pairs, kinds, scripts, is_kind}
use Rattle.record_codec.proofs.Sizes.{pairs_length}
use Rattle.record_codec.proofs.Texts.{name_true}
use Rattle.client_top.specs.Steps.{entry_by}

pub fresh-valid : is_valid fresh_position ≡ true
unfolding is_outcome is_undoable is_reboot is_count
fresh-valid = refl

-- a pair takes four bytes at least
few : (ps : Pairs) → 4 * length ps ≤ sum_by pair_length ps
few [] = omega arith
few (p ∷ ps) = omega (arith, few ps, sum_by-cons pair_length p ps)

map-few : (ps : Pairs) (bytes : ℕ) → length (pairs ps) ≤ bytes → 4 * length ps ≤ bytes
map-few ps bytes h = omega (arith, h, few ps, pairs_length ps)

body-is : (id : ℕ) (before : Pairs) (plan : Admitted) → length (body (entry_by id before plan)) ≡ length (((pairs before ++ pairs (after before (change_of plan))) ++ kinds plan.header.kinds) ++ scripts plan.scripts)
unfolding body
body-is id before plan = refl

body-parts : (id : ℕ) (before : Pairs) (plan : Admitted) → (length (pairs before) ≤ record_length (entry_by id before plan)) × (length (pairs (after before (change_of plan))) ≤ record_length (entry_by id before plan))
body-parts id before plan =
    let new = after before (change_of plan) in
    let a = length-append (pairs before) (pairs new) in
    let b = length-append (pairs before ++ pairs new) (kinds plan.header.kinds) in
    let c = length-append ((pairs before ++ pairs new) ++ kinds plan.header.kinds) (scripts plan.scripts) in
    let d = body-is id before plan in
    (omega (arith, a, b, c, d), omega (arith, a, b, c, d))

named-by : (name : List ℕ) (held : Option (List ℕ)) → held ≡ Some name → IsName name → IsSomeAnd held (λ n. (1 ≤ length n) × (length n ≤ 128))
named-by name held is n = let p = name_parts name n in subst (λ (o : Option (List ℕ)). IsSomeAnd o (λ n. (1 ≤ length n) × (length n ≤ 128))) (sym is) (omega (arith, p.some), p.short)

both : (a b : Bool) → a ≡ true → b ≡ true → (a && b) ≡ true
both true true a b = refl
both true false a b = absurd cc
both false c a b = absurd cc

plain-kinds : (names : List (List ℕ)) → AllByRecursion IsName names → AllByRecursion (λ x. is_plain x ≡ true) names → AllByRecursion (λ kind. IsTrue (is_kind kind)) names
unfolding is_kind
plain-kinds [] n p = tt
plain-kinds (name ∷ names) n p = (both (is_name name) (is_plain name) (name_true name n.0) p.0, plain-kinds names n.1 p.1)

-- the entry by its parts, where its record fits
pub right-by : (id : ℕ) (before : Pairs) (plan : Admitted) → id < 2 ^ 16 → IsMap before → IsMap (after before (change_of plan)) → IsName plan.header.name → AllByRecursion IsName plan.header.kinds → AreScripts plan.scripts →
    record_length (entry_by id before plan) ≤ LARGEST_RECORD → AreKinds plan.header.kinds → AllPass is_artifact_script plan.scripts → IsRight (entry_by id before plan)
right-by id before plan small map new name names scripts fits kinds brought =
    let parts = body-parts id before plan in
    let old_few = map-few before (record_length (entry_by id before plan)) parts.0 in
    let new_few = map-few (after before (change_of plan)) (record_length (entry_by id before plan)) parts.1 in
    record {
      position = fresh-valid;
      before = map;
      before_fits = omega (arith, old_few, fits);
      new = new;
      new_fits = omega (arith, new_few, fits);
      named = named-by plan.header.name (get (after before (change_of plan)) artifact_name) (after_name before (change_of plan)) name;
      kinds = plain-kinds plan.header.kinds names (recursion_from_All (λ x. is_plain x ≡ true) plan.header.kinds kinds.plain);
      some = kinds.some;
      few = kinds.few;
      small = small;
      scripts = scripts;
      brought = recursion_from_All (λ x. is_artifact_script x ≡ true) plan.scripts brought;
    }
