-- What a change leaves at each key.
use Rattle.std.proofs.Common.{◌≡◌, ◌≢◌, ℕ, Bool, true, false, not, cond, List, ◌++◌, Option, Some, None, refl, sym, ap, ◌∙◌}
use Rattle.std.specs.Prelude.{◌&&◌, codes, IsSome, option_map}
use Rattle.std.specs.List.{filter}
use Rattle.std.specs.Str.{bytes_eq}
use Rattle.std.specs.BTreeMap.{is_at}
use Rattle.std.proofs.lemmas.Bool.{not_from_false, not_from_true, and_from, and_right, false_from_ne_true, true≢false}
use Rattle.std.proofs.lemmas.List.Folds.{Any-from_list_any, list_any-from_Any}
use Rattle.std.proofs.lemmas.Slice.Eq.{bytes_eq-Decides}
use Rattle.std.proofs.lemmas.Map.Entries.{lookup-filter-keys}
use Rattle.provides_map.specs.Pairs.{Pairs, byte_cmp, get, put_all, IsMap}
use Rattle.provides_map.specs.Match.{is_match}
use Rattle.provides_map.specs.After.{after, broken, stays, is_cleared, put_some, artifact_name, artifact_group}
use Rattle.provides_map.specs.ByKey.{IsCleared, IsOther}
use Rattle.provides_map.specs.declared.change.Clears.{Clears}
use Rattle.provides_map.specs.declared.change.Clears.TheVariants.{All, Listed}
use Rattle.provides_map.specs.declared.change.Change.{Change}
use Rattle.provides_map.proofs.Puts.{get_put, get_other}
use Rattle.provides_map.proofs.Lookups.{same_key, get_put_all_none, get_put_all_some}
use Rattle.provides_map.proofs.Pieces.{means_match, match_is}

group_is_not_name : artifact_group ≢ artifact_name
group_is_not_name e = true≢false (sym ((bytes_eq-Decides artifact_group artifact_name).1 e))

-- ---- what is cleared

means_cleared : (clears : Clears) (key : List ℕ) → is_cleared clears key ≡ true → IsCleared clears key
means_cleared All key h = tt
means_cleared (Listed patterns) key h = (let a = Any-from_list_any (λ p. is_match p key) patterns h in (a.0, a.1, a.2, a.3, means_match a.1 key a.4))

cleared_is : (clears : Clears) (key : List ℕ) → IsCleared clears key → is_cleared clears key ≡ true
cleared_is All key h = refl
cleared_is (Listed patterns) key h = list_any-from_Any (λ p. is_match p key) patterns (h.0, h.1, h.2, h.3, match_is h.1 key h.4)

-- whether a key stays
abbrev key_stays : Clears → List ℕ → Bool
key_stays clears key = not (bytes_eq key artifact_name) && not (is_cleared clears key)

get_kept : (held : Pairs) (clears : Clears) (key : List ℕ) (b : Bool) → key_stays clears key ≡ b → get (filter (stays clears) held) key ≡ cond b (get held key) None
get_kept held clears key b is = lookup-filter-keys (is_at (byte_cmp key)) (key_stays clears) b (λ k t. ap (key_stays clears) (sym (same_key key k t)) ∙ is) held

module _ (held : Pairs) (clears : Clears) (key : List ℕ) where
  get_stays : key ≢ artifact_name → ¬ IsCleared clears key → get (filter (stays clears) held) key ≡ get held key
  get_stays name free =
      let a : bytes_eq key artifact_name ≡ false = false_from_ne_true _ (λ h. name ((bytes_eq-Decides key artifact_name).0 h)) in
      let b : is_cleared clears key ≡ false = false_from_ne_true _ (λ h. free (means_cleared clears key h)) in
      get_kept held clears key true (and_from _ _ (not_from_false _ a) (not_from_false _ b))

  get_cleared : IsCleared clears key → get (filter (stays clears) held) key ≡ None
  get_cleared h = get_kept held clears key false (and_right _ _ (not_from_true _ (cleared_is clears key h)))

-- ---- the group and the name

get_put_some : (ps : Pairs) (name key : List ℕ) (value : Option (List ℕ)) → (IsSome value → key ≢ name) → get (put_some ps name value) key ≡ get ps key
get_put_some ps name key None other = refl
get_put_some ps name key (Some value) other = get_other ps name value key (other refl)

module _ (held : Pairs) (change : Change) where
  pub after_name : get (after held change) artifact_name ≡ Some change.name
  unfolding after
  after_name = get_put (put_some (put_all (filter (stays change.clears) held) change.provides) artifact_group change.group) artifact_name change.name

  pub after_group : (group : List ℕ) → change.group ≡ Some group → get (after held change) artifact_group ≡ Some group
  unfolding after
  after_group group is =
      let all = put_all (filter (stays change.clears) held) change.provides in
      get_other (put_some all artifact_group change.group) artifact_name change.name artifact_group group_is_not_name
      ∙ ap (λ (g : Option (List ℕ)). get (put_some all artifact_group g) artifact_group) is
      ∙ get_put all artifact_group group

  -- every other key has what the change's provides make of it
  after_other : (key : List ℕ) → IsOther change key → get (after held change) key ≡ get (put_all (filter (stays change.clears) held) change.provides) key
  unfolding after
  after_other key other =
      let all = put_all (filter (stays change.clears) held) change.provides in
      get_other (put_some all artifact_group change.group) artifact_name change.name key other.not_name ∙ get_put_some all artifact_group key change.group other.not_group

  module _ (key : List ℕ) (map : IsMap change.provides) (other : IsOther change key) where
    pub after_provided : (value : List ℕ) → get change.provides key ≡ Some value → get (after held change) key ≡ Some value
    after_provided value is = after_other key other ∙ get_put_all_some (filter (stays change.clears) held) change.provides key value map.sorted is

    pub after_kept : get change.provides key ≡ None → ¬ IsCleared change.clears key → get (after held change) key ≡ get held key
    after_kept none free = after_other key other ∙ get_put_all_none (filter (stays change.clears) held) change.provides key none ∙ get_stays held change.clears key other.not_name free

    pub after_cleared : get change.provides key ≡ None → IsCleared change.clears key → get (after held change) key ≡ None
    after_cleared none cleared = after_other key other ∙ get_put_all_none (filter (stays change.clears) held) change.provides key none ∙ get_cleared held change.clears key cleared

-- ---- a broken map

pub broken_name : (held : Pairs) (name : List ℕ) → get held artifact_name ≡ Some name → get (broken held) artifact_name ≡ Some (name ++ codes "_INCONSISTENT")
unfolding broken
broken_name held name is =
    ap (λ (n : Option (List ℕ)). get (put_some held artifact_name (option_map (λ (m : List ℕ). m ++ codes "_INCONSISTENT") n)) artifact_name) is
    ∙ get_put held artifact_name (name ++ codes "_INCONSISTENT")

pub broken_other : (held : Pairs) (key : List ℕ) → key ≢ artifact_name → get (broken held) key ≡ get held key
unfolding broken
broken_other held key other = get_put_some held artifact_name key (option_map (λ name. name ++ codes "_INCONSISTENT") (get held artifact_name)) (λ _. other)

pub ruleset change_rules = (after_name, after_group, after_provided, after_kept, after_cleared)
