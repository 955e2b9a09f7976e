-- The wants of one list, then those of another.
use Rattle.std.proofs.Common.{◌≡◌, ◌∙◌, ℕ, ◌+◌, ◌<◌, suc, List, [], ◌∷◌, ◌++◌, length, get_or, drop, Option, Some, None, Bool, true, false, cond, refl, sym, ap, arith, drop-cons}
use Rattle.std.specs.List.{flat_map}
use Rattle.std.specs.Option.{option_or}
use Rattle.std.proofs.lemmas.List.Concat.{flat_map-cons}
use Rattle.provides_map.specs.Pairs.{Pairs}
use Rattle.provides_map.specs.After.{first_unmet, allows, value_of}
use Rattle.provides_map.specs.declared.change.Want.{Want}
use Rattle.artifact_meta.specs.declared.info.TypeInfo.{TypeInfo}

by_test : (x : Bool) (k : List ℕ) (p q r : Option (List ℕ)) → p ≡ option_or q r → cond x p (Some k) ≡ option_or (cond x q (Some k)) r
by_test true k p q r e = e
by_test false k p q r e = refl

pub unmet_append : (a b : List Want) (type : List ℕ) (held : Pairs) → first_unmet (a ++ b) type held ≡ option_or (first_unmet a type held) (first_unmet b type held)
unmet_append [] b type held = refl
unmet_append (w ∷ ws) b type held = by_test (allows w.allowed (value_of type held w.key)) w.key (first_unmet (ws ++ b) type held) (first_unmet ws type held) (first_unmet b type held) (unmet_append ws b type held)

-- ---- the payloads, one after the other

abbrev pub wanted : List TypeInfo → List Want
wanted infos = flat_map (λ (info : TypeInfo). info.wants) infos

module _ (infos : List TypeInfo) (i : ℕ) (info : TypeInfo) (type : List ℕ) (held : Pairs) (lt : i < length infos) (is : info ≡ get_or infos i info) where
  here : wanted (drop i infos) ≡ info.wants ++ wanted (drop (i + 1) infos)
  here =
      let one : suc i ≡ i + 1 = omega arith in
      ap wanted (drop-cons infos i info lt)
      ∙ flat_map-cons (λ (x : TypeInfo). x.wants) (get_or infos i info) (drop (suc i) infos)
      ∙ ap (λ (x : TypeInfo). x.wants ++ wanted (drop (suc i) infos)) (sym is)
      ∙ ap (λ (k : ℕ). info.wants ++ wanted (drop k infos)) one

  both : first_unmet (wanted (drop i infos)) type held ≡ option_or (first_unmet info.wants type held) (first_unmet (wanted (drop (i + 1) infos)) type held)
  both = ap (λ (ws : List Want). first_unmet ws type held) here ∙ unmet_append info.wants (wanted (drop (i + 1) infos)) type held

  -- a want of this payload isn't met
  pub unmet_here : (key : List ℕ) (all : Option (List ℕ)) → first_unmet info.wants type held ≡ Some key → first_unmet (wanted (drop i infos)) type held ≡ all → Some key ≡ all
  unmet_here key all found so = sym (both ∙ ap (λ (o : Option (List ℕ)). option_or o (first_unmet (wanted (drop (i + 1) infos)) type held)) found) ∙ so

  -- all wants of this payload are met
  pub met_here : (all : Option (List ℕ)) → first_unmet info.wants type held ≡ None → first_unmet (wanted (drop i infos)) type held ≡ all → first_unmet (wanted (drop (i + 1) infos)) type held ≡ all
  met_here all none so = sym (both ∙ ap (λ (o : Option (List ℕ)). option_or o (first_unmet (wanted (drop (i + 1) infos)) type held)) none) ∙ so
