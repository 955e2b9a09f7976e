-- The pairs of a map, put one after the other.
use Rattle.std.proofs.Common.{◌≡◌, ◌∙◌, ℕ, ◌+◌, ◌<◌, suc, List, ◌∷◌, length, get_or, drop, Some, sym, ap, arith, drop-cons}
use Rattle.std.specs.Prelude.{slice_get}
use Rattle.std.proofs.lemmas.Option.{get_or_from_slice_get, slice_get_within}
use Rattle.provides_map.specs.Pairs.{Pairs, put, put_all}

-- one pair more is put
pub put_more : (all next provides meant : Pairs) (i : ℕ) (key value : List ℕ) → slice_get provides i ≡ Some (key, value) → next ≡ put all key value → put_all all (drop i provides) ≡ meant → put_all next (drop (i + 1) provides) ≡ meant
put_more all next provides meant i key value at is so =
    let lt : i < length provides = slice_get_within provides i (key, value) at in
    let one : i + 1 ≡ suc i = omega arith in
    let here : get_or provides i (key, value) ≡ (key, value) = get_or_from_slice_get provides i (key, value) (key, value) at in
    let front : drop i provides ≡ (key, value) ∷ drop (suc i) provides = drop-cons provides i (key, value) lt ∙ ap (λ (p : List ℕ × List ℕ). p ∷ drop (suc i) provides) here in
    ap (λ (k : ℕ). put_all next (drop k provides)) one
    ∙ ap (λ (ps : Pairs). put_all ps (drop (suc i) provides)) is
    ∙ sym (ap (λ (ps : Pairs). put_all all ps) front)
    ∙ so
