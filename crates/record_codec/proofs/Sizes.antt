-- The sizes of pairs and short texts, one by one.
use Rattle.std.proofs.Common.{◌≡◌, ℕ, ◌+◌, ◌<◌, List, [], ◌∷◌, refl, length, get_or, take, ap, ◌∙◌, length-append, arith}
use Rattle.std.specs.List.{flat_map, sum_by}
use Rattle.std.proofs.lemmas.List.Sums.{sum_by-cons}
use Rattle.provides_map.specs.Pairs.{Pairs}
use Rattle.provides_map.specs.Merge.{pair_length}
use Rattle.record_codec.specs.Spelling.{short_text, long_text, pair, pairs, scripts}
use Rattle.record_codec.proofs.Puts.{flat_map_more}

size_more : {X : Type 0} (f : X → List ℕ) (xs : List X) (i : ℕ) (x : X) → i < length xs → x ≡ get_or xs i x → length (flat_map f (take (i + 1) xs)) ≡ length (flat_map f (take i xs)) + length (f x)
size_more f xs i x h is = ap length (flat_map_more f xs i x h is) ∙ length-append (flat_map f (take i xs)) (f x)

pair_size : (p : List ℕ × List ℕ) → length (pair p) ≡ 4 + length p.0 + length p.1
unfolding pair long_text
pair_size p = omega (arith, length-append (long_text p.0) (long_text p.1))

pub pair_more : (ps : Pairs) (i : ℕ) (p : List ℕ × List ℕ) → i < length ps → p ≡ get_or ps i p → length (flat_map pair (take (i + 1) ps)) ≡ length (flat_map pair (take i ps)) + (4 + length p.0 + length p.1)
pair_more ps i p h is = omega (arith, size_more pair ps i p h is, pair_size p)

pub name_more : (names : List (List ℕ)) (i : ℕ) (name : List ℕ) → i < length names → name ≡ get_or names i name → length (flat_map short_text (take (i + 1) names)) ≡ length (flat_map short_text (take i names)) + (1 + length name)
unfolding short_text
name_more names i name h is = omega (arith, size_more short_text names i name h is)

pub pairs_size : (ps : Pairs) → length (pairs ps) ≡ 2 + length (flat_map pair ps)
unfolding pairs
pairs_size ps = omega arith

pub scripts_size : (names : List (List ℕ)) → length (scripts names) ≡ 1 + length (flat_map short_text names)
unfolding scripts
scripts_size names = omega arith

sum_is_length : (ps : Pairs) → length (flat_map pair ps) ≡ sum_by pair_length ps
sum_is_length [] = refl
sum_is_length (p ∷ ps) = omega (arith, length-append (pair p) (flat_map pair ps), pair_size p, sum_by-cons pair_length p ps, sum_is_length ps)

-- a map's bytes are the number of its pairs and those of each pair
pub pairs_length : (ps : Pairs) → length (pairs ps) ≡ 2 + sum_by pair_length ps
pairs_length ps = omega (arith, pairs_size ps, sum_is_length ps)
