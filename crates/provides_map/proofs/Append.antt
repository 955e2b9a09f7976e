-- A pair behind all others.
use Rattle.std.proofs.Common.{◌≡◌, ℕ, ◌<◌, List, [], ◌∷◌, ◌++◌, length, length-append, IsTrue, Less, refl, ap, ◌∙◌, arith}
use Rattle.std.specs.Map.{keys_of}
use Rattle.upd_text.specs.Order.{is_below, byte_cmp, last_from, itself}
use Rattle.upd_text.specs.Text.{IsName, IsValue}
use Rattle.upd_text.proofs.OrderLemmas.{less, all_push, sorted_push}
use Rattle.provides_map.specs.Pairs.{Pairs, IsPair, IsMap}
use Rattle.provides_map.specs.Last.{key_of, last_key}

-- the last key is the last one of the keys
last_of-keys : (last : List ℕ) (ps : Pairs) → last_from itself last (keys_of ps) ≡ last_from key_of last ps
last_of-keys last [] = refl
last_of-keys last (p ∷ ps) = last_of-keys p.0 ps

keys_of-push : (ps : Pairs) (p : List ℕ × List ℕ) → keys_of (ps ++ p ∷ []) ≡ keys_of ps ++ p.0 ∷ []
keys_of-push [] p = refl
keys_of-push (q ∷ ps) p = ap (λ (ks : List (List ℕ)). q.0 ∷ ks) (keys_of-push ps p)

pub map_push : (ps : Pairs) (key value : List ℕ) → IsMap ps → length ps < 4294967295 → IsTrue (is_below (last_key ps) key) → IsName key → IsValue value → IsMap (ps ++ (key, value) ∷ [])
map_push ps key value map room above name value-is =
    let under : byte_cmp (last_from itself [] (keys_of ps)) key ≡ Less = ap (λ (last : List ℕ). byte_cmp last key) (last_of-keys [] ps) ∙ less (byte_cmp (last_key ps) key) above in
    record {
      sorted = rw (keys_of-push ps (key, value)) (sorted_push [] (keys_of ps) key map.sorted under);
      pairs = all_push IsPair ps (key, value) map.pairs (name, value-is);
      few = omega (arith, map.few, length-append ps ((key, value) ∷ []));
    }
