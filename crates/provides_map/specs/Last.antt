-- The last key of a map.
use Rattle.std.specs.Prelude.{ℕ, List, []}
use Rattle.upd_text.specs.Order.{last_from}
use Rattle.provides_map.specs.Pairs.{Pairs}

abbrev pub key_of : List ℕ × List ℕ → List ℕ
key_of p = p.0

-- the greatest key, or the empty list where there is none
abbrev pub last_key : Pairs → List ℕ
last_key ps = last_from key_of [] ps
