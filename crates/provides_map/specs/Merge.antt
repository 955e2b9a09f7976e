-- Two lists in key order, taken a pair at a time, and how long a map is.
use Rattle.std.specs.Prelude.{ℕ, ◌+◌, ◌<◌, ◌≤◌, ◌^◌, Bool, ◌||◌, ◌&&◌, if◌then◌else◌, is_some, List, [], ◌∷◌, length, drop, filter, Option, Some, None}
use Rattle.std.specs.List.{sum_by}
use Rattle.std.specs.Str.{bytes_eq}
use Rattle.std.specs.Ordering.{match_ordering}
use Rattle.provides_map.specs.Pairs.{Pairs, byte_cmp, put_all}
use Rattle.provides_map.specs.After.{stays, artifact_name, artifact_group}
use Rattle.provides_map.specs.declared.change.Clears.{Clears}
use Rattle.provides_map.specs.declared.change.Change.{Change}
use Rattle.provides_map.specs.declared.merge.Places.{Places}
use Rattle.provides_map.specs.declared.merge.Side.{Side}
use Rattle.provides_map.specs.declared.merge.Side.TheVariants.{Held, Brought, Both}
use Rattle.provides_map.specs.declared.length.MapLength.{MapLength}

-- what is left from two places on: of the pairs held those that stay, and over them the pairs brought
abbrev pub rest : Clears → Pairs → Pairs → Places → Pairs
rest clears held brought at = put_all (filter (stays clears) (drop at.held held)) (drop at.brought brought)

-- the places are at most at the ends
pub record AreWithin (ps qs : Pairs) (at : Places) : Type 0 where
  pub held : at.held ≤ length ps
  pub brought : at.brought ≤ length qs

-- the side of the lesser key
abbrev pub lesser : List ℕ → List ℕ → Side
lesser key other = match_ordering (byte_cmp key other) Held Both Brought

-- the side of the next pair, if there is one
abbrev pub side_of : Pairs → Pairs → Option Side
side_of [] [] = None
side_of [] (q ∷ qs) = Some Brought
side_of (p ∷ ps) [] = Some Held
side_of (p ∷ ps) (q ∷ qs) = Some (lesser p.0 q.0)

-- the place has a pair, and the next place is a number of 32 bits
pub record IsPlace (ps : Pairs) (i : ℕ) : Type 0 where
  pub within : i < length ps
  pub few : length ps < 2 ^ 32

-- the pair of that side is there
abbrev pub HasPair : Pairs → Pairs → Places → Side → Type 0
HasPair ps qs at Held = IsPlace ps at.held
HasPair ps qs at Brought = IsPlace qs at.brought
HasPair ps qs at Both = IsPlace ps at.held × IsPlace qs at.brought

-- ---- how long a map is

-- a pair's bytes in a record: two for each length, the key and the value
abbrev pub pair_length : List ℕ × List ℕ → ℕ
pair_length p = 4 + length p.0 + length p.1

-- how many pairs a map has, and their bytes in a record
abbrev pub map_length : Pairs → MapLength
map_length ps = record { pairs = length ps; bytes = sum_by pair_length ps }

-- whether the change sets the value of the key itself: the name, and the group where it has one
abbrev pub is_own : Change → List ℕ → Bool
is_own change key = bytes_eq key artifact_name || (is_some change.group && bytes_eq key artifact_group)

-- what a pair adds to a sum over the pairs whose value the change doesn't set itself
abbrev pub if_not_own : Change → (List ℕ × List ℕ → ℕ) → List ℕ × List ℕ → ℕ
if_not_own change f p = if is_own change p.0 then 0 else f p

abbrev pub group_sum : (List ℕ × List ℕ → ℕ) → Option (List ℕ) → ℕ
group_sum f None = 0
group_sum f (Some group) = f (artifact_group, group)

-- the sum of the pairs that the change sets itself: its name, and its group where it has one
abbrev pub own_sum : (List ℕ × List ℕ → ℕ) → Change → ℕ
own_sum f change = f (artifact_name, change.name) + group_sum f change.group

abbrev pub own_length : Change → MapLength
own_length change = record { pairs = own_sum (λ p. 1) change; bytes = own_sum pair_length change }
