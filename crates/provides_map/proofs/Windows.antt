-- Words of a window's keys, and what a pattern makes of them.
use Rattle.std.proofs.Common.{◌≡◌, ◌≢◌, ℕ, zero, suc, ◌+◌, ◌<◌, ◌≤◌, Bool, true, false, ◌&&◌, List, [], ◌∷◌, length, get_or, drop, refl, sym, ap, subst, ◌∙◌, arith, add-one, drop-cons}
use Rattle.std.specs.Prelude.{bit_and}
use Rattle.std.proofs.lemmas.Grind.{common_steps}
use Rattle.provides_map.specs.Match.{some_suffix, first_then, is_match}
use Rattle.provides_map.specs.Pairs.{Pairs}
use Rattle.provides_map.specs.Place.{key_at}
use Rattle.provides_map.specs.Marks.{has_bit, Tells}
use Rattle.provides_map.specs.Window.{behind, has_byte, TellsRow, TellsKeys}
use Rattle.provides_map.specs.declared.row.Row.{Row}
use Rattle.provides_map.specs.declared.window.Window.{Window}
use Rattle.provides_map.proofs.Bits.{has_bit-and, has_bit-zero}
use Rattle.provides_map.proofs.Behind.{behind_byte, behind_past, behind_end}
use Rattle.provides_map.proofs.Ends.{byte_first}

-- ---- the row of a pattern, from its end

pub row_begins : (held : Pairs) (start : ℕ) (window : Window) → TellsKeys held start window
    → TellsRow held start (record { words = window.ends; places = window.longest + 1 }) (is_match [])
row_begins held start window told = record {
  at = λ j lt. record { at = λ k room within. (told.ends j (omega (arith, told.within))).at k room within ∙ sym (behind_end j (key_at held (start + k))) };
  past = λ j k le room within. behind_past j (is_match []) (key_at held (start + k)) (omega (arith, told.short k room within));
}

module _ (held : Pairs) (start : ℕ) (row : Row) (pattern : List ℕ) (i next : ℕ) (is : next + 1 ≡ i) (lt : i ≤ length pattern) where
  one_dropped : drop next pattern ≡ get_or pattern next 0 ∷ drop i pattern
  one_dropped = rw (sym is) (rw add-one (drop-cons pattern next 0 (omega arith)))

  same_tests : (test : List ℕ → Bool) → ((key : List ℕ) → test key ≡ is_match (get_or pattern next 0 ∷ drop i pattern) key) → TellsRow held start row test → TellsRow held start row (is_match (drop next pattern))
  same_tests test same told =
      let tests : test ≡ is_match (get_or pattern next 0 ∷ drop i pattern) = λ i key. same key i in
      rw one_dropped (subst (λ (t : List ℕ → Bool). TellsRow held start row t) tests told)

  pub row_star : get_or pattern next 0 ≡ 42 → TellsRow held start row (some_suffix (is_match (drop i pattern))) → TellsRow held start row (is_match (drop next pattern))
  row_star star told = same_tests (some_suffix (is_match (drop i pattern))) (λ key. rw star refl) told

  pub row_byte : get_or pattern next 0 ≢ 42 → TellsRow held start row (first_then (get_or pattern next 0) (is_match (drop i pattern))) → TellsRow held start row (is_match (drop next pattern))
  row_byte other told = same_tests (first_then (get_or pattern next 0) (is_match (drop i pattern))) (λ key. sym (byte_first (get_or pattern next 0) (is_match (drop i pattern)) key other)) told

-- ---- the bytes in front of a pattern's first star

-- of the keys `among` the pattern matches those of `front` of which its rest matches what is behind place i
pub record Front (window : Window) (pattern : List ℕ) (among front i : ℕ) : Type 0 where
  pub at : (held : Pairs) (start : ℕ) → TellsKeys held start window → (k : ℕ) → k < 64 → start + k < length held
      → (has_bit among k && is_match pattern (key_at held (start + k))) ≡ (has_bit front k && behind i (is_match (drop i pattern)) (key_at held (start + k)))

pub front_begins : (window : Window) (pattern : List ℕ) (among : ℕ) → Front window pattern among among 0
front_begins window pattern among = record { at = λ held start told k room within. refl }

same_behind : (test other : List ℕ → Bool) → ((key : List ℕ) → test key ≡ other key) → (j : ℕ) (key : List ℕ) → behind j test key ≡ behind j other key
same_behind test other same zero key = same key
same_behind test other same (suc j) [] = refl
same_behind test other same (suc j) (b ∷ bs) = same_behind test other same j bs

and_moved : (x y z : Bool) → (x && (y && z)) ≡ ((x && z) && y)
and_moved true true true = refl
and_moved true true false = refl
and_moved true false true = refl
and_moved true false false = refl
and_moved false y z = refl

module _ (window : Window) (pattern : List ℕ) (among front i : ℕ) (h : Front window pattern among front i) where
  pub front_step : i < length pattern → i < 128 → get_or pattern i 0 < 256 → get_or pattern i 0 ≢ 42
      → Front window pattern among (bit_and front (get_or (get_or window.same (get_or pattern i 0) []) i 0)) (i + 1)
  front_step lt short fits other = record {
    at = λ held start told k room within.
        let key = key_at held (start + k) in
        let b = get_or pattern i 0 in
        let rest = drop (i + 1) pattern in
        let word = get_or (get_or window.same b []) i 0 in
        let dropped : drop i pattern ≡ b ∷ rest = rw add-one (drop-cons pattern i 0 lt) in
        let one : behind i (is_match (drop i pattern)) key ≡ (behind (i + 1) (is_match rest) key && has_byte b i key)
        = rw dropped (same_behind (is_match (b ∷ rest)) (first_then b (is_match rest)) (λ k. byte_first b (is_match rest) k other) i key ∙ behind_byte b i (is_match rest) key) in
        h.at held start told k room within
        ∙ rw one (rw (has_bit-and front word k) (rw (((told.same b fits).at i short).at k room within) (and_moved (has_bit front k) (behind (i + 1) (is_match rest) key) (has_byte b i key))));
  }

  module _ (held : Pairs) (start : ℕ) (test : List ℕ → Bool) (told : TellsKeys held start window) (tells : Tells held start among test) where
    found : (word k : ℕ) → k < 64 → start + k < length held
        → has_bit word k ≡ (has_bit front k && behind i (is_match (drop i pattern)) (key_at held (start + k)))
        → has_bit word k ≡ (test (key_at held (start + k)) && is_match pattern (key_at held (start + k)))
    found word k room within is =
        is ∙ sym (h.at held start told k room within)
        ∙ ap (λ (x : Bool). x && is_match pattern (key_at held (start + k))) (tells.at k room within)

    pub front_none : front ≡ 0 → Tells held start 0 (λ key. test key && is_match pattern key)
    front_none none = record {
      at = λ k room within. found 0 k room within (rw none (rw (has_bit-zero k) refl));
    }

    pub front_whole : i ≡ length pattern → i ≤ 128 → Tells held start (bit_and front (get_or window.ends i 0)) (λ key. test key && is_match pattern key)
    front_whole all short = record {
      at = λ k room within.
          let key = key_at held (start + k) in
          let none : drop i pattern ≡ [] = grind (arith, common_steps) in
          found (bit_and front (get_or window.ends i 0)) k room within
          (has_bit-and front (get_or window.ends i 0) k ∙ rw ((told.ends i short).at k room within) (rw none (rw (behind_end i key) refl)));
    }

    pub front_star : i < length pattern → get_or pattern i 0 ≡ 42
        → (any : ℕ) → Tells held start any (behind i (some_suffix (is_match (drop (i + 1) pattern)))) → Tells held start (bit_and front any) (λ key. test key && is_match pattern key)
    front_star lt star any some = record {
      at = λ k room within.
          let key = key_at held (start + k) in
          let rest = drop (i + 1) pattern in
          let dropped : drop i pattern ≡ 42 ∷ rest = rw add-one (drop-cons pattern i 0 lt) ∙ ap (λ (b : ℕ). b ∷ rest) star in
          found (bit_and front any) k room within (has_bit-and front any k ∙ rw (some.at k room within) (rw dropped refl));
    }
