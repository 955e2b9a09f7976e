-- Rows of words, a column after another.
use Rattle.std.proofs.Common.{◌≡◌, ℕ, zero, suc, ◌+◌, ◌-◌, ◌<◌, ◌≤◌, Bool, true, false, ◌&&◌, ◌||◌, List, length, get_or, set, refl, sym, ap, ◌∙◌, arith, inl, inr, ◌⊎◌}
use Rattle.std.specs.Prelude.{bit_and, bit_or}
use Rattle.std.proofs.lemmas.Grind.{common_steps}
use Rattle.std.proofs.lemmas.Bool.{cases_lt}
use Rattle.provides_map.specs.Match.{some_suffix, first_then}
use Rattle.provides_map.specs.Pairs.{Pairs}
use Rattle.provides_map.specs.Place.{key_at}
use Rattle.provides_map.specs.Marks.{has_bit, Tells}
use Rattle.provides_map.specs.Window.{behind, has_byte, TellsByte, TellsRow}
use Rattle.provides_map.specs.declared.row.Row.{Row}
use Rattle.provides_map.proofs.Bits.{has_bit-and, has_bit-or, has_bit-zero}
use Rattle.provides_map.proofs.Behind.{behind_byte, behind_star, star_past}

-- ---- one byte more

-- below place n each word has moved down, and lost the keys that lack the byte; none is left where `any` has no bit
pub record Moved (old new same : List ℕ) (any n : ℕ) : Type 0 where
  pub below : (j : ℕ) → j < n → get_or new j 0 ≡ bit_and (get_or old (j + 1) 0) (get_or same j 0)
  pub from : (j : ℕ) → n ≤ j → get_or new j 0 ≡ get_or old j 0
  pub none : (j k : ℕ) → j < n → has_bit any k ≡ false → has_bit (get_or new j 0) k ≡ false

pub moved_begins : (row same : List ℕ) → Moved row row same 0 0
moved_begins row same = record { below = λ j lt. absurd (omega arith); from = λ j le. refl; none = λ j k lt h. absurd (omega arith) }

or_parts : (x y : Bool) → (x || y) ≡ false → (x ≡ false) × (y ≡ false)
or_parts false false h = (refl, refl)
or_parts true y h = absurd (cc)
or_parts false true h = absurd (cc)

pub moved_step : (old new same : List ℕ) (any n word : ℕ) → n < length new → word ≡ bit_and (get_or new (n + 1) 0) (get_or same n 0)
    → Moved old new same any n → Moved old (set new n word) same (bit_or any word) (n + 1)
moved_step old new same any n word lt is h = record {
  below = λ j less. elim (cases_lt j n) [
    | inl sooner ↦ grind (arith, common_steps, h.below j)
    | inr same ↦ (let j-is : j ≡ n = omega arith in rw j-is (grind (arith, common_steps, h.from (n + 1))))
  ];
  from = λ j more. grind (arith, common_steps, h.from j);
  none = λ j k less all. let parts = or_parts (has_bit any k) (has_bit word k) (sym (has_bit-or any word k) ∙ all) in elim (cases_lt j n) [
    | inl sooner ↦ grind (arith, common_steps, h.none j k sooner parts.0)
    | inr same ↦ (let j-is : j ≡ n = omega arith in rw j-is (grind (arith, common_steps, parts.1)))
  ];
}

module _ (old new : Row) (same : List ℕ) (any n : ℕ) (fits : old.places ≤ 129) (all : n ≡ old.places - 1) (moved : Moved old.words new.words same any n)
    (held : Pairs) (start byte : ℕ) (test : List ℕ → Bool) (told : TellsRow held start old test) (bytes : TellsByte held start byte same) where
  moved_at : (j : ℕ) → j < n → Tells held start (get_or new.words j 0) (behind j (first_then byte test))
  moved_at j lt = record {
    at = λ k room within.
        ap (λ w. has_bit w k) (moved.below j lt)
        ∙ has_bit-and (get_or old.words (j + 1) 0) (get_or same j 0) k
        ∙ rw ((told.at (j + 1) (omega arith)).at k room within) (rw ((bytes.at j (omega arith)).at k room within) (sym (behind_byte byte j test (key_at held (start + k)))));
  }

  pub moved_ends : new.places ≤ n → (n ≤ new.places) ⊎ (any ≡ 0) → TellsRow held start new (first_then byte test)
  moved_ends less whole = record {
    at = λ j lt. moved_at j (omega arith);
    past = λ j k le room within. elim (cases_lt j n) [
      | inl before ↦ (elim whole [
        | inl more ↦ absurd (omega arith)
        | inr none ↦ sym ((moved_at j before).at k room within) ∙ moved.none j k before (ap (λ w. has_bit w k) none ∙ has_bit-zero k)
      ])
      | inr behind_all ↦ behind_byte byte j test (key_at held (start + k)) ∙ ap (λ (x : Bool). x && has_byte byte j (key_at held (start + k))) (told.past (j + 1) k (omega arith) room within)
    ];
  }

-- ---- a star more

-- from place n on, up to `places`, each word has the keys of those behind it too, and `any` has those of them all
pub record Spread (old new : List ℕ) (any n places : ℕ) : Type 0 where
  pub below : (j : ℕ) → j < n → get_or new j 0 ≡ get_or old j 0
  pub inner : (j : ℕ) → n ≤ j → j + 1 < places → get_or new j 0 ≡ bit_or (get_or new (j + 1) 0) (get_or old j 0)
  pub last : (j : ℕ) → n ≤ j → j + 1 ≡ places → get_or new j 0 ≡ bit_or 0 (get_or old j 0)
  pub some : n < places → any ≡ get_or new n 0
  pub none : n ≡ places → any ≡ 0

pub spread_begins : (row : List ℕ) (places : ℕ) → Spread row row 0 places places
spread_begins row places = record {
  below = λ j lt. refl;
  inner = λ j le lt. absurd (omega arith);
  last = λ j le is. absurd (omega arith);
  some = λ lt. absurd (omega arith);
  none = λ is. refl;
}

pub spread_step : (old new : List ℕ) (any word n next places : ℕ) → next + 1 ≡ n → n ≤ places → next < length new → word ≡ bit_or any (get_or new next 0)
    → Spread old new any n places → Spread old (set new next word) word next places
spread_step old new any word n next places before in_row lt is h = record {
  below = λ j less. grind (arith, common_steps, h.below j);
  inner = λ j le more. elim (cases_lt next j) [
    | inl behind_it ↦ grind (arith, common_steps, h.inner j)
    | inr here ↦ (let j-is : j ≡ next = omega arith in rw j-is (grind (arith, common_steps, h.below next, h.some)))
  ];
  last = λ j le at_end. elim (cases_lt next j) [
    | inl behind_it ↦ grind (arith, common_steps, h.last j)
    | inr here ↦ (let j-is : j ≡ next = omega arith in rw j-is (grind (arith, common_steps, h.below next, h.none)))
  ];
  some = λ less. grind (arith, common_steps);
  none = λ same. absurd (omega arith);
}

module _ (old new : Row) (any : ℕ) (kept : new.places ≡ old.places) (spread : Spread old.words new.words any 0 old.places)
    (held : Pairs) (start : ℕ) (test : List ℕ → Bool) (told : TellsRow held start old test) where
  none_past : (k : ℕ) → k < 64 → start + k < length held → (j : ℕ) → old.places ≤ j → behind j (some_suffix test) (key_at held (start + k)) ≡ false
  none_past k room within = star_past old.places test (key_at held (start + k)) (λ j le. told.past j k le room within)

  spread_at : (k : ℕ) → k < 64 → start + k < length held → (left j : ℕ) → j + suc left ≡ old.places
      → has_bit (get_or new.words j 0) k ≡ behind j (some_suffix test) (key_at held (start + k))
  spread_at k room within zero j is =
      let key = key_at held (start + k) in
      ap (λ w. has_bit w k) (spread.last j (omega arith) (omega arith))
      ∙ has_bit-or 0 (get_or old.words j 0) k
      ∙ rw (has_bit-zero k) (rw ((told.at j (omega arith)).at k room within) (rw (behind_star j test key) (rw (none_past k room within (j + 1) (omega arith)) (or_false (behind j test key)))))
    where
      or_false : (x : Bool) → (false || x) ≡ (x || false)
      or_false true = refl
      or_false false = refl
  spread_at k room within (suc left) j is =
      let key = key_at held (start + k) in
      ap (λ w. has_bit w k) (spread.inner j (omega arith) (omega arith))
      ∙ has_bit-or (get_or new.words (j + 1) 0) (get_or old.words j 0) k
      ∙ rw ((told.at j (omega arith)).at k room within) (rw (spread_at k room within left (j + 1) (omega arith)) (rw (behind_star j test key) (or_swapped (behind (j + 1) (some_suffix test) key) (behind j test key))))
    where
      or_swapped : (x y : Bool) → (x || y) ≡ (y || x)
      or_swapped true true = refl
      or_swapped true false = refl
      or_swapped false true = refl
      or_swapped false false = refl

  pub spread_ends : TellsRow held start new (some_suffix test)
  spread_ends = record {
    at = λ j lt. record { at = λ k room within. spread_at k room within (old.places - j - 1) j (omega arith) };
    past = λ j k le room within. none_past k room within j (omega arith);
  }

-- ---- all places from one on

-- `any` has the keys of which an end between the place `from` and place j passes the test
pub record Gathered (row : Row) (from any j : ℕ) : Type 0 where
  pub at : (held : Pairs) (start : ℕ) (test : List ℕ → Bool) → TellsRow held start row test → (k : ℕ) → k < 64 → start + k < length held
      → behind from (some_suffix test) (key_at held (start + k)) ≡ (has_bit any k || behind j (some_suffix test) (key_at held (start + k)))

pub gathered_begins : (row : Row) (from : ℕ) → Gathered row from 0 from
gathered_begins row from = record { at = λ held start test told k room within. rw (has_bit-zero k) refl }

pub gathered_step : (row : Row) (from any j : ℕ) → j < row.places → Gathered row from any j → Gathered row from (bit_or any (get_or row.words j 0)) (j + 1)
gathered_step row from any j lt h = record {
  at = λ held start test told k room within.
      let key = key_at held (start + k) in
      h.at held start test told k room within
      ∙ rw (behind_star j test key) (rw (has_bit-or any (get_or row.words j 0) k) (rw ((told.at j lt).at k room within) (or_assoc (has_bit any k) (behind j test key) (behind (j + 1) (some_suffix test) key))));
}
  where
    or_assoc : (x y z : Bool) → (x || (y || z)) ≡ ((x || y) || z)
    or_assoc true y z = refl
    or_assoc false y z = refl

pub gathered_ends : (row : Row) (from any j : ℕ) → row.places ≤ j → Gathered row from any j → (held : Pairs) (start : ℕ) (test : List ℕ → Bool)
    → TellsRow held start row test → Tells held start any (behind from (some_suffix test))
gathered_ends row from any j le h held start test told = record {
  at = λ k room within.
      let key = key_at held (start + k) in
      let none = star_past row.places test key (λ i from. told.past i k from room within) j le in
      sym (h.at held start test told k room within ∙ rw none (or_false (has_bit any k)));
}
  where
    or_false : (x : Bool) → (x || false) ≡ x
    or_false true = refl
    or_false false = refl
