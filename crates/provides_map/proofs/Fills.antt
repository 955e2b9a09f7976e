-- The words of a window, a key after another.
use Rattle.std.proofs.Common.{◌≡◌, ◌≢◌, ℕ, ◌+◌, ◌*◌, ◌%◌, ◌^◌, ◌<◌, ◌≤◌, max, Bool, true, false, ◌&&◌, ◌||◌, ◌==◌, List, [], length, get_or, set, take, replicate, refl, sym, ap, ◌∙◌, arith, inl, inr, ◌⊎◌}
use Rattle.std.specs.Prelude.{bit_or}
use Rattle.std.proofs.lemmas.Grind.{common_steps}
use Rattle.std.proofs.lemmas.Bool.{cases_lt, cases_eq, ne_eqb, eq-eqb}
use Rattle.std.proofs.lemmas.List.{take_more, get_or-replicate, get_or-set_same, get_or-set_other}
use Rattle.provides_map.specs.Pairs.{Pairs}
use Rattle.provides_map.specs.Place.{key_at}
use Rattle.provides_map.specs.Marks.{has_bit}
use Rattle.provides_map.specs.Window.{has_byte, word_at, AddsBytes, AddsEnd, TellsKeys}
use Rattle.provides_map.specs.declared.window.Window.{Window}
use Rattle.provides_map.proofs.Bits.{has_bit-or, has_bit-zero, has_bit-one}
use Rattle.provides_map.proofs.Behind.{has_byte-push, has_byte-none}

-- ---- a key, byte by byte

or_nothing : (x y : Bool) → x ≡ (x || (y && false))
or_nothing true y = refl
or_nothing false true = refl
or_nothing false false = refl

pub adds_begins : (same : List (List ℕ)) (k : ℕ) → AddsBytes same same k []
adds_begins same k = record { at = λ byte j i fits short room. rw (has_byte-none byte j) (or_nothing (has_bit (word_at same byte j) i) (i == k)) }

or_bit : (x is had : Bool) → ((x || (is && had)) || is) ≡ (x || (is && (had || true)))
or_bit true is had = refl
or_bit false true true = refl
or_bit false true false = refl
or_bit false false had = refl

or_none : (x is had : Bool) → (x || (is && had)) ≡ (x || (is && (had || false)))
or_none x is true = refl
or_none x is false = refl

module _ (old cur : List (List ℕ)) (k : ℕ) (key : List ℕ) (n b word : ℕ) (room : k < 64) (lt : n < length key) (b-is : b ≡ get_or key n 0)
    (word-is : word ≡ bit_or (word_at cur b n) (1 * 2 ^ k % 2 ^ 64))
    (row : b < length cur) (place : n < length (get_or cur b [])) (added : AddsBytes old cur k (take n key)) where
  new : List (List ℕ)
  new = set cur b (set (get_or cur b []) n word)

  word_here : word_at new b n ≡ word
  unfolding new
  word_here = ap (λ (words : List ℕ). get_or words n 0) (get_or-set_same cur b (set (get_or cur b []) n word) [] row) ∙ get_or-set_same (get_or cur b []) n word 0 place

  word_elsewhere : (byte j : ℕ) → (byte ≢ b) ⊎ (j ≢ n) → word_at new byte j ≡ word_at cur byte j
  unfolding new
  word_elsewhere byte j (inl other) = ap (λ (words : List ℕ). get_or words j 0) (get_or-set_other cur b byte (set (get_or cur b []) n word) [] other)
  word_elsewhere byte j (inr other) = elim (cases_eq byte b) [
    | inl same ↦ rw same (ap (λ (words : List ℕ). get_or words j 0) (get_or-set_same cur b (set (get_or cur b []) n word) [] row) ∙ get_or-set_other (get_or cur b []) n j word 0 other)
    | inr differs ↦ ap (λ (words : List ℕ). get_or words j 0) (get_or-set_other cur b byte (set (get_or cur b []) n word) [] differs)
  ]

  one_more : (byte j : ℕ) → has_byte byte j (take (n + 1) key) ≡ (has_byte byte j (take n key) || ((j == n) && (b == byte)))
  one_more byte j =
      let size : length (take n key) ≡ n = grind (arith, common_steps) in
      rw (take_more key n 0 lt) (rw (sym b-is) (has_byte-push byte j (take n key) b ∙ rw size refl))

  not_it : (byte j : ℕ) → (byte ≢ b) ⊎ (j ≢ n) → ((j == n) && (b == byte)) ≡ false
  not_it byte j (inl other) = rw (ne_eqb b byte (λ e. other (sym e))) (and_false (j == n))
    where
      and_false : (x : Bool) → (x && false) ≡ false
      and_false true = refl
      and_false false = refl
  not_it byte j (inr other) = rw (ne_eqb j n other) refl

  kept_word : (byte j i : ℕ) → byte < 256 → j < 128 → i < 64 → (byte ≢ b) ⊎ (j ≢ n)
      → has_bit (word_at new byte j) i ≡ (has_bit (word_at old byte j) i || (i == k && has_byte byte j (take (n + 1) key)))
  kept_word byte j i fits short below other =
      ap (λ w. has_bit w i) (word_elsewhere byte j other)
      ∙ added.at byte j i fits short below
      ∙ rw (one_more byte j) (rw (not_it byte j other) (or_none (has_bit (word_at old byte j) i) (i == k) (has_byte byte j (take n key))))

  new_word : (i : ℕ) → b < 256 → n < 128 → i < 64
      → has_bit (word_at new b n) i ≡ (has_bit (word_at old b n) i || (i == k && has_byte b n (take (n + 1) key)))
  new_word i fits short below =
      ap (λ w. has_bit w i) (word_here ∙ word-is)
      ∙ has_bit-or (word_at cur b n) (1 * 2 ^ k % 2 ^ 64) i
      ∙ rw (has_bit-one k i room) (rw (added.at b n i fits short below) (rw (one_more b n) (rw (eq-eqb n n refl) (rw (eq-eqb b b refl)
      (or_bit (has_bit (word_at old b n) i) (i == k) (has_byte b n (take n key)))))))

  pub adds_step : AddsBytes old (set cur b (set (get_or cur b []) n word)) k (take (n + 1) key)
  unfolding new
  adds_step = record {
    at = λ byte j i fits short below. elim (cases_eq byte b) [
      | inl same ↦ (elim (cases_eq j n) [
        | inl here ↦ rw same (rw here (new_word i (rw same at fits) (rw here at short) below))
        | inr other ↦ kept_word byte j i fits short below (inr other)
      ])
      | inr differs ↦ kept_word byte j i fits short below (inl differs)
    ];
  }

pub adds_end : (old : List ℕ) (k : ℕ) (key : List ℕ) (word : ℕ) → k < 64 → length key < length old → word ≡ bit_or (get_or old (length key) 0) (1 * 2 ^ k % 2 ^ 64)
    → AddsEnd old (set old (length key) word) k key
adds_end old k key word room place word-is = record {
  at = λ j i short below. elim (cases_eq j (length key)) [
    | inl here ↦ rw here (ap (λ w. has_bit w i) (get_or-set_same old (length key) word 0 place ∙ word-is)
        ∙ has_bit-or (get_or old (length key) 0) (1 * 2 ^ k % 2 ^ 64) i
        ∙ rw (has_bit-one k i room) (rw (eq-eqb (length key) (length key) refl) (and_true (has_bit (get_or old (length key) 0) i) (i == k))))
    | inr other ↦ ap (λ w. has_bit w i) (get_or-set_other old (length key) j word 0 other)
        ∙ rw (ne_eqb (length key) j (λ e. other (sym e))) (or_nothing (has_bit (get_or old j 0) i) (i == k))
  ];
}
  where
    and_true : (x y : Bool) → (x || y) ≡ (x || (y && true))
    and_true x true = refl
    and_true x false = refl

-- ---- a key after another

-- the words tell of the keys below number k, and have no bit from it on
pub record Filled (held : Pairs) (start : ℕ) (window : Window) (k : ℕ) : Type 0 where
  pub same : (byte j i : ℕ) → byte < 256 → j < 128 → i < 64 → i < k → has_bit (word_at window.same byte j) i ≡ has_byte byte j (key_at held (start + i))
  pub no_byte : (byte j i : ℕ) → byte < 256 → j < 128 → i < 64 → k ≤ i → has_bit (word_at window.same byte j) i ≡ false
  pub ends : (j i : ℕ) → j ≤ 128 → i < 64 → i < k → has_bit (get_or window.ends j 0) i ≡ (length (key_at held (start + i)) == j)
  pub no_end : (j i : ℕ) → j ≤ 128 → i < 64 → k ≤ i → has_bit (get_or window.ends j 0) i ≡ false
  pub short : (i : ℕ) → i < k → length (key_at held (start + i)) ≤ window.longest
  pub within : window.longest ≤ 128

pub filled_begins : (held : Pairs) (start : ℕ) → Filled held start (record { same = replicate {A = List ℕ} 256 (replicate {A = ℕ} 128 0); ends = replicate {A = ℕ} 129 0; longest = 0 }) 0
filled_begins held start = record {
  same = λ byte j i fits short room lt. absurd (omega arith);
  no_byte = λ byte j i fits short room le.
      rw (get_or-replicate 256 byte (replicate {A = ℕ} 128 0) [] fits) (rw (get_or-replicate {A = ℕ} 128 j 0 0 short) (has_bit-zero i));
  ends = λ j i short room lt. absurd (omega arith);
  no_end = λ j i short room le. rw (get_or-replicate {A = ℕ} 129 j 0 0 (omega arith)) (has_bit-zero i);
  short = λ i lt. absurd (omega arith);
  within = omega arith;
}

-- bit i once key number k is added
added_bit : (old new key here : Bool) (i k : ℕ) → new ≡ (old || (i == k && here)) → (i < k → old ≡ key) → (k ≤ i → old ≡ false) → (i ≡ k → here ≡ key) → i < k + 1 → new ≡ key
added_bit old new key here i k is below above at lt = elim (cases_lt i k) [
  | inl sooner ↦ is ∙ rw (below sooner) (rw (ne_eqb i k (λ e. absurd (omega arith))) (or_false key))
  | inr le ↦ (let same : i ≡ k = omega arith in is ∙ rw (above le) (rw (eq-eqb i k same) (at same)))
]
  where
    or_false : (x : Bool) → (x || false) ≡ x
    or_false true = refl
    or_false false = refl

unset_bit : (old new here : Bool) (i k : ℕ) → new ≡ (old || (i == k && here)) → (k ≤ i → old ≡ false) → k + 1 ≤ i → new ≡ false
unset_bit old new here i k is above le = is ∙ rw (above (omega arith)) (rw (ne_eqb i k (λ e. absurd (omega arith))) refl)

pub filled_step : (held : Pairs) (start : ℕ) (old new : Window) (k : ℕ) (key : List ℕ) → key ≡ key_at held (start + k) → length key ≤ 128
    → AddsBytes old.same new.same k key → AddsEnd old.ends new.ends k key → new.longest ≡ max old.longest (length key)
    → Filled held start old k → Filled held start new (k + 1)
filled_step held start old new k key key-is most bytes end longest h = record {
  same = λ byte j i fits short room lt.
      added_bit (has_bit (word_at old.same byte j) i) (has_bit (word_at new.same byte j) i) (has_byte byte j (key_at held (start + i))) (has_byte byte j key) i k
      (bytes.at byte j i fits short room) (h.same byte j i fits short room) (h.no_byte byte j i fits short room) (λ e. ap (λ (l : List ℕ). has_byte byte j l) (here i e)) lt;
  no_byte = λ byte j i fits short room le.
      unset_bit (has_bit (word_at old.same byte j) i) (has_bit (word_at new.same byte j) i) (has_byte byte j key) i k
      (bytes.at byte j i fits short room) (h.no_byte byte j i fits short room) le;
  ends = λ j i short room lt.
      added_bit (has_bit (get_or old.ends j 0) i) (has_bit (get_or new.ends j 0) i) (length (key_at held (start + i)) == j) (length key == j) i k
      (end.at j i short room) (h.ends j i short room) (h.no_end j i short room) (λ e. ap (λ (l : List ℕ). length l == j) (here i e)) lt;
  no_end = λ j i short room le.
      unset_bit (has_bit (get_or old.ends j 0) i) (has_bit (get_or new.ends j 0) i) (length key == j) i k
      (end.at j i short room) (h.no_end j i short room) le;
  short = λ i lt. elim (cases_lt i k) [
    | inl sooner ↦ omega (arith, h.short i sooner)
    | inr le ↦ (let same : i ≡ k = omega arith in omega (arith, ap length (here i same)))
  ];
  within = omega (arith, h.within);
}
  where
    here : (i : ℕ) → i ≡ k → key ≡ key_at held (start + i)
    here i e = key-is ∙ ap (λ (n : ℕ). key_at held (start + n)) (sym e)

pub filled_ends : (held : Pairs) (start : ℕ) (window : Window) (k : ℕ) → ((i : ℕ) → i < 64 → start + i < length held → i < k) → Filled held start window k → TellsKeys held start window
filled_ends held start window k all h = record {
  same = λ byte fits. record { at = λ j short. record { at = λ i room within. h.same byte j i fits short room (all i room within) } };
  ends = λ j short. record { at = λ i room within. h.ends j i short room (all i room within) };
  short = λ i room within. h.short i (all i room within);
  within = h.within;
}
