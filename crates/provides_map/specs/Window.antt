-- Words that tell which keys have which byte at which place, and rows of words that tell behind which bytes a test holds.
use Rattle.std.specs.Prelude.{◌≡◌, ℕ, zero, suc, ◌+◌, ◌<◌, ◌≤◌, ◌==◌, ◌&&◌, ◌||◌, Bool, true, false, List, [], ◌∷◌, length, slice_index_or}
use Rattle.provides_map.specs.Pairs.{Pairs}
use Rattle.provides_map.specs.Place.{key_at}
use Rattle.provides_map.specs.Match.{first_then}
use Rattle.provides_map.specs.Marks.{has_bit, Tells}
use Rattle.provides_map.specs.declared.window.Window.{Window}
use Rattle.provides_map.specs.declared.row.Row.{Row}
use Rattle.provides_map.specs.declared.window.TheConstants.{WINDOW}

-- whether the key has j bytes, and the test holds of what is behind them
abbrev pub behind : ℕ → (List ℕ → Bool) → List ℕ → Bool
behind zero test key = test key
behind (suc j) test [] = false
behind (suc j) test (b ∷ bs) = behind j test bs

-- whether the key has the byte at place j
abbrev pub has_byte : ℕ → ℕ → List ℕ → Bool
has_byte byte j key = behind j (first_then byte (λ _. true)) key

-- the word for the byte at place j
abbrev pub word_at : List (List ℕ) → ℕ → ℕ → ℕ
word_at same byte j = slice_index_or (slice_index_or same byte []) j 0

-- each word has got bit k where the key has the byte at its place, and keeps its other bits
pub record AddsBytes (old new : List (List ℕ)) (k : ℕ) (key : List ℕ) : Type 0 where
  pub at : (byte j i : ℕ) → byte < 256 → j < 128 → i < WINDOW
      → has_bit (word_at new byte j) i ≡ (has_bit (word_at old byte j) i || (i == k && has_byte byte j key))

-- the same of the word of the key's length
pub record AddsEnd (old new : List ℕ) (k : ℕ) (key : List ℕ) : Type 0 where
  pub at : (j i : ℕ) → j ≤ 128 → i < WINDOW
      → has_bit (slice_index_or new j 0) i ≡ (has_bit (slice_index_or old j 0) i || (i == k && (length key == j)))

-- word j tells which keys have the byte at place j
pub record TellsByte (held : Pairs) (start byte : ℕ) (words : List ℕ) : Type 0 where
  pub at : (j : ℕ) → j < 128 → Tells held start (slice_index_or words j 0) (has_byte byte j)

-- the words tell of the keys from the start on
pub record TellsKeys (held : Pairs) (start : ℕ) (window : Window) : Type 0 where
  pub same : (byte : ℕ) → byte < 256 → TellsByte held start byte (slice_index_or window.same byte [])
  pub ends : (j : ℕ) → j ≤ 128 → Tells held start (slice_index_or window.ends j 0) (λ key. length key == j)
  pub short : (k : ℕ) → k < WINDOW → start + k < length held → length (key_at held (start + k)) ≤ window.longest
  pub within : window.longest ≤ 128

-- word j tells whether the test holds behind j bytes, and it holds behind no more bytes than the row has places
pub record TellsRow (held : Pairs) (start : ℕ) (row : Row) (test : List ℕ → Bool) : Type 0 where
  pub at : (j : ℕ) → j < row.places → Tells held start (slice_index_or row.words j 0) (behind j test)
  pub past : (j k : ℕ) → row.places ≤ j → k < WINDOW → start + k < length held → behind j test (key_at held (start + k)) ≡ false
