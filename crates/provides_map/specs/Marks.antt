-- What is told of the keys held at `WINDOW` places in a row.
use Rattle.std.specs.Prelude.{◌≡◌, ℕ, ◌+◌, ◌<◌, ◌==◌, List, Bool, not, length}
use Rattle.std.specs.Int.{bit_at}
use Rattle.provides_map.specs.Pairs.{Pairs}
use Rattle.provides_map.specs.Place.{key_at}
use Rattle.provides_map.specs.After.{is_cleared}
use Rattle.provides_map.specs.declared.change.Clears.{Clears}
use Rattle.provides_map.specs.declared.marks.Marks.{Marks}
use Rattle.provides_map.specs.declared.window.TheConstants.{WINDOW}

-- whether bit k of the word is set
unfoldable pub has_bit : ℕ → ℕ → Bool
has_bit word k = bit_at word k == 1

-- bit k of the word has the test of the key that is k places behind the start
pub record Tells (held : Pairs) (start word : ℕ) (test : List ℕ → Bool) : Type 0 where
  pub at : (k : ℕ) → k < WINDOW → start + k < length held → has_bit word k ≡ test (key_at held (start + k))

-- the marks tell which keys aren't cleared
abbrev pub AreMarks : Clears → Pairs → Marks → Type 0
AreMarks clears held marks = Tells held marks.start marks.left (λ key. not (is_cleared clears key))
