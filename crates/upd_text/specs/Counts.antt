-- Counts that never fall: a u64 that stays at its greatest value.
use Rattle.std.specs.Prelude.{ℕ, ◌+◌, ◌-◌, ◌^◌, ◌≤◌, min, max}

-- one more, in a count that stays at the end of its type
abbrev pub counted : ℕ → ℕ
counted n = min (n + 1) (2 ^ 64 - 1)

-- so many more, in a count that stays at the end of its type
unfoldable pub raised : ℕ → ℕ → ℕ
raised n more = max n (min (n + more) (2 ^ 64 - 1))

-- a count rose, or stands at the end of its type
abbrev pub Rose : ℕ → ℕ → Type 0
Rose before now = counted before ≤ now
