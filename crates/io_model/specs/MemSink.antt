-- A sink in memory.
use Rattle.std.specs.Prelude.{ℕ, ◌+◌, ◌==◌, ◌||◌, nat_lt, Bool, if◌then◌else◌, List, ◌++◌, length, Some}
use Rattle.std.specs.List.{list_any}
use Rattle.upd_text.specs.Counts.{counted}
use Rattle.io_model.specs.Sink.{Written}

-- the bytes written, how many fit in all, the puts that fail, and how many puts there were and how many of them failed
pub record Kept : Type 0 where
  pub written : List ℕ
  pub room : ℕ
  pub failing : List ℕ
  pub calls : ℕ
  pub faults : ℕ

-- whether a put fails: its number is in the list, or its bytes don't fit
abbrev pub refuses : Kept → List ℕ → Bool
refuses s bytes = list_any (λ n. n == s.calls) s.failing || nat_lt s.room (length s.written + length bytes)

-- what a put leaves
abbrev pub after_put : Kept → List ℕ → Kept
after_put s bytes =
    if refuses s bytes
    then record s { calls = counted s.calls; faults = counted s.faults }
    else record s { written = s.written ++ bytes; calls = counted s.calls }

-- it tells its bytes
abbrev pub told_by : Kept → Written
told_by s = record { told = Some s.written; faults = s.faults }
