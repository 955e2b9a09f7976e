-- A source in memory.
use Rattle.std.specs.Prelude.{ℕ, ◌==◌, Bool, if◌then◌else◌, List}
use Rattle.std.specs.List.{list_any}
use Rattle.upd_text.specs.Counts.{counted}
use Rattle.io_model.specs.Source.{Tree, gave}

-- the files, how many bytes were given of each, the calls that fail, and how many calls there were and how many of them failed
pub record Shelf : Type 0 where
  pub tree : Tree
  pub given : List ℕ
  pub failing : List ℕ
  pub calls : ℕ
  pub faults : ℕ

-- whether the next call fails: its number is in the list
abbrev pub fails : Shelf → Bool
fails s = list_any (λ n. n == s.calls) s.failing

-- what a call leaves: it is counted, and so is its fault
abbrev pub after_call : Shelf → Shelf
after_call s =
    if fails s
    then record s { calls = counted s.calls; faults = counted s.faults }
    else record s { calls = counted s.calls }

-- what a `read` of file i leaves that has room for n bytes: where it doesn't fail, it gives all of them
abbrev pub after_reading : ℕ → ℕ → Shelf → Shelf
after_reading i n s =
    if fails s
    then after_call s
    else record s { calls = counted s.calls; given = gave i n s.given }
