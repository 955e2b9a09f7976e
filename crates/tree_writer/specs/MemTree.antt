-- A sink of files in memory.
use Rattle.std.specs.Prelude.{ℕ, ◌+◌, ◌≤◌, ◌==◌, ◌||◌, nat_lt, Bool, if◌then◌else◌, List, [], ◌∷◌, ◌++◌, length, map, slice_range, Some}
use Rattle.std.specs.List.{All, list_any}
use Rattle.upd_text.specs.Counts.{counted}
use Rattle.io_model.specs.Source.{File, Tree}
use Rattle.tree_writer.specs.declared.mem_tree.Slot.{Slot}
use Rattle.tree_writer.specs.Sink.{Added}

-- the files, how many bytes they have together and how many fit in all, the adds that fail, and how many adds there were and how many of them failed
pub record Stored : Type 0 where
  pub files : Tree
  pub used : ℕ
  pub room : ℕ
  pub failing : List ℕ
  pub calls : ℕ
  pub faults : ℕ

abbrev pub most_kept : ℕ
most_kept = 256

-- whether an add fails: its number is in the list, or the file doesn't fit
abbrev pub refuses : Stored → List ℕ → Bool
refuses s bytes = list_any (λ n. n == s.calls) s.failing || (nat_lt most_kept (length s.files + 1) || nat_lt s.room (s.used + length bytes))

-- what an add leaves
abbrev pub after_add : Stored → List ℕ → List ℕ → Stored
after_add s path bytes =
    if refuses s bytes
    then record s { calls = counted s.calls; faults = counted s.faults }
    else record s { files = s.files ++ (Some path, bytes) ∷ []; used = s.used + length bytes; calls = counted s.calls }

-- it tells its files
abbrev pub told_by : Stored → Added
told_by s = record { told = Some s.files; faults = s.faults }

-- ---- how they are kept

abbrev pub file_of : List ℕ → Slot → File
file_of bytes slot = (Some slot.path, slice_range bytes slot.from slot.to)

abbrev pub files_of : List ℕ → List Slot → Tree
files_of bytes slots = map (file_of bytes) slots

-- each file's bytes are among all bytes
abbrev pub AreWithin : List ℕ → List Slot → Type 0
AreWithin bytes slots = All (λ slot. (slot.from ≤ slot.to) × (slot.to ≤ length bytes)) slots
