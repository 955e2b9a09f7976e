-- What a source means: its files, where it tells them, how much was read of each, and how often it failed.
use Rattle.std.specs.Prelude.{◌≡◌, ℕ, ◌+◌, ◌<◌, ◌≤◌, List, [], Option, Some, None, Result, Ok, Err, length, take, drop, slice_get, get_or, set, option_map}
use Rattle.std.specs.Option.{option_map_or, option_and_then}
use Rattle.upd_text.specs.Counts.{counted, raised}
use Rattle.io_model.specs.declared.source.SourceFault.{SourceFault}

-- a path that is a name, or none, and the bytes
abbrev pub File : Type 0
File = Option (List ℕ) × List ℕ

abbrev pub Tree : Type 0
Tree = List File

-- the files, or only their number
pub data Content : Type 0 where
  Told : Tree → Content
  Untold : ℕ → Content

abbrev pub count_of : Content → ℕ
count_of (Told t) = length t
count_of (Untold n) = n

-- the path of file i, and its bytes
abbrev pub path_at : Tree → ℕ → Option (List ℕ)
path_at t i = option_and_then (λ f. f.0) (slice_get t i)

abbrev pub bytes_at : Tree → ℕ → List ℕ
bytes_at t i = option_map_or (λ f. f.1) (slice_get t i) []

-- of the files, where they are told
abbrev pub When : Content → (Tree → Type 0) → Type 0
When (Untold n) P = Unit {0}
When (Told t) P = P t

-- an answer, and what it does to the count of faults: only a fault is counted
abbrev pub Counts : {A : Type 0} → ℕ → Result A SourceFault → ℕ → Type 0
Counts old (Ok x) new = new ≡ old
Counts old (Err e) new = new ≡ counted old

-- ---- what is told of file i

abbrev pub IsPath : Content → ℕ → Option (List ℕ) → Type 0
IsPath (Untold n) i p = Unit {0}
IsPath (Told t) i p = p ≡ path_at t i

abbrev pub IsLength : Content → ℕ → ℕ → Type 0
IsLength (Untold n) i len = Unit {0}
IsLength (Told t) i len = len ≡ length (bytes_at t i)

-- so many bytes from there on lie in the file
abbrev pub InFile : Content → ℕ → ℕ → ℕ → Type 0
InFile (Untold n) i at len = Unit {0}
InFile (Told t) i at len = at + len ≤ length (bytes_at t i)

-- the bytes are those of the file from there on
abbrev pub IsPart : Content → ℕ → ℕ → List ℕ → Type 0
IsPart (Untold n) i at bytes = Unit {0}
IsPart (Told t) i at bytes = bytes ≡ take (length bytes) (drop at (bytes_at t i))

-- ---- how many bytes of each file `read` has given, one number a file

-- so many more of file i
abbrev pub gave : ℕ → ℕ → List ℕ → List ℕ
gave i n given = set given i (raised (get_or given i 0) n)

-- what a `read` of file i leaves, by its answer
abbrev pub after_read : ℕ → Result ℕ SourceFault → Option (List ℕ) → Option (List ℕ)
after_read i (Ok n) given = option_map (gave i n) given
after_read i (Err e) given = given

-- there is a number for file i, where they are told
abbrev pub HasNumber : ℕ → Option (List ℕ) → Type 0
HasNumber i None = Unit {0}
HasNumber i (Some given) = i < length given
