-- What the reader of a manifest answers, as a function of the bytes.
use Rattle.std.specs.Prelude.{zero, suc, ℕ, ◌+◌, ◌==◌, nat_lt, Bool, if◌then◌else◌, List, [], ◌∷◌, ◌++◌, length, take, drop, codes, Option, Some, None, Result, Ok, Err, position}
use Rattle.std.specs.List.{list_any}
use Rattle.std.specs.Option.{ok_or, option_map, option_and_then}
use Rattle.std.specs.Result.{result_ok}
use Rattle.std.specs.Str.{bytes_eq}
use Rattle.hex.specs.Hex.{decode_sized}
use Rattle.upd_text.specs.Text.{name_of}
use Rattle.upd_text.specs.Results.{◌>>=◌, Gives}
use Rattle.upd_text.specs.declared.fault.NameFault.{NameFault}
use Rattle.manifest_sums.specs.Spelling.{is_packed}
use Rattle.manifest_sums.specs.declared.manifest.Line.{Line}
use Rattle.manifest_sums.specs.declared.manifest.ManifestFault.{ManifestFault}
use Rattle.manifest_sums.specs.declared.manifest.ManifestFault.TheVariants.{BadLine, Doubled, PackedHeader, TooMany, NoMemory}

abbrev pub is_newline : ℕ → Bool
is_newline b = b == 10

-- the sum that 64 digits of either case spell
abbrev pub sum_of : List ℕ → Option (List ℕ)
sum_of digits = result_ok (decode_sized digits 32)

abbrev pub with_path : List ℕ → Result (List ℕ) NameFault → Option Line
with_path sum (Ok path) = Some (record { path = path; sum = sum })
with_path sum (Err fault) = None

abbrev pub with_sum : Option (List ℕ) → List ℕ → Option Line
with_sum None bytes = None
with_sum (Some sum) bytes = with_path sum (name_of bytes)

-- the line that the bytes before a newline spell: the digits, two spaces, the path
unfoldable pub line_of : List ℕ → Option Line
line_of text = if nat_lt (length text) 66 then None else (if bytes_eq (take 2 (drop 64 text)) (codes "  ") then with_sum (sum_of (take 64 text)) (drop 2 (drop 64 text)) else None)

-- the line up to the first newline, and what follows the newline
unfoldable pub next_line : List ℕ → Option (Line × List ℕ)
next_line bytes = option_and_then (λ at. option_map (λ line. (line, drop 1 (drop at bytes))) (line_of (take at bytes))) (position is_newline bytes)

abbrev pub has_path : List ℕ → Line → Bool
has_path path line = bytes_eq line.path path

-- the line, unless it names a packed header or a path that was found before
unfoldable pub unless_bad : List Line → Line → Result Line ManifestFault
unless_bad found line = if is_packed line then Err (PackedHeader (length found + 1)) else (if list_any (has_path line.path) found then Err (Doubled (length found + 1)) else Ok line)

-- the first line of the bytes, behind those found before, and what follows its newline
unfoldable pub line_at : List Line → List ℕ → Result (Line × List ℕ) ManifestFault
line_at found bytes =
    ok_or (next_line bytes) (BadLine (length found + 1)) >>= λ first.
    unless_bad found first.0 >>= λ good.
    Ok (good, first.1)

-- the lines of the bytes behind those found before, with room for so many, or the first fault
abbrev pub lines_after : ℕ → List Line → List ℕ → Result (List Line) ManifestFault
lines_after room found [] = Ok found
lines_after zero found (b ∷ bs) = Err TooMany
lines_after (suc room) found (b ∷ bs) = line_at found (b ∷ bs) >>= λ r. lines_after room (found ++ r.0 ∷ []) r.1

-- how many lines a manifest may have
unfoldable pub most_lines : ℕ
most_lines = 256

-- what `read_manifest` makes of bytes
unfoldable pub manifest_of : List ℕ → Result (List Line) ManifestFault
manifest_of bytes = lines_after most_lines [] bytes

-- the answer is this one, or that memory was refused
abbrev pub Answers : {A : Type 0} → Result A ManifestFault → Result A ManifestFault → Type 0
Answers answer meant = Gives NoMemory (λ x. x) answer meant
