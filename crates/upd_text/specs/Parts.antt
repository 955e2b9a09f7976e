-- One part of a path: a file's name, or a payload type.
use Rattle.std.specs.Prelude.{ℕ, ◌==◌, ◌&&◌, Bool, not, List, codes}
use Rattle.std.specs.List.{list_any}
use Rattle.std.specs.Str.{bytes_eq}

abbrev pub has_slash : List ℕ → Bool
has_slash text = list_any (λ b. b == 47) text

-- no `/`, and neither `.` nor `..`
abbrev pub is_plain : List ℕ → Bool
is_plain text = not (has_slash text) && (not (bytes_eq text (codes ".")) && not (bytes_eq text (codes "..")))
