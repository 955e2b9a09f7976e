-- A file whose sum isn't the one that is listed for it.
use Rattle.std.specs.Prelude.{◌≡◌, ◌≢◌, ℕ, true, Bool, if◌then◌else◌, not, List, Option, Some, None}
use Rattle.std.specs.List.{Any, filter_map, zip}
use Rattle.std.specs.Str.{bytes_eq}
use Rattle.sha2.specs.Sha256.{sha256}
use Rattle.io_model.specs.Source.{Tree, Content, bytes_at, When}
use Rattle.manifest_sums.specs.declared.manifest.Line.{Line}
use Rattle.admit.specs.Places.{place_of, is_payload}
use Rattle.admit.specs.Table.{first_some}
use Rattle.admit.specs.declared.admitted.Admitted.{Admitted}
use Rattle.admit.specs.declared.refusal.Differs.{Differs}

-- a line, and the index of its file
abbrev pub Listed : Type 0
Listed = Line × ℕ

abbrev pub listed_of : Admitted → List Listed
listed_of plan = zip plan.manifest plan.numbers

-- a line of a payload's file, or of another
abbrev pub in_payload : List ℕ → Bool
in_payload path = is_payload (place_of path)

abbrev pub in_rest : List ℕ → Bool
in_rest path = not (in_payload path)

-- the two sums, where they differ
abbrev pub differing : Line → List ℕ → Option Differs
differing line sum = if bytes_eq line.sum sum then None else Some (record { path = line.path; listed = line.sum; found = sum })

abbrev pub differing_in : (List ℕ → Bool) → Tree → Listed → Option Differs
differing_in picks t l = if picks l.0.path then differing l.0 (sha256 (bytes_at t l.1)) else None

-- the first of the picked lines whose sum isn't that of its file
abbrev pub first_differing : (List ℕ → Bool) → Tree → List Listed → Option Differs
first_differing picks t listed = first_some (differing_in picks t) listed

-- the files of the picked lines, by their indexes
abbrev pub picked : (List ℕ → Bool) → List Listed → List ℕ
picked picks listed = filter_map (λ l. if picks l.0.path then Some l.1 else None) listed

-- another sum was found than the one of this line; where the source's files are told, it is the sum of the line's file
pub record IsDiffering (content : Content) (listed : Listed) (d : Differs) : Type 0 where
  pub path : d.path ≡ listed.0.path
  pub sum : d.listed ≡ listed.0.sum
  pub other : d.found ≢ listed.0.sum
  pub found : When content (λ t. d.found ≡ sha256 (bytes_at t listed.1))

-- the sum of one of the picked lines
abbrev pub IsDifferingIn : (List ℕ → Bool) → Content → List Listed → Differs → Type 0
IsDifferingIn picks content listed d = Any (λ l. (picks l.0.path ≡ true) × IsDiffering content l d) listed
