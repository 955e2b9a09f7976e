-- What is known of notes while they are read.
use Rattle.std.specs.Prelude.{◌≡◌, ◌≤◌, List, length, All}
use Rattle.std.specs.List.{slice_get}
use Rattle.flow_table.specs.declared.table.TheConstants.{MOST_KINDS}
use Rattle.trace_check.specs.declared.note.Note.{Note}
use Rattle.trace_check.specs.declared.weigh.Front.{Front}
use Rattle.trace_check.specs.Verdicts.{Judged, before}

-- the verdict on the notes, how many they are, and the last of them, where there is one
pub record Knows (notes : List Note) (front : Front) : Type 0 where
  pub judged : Judged notes front.verdict
  pub count : length notes ≡ front.count
  pub last : slice_get front.last 0 ≡ before notes front.count
  pub kinds : All (λ n. length n.head.kinds ≤ MOST_KINDS) front.last
