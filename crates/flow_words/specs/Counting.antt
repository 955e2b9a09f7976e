-- How often a deployment is resumed.
use Rattle.std.specs.Prelude.{◌≡◌, ◌≢◌, ℕ, ◌+◌, false, List}
use Rattle.device_model.specs.declared.calls.Event.{Event}
use Rattle.flow_table.specs.declared.position.Position.{Position}
use Rattle.flow_table.specs.declared.position.State.TheVariants.{Idle}
use Rattle.flow_table.specs.declared.table.Heard.{Heard}
use Rattle.flow_table.specs.declared.table.Order.TheVariants.{Resume}
use Rattle.flow_table.specs.declared.table.Opening.TheVariants as opening
use Rattle.flow_table.specs.Table.{first_of}
use Rattle.flow_words.specs.Course.{Course}
use Rattle.flow_words.specs.Pieces.{End, Pieces}

-- a deployment that hasn't ended is resumed, and this so often; its states lead from c to the last position
pub data Resumptions (words : Position → Course Heard) (c : Position) : ℕ → Position → Type 0 where
  never : Resumptions words c 0 c
  again : {times : ℕ} {q r : Position} (p : Position) (events : List Event) (end : End) → Resumptions words c times q → q.state ≢ Idle → first_of q Resume ≡ opening.Enter p → Pieces words false p events end r → Resumptions words c (times + 1) r
