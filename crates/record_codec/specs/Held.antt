-- What a database holds, and where it stands.
use Rattle.std.specs.Prelude.{ℕ, false, if◌then◌else◌, List, [], ◌++◌, codes}
use Rattle.std.specs.Str.{bytes_eq}
use Rattle.flow_table.specs.declared.position.Outcome.{Outcome}
use Rattle.flow_table.specs.declared.position.Outcome.TheVariants.{Undecided, Kept, Committed, RolledBack, Inconsistent}
use Rattle.flow_table.specs.declared.position.State.TheVariants.{Idle}
use Rattle.flow_table.specs.declared.position.Reboot.TheVariants.{No}
use Rattle.flow_table.specs.declared.position.Position.{Position}
use Rattle.provides_map.specs.Pairs.{Pairs}
use Rattle.provides_map.specs.After.{broken, artifact_name}
use Rattle.record_codec.specs.declared.entry.Db.{Db}
use Rattle.record_codec.specs.declared.entry.Db.TheVariants.{Empty, Full}

-- the old pairs, or the new ones once they are committed, marked where the two are mixed
abbrev pub held_of : Outcome → Pairs → Pairs → Pairs
held_of Undecided before new = before
held_of Kept before new = before
held_of Committed before new = new
held_of RolledBack before new = before
held_of Inconsistent before new = broken new

abbrev pub held : Db → Pairs
held Empty = []
held (Full e) = held_of e.position.outcome e.before e.new

-- where the deployment stands, and where nothing was deployed yet
abbrev pub position_of : Db → Position
position_of Empty = record { state = Idle; outcome = Undecided; undoable = false; reboot = No; n = 0 }
position_of (Full e) = e.position

-- the pair, with `_INCONSISTENT` behind the value where the key is `artifact_name`
abbrev pub marked : List ℕ × List ℕ → List ℕ × List ℕ
marked p = if bytes_eq p.0 artifact_name then (p.0, p.1 ++ codes "_INCONSISTENT") else p
