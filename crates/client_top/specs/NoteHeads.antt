-- With what the note of a boot begins.
use Rattle.std.specs.Prelude.{◌≡◌, [], Option, Some, None}
use Rattle.script_names.specs.declared.site.Site.{Site}
use Rattle.flow_words.specs.Pieces.{End, Halted}
use Rattle.flow_words.specs.Words.{Callees}
use Rattle.flow_drive.specs.Calls.{callees}
use Rattle.record_codec.specs.declared.entry.Db.{Db}
use Rattle.record_codec.specs.declared.entry.Db.TheVariants.{Empty, Full}
use Rattle.record_codec.specs.Held.{position_of}
use Rattle.client_words.specs.declared.command.Command.{Command}
use Rattle.trace_check.specs.declared.note.Deed.TheVariants.{Install}
use Rattle.trace_check.specs.declared.note.NoteHead.{NoteHead}
use Rattle.trace_check.specs.Follows.{callees as noted_callees}
use Rattle.client_top.specs.Notes.{deed_of}

-- whom the deployment of a database calls on a device; where nothing was deployed yet there are the device's own scripts alone
abbrev pub callees_in : Site → Db → Callees
callees_in site Empty = record { kinds = []; own = site.scripts; brought = [] }
callees_in site (Full e) = callees site e

-- The payload types and scripts in the note of a boot from c to d.
pub data HasLists (site : Site) (c : Db) (end : Option End) (d : Db) (head : NoteHead) : Type 0 where
  -- those of the deployment that stands behind the boot
  deployed : noted_callees head ≡ callees_in site d → HasLists site c end d head
  -- any where nothing was done: the text of such a note has none
  untold : end ≡ None → HasLists site c end d head
  -- any of an install that was cut off before its first position was put: those of its plan, which no database has
  not_begun : head.deed ≡ Install → end ≡ Some Halted → d ≡ c → HasLists site c end d head

-- The note of a boot from c to d begins so.
pub record IsHead (site : Site) (command : Command) (c : Db) (end : Option End) (d : Db) (head : NoteHead) : Type 0 where
  pub deed : deed_of command ≡ Some head.deed
  pub from : head.from ≡ position_of c
  pub lists : HasLists site c end d head
