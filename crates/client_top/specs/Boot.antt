-- One command at a boot: what it may do, and where that leads.
use Rattle.std.specs.Prelude.{◌≡◌, ◌≤◌, Bool, true, false, List, [], Option, Some, None, Result, Ok}
use Rattle.device_model.specs.declared.calls.Event.{Event}
use Rattle.io_model.specs.Source.{Content}
use Rattle.io_model.specs.Source.Content.{Told, Untold}
use Rattle.flow_table.specs.Table.{fresh_position}
use Rattle.flow_table.specs.declared.position.Position.{Position}
use Rattle.flow_words.specs.Pieces.{End, Waits, Halted}
use Rattle.flow_drive.specs.Drive.{Leads}
use Rattle.record_codec.specs.declared.entry.Entry.{Entry}
use Rattle.record_codec.specs.declared.entry.Db.{Db}
use Rattle.record_codec.specs.Spelling.{record_length}
use Rattle.record_codec.specs.Held.{held}
use Rattle.script_names.specs.declared.site.Site.{Site}
use Rattle.admit.specs.Admit.{plan_of}
use Rattle.record_codec.specs.declared.length.TheConstants.{LARGEST_RECORD}
use Rattle.admit.specs.IsOf.{IsOf}
use Rattle.admit.specs.declared.admitted.Admitted.{Admitted}
use Rattle.client_words.specs.declared.command.Command.{Command}
use Rattle.client_words.specs.declared.command.Command.TheVariants.{Install, ResumeStop}
use Rattle.client_words.specs.declared.command.UsageFault.{UsageFault}
use Rattle.client_top.specs.Finds.{Request, Stays, Starts, Unsaid, finds, begun}

-- the deployment waits before it commits
abbrev pub is_stop : Result Command UsageFault → Bool
is_stop (Ok ResumeStop) = true
is_stop _ = false

-- the plan that the tree gives over what c holds; of a tree that isn't told, some plan of that many files
abbrev pub IsPlan : Site → Content → Db → Admitted → Type 0
IsPlan site (Told t) c plan = plan_of t site.device_type (held c) ≡ Ok plan
IsPlan site (Untold count) c plan = IsOf (Untold count) plan

-- a plan of the tree that is asked for, whose deployment fits a slot
pub record Fits (asked : Request) (c : Db) (plan : Admitted) : Type 0 where
  pub is_plan : IsPlan asked.site asked.content c plan
  pub small : record_length (begun c plan) ≤ LARGEST_RECORD

-- From the database c what is asked leads with these events to this end, and then the database d stands. The end is none where
-- no deployment began, went on or waits.
pub data Boot (asked : Request) (c : Db) : List Event → Option End → Db → Type 0 where
  -- nothing was done
  nothing : Boot asked c [] None c
  -- the deployment waits, and stays as it is
  stays : finds asked c ≡ Stays → Boot asked c [] (Some Waits) c
  -- a deployment begins or goes on
  runs : {events : List Event} {end : End} {d : Db} (e : Entry) (p : Position) → finds asked c ≡ Starts e p → Leads asked.site e (is_stop asked.command) p events end d → Boot asked c events (Some end) d
  -- one of a tree that isn't told begins
  begins : {events : List Event} {end : End} {d : Db} (plan : Admitted) → asked.command ≡ Ok Install → finds asked c ≡ Unsaid → Fits asked c plan → Leads asked.site (begun c plan) false fresh_position events end d → Boot asked c events (Some end) d
  -- it was cut off before the first event
  breaks_off : Boot asked c [] (Some Halted) c
