-- What a command finds: over the database that was read, in the tree, before anything is done.
use Rattle.std.specs.Prelude.{ℕ, ◌+◌, ◌==◌, nat_lt, if◌then◌else◌, Result, Ok, Err, Option, Some, None}
use Rattle.std.specs.Option.{option_map}
use Rattle.upd_text.specs.Results.{◌>>=◌}
use Rattle.io_model.specs.Source.{Content, Tree}
use Rattle.io_model.specs.Source.Content.{Told, Untold}
use Rattle.script_names.specs.declared.site.Site.{Site}
use Rattle.provides_map.specs.After.{after}
use Rattle.admit.specs.declared.admitted.Admitted.{Admitted}
use Rattle.admit.specs.declared.refusal.Refusal.{Refusal}
use Rattle.admit.specs.declared.refusal.Refusal.TheVariants.{PayloadDiffers}
use Rattle.admit.specs.Admit.{plan_of, head_plan_of}
use Rattle.admit.specs.Differing.{listed_of, in_payload, first_differing}
use Rattle.admit.specs.Change.{change_of}
use Rattle.flow_table.specs.declared.position.State.{State}
use Rattle.flow_table.specs.declared.position.State.TheVariants.{Idle}
use Rattle.flow_table.specs.declared.position.Position.{Position}
use Rattle.flow_table.specs.declared.table.Opening.{Opening}
use Rattle.flow_table.specs.declared.table.Opening.TheVariants as opening
use Rattle.flow_table.specs.declared.table.Order.{Order}
use Rattle.flow_table.specs.declared.table.Order.TheVariants as order
use Rattle.flow_table.specs.Table.{first_of, fresh_position}
use Rattle.record_codec.specs.declared.entry.Entry.{Entry}
use Rattle.record_codec.specs.declared.entry.Db.{Db}
use Rattle.record_codec.specs.declared.entry.Db.TheVariants.{Empty, Full}
use Rattle.record_codec.specs.declared.length.TheConstants.{LARGEST_RECORD}
use Rattle.record_codec.specs.Spelling.{record_length}
use Rattle.record_codec.specs.Held.{held, position_of}
use Rattle.client_words.specs.declared.command.Command.{Command}
use Rattle.client_words.specs.declared.command.Command.TheVariants.{Install, Resume, ResumeStop, Commit, Rollback, ShowProvides, ShowArtifact, ShowDeployment, Check, Simulate}
use Rattle.client_words.specs.declared.command.UsageFault.{UsageFault}
use Rattle.client_words.specs.declared.command.UsageFault.TheVariants.{UnknownCommand}
use Rattle.client_top.specs.declared.status.Good.TheVariants.{Shown, Admitted as Admissible}
use Rattle.client_top.specs.declared.status.NotNow.TheVariants.{InProgress, MustResume, NoRollback}
use Rattle.client_top.specs.declared.status.Status.{Status}
use Rattle.client_top.specs.declared.status.Status.TheVariants.{Done, Refused, NoUpdate, Usage, TooLarge, NotNow}

-- what is asked of the client: a command or why the words are none, the device's own type and scripts, and the tree that it
-- may read
pub record Request : Type 0 where
  pub command : Result Command UsageFault
  pub site : Site
  pub content : Content

-- What a command finds: its answer, or a deployment that stays as it is, or the deployment that begins or goes on and the
-- position that it enters. What is found in a tree that isn't told can't be said.
pub data Found : Type 0 where
  Answers : Status → Found
  Stays : Found
  Starts : Entry → Position → Found
  Unsaid : Found

-- ---- a tree

-- the number of a deployment
abbrev pub id_of : Db → Option ℕ
id_of Empty = None
id_of (Full e) = Some e.id

-- the number of the next deployment: 1 at first, and again after 65,535
abbrev pub next_after : Option ℕ → ℕ
next_after None = 1
next_after (Some id) = if id == 65535 then 1 else id + 1

abbrev pub next_id : Db → ℕ
next_id c = next_after (id_of c)

-- the deployment that a plan makes over what the database holds
abbrev pub begun : Db → Admitted → Entry
begun c plan = record {
  position = fresh_position;
  id = next_id c;
  before = held c;
  new = after (held c) (change_of plan);
  kinds = plan.header.kinds;
  scripts = plan.scripts;
}

abbrev pub unless_refused : {A : Type 0} → Result A Refusal → Result A Status
unless_refused (Ok x) = Ok x
unless_refused (Err refusal) = Err (Refused refusal)

-- a deployment whose record fits a slot
abbrev pub unless_large : Entry → Result Entry Status
unless_large e = if nat_lt LARGEST_RECORD (record_length e) then Err (TooLarge (record_length e)) else Ok e

abbrev pub none_refused : Entry → Option Refusal → Result Entry Status
none_refused e None = Ok e
none_refused e (Some refusal) = Err (Refused refusal)

-- the sums of the payloads
abbrev pub unless_damaged : Tree → Admitted → Entry → Result Entry Status
unless_damaged t plan e = none_refused e (option_map PayloadDiffers (first_differing in_payload t (listed_of plan)))

-- what an install begins: it reads the payloads last, since it reads them once
abbrev pub installed : Site → Tree → Db → Result Entry Status
installed site t c = unless_refused (head_plan_of t site.device_type (held c)) >>= λ plan. unless_large (begun c plan) >>= unless_damaged t plan

-- what a check weighs
abbrev pub checked : Site → Tree → Db → Result Entry Status
checked site t c = unless_refused (plan_of t site.device_type (held c)) >>= λ plan. unless_large (begun c plan)

abbrev pub starting : Result Entry Status → Found
starting (Ok e) = Starts e fresh_position
starting (Err status) = Answers status

abbrev pub weighing : Result Entry Status → Found
weighing (Ok e) = Answers (Done Admissible)
weighing (Err status) = Answers status

abbrev pub in_tree : Content → (Tree → Found) → Found
in_tree (Told t) f = f t
in_tree (Untold count) f = Unsaid

-- what an install finds in a tree, and a check
abbrev pub install_found : Site → Content → Db → Found
install_found site content c = in_tree content (λ t. starting (installed site t c))

abbrev pub check_found : Site → Content → Db → Found
check_found site content c = in_tree content (λ t. weighing (checked site t c))

-- a deployment begins where none is in progress
abbrev pub beginning : State → Site → Content → Db → Found
beginning Idle site content c = install_found site content c
beginning s site content c = Answers (NotNow (InProgress s))

-- ---- a deployment

abbrev pub opening_at : Entry → Opening → Found
opening_at e (opening.Enter p) = Starts e p
opening_at e opening.Stay = Stays
opening_at e opening.NoUpdate = Answers NoUpdate
opening_at e (opening.MustResume s) = Answers (NotNow (MustResume s))
opening_at e (opening.NoRollback s) = Answers (NotNow (NoRollback s))

abbrev pub ordered : Order → Db → Found
ordered o Empty = Answers NoUpdate
ordered o (Full e) = opening_at e (first_of e.position o)

-- ---- a command

abbrev pub found_for : Result Command UsageFault → Site → Content → Db → Found
found_for (Ok Install) site content c = beginning (position_of c).state site content c
found_for (Ok Resume) site content c = ordered order.Resume c
found_for (Ok ResumeStop) site content c = ordered order.ResumeStop c
found_for (Ok Commit) site content c = ordered order.Commit c
found_for (Ok Rollback) site content c = ordered order.Rollback c
found_for (Ok ShowProvides) site content c = Answers (Done Shown)
found_for (Ok ShowArtifact) site content c = Answers (Done Shown)
found_for (Ok ShowDeployment) site content c = Answers (Done Shown)
found_for (Ok Check) site content c = check_found site content c
found_for (Ok (Simulate seed rounds)) site content c = Answers (Usage (UnknownCommand 0))
found_for (Err fault) site content c = Answers (Usage fault)

-- what is found over the database c
abbrev pub finds : Request → Db → Found
finds asked c = found_for asked.command asked.site asked.content c
