-- Boots in a row, and the databases between them.
use Rattle.std.specs.Prelude.{◌≡◌, Bool, true, false, IsTrue, List, [], ◌∷◌, ◌++◌, Option, Ok, if◌then◌else◌}
use Rattle.device_model.specs.declared.calls.Event.{Event}
use Rattle.device_model.specs.declared.calls.Event.TheVariants.{Loss}
use Rattle.device_model.specs.Disk.{Disk}
use Rattle.io_model.specs.Source.{Content}
use Rattle.script_names.specs.declared.site.Site.{Site}
use Rattle.record_codec.specs.declared.entry.Db.{Db}
use Rattle.slot_store.specs.Slots.{May}
use Rattle.client_words.specs.declared.command.Command.{Command}
use Rattle.client_top.specs.declared.status.Status.{Status}
use Rattle.client_top.specs.declared.status.Status.TheVariants.{PowerOff}
use Rattle.client_top.specs.Finds.{Request}
use Rattle.client_top.specs.Boot.{Boot}
use Rattle.client_top.specs.Answers.{row_of, end_of}
use Rattle.client_top.specs.Promises.{Replies}
use Rattle.lab.specs.declared.runs.BootRun.{BootRun}

-- the answer to a loss of power
abbrev pub is_off : Status → Bool
is_off PowerOff = true
is_off _ = false

-- what a boot is asked
abbrev pub asked_of : Site → Content → Command → Request
asked_of site content command = record { command = Ok command; site = site; content = content }

-- One boot leads from the database c to d: it did what its command does from c, up to a loss of power at its end, and its
-- answer is one of its command, and true of c.
pub record Step (site : Site) (content : Content) (c : Db) (run : BootRun) (d : Db) : Type 0 where
  pub events : List Event
  pub journal : run.events.events ≡ events ++ (if is_off run.status then Loss ∷ [] else [])
  pub boot : Boot (asked_of site content run.command) c events (end_of run.status) d
  pub whose : IsTrue ((row_of run.status).whose (Ok run.command))
  pub answer : Replies (row_of run.status).basis (asked_of site content run.command) c run.status

-- boots in a row, from c to d
pub data Path (site : Site) (content : Content) : Db → List BootRun → Db → Type 0 where
  stays : {c : Db} → Path site content c [] c
  goes : {c m d : Db} {run : BootRun} {runs : List BootRun} → Step site content c run m → Path site content m runs d → Path site content c (run ∷ runs) d

-- some database that could stand on the disk leads to d
pub record Leads (site : Site) (content : Content) (old : Option Disk) (runs : List BootRun) (d : Db) : Type 0 where
  pub from : Db
  pub may : May old from
  pub path : Path site content from runs d
