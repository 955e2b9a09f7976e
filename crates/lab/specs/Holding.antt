-- What is held after boots in a row from the empty database.
use Rattle.std.specs.Prelude.{◌≡◌, false, List, [], ◌∷◌, ◌++◌, All, Some, None, Ok}
use Rattle.io_model.specs.Source.{Content}
use Rattle.script_names.specs.declared.site.Site.{Site}
use Rattle.provides_map.specs.Pairs.{Pairs}
use Rattle.provides_map.specs.After.{broken}
use Rattle.admit.specs.declared.admitted.Admitted.{Admitted}
use Rattle.flow_table.specs.Laws.{IsUndoneAtLoss}
use Rattle.flow_table.specs.declared.position.Outcome.TheVariants.{Undecided, Committed, Inconsistent}
use Rattle.flow_table.specs.declared.position.Position.{Position}
use Rattle.flow_table.specs.declared.table.Order.{Order}
use Rattle.flow_table.specs.declared.table.Opening.TheVariants as opening
use Rattle.flow_table.specs.Table.{first_of, fresh_position}
use Rattle.flow_words.specs.Causes.{HasCommit, Broke}
use Rattle.flow_words.specs.Words.{word_at}
use Rattle.flow_drive.specs.Calls.{callees}
use Rattle.flow_drive.specs.Drive.{at}
use Rattle.record_codec.specs.declared.entry.Entry.{Entry}
use Rattle.record_codec.specs.declared.entry.Db.{Db}
use Rattle.record_codec.specs.declared.entry.Db.TheVariants.{Empty}
use Rattle.record_codec.specs.Held.{held, position_of}
use Rattle.client_words.specs.declared.command.Command.TheVariants.{Install}
use Rattle.client_top.specs.Finds.{begun}
use Rattle.client_top.specs.Steps.{command_of}
use Rattle.client_top.specs.Boot.{IsPlan, is_stop}
use Rattle.client_top.specs.declared.status.Status.{Status}
use Rattle.client_top.specs.Answers.{end_of}
use Rattle.client_top.specs.Promises.{KeepsOld, told_by}
use Rattle.lab.specs.declared.runs.BootRun.{BootRun}
use Rattle.lab.specs.Path.{Step, Path}

-- one of these boots has this, by the database before it
pub record SomeBoot (site : Site) (content : Content) (from : Db) (runs : List BootRun) (Has : Db → BootRun → Type 0) : Type 0 where
  pub front : List BootRun
  pub run : BootRun
  pub back : List BootRun
  pub are : runs ≡ front ++ run ∷ back
  pub before : Db
  pub came : Path site content from front before
  pub has : Has before run

-- A deployment that one of the boots began: it installed this plan of the tree over the database before it.
pub record Deployed (site : Site) (content : Content) (runs : List BootRun) : Type 0 where
  pub front : List BootRun
  pub first : BootRun
  pub back : List BootRun
  pub are : runs ≡ front ++ first ∷ back
  pub over : Db
  pub came : Path site content Empty front over
  pub next : Db
  pub step : Step site content over first next
  pub installs : first.command ≡ Install
  pub plan : Admitted
  pub is_plan : IsPlan site content over plan

abbrev pub entry_of : {site : Site} {content : Content} {runs : List BootRun} → Deployed site content runs → Entry
entry_of d = begun d.over d.plan

-- This holds of a boot of the deployment: of the one that began it, or of one behind it that found it in progress.
pub data InBoot {site : Site} {content : Content} {runs : List BootRun} (d : Deployed site content runs) (Has : Db → BootRun → Type 0) : Type 0 where
  at_first : Has d.over d.first → InBoot d Has
  later : SomeBoot site content d.next d.back (λ before run. (q : Position) × (before ≡ at (entry_of d) q) × Has before run) → InBoot d Has

-- all its modules were called to commit, and each exited 0
abbrev pub Commits : Entry → Db → BootRun → Type 0
Commits e before run = HasCommit e.kinds run.events.events

-- an order that was given, and the position that it entered
pub record Ordered (before : Db) (run : BootRun) : Type 0 where
  pub order : Order
  pub is : run.command ≡ command_of order
  pub entered : Position
  pub enters : first_of (position_of before) order ≡ opening.Enter entered

-- on the way from this position a state failed that can't be taken back, or taking it back failed, or nothing was decided at
-- the limit of states
abbrev pub BrokeFrom : Site → Entry → Position → BootRun → Type 0
BrokeFrom site e p run = Broke (word_at (callees site e)) (is_stop (Ok run.command)) p run.events.events

-- why the old and the new are mixed
pub data Mixes (site : Site) (e : Entry) (before : Db) (run : BootRun) : Type 0 where
  -- the deployment began, and broke
  broke_at_first : run.command ≡ Install → BrokeFrom site e fresh_position run → Mixes site e before run
  -- it went on, and broke
  broke : (o : Ordered before run) → BrokeFrom site e o.entered run → Mixes site e before run
  -- it went on from a state that can't be taken back
  stopped : Ordered before run → IsUndoneAtLoss (position_of before).state → (position_of before).undoable ≡ false → Mixes site e before run
  -- it went on where no further state may be entered, and nothing was decided
  at_the_limit : Ordered before run → (position_of before).n ≡ 28 → (position_of before).outcome ≡ Undecided → Mixes site e before run

-- What is held after these boots from the empty database, where this database stands behind them: nothing, where no deployment
-- began. Else some deployment stands: what was held where it began is held, as long as it neither committed nor became
-- inconsistent; what it provides, where it committed; or that, marked, where the old and the new are mixed.
pub data HeldAfter (site : Site) (content : Content) : List BootRun → Db → Pairs → Type 0 where
  nothing : {runs : List BootRun} → HeldAfter site content runs Empty []
  old : {runs : List BootRun} {ps : Pairs} (d : Deployed site content runs) (q : Position) → Path site content d.next d.back (at (entry_of d) q) → KeepsOld q.outcome → HeldAfter site content d.front d.over ps → HeldAfter site content runs (at (entry_of d) q) ps
  new : {runs : List BootRun} (d : Deployed site content runs) (q : Position) → Path site content d.next d.back (at (entry_of d) q) → q.outcome ≡ Committed → InBoot d (Commits (entry_of d)) → HeldAfter site content runs (at (entry_of d) q) (entry_of d).new
  marked : {runs : List BootRun} (d : Deployed site content runs) (q : Position) → Path site content d.next d.back (at (entry_of d) q) → q.outcome ≡ Inconsistent → InBoot d (Mixes site (entry_of d)) → HeldAfter site content runs (at (entry_of d) q) (broken (entry_of d).new)

-- A deployment that one of these boots began stands behind them, and of what it provides and of what was held where it began is
-- held what this answer says.
pub record ToldAfter (site : Site) (content : Content) (runs : List BootRun) (status : Status) (d : Db) : Type 0 where
  pub deployed : Deployed site content runs
  pub position : Position
  pub stands : d ≡ at (entry_of deployed) position
  pub holds : told_by status (entry_of deployed) ≡ Some (held d)

-- the answers tell no deployment
abbrev pub TellNone : List BootRun → Type 0
TellNone runs = All (λ (r : BootRun). end_of r.status ≡ None) runs
