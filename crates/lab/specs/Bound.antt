-- Resumes that nothing hinders, and how many of them end a deployment.
use Rattle.std.specs.Prelude.{◌≡◌, ℕ, ◌+◌, List, ◌∷◌, ◌++◌, ⊤}
use Rattle.io_model.specs.Source.{Content}
use Rattle.script_names.specs.declared.site.Site.{Site}
use Rattle.flow_table.specs.declared.position.State.TheVariants.{Idle}
use Rattle.record_codec.specs.declared.entry.Db.{Db}
use Rattle.record_codec.specs.Held.{position_of}
use Rattle.client_words.specs.declared.command.Command.TheVariants.{Resume}
use Rattle.client_top.specs.declared.status.Status.{Status}
use Rattle.client_top.specs.declared.status.Status.TheVariants.{DiskFault, NoMemory, PowerOff, BadStore}
use Rattle.lab.specs.declared.runs.BootRun.{BootRun}
use Rattle.lab.specs.Path.{Path}

-- no loss, no fault and no want of memory hindered it, and the store was a record
abbrev pub IsUnhindered : Status → Type 0
IsUnhindered DiskFault = ⊥
IsUnhindered NoMemory = ⊥
IsUnhindered PowerOff = ⊥
IsUnhindered (BadStore offset) = ⊥
IsUnhindered _ = ⊤

-- the boot was a resume that nothing hindered
pub record IsResume (run : BootRun) : Type 0 where
  pub command : run.command ≡ Resume
  pub unhindered : IsUnhindered run.status

-- at least so many of these boots are resumes that nothing hindered
pub data HasResumes : ℕ → List BootRun → Type 0 where
  none : {runs : List BootRun} → HasResumes 0 runs
  one : {times : ℕ} {run : BootRun} {runs : List BootRun} → IsResume run → HasResumes times runs → HasResumes (times + 1) (run ∷ runs)
  other : {times : ℕ} {run : BootRun} {runs : List BootRun} → HasResumes times runs → HasResumes times (run ∷ runs)

-- behind some of these boots, from c to d, the deployment had ended
pub record EndsWithin (site : Site) (content : Content) (c : Db) (runs : List BootRun) (d : Db) : Type 0 where
  pub front : List BootRun
  pub back : List BootRun
  pub are : runs ≡ front ++ back
  pub ended : Db
  pub came : Path site content c front ended
  pub rest : Path site content ended back d
  pub idle : (position_of ended).state ≡ Idle
