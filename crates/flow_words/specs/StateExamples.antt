-- Worked runs of states.
use Rattle.std.specs.Prelude.{◌≡◌, ℕ, true, List, [], ◌∷◌, codes, Some}
use Rattle.device_model.specs.declared.calls.Answer.TheVariants.{Exit, Reply, NotStarted}
use Rattle.device_model.specs.declared.calls.Call.TheVariants.{Module, Ask, Script, SystemReboot}
use Rattle.device_model.specs.declared.calls.Event.TheVariants.{Start, End}
use Rattle.device_model.specs.declared.calls.ModState.TheVariants as mod_state
use Rattle.device_model.specs.declared.calls.Query.TheVariants.{SupportsRollback}
use Rattle.flow_table.specs.declared.position.Outcome.{Outcome}
use Rattle.flow_table.specs.declared.position.Outcome.TheVariants.{Undecided, Committed}
use Rattle.flow_table.specs.declared.position.Position.{Position}
use Rattle.flow_table.specs.declared.position.Reboot.{Reboot}
use Rattle.flow_table.specs.declared.position.Reboot.TheVariants.{No, Yes, Automatic}
use Rattle.flow_table.specs.declared.position.State.{State}
use Rattle.flow_table.specs.declared.position.State.TheVariants as at
use Rattle.flow_table.specs.declared.table.Heard.TheVariants.{Failed, Fine, Undoable, Needs}
use Rattle.flow_words.specs.Course.{done}
use Rattle.flow_words.specs.Played.{events_for, result_for}
use Rattle.flow_words.specs.Words.{Callees, word_at}

-- a module of this payload type, without scripts
abbrev pub kind : List ℕ
kind = codes "single-file"

abbrev pub plain : Callees
plain = record { kinds = kind ∷ []; own = []; brought = [] }

-- and with two Error scripts for Install
abbrev pub first_error : List ℕ
first_error = codes "ArtifactInstall_Error_00"

abbrev pub second_error : List ℕ
second_error = codes "ArtifactInstall_Error_01"

abbrev pub scripted : Callees
scripted = record { kinds = kind ∷ []; own = []; brought = first_error ∷ second_error ∷ [] }

abbrev pub stands : State → Outcome → Reboot → Position
stands s o r = record { state = s; outcome = o; undoable = true; reboot = r; n = 2 }

-- Download calls the module and asks it
abbrev pub DownloadAsks : Type 0
DownloadAsks =
    (events_for (word_at plain (stands at.Download Undecided No)) (Exit 0 ∷ Reply 0 (codes "Yes") ∷ [])
    ≡ Start (Module 0 kind mod_state.Download) ∷ End (Exit 0) ∷ Start (Ask 0 kind SupportsRollback) ∷ End (Reply 0 (codes "Yes")) ∷ [])
    × (result_for (word_at plain (stands at.Download Undecided No)) (Exit 0 ∷ Reply 0 (codes "Yes") ∷ []) ≡ Some (Undoable true))

-- Install whose module fails asks nothing, and runs all Error scripts, whatever they exit with
abbrev pub InstallFails : Type 0
InstallFails =
    (events_for (word_at scripted (stands at.Install Undecided No)) (Exit 1 ∷ Exit 1 ∷ Exit 21 ∷ [])
    ≡ Start (Module 0 kind mod_state.ArtifactInstall) ∷ End (Exit 1) ∷ Start (Script first_error) ∷ End (Exit 1) ∷ Start (Script second_error) ∷ End (Exit 21) ∷ [])
    × (result_for (word_at scripted (stands at.Install Undecided No)) (Exit 1 ∷ Exit 1 ∷ Exit 21 ∷ []) ≡ Some Failed)
    × (result_for (word_at plain (stands at.Install Undecided No)) (Exit 0 ∷ Reply 0 (codes "Maybe") ∷ []) ≡ Some Failed)
    × (result_for (word_at plain (stands at.Install Undecided No)) (Exit 0 ∷ Reply 0 (codes "Automatic") ∷ []) ≡ Some (Needs Automatic))

-- the module reboots, or the client does; after a rollback it is no failure if that fails
abbrev pub Reboots : Type 0
Reboots =
    (events_for (word_at plain (stands at.Reboot Undecided Yes)) (Exit 0 ∷ []) ≡ Start (Module 0 kind mod_state.ArtifactReboot) ∷ End (Exit 0) ∷ [])
    × (events_for (word_at plain (stands at.Reboot Undecided Automatic)) (Exit 0 ∷ []) ≡ Start SystemReboot ∷ End (Exit 0) ∷ [])
    × (result_for (word_at plain (stands at.Reboot Undecided Automatic)) (NotStarted ∷ []) ≡ Some Failed)
    × (result_for (word_at plain (stands at.RollbackReboot Undecided Automatic)) (NotStarted ∷ []) ≡ Some Fine)

-- nothing is called at Idle and at Wait, nor without scripts where an update was just committed
abbrev pub CallsNothing : Type 0
CallsNothing =
    (word_at plain (stands at.Idle Committed No) ≡ done Fine)
    × (word_at plain (stands at.Wait Undecided No) ≡ done Fine)
    × (word_at plain (stands at.CommitLeave Committed No) ≡ done Fine)

-- ---- two payloads

abbrev pub other_kind : List ℕ
other_kind = codes "conf"

abbrev pub two : Callees
two = record { kinds = kind ∷ other_kind ∷ []; own = []; brought = [] }

-- Download calls both modules, and asks both, which have to say the same
abbrev pub DownloadAsksBoth : Type 0
DownloadAsksBoth =
    (events_for (word_at two (stands at.Download Undecided No)) (Exit 0 ∷ Exit 0 ∷ Reply 0 [] ∷ Reply 0 (codes "Yes") ∷ [])
    ≡ Start (Module 0 kind mod_state.Download) ∷ End (Exit 0) ∷ Start (Module 1 other_kind mod_state.Download) ∷ End (Exit 0)
    ∷ Start (Ask 0 kind SupportsRollback) ∷ End (Reply 0 []) ∷ Start (Ask 1 other_kind SupportsRollback) ∷ End (Reply 0 (codes "Yes")) ∷ [])
    × (result_for (word_at two (stands at.Download Undecided No)) (Exit 0 ∷ Exit 0 ∷ Reply 0 [] ∷ Reply 0 (codes "Yes") ∷ []) ≡ Some Failed)
    × (result_for (word_at two (stands at.Download Undecided No)) (Exit 0 ∷ Exit 0 ∷ Reply 0 (codes "Yes") ∷ Reply 0 (codes "Yes") ∷ []) ≡ Some (Undoable true))

-- where one of several needs a reboot, the client reboots the system; where none does, there is none
abbrev pub InstallHearsBoth : Type 0
InstallHearsBoth =
    (result_for (word_at two (stands at.Install Undecided No)) (Exit 0 ∷ Exit 0 ∷ Reply 0 (codes "Yes") ∷ Reply 0 [] ∷ []) ≡ Some (Needs Automatic))
    × (result_for (word_at two (stands at.Install Undecided No)) (Exit 0 ∷ Exit 0 ∷ Reply 0 (codes "No") ∷ Reply 0 [] ∷ []) ≡ Some (Needs No))
    × (result_for (word_at plain (stands at.Install Undecided No)) (Exit 0 ∷ Reply 0 (codes "Yes") ∷ []) ≡ Some (Needs Yes))

-- a failure ends the calls, but not those of Rollback, which fails then, nor those whose answers are ignored
abbrev pub FailureEndsCalls : Type 0
FailureEndsCalls =
    (events_for (word_at two (stands at.Commit Undecided No)) (Exit 1 ∷ []) ≡ Start (Module 0 kind mod_state.ArtifactCommit) ∷ End (Exit 1) ∷ [])
    × (events_for (word_at two (stands at.Rollback Undecided No)) (Exit 1 ∷ Exit 0 ∷ [])
    ≡ Start (Module 0 kind mod_state.ArtifactRollback) ∷ End (Exit 1) ∷ Start (Module 1 other_kind mod_state.ArtifactRollback) ∷ End (Exit 0) ∷ [])
    × (result_for (word_at two (stands at.Rollback Undecided No)) (Exit 1 ∷ Exit 0 ∷ []) ≡ Some Failed)
    × (events_for (word_at two (stands at.Cleanup Committed No)) (NotStarted ∷ Exit 1 ∷ [])
    ≡ Start (Module 0 kind mod_state.Cleanup) ∷ End NotStarted ∷ Start (Module 1 other_kind mod_state.Cleanup) ∷ End (Exit 1) ∷ [])
    × (result_for (word_at two (stands at.Cleanup Committed No)) (NotStarted ∷ Exit 1 ∷ []) ≡ Some Fine)
