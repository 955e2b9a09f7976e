-- Worked answers, and what worked commands find.
use Rattle.std.specs.Prelude.{◌≡◌, ℕ, Bool, true, false, [], codes, Some, None, Result, Ok, Err, nat_lt}
use Rattle.device_model.specs.How.{Through, PowerLost, DiskFailed}
use Rattle.io_model.specs.Source.{Content, Tree}
use Rattle.io_model.specs.Source.Content.{Told, Untold}
use Rattle.script_names.specs.declared.site.Site.{Site}
use Rattle.admit.specs.Admit.{head_plan_of, plan_of}
use Rattle.admit.specs.Differing.{listed_of, in_payload, first_differing}
use Rattle.record_codec.specs.declared.length.TheConstants.{LARGEST_RECORD}
use Rattle.admit.specs.declared.admitted.Admitted.{Admitted}
use Rattle.admit.specs.declared.refusal.Differs.{Differs}
use Rattle.admit.specs.declared.refusal.Refusal.{Refusal}
use Rattle.admit.specs.declared.refusal.Refusal.TheVariants.{PayloadDiffers}
use Rattle.flow_table.specs.declared.position.State.{State}
use Rattle.flow_table.specs.declared.position.State.TheVariants as at
use Rattle.flow_table.specs.declared.position.Outcome.{Outcome}
use Rattle.flow_table.specs.declared.position.Outcome.TheVariants as outcome
use Rattle.flow_table.specs.declared.position.Reboot.{Reboot}
use Rattle.flow_table.specs.declared.position.Reboot.TheVariants.{No, Yes}
use Rattle.flow_words.specs.Pieces.{Waits, Halted}
use Rattle.record_codec.specs.declared.entry.Entry.{Entry}
use Rattle.record_codec.specs.declared.entry.Db.{Db}
use Rattle.record_codec.specs.declared.entry.Db.TheVariants.{Empty, Full}
use Rattle.record_codec.specs.Spelling.{record_length}
use Rattle.client_words.specs.declared.command.Command.{Command}
use Rattle.client_words.specs.declared.command.Command.TheVariants.{Install, Resume, ResumeStop, Commit, Rollback, ShowProvides, ShowArtifact, ShowDeployment, Check, Simulate}
use Rattle.client_words.specs.declared.command.UsageFault.{UsageFault}
use Rattle.client_words.specs.declared.command.UsageFault.TheVariants as usage
use Rattle.client_top.specs.declared.status.Good.TheVariants.{Committed, Waiting, RolledBack, Shown}
use Rattle.client_top.specs.declared.status.NotNow.TheVariants.{InProgress, MustResume, NoRollback}
use Rattle.client_top.specs.declared.status.Status.TheVariants.{Done, Refused, NoUpdate, Inconsistent, RebootNeeded, DiskFault, SourceFault, NoMemory, SinkFault, Usage, PowerOff, BadStore, TooLarge, NotNow, NotInstalled}
use Rattle.client_top.specs.Finds.{Request, Found, Answers, Stays, Starts, Unsaid, finds, begun, next_after}
use Rattle.client_top.specs.Answers.{row_of, number_of, end_of, how_of, text_of}

-- the exit statuses, in the order of the answers
abbrev pub Numbers : Type 0
Numbers = (refusal : Refusal) →
    (number_of (Done Committed) ≡ 0) × (number_of (Done Waiting) ≡ 0) × (number_of (Done Shown) ≡ 0) × (number_of (Refused refusal) ≡ 1) × (number_of NoUpdate ≡ 2)
    × (number_of Inconsistent ≡ 3) × (number_of RebootNeeded ≡ 4) × (number_of DiskFault ≡ 5) × (number_of SourceFault ≡ 6)
    × (number_of NoMemory ≡ 7) × (number_of SinkFault ≡ 8) × (number_of (Usage usage.NoCommand) ≡ 9) × (number_of PowerOff ≡ 10)
    × (number_of (BadStore 0) ≡ 11) × (number_of (TooLarge 131073) ≡ 12) × (number_of (NotNow (MustResume at.Install)) ≡ 13)
    × (number_of (NotInstalled outcome.Kept) ≡ 14)

-- what is read off the table
abbrev pub Ends : Type 0
Ends =
    (end_of NoMemory ≡ None) × (end_of (Done Waiting) ≡ Some Waits) × (end_of DiskFault ≡ Some Halted) × (how_of DiskFault ≡ DiskFailed)
    × (how_of PowerOff ≡ PowerLost) × (how_of SourceFault ≡ Through)
    × ((row_of (Done RolledBack)).whose (Ok Resume) ≡ false) × ((row_of (NotInstalled outcome.RolledBack)).whose (Ok Resume) ≡ true)
    × ((row_of (NotInstalled outcome.RolledBack)).whose (Ok Rollback) ≡ false) × ((row_of DiskFault).whose (Err usage.NoCommand) ≡ false)

-- the texts of some answers
abbrev pub Texts : Type 0
Texts =
    (text_of (Ok Install) None (Done Committed) ≡ codes "committed\n") × (text_of (Ok Resume) None NoUpdate ≡ codes "no update\n")
    × (text_of (Ok Resume) None (Done Waiting) ≡ codes "waiting\n") × (text_of (Ok Resume) None Inconsistent ≡ codes "inconsistent\n")
    × (text_of (Ok Install) None RebootNeeded ≡ codes "reboot needed\n") × (text_of (Ok Install) None PowerOff ≡ []) × (text_of (Ok ShowArtifact) (Some Empty) (Done Shown) ≡ codes "unknown\n")
    × (text_of (Ok ShowProvides) (Some Empty) (Done Shown) ≡ []) × (text_of (Ok ShowDeployment) (Some Empty) (Done Shown) ≡ codes "none\n")
    × (text_of (Ok Install) None (NotNow (InProgress at.Install)) ≡ codes "not now 1 Install\n")
    × (text_of (Err usage.MissingWord) None (Usage usage.MissingWord) ≡ codes "usage 3\n")
    × (text_of (Ok Resume) None (NotInstalled outcome.RolledBack) ≡ codes "not installed: rolled back\n")

-- ---- what is found

abbrev asking : Result Command UsageFault → Site → Content → Request
asking command site content = record { command = command; site = site; content = content }

-- over nothing: a tree whose head is refused, one whose record is too large though its payload is damaged, and one of them all
abbrev pub OverNothing : Type 0
OverNothing = (t : Tree) (site : Site) (count : ℕ) (refusal : Refusal) (plan : Admitted) (d : Differs)
    → ((head_plan_of t site.device_type [] ≡ Err refusal) → finds (asking (Ok Install) site (Told t)) Empty ≡ Answers (Refused refusal))
    × ((head_plan_of t site.device_type [] ≡ Ok plan) → nat_lt LARGEST_RECORD (record_length (begun Empty plan)) ≡ true
    → finds (asking (Ok Install) site (Told t)) Empty ≡ Answers (TooLarge (record_length (begun Empty plan))))
    × ((head_plan_of t site.device_type [] ≡ Ok plan) → nat_lt LARGEST_RECORD (record_length (begun Empty plan)) ≡ false → first_differing in_payload t (listed_of plan) ≡ Some d
    → finds (asking (Ok Install) site (Told t)) Empty ≡ Answers (Refused (PayloadDiffers d)))
    × ((plan_of t site.device_type [] ≡ Err refusal) → finds (asking (Ok Check) site (Told t)) Empty ≡ Answers (Refused refusal))
    × (finds (asking (Ok Install) site (Untold count)) Empty ≡ Unsaid)
    × (finds (asking (Ok Resume) site (Told t)) Empty ≡ Answers NoUpdate)

abbrev stood : State → Outcome → Bool → Reboot → ℕ → Entry → Db
stood s o undoable reboot n e = Full (record e { position = record { state = s; outcome = o; undoable = undoable; reboot = reboot; n = n } })

abbrev found_at : State → Bool → Reboot → Command → Entry → Site → Content → Found
found_at s undoable reboot command e site content = finds (asking (Ok command) site content) (stood s outcome.Undecided undoable reboot 3 e)

-- a deployment in progress, at Wait, at Reboot, and where power was lost in Install; and one that is finished
abbrev pub InProgresses : Type 0
InProgresses = (e : Entry) (site : Site) (content : Content) →
    (found_at at.Wait true No ResumeStop e site content ≡ Stays)
    × (found_at at.Wait true No Resume e site content ≡ Starts (record e { position = record { state = at.Wait; outcome = outcome.Undecided; undoable = true; reboot = No; n = 3 } }) (record { state = at.Commit; outcome = outcome.Undecided; undoable = true; reboot = No; n = 4 }))
    × (found_at at.Install true No Install e site content ≡ Answers (NotNow (InProgress at.Install)))
    × (found_at at.Install true No Commit e site content ≡ Answers (NotNow (MustResume at.Install)))
    × (found_at at.Reboot false Yes Rollback e site content ≡ Answers (NotNow (NoRollback at.Reboot)))
    × (finds (asking (Ok Commit) site content) (stood at.Idle outcome.Committed true No 5 e) ≡ Answers NoUpdate)
    × (found_at at.Install true No ShowProvides e site content ≡ Answers (Done Shown))
    × (found_at at.Install true No ShowArtifact e site content ≡ Answers (Done Shown))
    × (found_at at.Install true No ShowDeployment e site content ≡ Answers (Done Shown))
    × (finds (asking (Ok (Simulate 1 0)) site content) Empty ≡ Answers (Usage (usage.UnknownCommand 0)))
    × (finds (asking (Err usage.MissingWord) site content) Empty ≡ Answers (Usage usage.MissingWord))

-- numbers of deployments
abbrev pub Ids : Type 0
Ids = (next_after None ≡ 1) × (next_after (Some 1) ≡ 2) × (next_after (Some 65535) ≡ 1) × (next_after (Some 0) ≡ 1)
