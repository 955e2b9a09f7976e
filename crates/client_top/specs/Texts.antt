-- The texts that commands write.
use Rattle.std.specs.Prelude.{ℕ, Bool, true, false, List, [], ◌++◌, codes, Option, Some, None, Result, Ok}
use Rattle.std.specs.List.{flat_map}
use Rattle.std.specs.Fmt.{decimal}
use Rattle.provides_map.specs.Pairs.{get}
use Rattle.provides_map.specs.After.{artifact_name}
use Rattle.record_codec.specs.declared.entry.Db.{Db}
use Rattle.record_codec.specs.declared.entry.Db.TheVariants.{Empty, Full}
use Rattle.record_codec.specs.Held.{held, marked}
use Rattle.flow_table.specs.Names.{state_name, outcome_name}
use Rattle.flow_table.specs.declared.position.Outcome.{Outcome}
use Rattle.flow_table.specs.declared.position.Outcome.TheVariants as outcome
use Rattle.client_words.specs.declared.command.Command.{Command}
use Rattle.client_words.specs.declared.command.Command.TheVariants.{ShowProvides, ShowArtifact, ShowDeployment}
use Rattle.client_words.specs.declared.command.UsageFault.{UsageFault}
use Rattle.client_words.specs.declared.command.UsageFault.TheVariants as usage
use Rattle.client_top.specs.declared.status.NotNow.{NotNow}
use Rattle.client_top.specs.declared.status.NotNow.TheVariants as not_now

-- how a deployment ended that installed nothing
unfoldable pub not_installed : Outcome → List ℕ
not_installed outcome.RolledBack = codes "rolled back"
not_installed o = codes "kept"

unfoldable pub about_words : UsageFault → List ℕ
about_words usage.NoCommand = codes "1"
about_words (usage.UnknownCommand word) = codes "2 " ++ decimal word
about_words usage.MissingWord = codes "3"
about_words (usage.ExtraWord word) = codes "4 " ++ decimal word
about_words (usage.BadNumber word) = codes "5 " ++ decimal word

unfoldable pub about_now : NotNow → List ℕ
about_now (not_now.InProgress s) = codes "1 " ++ state_name s
about_now (not_now.MustResume s) = codes "2 " ++ state_name s
about_now (not_now.NoRollback s) = codes "3 " ++ state_name s

-- ---- what is shown

-- key=value and a newline
unfoldable pub line : List ℕ × List ℕ → List ℕ
line p = p.0 ++ codes "=" ++ p.1 ++ codes "\n"

-- the name, if there is one
abbrev pub name_line : Option (List ℕ) → List ℕ
name_line None = codes "unknown\n"
name_line (Some name) = name ++ codes "\n"

-- the line of a pair, which may be marked
abbrev pub mark_if : Bool → List ℕ × List ℕ → List ℕ × List ℕ
mark_if true p = marked p
mark_if false p = p

-- its number, its state and its outcome
abbrev pub deployment : Db → List ℕ
deployment Empty = codes "none"
deployment (Full e) = decimal e.id ++ codes " " ++ state_name e.position.state ++ codes " " ++ outcome_name e.position.outcome

-- what a command shows of a database
abbrev pub shown : Result Command UsageFault → Db → List ℕ
shown (Ok ShowProvides) c = flat_map line (held c)
shown (Ok ShowArtifact) c = name_line (get (held c) artifact_name)
shown (Ok ShowDeployment) c = deployment c ++ codes "\n"
shown _ c = []
