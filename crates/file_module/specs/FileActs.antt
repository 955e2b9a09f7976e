-- What each word does, whatever the answer is.
use Rattle.std.specs.Prelude.{◌≡◌, ◌≢◌, ◌⊎◌, ◌↔◌, ℕ, true, false, List, length, Option, Some, None}
use Rattle.device_model.specs.declared.calls.ModState.{ModState}
use Rattle.device_model.specs.declared.calls.ModState.TheVariants.{Download, ArtifactInstall, ArtifactRollback, Cleanup}
use Rattle.device_model.specs.declared.calls.Query.{Query}
use Rattle.device_model.specs.declared.module_word.ModuleWord.{ModuleWord}
use Rattle.device_model.specs.declared.module_word.ModuleWord.TheVariants.{State, Ask}
use Rattle.io_model.specs.Source.{Content}
use Rattle.io_model.specs.Sink.{Written, Writes, WritesFront}
use Rattle.file_module.specs.declared.answer.FileAct.{FileAct}
use Rattle.file_module.specs.declared.answer.FileAct.TheVariants.{Done, Usage, BadPayload, DiskFault, SourceFault, SinkFault, Off, BadSaved}
use Rattle.file_module.specs.Contents.{Contents, IsThere, WhenTold}
use Rattle.file_module.specs.Answers.{Counts, Untouched, may_answer}
use Rattle.file_module.specs.Payload.{When, IsPayload, HasPayloads, payloads}
use Rattle.file_module.specs.Saved.{IsBad, IsNew, Kept, spelling, rolled_back}
use Rattle.file_module.specs.Words.{use_of, reply_to}

-- there is one payload file, or the answer says how many there are or that the source failed
abbrev pub NeedsOne : Content → FileAct → Type 0
NeedsOne files act = When files (λ t. (length (payloads t) ≡ 1) ⊎ ((act ≡ BadPayload (length (payloads t))) ⊎ (act ≡ SourceFault)))

-- so many payload files were found, and nothing was changed
pub record CountsPayloads (files : Content) (n : ℕ) (old new : Contents) : Type 0 where
  pub not_one : n ≢ 1
  pub number : HasPayloads files n
  pub same : new ≡ old

-- the answers of a search for the payload
pub record Seeks (files : Content) (act : FileAct) (old new : Contents) : Type 0 where
  pub bad_payload : (n : ℕ) → act ≡ BadPayload n → CountsPayloads files n old new
  pub needs_one : NeedsOne files act

pub record Clears (act : FileAct) (old new : Contents) : Type 0 where
  pub counts : Counts act old new
  pub target : new.target ≡ old.target
  pub saved : act ≡ Done → new.saved ≡ None
  pub fresh : act ≡ Done → new.fresh ≡ None

pub record Downloads (files : Content) (act : FileAct) (old new : Contents) : Type 0 where
  pub clears : Clears act old new
  pub answers : may_answer (State Download) act ≡ true
  pub kept : act ≡ Done → Kept (IsPayload files) old.target new
  pub seeks : Seeks files act old new
  pub irregular : WhenTold old (old.regular ≡ false → (act ≢ Done) × Untouched act old new)

pub record Installs (files : Content) (act : FileAct) (old new : Contents) : Type 0 where
  pub counts : Counts act old new
  pub answers : may_answer (State ArtifactInstall) act ≡ true
  pub seeks : Seeks files act old new
  pub keeps : WhenTold old ((t : Option (List ℕ)) → Kept (IsPayload files) t old → Kept (IsPayload files) t new)
  pub target : WhenTold old (act ≡ Done → IsNew (IsPayload files) new.target)
  pub saves : WhenTold old (act ≡ Done → old.saved ≡ None → new.saved ≡ Some (spelling old.target))
  pub saved : WhenTold old ((bytes : List ℕ) → old.saved ≡ Some bytes → new.saved ≡ old.saved)
  pub irregular : WhenTold old (old.regular ≡ false → (act ≢ Done) × Untouched act old new)

-- what a rollback makes of the target
pub record GivesSaved (act : FileAct) (old new : Contents) : Type 0 where
  pub target : (new.target ≡ old.target) ⊎ (new.target ≡ rolled_back old.saved old.target)
  pub done : act ≡ Done → new.target ≡ rolled_back old.saved old.target
  pub keeps : (files : Content) (t : Option (List ℕ)) → Kept (IsPayload files) t old → Kept (IsPayload files) t new
  pub restores : act ≡ Done → (files : Content) (t : Option (List ℕ)) → Kept (IsPayload files) t old → new.target ≡ t
  pub back : old.target ≡ rolled_back old.saved old.target → Untouched act old new
  pub irregular : old.regular ≡ false → (IsThere old.saved → act ≢ Done) × Untouched act old new

-- the answer that what is saved is bad
pub record FindsBad (act : FileAct) (old new : Contents) : Type 0 where
  pub bad_saved : WhenTold old (act ≡ BadSaved → IsBad old.saved)
  pub bad_stays : act ≡ BadSaved → new ≡ old
  pub finds_bad : WhenTold old (IsBad old.saved → (act ≡ BadSaved) ⊎ ((act ≡ DiskFault) ⊎ (act ≡ Off)))

pub record RollsBack (act : FileAct) (old new : Contents) : Type 0 where
  pub counts : Counts act old new
  pub answers : may_answer (State ArtifactRollback) act ≡ true
  pub saved : new.saved ≡ old.saved
  pub gives : WhenTold old (GivesSaved act old new)
  pub bad : FindsBad act old new

-- ---- the contract of the module

-- What the module answers to what it is asked, and what that leaves of the place.
pub record FileActs (asked : Option ModuleWord) (files : Content) (act : FileAct) (old new : Contents) : Type 0 where
  pub usage : (act ≡ Usage) ↔ (asked ≡ None)
  pub unasked : asked ≡ None → new ≡ old
  pub counts : Counts act old new
  pub answers : (word : ModuleWord) → asked ≡ Some word → may_answer word act ≡ true
  pub downloads : asked ≡ Some (State Download) → Downloads files act old new
  pub installs : asked ≡ Some (State ArtifactInstall) → Installs files act old new
  pub rolls_back : asked ≡ Some (State ArtifactRollback) → RollsBack act old new
  pub cleans_up : asked ≡ Some (State Cleanup) → Clears act old new
  pub idle : (word : ModuleWord) → asked ≡ Some word → (use_of word).place ≡ false → new ≡ old

-- what it writes: the reply to a query, or a front of it where the sink fails, and nothing else
pub record Says (asked : Option ModuleWord) (act : FileAct) (old new : Written) : Type 0 where
  pub reply : (query : Query) → asked ≡ Some (Ask query) → act ≡ Done → Writes old (reply_to query) new
  pub silent : (state : ModState) → asked ≡ Some (State state) → new ≡ old
  pub unasked : asked ≡ None → new ≡ old
  pub front : (query : Query) → asked ≡ Some (Ask query) → act ≡ SinkFault → WritesFront old (reply_to query) new

-- how a query ends
abbrev pub IsSaid : FileAct → Type 0
IsSaid act = (act ≡ Done) ⊎ (act ≡ SinkFault)
