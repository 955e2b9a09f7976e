-- Calls of the module one after the other, with losses of power between them.
use Rattle.std.specs.Prelude.{◌≡◌, ℕ, List, [], ◌∷◌, Option, Some, ⊤}
use Rattle.device_model.specs.declared.calls.ModState.TheVariants.{Download, ArtifactRollback, Cleanup}
use Rattle.device_model.specs.declared.module_word.ModuleWord.{ModuleWord}
use Rattle.device_model.specs.declared.module_word.ModuleWord.TheVariants.{State}
use Rattle.io_model.specs.Source.{Content}
use Rattle.file_module.specs.declared.answer.FileAct.{FileAct}
use Rattle.file_module.specs.declared.answer.FileAct.TheVariants.{Done}
use Rattle.file_module.specs.Contents.{Contents, WhenTold}
use Rattle.file_module.specs.Payload.{IsPayload}
use Rattle.file_module.specs.Saved.{Kept}
use Rattle.file_module.specs.FileActs.{FileActs}

-- a call: what was asked, how it ended, and the place before it and after it
pub record Visit : Type 0 where
  pub asked : Option ModuleWord
  pub answer : FileAct
  pub before : Contents
  pub after : Contents

-- a loss, or power that comes back, changes neither the target nor what is saved
pub record SameSlots (old new : Contents) : Type 0 where
  pub told : new.told ≡ old.told
  pub target : new.target ≡ old.target
  pub saved : new.saved ≡ old.saved

-- what may be asked between a download and the clean-up
abbrev pub IsBetween : Option ModuleWord → Type 0
IsBetween (Some (State Download)) = ⊥
IsBetween (Some (State Cleanup)) = ⊥
IsBetween asked = ⊤

pub record IsVisit (files : Content) (visit : Visit) : Type 0 where
  pub between : IsBetween visit.asked
  pub acts : FileActs visit.asked files visit.answer visit.before visit.after

-- these calls led from one place to the other
abbrev pub Leads : Content → Contents → List Visit → Contents → Type 0
Leads files old [] new = SameSlots old new
Leads files old (visit ∷ visits) new = SameSlots old visit.before × (IsVisit files visit × Leads files visit.after visits new)

-- Where t was kept, it is kept after any such calls, and a rollback that is done then gives it.
abbrev pub AlwaysKept : Type 0
AlwaysKept = (files : Content) (t : Option (List ℕ)) (old new : Contents) (visits : List Visit)
    → WhenTold old (Kept (IsPayload files) t old → Leads files old visits new → Kept (IsPayload files) t new)

abbrev pub AlwaysRestored : Type 0
AlwaysRestored = (files : Content) (t : Option (List ℕ)) (old new end : Contents) (visits : List Visit)
    → WhenTold old (Kept (IsPayload files) t old → Leads files old visits new → FileActs (Some (State ArtifactRollback)) files Done new end → end.target ≡ t)
