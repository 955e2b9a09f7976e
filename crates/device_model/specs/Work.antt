-- The work folder of a device.
use Rattle.std.specs.Prelude.{◌≡◌, ℕ, Bool, true, false, ◌==◌, ◌&&◌, List, [], ◌∷◌, ◌++◌, if◌then◌else◌, Option, Some, None, option_map, ⊤}
use Rattle.std.specs.Str.{bytes_eq}
use Rattle.device_model.specs.declared.calls.Part.{Part}
use Rattle.device_model.specs.declared.calls.Part.TheVariants.{Tree, Scripts}

-- a file in the work folder
pub record File : Type 0 where
  pub part : Part
  pub path : List ℕ
  pub bytes : List ℕ

-- A work folder, by the list of its files. It is unknown after a loss or a failure, until it is cleared.
pub data Folder : Type 0 where
  Unknown : Folder
  Changed : List File → Folder  -- since the last sync
  Synced : List File → Folder

-- the work folder, and how it stood where the first child since the last clear was started
pub record Work : Type 0 where
  pub folder : Folder
  pub given : Option Folder  -- none where no child was started

abbrev pub same_part : Part → Part → Bool
same_part (Tree k) (Tree j) = k == j
same_part Scripts Scripts = true
same_part (Tree k) Scripts = false
same_part Scripts (Tree k) = false

-- whether the file stands at this place
abbrev pub is_at : Part → List ℕ → File → Bool
is_at part path file = same_part part file.part && bytes_eq path file.path

-- A file that is there has the bytes added at its end. One that isn't there is added at the end of the list.
abbrev pub appended : Part → List ℕ → List ℕ → List File → List File
appended part path bytes [] = record { part = part; path = path; bytes = bytes } ∷ []
appended part path bytes (file ∷ files) =
    if is_at part path file
    then record file { bytes = file.bytes ++ bytes } ∷ files
    else file ∷ appended part path bytes files

abbrev pub folder_appended : Part → List ℕ → List ℕ → Folder → Folder
folder_appended part path bytes Unknown = Unknown
folder_appended part path bytes (Changed files) = Changed (appended part path bytes files)
folder_appended part path bytes (Synced files) = Changed (appended part path bytes files)

abbrev pub folder_synced : Folder → Folder
folder_synced Unknown = Unknown
folder_synced (Changed files) = Synced files
folder_synced (Synced files) = Synced files

-- what was changed since the last sync is unknown after a loss
abbrev pub folder_lost : Folder → Folder
folder_lost Unknown = Unknown
folder_lost (Changed files) = Unknown
folder_lost (Synced files) = Synced files

-- no file, and no child was started yet
abbrev pub cleared : Work → Work
cleared work = record { folder = Changed []; given = None }

abbrev pub with_bytes : Part → List ℕ → List ℕ → Work → Work
with_bytes part path bytes work = record work { folder = folder_appended part path bytes work.folder }

abbrev pub work_synced : Work → Work
work_synced work = record work { folder = folder_synced work.folder }

abbrev pub work_lost : Work → Work
work_lost work = record work { folder = folder_lost work.folder }

-- a call of the work folder failed
abbrev pub work_failed : Work → Work
work_failed work = record work { folder = Unknown }

abbrev pub given_at_start : Folder → Option Folder → Option Folder
given_at_start folder None = Some folder
given_at_start folder (Some given) = Some given

-- a child is started
abbrev pub child_given : Work → Work
child_given work = record work { given = given_at_start work.folder work.given }

-- A child may change the files in any way. What is unknown stays unknown, and what the client has not synced stays so.
abbrev pub MayBecome : Folder → Folder → Type 0
MayBecome Unknown Unknown = ⊤
MayBecome (Changed files) (Changed others) = ⊤
MayBecome (Synced files) (Synced others) = ⊤
MayBecome Unknown (Changed others) = ⊥
MayBecome Unknown (Synced others) = ⊥
MayBecome (Changed files) Unknown = ⊥
MayBecome (Changed files) (Synced others) = ⊥
MayBecome (Synced files) Unknown = ⊥
MayBecome (Synced files) (Changed others) = ⊥

pub record ChildChanges (old new : Work) : Type 0 where
  pub folder : MayBecome old.folder new.folder
  pub given : new.given ≡ old.given
