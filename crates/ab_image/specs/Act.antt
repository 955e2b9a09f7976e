-- What a call of the module answers, and what it leaves.
use Rattle.std.specs.Prelude.{◌≡◌, ◌≢◌, ◌⊎◌, ◌↔◌, ℕ, ◌<◌, ◌≤◌, true, false, List, length, slice_index_or, Option, Some, None, IfSome, String, ⊤}
use Rattle.std.specs.Global.{Global}
use Rattle.sha2.specs.Sha256.{sha256}
use Rattle.io_model.specs.Source.{Tree, Content, When}
use Rattle.io_model.specs.Sink.{Written, Writes, WritesFront}
use Rattle.device_model.specs.declared.calls.ModState.TheVariants as state
use Rattle.device_model.specs.declared.module_word.ModuleWord.{ModuleWord}
use Rattle.device_model.specs.declared.module_word.ModuleWord.TheVariants.{State, Ask}
use Rattle.device_model.specs.Disk.{Disk, WhereTold, IsApart, IsSynced, MayHold, KeepsDisk, IsSettled, area_of}
use Rattle.device_model.specs.How.{Through}
use Rattle.device_model.specs.Names.{module_called}
use Rattle.ab_image.specs.declared.report.AbAct.{AbAct}
use Rattle.ab_image.specs.declared.report.AbAct.TheVariants as answer
use Rattle.ab_image.specs.Layout.{choice_at, origin_at, partition_size, other, chosen, origin, Agree, StaysOrNames, IsSpared, Whole, IsSane, IsReady}
use Rattle.ab_image.specs.Blocks.{Medium, EndsAs}
use Rattle.ab_image.specs.Parts.{Within}
use Rattle.ab_image.specs.Words.{Use, WritesWhere, Nowhere, Differing, Agreeing, Anywhere, use_of, reply_to}
use Rattle.ab_image.specs.Answers.{IsCut, IsProper, row_of, how_of, source_after, may_answer}
use Rattle.ab_image.specs.Artifact.{count_images, image_of, listed}

-- all that a call changes
pub record Scene : Type 0 where
  pub source_faults : ℕ
  pub blocks : Medium
  pub sink : Written

abbrev pub scene : ℕ → Medium → Written → Scene
scene source_faults blocks sink = record { source_faults = source_faults; blocks = blocks; sink = sink }

-- ---- why a call answers so

-- an answer comes exactly where there is this cause, unless a call was cut before
pub record Comes (meant : AbAct) (cause : Type 0) (result : AbAct) : Type 0 where
  pub only : result ≡ meant → cause
  pub always : cause → (result ≡ meant) ⊎ IsCut result

-- Download is asked for, and there is one image
pub record FindsImage (word : Option ModuleWord) (tree : Tree) : Type 0 where
  pub asked : word ≡ Some (State state.Download)
  pub one : count_images tree ≡ 1

-- and it is the image whose sum is listed
pub record FindsSum (word : Option ModuleWord) (tree : Tree) (image sum : List ℕ) : Type 0 where
  pub finds : FindsImage word tree
  pub is_image : image_of tree ≡ Some image
  pub is_listed : listed tree ≡ Some sum

pub record HasCount (word : Option ModuleWord) (tree : Tree) (count : ℕ) : Type 0 where
  pub asked : word ≡ Some (State state.Download)
  pub is_count : count ≡ count_images tree
  pub wrong : count ≢ 1

pub record HasNoSum (word : Option ModuleWord) (tree : Tree) : Type 0 where
  pub asks : FindsImage word tree ⊎ (word ≡ Some (State state.ArtifactCommit))
  pub none : listed tree ≡ None

pub record IsTooLong (word : Option ModuleWord) (tree : Tree) (size count : ℕ) : Type 0 where
  pub image : List ℕ
  pub sum : List ℕ
  pub finds : FindsSum word tree image sum
  pub is_count : count ≡ length image
  pub long : partition_size size < count

pub record HasOtherSum (word : Option ModuleWord) (tree : Tree) (size : ℕ) (sum found : List ℕ) : Type 0 where
  pub image : List ℕ
  pub finds : FindsSum word tree image sum
  pub fits : length image ≤ partition_size size
  pub is_found : found ≡ sha256 image
  pub differs : sum ≢ found

pub record IsNotReady (word : Option ModuleWord) (tree : Tree) (area : List ℕ) : Type 0 where
  pub asked : word ≡ Some (State state.ArtifactCommit)
  pub sum : List ℕ
  pub listed : listed tree ≡ Some sum
  pub agree : Agree area
  pub unready : IsReady area (other (chosen area)) sum → ⊥

-- ---- what a call leaves

-- nothing was written: the area reads as before, and the disk may hold nothing new
pub record WritesNothing (old new : Medium) : Type 0 where
  pub area : area_of new.disk ≡ area_of old.disk
  pub keeps : KeepsDisk old.disk new.disk

-- nothing was written, and what was unsynced may be lost with the power
pub record Rests (result : AbAct) (old new : Medium) : Type 0 where
  pub area : result ≢ answer.Off → area_of new.disk ≡ area_of old.disk
  pub keeps : KeepsDisk old.disk new.disk

-- the choice byte stays, unless power was lost while it was unsynced from an earlier call
abbrev pub KeepsChoice : AbAct → Disk → Disk → Type 0
KeepsChoice result old new = (slice_index_or new.area choice_at 0 ≡ slice_index_or old.area choice_at 0) ⊎ ((result ≡ answer.Off) × (IsSynced old.unsynced choice_at → ⊥))

-- the parities agreed, and the other partition was found to have the sum that is listed
pub record FoundReady (content : Content) (area : List ℕ) : Type 0 where
  pub agree : Agree area
  pub sum : List ℕ
  pub listed : When content (λ tree. listed tree ≡ Some sum)
  pub ready : IsReady area (other (chosen area)) sum

-- the partition that wasn't chosen is whole, with the listed sum where the choice byte was synced
pub record IsOther (content : Content) (old : Disk) (area : List ℕ) : Type 0 where
  pub image : List ℕ
  pub whole : Whole area (other (chosen old.area)) image
  pub sum : IsSynced old.unsynced choice_at → When content (λ tree. listed tree ≡ Some (sha256 image))

-- the old choice, or the other one
abbrev pub IsEither : Content → Disk → List ℕ → Type 0
IsEither content old area = (chosen area ≡ chosen old.area) ⊎ IsOther content old area

-- the image of an artifact is in the partition that isn't chosen
pub record HoldsImage (tree : Tree) (area : List ℕ) : Type 0 where
  pub image : List ℕ
  pub is_image : image_of tree ≡ Some image
  pub whole : Whole area (other (chosen area)) image
  pub listed : listed tree ≡ Some (sha256 image)

-- an area that may stand holds the images of the partition that was chosen in one that could stand before
pub record BootsAs (old : Option Disk) (area : List ℕ) : Type 0 where
  pub before : List ℕ
  pub held : MayHold old before
  pub same : (image : List ℕ) → Whole before (chosen before) image → Whole area (chosen before) image

-- a query asks and writes its reply, and every other word writes nothing
abbrev pub Says : Option ModuleWord → AbAct → Written → Written → Type 0
Says (Some (Ask query)) answer.SinkFault old new = WritesFront old (reply_to query) new
Says (Some (Ask query)) answer.Done old new = Writes old (reply_to query) new
Says (Some (Ask query)) result old new = ⊥
Says (Some (State s)) result old new = (result ≢ answer.SinkFault) × (new ≡ old)
Says None result old new = (result ≢ answer.SinkFault) × (new ≡ old)

-- nothing is to be written on a disk with this area
abbrev pub HasNothingToDo : WritesWhere → List ℕ → Type 0
HasNothingToDo Nowhere area = ⊤
HasNothingToDo Differing area = Agree area
HasNothingToDo Agreeing area = Agree area → ⊥
HasNothingToDo Anywhere area = ⊥

-- where it is done, nothing is unsynced, and this holds of the area before and the one after
abbrev pub Leaves : AbAct → Medium → Medium → (List ℕ → List ℕ → Type 0) → Type 0
Leaves result old new R = result ≡ answer.Done → IsSettled new.disk × WhereTold (λ d e. R d.area e.area) old.disk new.disk

-- ---- the contract

-- Answers by their causes, in the order of their numbers.
pub record Answered (word : Option ModuleWord) (content : Content) (old : Medium) (result : AbAct) : Type 0 where
  -- each answer comes for its words alone
  pub is_for : may_answer word result ≡ true
  -- what it tells is a fault
  pub proper : IsProper old.size result
  -- the words aren't a word and a folder
  pub usage : (result ≡ answer.Usage) ↔ (word ≡ None)
  -- so many files are images
  pub bad_payload : When content (λ tree. (n : ℕ) → Comes (answer.BadPayload n) (HasCount word tree n) result)
  -- no sum is listed
  pub no_checksum : When content (λ tree. Comes answer.NoChecksum (HasNoSum word tree) result)
  -- the image is longer than a partition
  pub too_long : When content (λ tree. (n : ℕ) → Comes (answer.TooLong n) (IsTooLong word tree old.size n) result)
  -- the image has another sum
  pub differs : When content (λ tree. (sum found : List ℕ) → Comes (answer.Differs sum found) (HasOtherSum word tree old.size sum found) result)
  -- the other partition doesn't hold what is listed
  pub not_ready : When content (λ tree. IfSome old.disk (λ d. Comes answer.NotReady (IsNotReady word tree d.area) result))

-- `DiskFault`, `Off` and `SourceFault` come exactly where the count rose.
pub record Counted (old new : Scene) (result : AbAct) : Type 0 where
  pub ends : EndsAs (how_of result) old.blocks new.blocks
  pub source : new.source_faults ≡ source_after result old.source_faults

-- what stands after each call
pub record Stands (old new : Medium) (result : AbAct) : Type 0 where
  -- the device boots a whole image after each return, whatever is lost
  pub sane : IsSane old.disk → IsSane new.disk
  -- the old one, until another choice is written
  pub boots : (area : List ℕ) → MayHold new.disk area → BootsAs old.disk area
  -- where no call of the disk failed, the choice byte and the origin byte are as before, or those for the partitions that they name
  pub named : how_of result ≡ Through → WhereTold (λ d e. StaysOrNames choice_at d.area e.area × StaysOrNames origin_at d.area e.area) old.disk new.disk

-- when a call writes, and whether it may write the choice
pub record Writing (does : Use) (old new : Medium) (result : AbAct) : Type 0 where
  -- nothing is written before these answers
  pub early : (row_of result).early ≡ true → WritesNothing old new
  -- a query and a state that does nothing leave all
  pub idle : does.writes ≡ Nowhere → new ≡ old
  -- the others write nothing where the parities leave them nothing to do
  pub nothing_to_do : IfSome old.disk (λ d. HasNothingToDo does.writes d.area → Rests result old new)
  -- only two words write the choice
  pub keeps_choice : does.chooses ≡ false → WhereTold (KeepsChoice result) old.disk new.disk
  -- and they write no other byte
  pub choice_alone : does.chooses ≡ true → Within (IsApart choice_at 1) old new

pub record Downloads (content : Content) (old new : Medium) (result : AbAct) : Type 0 where
  -- it writes no byte but those of the partition that isn't chosen, of its record, and the origin where the parities differ
  pub download_alone : IfSome old.disk (λ d. Within (IsSpared old.size d.area) old new)
  pub download_done : Leaves result old new (λ before after. Agree after × When content (λ tree. HoldsImage tree after))

pub record Commits (content : Content) (old new : Medium) (result : AbAct) : Type 0 where
  -- it writes the choice only where the parities agree, and after the other partition was found to have the listed sum
  pub commits : WhereTold (λ d e. KeepsChoice result d e ⊎ FoundReady content d.area) old.disk new.disk
  -- after a loss or a fault in it either choice may stand
  pub commit_cut : IsSane old.disk → IfSome old.disk (λ d. (area : List ℕ) → MayHold new.disk area → IsEither content d area)
  pub commit_done : Leaves result old new (λ before after. Agree before → chosen after ≡ other (chosen before))

pub record CleansUp (old new : Medium) (result : AbAct) : Type 0 where
  -- it writes no byte but the origin
  pub origin_alone : Within (IsApart origin_at 1) old new
  pub cleanup_done : Leaves result old new (λ before after. Agree after)

-- What a call for this word answers and leaves.
pub record ActsFor (word : Option ModuleWord) (content : Content) (old new : Scene) (result : AbAct) : Type 0 where
  pub answered : Answered word content old.blocks result
  pub counted : Counted old new result
  -- `Yes` or `No` is written to the sink, and nothing after other words; `SinkFault` comes only where its count rose
  pub says : Says word result old.sink new.sink
  pub stands : Stands old.blocks new.blocks result
  pub writing : Writing (use_of word) old.blocks new.blocks result
  pub downloads : word ≡ Some (State state.Download) → Downloads content old.blocks new.blocks result
  pub commits : word ≡ Some (State state.ArtifactCommit) → Commits content old.blocks new.blocks result
  pub rollback_done : word ≡ Some (State state.ArtifactRollback) → Leaves result old.blocks new.blocks (λ before after. chosen after ≡ origin before)
  pub cleans_up : word ≡ Some (State state.Cleanup) → CleansUp old.blocks new.blocks result

-- What a call with these words answers and leaves.
abbrev pub Acts : List (String Global) → Content → Scene → Scene → AbAct → Type 0
Acts words content old new result = ActsFor (module_called words) content old new result
