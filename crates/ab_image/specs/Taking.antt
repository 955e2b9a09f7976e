-- What the parts of Download leave, by their answers.
use Rattle.std.specs.Prelude.{◌≡◌, ◌≢◌, ℕ, List, take, drop, Option, IfSome, Result, Ok, Err, IfOk, OnOk, ⊤}
use Rattle.sha2.specs.Sha256.{sha256}
use Rattle.io_model.specs.Source.{Content, When, bytes_at}
use Rattle.device_model.specs.declared.calls.Down.{Down}
use Rattle.device_model.specs.Disk.{Disk, WhereTold, IsApart, IsSettled, MayHold, area_of}
use Rattle.device_model.specs.How.{Through, how_of as down_how}
use Rattle.ab_image.specs.declared.partition.Partition.{Partition}
use Rattle.ab_image.specs.declared.report.AbAct.{AbAct}
use Rattle.ab_image.specs.declared.report.AbAct.TheVariants as answer
use Rattle.ab_image.specs.Layout.{choice_at, origin_at, other, chosen, Agree, StaysOrNames, IsSpared, IsSane}
use Rattle.ab_image.specs.Blocks.{Medium, EndsAs}
use Rattle.ab_image.specs.Parts.{Touches, BothTold, KeepsByte, Within, Calm}
use Rattle.ab_image.specs.Answers.{how_of}
use Rattle.ab_image.specs.Act.{BootsAs}

-- the answer where a part went through or stopped the call
abbrev pub ended : {T : Type 0} → Result T AbAct → AbAct
ended (Ok x) = answer.Done
ended (Err stop) = stop

-- what may stop a copy
abbrev pub StopsCopy : AbAct → Type 0
StopsCopy answer.DiskFault = ⊤
StopsCopy answer.SourceFault = ⊤
StopsCopy answer.Off = ⊤
StopsCopy _ = ⊥

-- only bytes that aren't kept may have been written
pub record Spares (kept : ℕ → Type 0) (result : AbAct) (old new : Medium) : Type 0 where
  pub ends : EndsAs (how_of result) old new
  pub touches : Touches kept old.disk new.disk
  pub told : BothTold old.disk new.disk

-- the disk has the first bytes of the file at this offset
abbrev pub HasFront : Option Disk → (at count : ℕ) → List ℕ → Type 0
HasFront disk at count bytes = IfSome disk (λ d. take count (drop at d.area) ≡ take count bytes)

-- ---- the partition that isn't chosen

-- the parities agree, and don't name this partition
abbrev pub IsFree : Partition → List ℕ → Type 0
IsFree target area = Agree area × (target ≡ other (chosen area))

-- the origin may have been set to the choice's parity, and all stands
pub record Frees (old : Medium) (result : Result Partition Down) (new : Medium) : Type 0 where
  pub ends : EndsAs (down_how result) old new
  pub sane : IsSane old.disk → IsSane new.disk
  pub within : Within (IsApart origin_at 1) old new
  pub settled : OnOk result (IsSettled new.disk)
  pub named : OnOk result (WhereTold (λ d e. StaysOrNames origin_at d.area e.area) old.disk new.disk)
  pub free : IfOk result (λ target. IfSome new.disk (λ d. IsFree target d.area))
  -- nothing is written where the parities agree
  pub calm : IfSome (area_of old.disk) (λ area. Agree area → Calm old result new)

-- the answer of a copy, by the sum that is listed for a file and the one that the file has
abbrev pub Judges : Content → (file : ℕ) → (listed : List ℕ) → AbAct → Type 0
Judges content file listed answer.Done = When content (λ t. listed ≡ sha256 (bytes_at t file))
Judges content file listed (answer.Differs sum found) = (sum ≡ listed) × (sum ≢ found) × When content (λ t. found ≡ sha256 (bytes_at t file))
Judges content file listed answer.DiskFault = ⊤
Judges content file listed answer.SourceFault = ⊤
Judges content file listed answer.Off = ⊤
Judges content file listed _ = ⊥

-- what may stand is sane as before and boots the image that was booted before, and what Download spares stays
pub record Stores (result : AbAct) (old new : Medium) : Type 0 where
  pub ends : EndsAs (how_of result) old new
  pub sane : IsSane old.disk → IsSane new.disk
  pub boots : (area : List ℕ) → MayHold new.disk area → BootsAs old.disk area
  pub choice : WhereTold (KeepsByte choice_at new) old.disk new.disk
  pub spared : IfSome old.disk (λ d. Within (IsSpared old.size d.area) old new)
  pub named : how_of result ≡ Through → WhereTold (λ d e. StaysOrNames origin_at d.area e.area) old.disk new.disk
