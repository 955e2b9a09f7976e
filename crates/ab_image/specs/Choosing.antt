-- What a call leaves that chooses the other partition, where it is ready.
use Rattle.std.specs.Prelude.{◌≡◌, ◌⊎◌, Bool, true, false, ℕ, List, IfOk, OnOk, IfSome, MatchBool, Result, Ok, Err}
use Rattle.sha2.specs.Sha256.{sha256}
use Rattle.device_model.specs.declared.calls.Down.{Down}
use Rattle.device_model.specs.Disk.{Disk, WhereTold, IsSynced, IsSettled, IsApart, MayHold, area_of}
use Rattle.device_model.specs.How.{how_of}
use Rattle.ab_image.specs.declared.report.AbAct.{AbAct}
use Rattle.ab_image.specs.declared.report.AbAct.TheVariants as answer
use Rattle.ab_image.specs.Layout.{choice_at, other, chosen, Agree, StaysOrNames, Whole, IsSane, IsReady}
use Rattle.ab_image.specs.Blocks.{Medium, EndsAs}
use Rattle.ab_image.specs.Parts.{Within, KeepsByte, Calm}
use Rattle.ab_image.specs.Answers.{stopped_by}
use Rattle.ab_image.specs.Act.{WritesNothing}

-- the partition that isn't chosen holds what its record says, with this sum
abbrev pub IsOtherReady : List ℕ → List ℕ → Type 0
IsOtherReady sum area = IsReady area (other (chosen area)) sum

-- it is to be chosen, and doesn't
abbrev pub IsUnready : List ℕ → List ℕ → Type 0
IsUnready sum area = Agree area × (IsOtherReady sum area → ⊥)

-- the partition that wasn't chosen is whole, with this sum where the choice byte was synced
pub record IsOtherBy (sum : List ℕ) (old : Disk) (area : List ℕ) : Type 0 where
  pub image : List ℕ
  pub whole : Whole area (other (chosen old.area)) image
  pub summed : IsSynced old.unsynced choice_at → sha256 image ≡ sum

-- the old choice, or the other one
abbrev pub IsEitherBy : List ℕ → Disk → List ℕ → Type 0
IsEitherBy sum old area = (chosen area ≡ chosen old.area) ⊎ IsOtherBy sum old area

-- the other partition is chosen, where the parities agreed, and stands
pub record IsChosen (old new : Medium) : Type 0 where
  pub settled : IsSettled new.disk
  pub other : WhereTold (λ d e. Agree d.area → chosen e.area ≡ other (chosen d.area)) old.disk new.disk

-- The other partition was chosen, where the parities agree and it is ready: `false` comes where it isn't.
pub record Chooses (sum : List ℕ) (old : Medium) (result : Result Bool Down) (new : Medium) : Type 0 where
  pub ends : EndsAs (how_of result) old new
  pub sane : IsSane old.disk → IsSane new.disk
  pub within : Within (IsApart choice_at 1) old new
  -- the choice is written only where the parities agree, and after the other partition was found ready
  pub written : WhereTold (λ d e. KeepsByte choice_at new d e ⊎ (Agree d.area × IsOtherReady sum d.area)) old.disk new.disk
  pub named : OnOk result (WhereTold (λ d e. StaysOrNames choice_at d.area e.area) old.disk new.disk)
  -- nothing is written where the parities differ
  pub calm : IfSome (area_of old.disk) (λ area. (Agree area → ⊥) → Calm old result new)
  -- whatever was lost, the old choice stands or the other one
  pub either : IsSane old.disk → IfSome old.disk (λ d. (area : List ℕ) → MayHold new.disk area → IsEitherBy sum d area)
  pub found : IfOk result (λ ready. IfSome (area_of old.disk) (λ area. MatchBool ready (Agree area → IsOtherReady sum area) (IsUnready sum area)))
  pub leaves : IfOk result (λ ready. MatchBool ready (IsChosen old new) (WritesNothing old new))

-- the answer of such a call
abbrev pub choice_answer : Result Bool Down → AbAct
choice_answer (Ok true) = answer.Done
choice_answer (Ok false) = answer.NotReady
choice_answer (Err down) = stopped_by down
