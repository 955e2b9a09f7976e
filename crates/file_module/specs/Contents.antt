-- What a place means: three contents, where it tells them, and whether the fresh one would outlast a loss of power.
use Rattle.std.specs.Prelude.{◌≡◌, ℕ, ◌++◌, ◌+◌, ◌≤◌, if◌then◌else◌, Bool, true, false, List, [], length, Option, Some, None, option_map}
use Rattle.file_module.specs.declared.place.Slot.{Slot}
use Rattle.file_module.specs.declared.place.Slot.TheVariants.{Target, Saved, Fresh}

-- the bytes of each slot, or none where it is absent
pub record Contents : Type 0 where
  pub on : Bool
  pub told : Bool  -- whether it tells its contents; one that doesn't tell them means all as absent
  pub regular : Bool  -- whether the target is a file or absent: nothing else stands there, that a module must not replace
  pub target : Option (List ℕ)
  pub saved : Option (List ℕ)
  pub fresh : Option (List ℕ)
  pub settled : Bool  -- whether the fresh content outlasts a loss; one that is absent does
  pub faults : ℕ
  pub losses : ℕ

abbrev pub content : Slot → Contents → Option (List ℕ)
content Target m = m.target
content Saved m = m.saved
content Fresh m = m.fresh

-- the slot has this content; a fresh one is settled
abbrev pub with_content : Slot → Option (List ℕ) → Contents → Contents
with_content Target bytes m = record m { target = bytes }
with_content Saved bytes m = record m { saved = bytes }
with_content Fresh bytes m = record m { fresh = bytes; settled = true }

-- so many bytes from there on lie in the slot
abbrev pub InContent : ℕ → ℕ → Option (List ℕ) → Type 0
InContent at count None = ⊥
InContent at count (Some bytes) = at + count ≤ length bytes

abbrev pub IsThere : Option (List ℕ) → Type 0
IsThere None = ⊥
IsThere (Some bytes) = Unit {0}

-- a fact about the contents, where the place tells them
abbrev pub WhenTold : Contents → Type 0 → Type 0
WhenTold m fact = m.told ≡ true → fact

-- ---- what the calls that change something do

abbrev pub with_start : Contents → Contents
with_start m = record m { fresh = if m.told then Some [] else m.fresh; settled = false }

abbrev pub with_append : List ℕ → Contents → Contents
with_append bytes m = record m { fresh = option_map (λ before. before ++ bytes) m.fresh; settled = false }

abbrev pub with_settle : Contents → Contents
with_settle m = record m { settled = true }

abbrev pub with_move : Slot → Contents → Contents
with_move slot m = with_content Fresh None (with_content slot m.fresh m)

abbrev pub with_remove : Slot → Contents → Contents
with_remove slot m = with_content slot None m
