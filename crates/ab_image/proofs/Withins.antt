-- Calls that write only some bytes.
use Rattle.std.proofs.Common.{◌≡◌, ◌⊎◌, inl, inr, ℕ, Bool, true, false, List, get_or, refl, sym, ◌∙◌, ap, subst}
use Rattle.std.specs.Prelude.{Option, Some, None, IfSome, Result, Ok, Err}
use Rattle.device_model.specs.declared.calls.Down.{Down}
use Rattle.device_model.specs.declared.calls.Down.TheVariants.{Off, Fault}
use Rattle.device_model.specs.Disk.{Disk, IsSynced, WhereTold, IsSettled, IsWhole, MayHold, KeepsDisk, area_of}
use Rattle.device_model.proofs.Refilled.{refilled_self}
use Rattle.ab_image.specs.Blocks.{Medium, IsMedium}
use Rattle.ab_image.specs.Parts.{Touches, BothTold, KeepsByte, Within, Calm}
use Rattle.ab_image.proofs.Steps.{told-then}
use Rattle.ab_image.proofs.Filling.{touches-then, touches-wider}
use Rattle.ab_image.proofs.Areas.{may-bytes, settled-area}

pub touches-self : (kept : ℕ → Type 0) (old new : Option Disk) → ((area : List ℕ) → MayHold new area → MayHold old area) → Touches kept old new
touches-self kept old new adds area held = (area, adds area held, refilled_self kept area (may-bytes new area held))

-- what was told may stand
pub holds-self : (size : ℕ) (d : Disk) → IsWhole size (Some d) → MayHold (Some d) d.area
holds-self size d w = refilled_self (IsSynced d.unsynced) d.area w.bytes

pub same-area : (a b : Disk) → Some b.area ≡ Some a.area → b.area ≡ a.area
same-area a b e = subst (λ (o : Option (List ℕ)). IfSome o (λ l. b.area ≡ l)) e refl

by-flag : (i : ℕ) (new : Medium) (d e : Disk) (b : Bool) → get_or d.unsynced i false ≡ b → new.on ≡ false → (IsSynced d.unsynced i → get_or e.area i 0 ≡ get_or d.area i 0) → KeepsByte i new d e
by-flag i new d e false is off same = inl (same is)
by-flag i new d e true is off same = inr (off, λ synced. let no : true ≡ false = sym is ∙ synced in absurd cc)

calm-byte : {T : Type 0} (i : ℕ) (old : Medium) (r : Result T Down) (new : Medium) (a b : Option Disk) → IsWhole new.size b → ((area : List ℕ) → MayHold b area → MayHold a area)
    → BothTold a b → (area_of b ≡ area_of a) ⊎ (new.on ≡ false) → WhereTold (KeepsByte i new) a b
calm-byte i old r new None None w adds t h = tt
calm-byte i old r new None (Some e) w adds t h = absurd t
calm-byte i old r new (Some d) None w adds t h = absurd t
calm-byte i old r new (Some d) (Some e) w adds t (inl same) = inl (ap (λ (l : List ℕ). get_or l i 0) (same-area d e same))
calm-byte i old r new (Some d) (Some e) w adds t (inr off) = by-flag i new d e (get_or d.unsynced i false) refl off (λ synced. (adds e.area (holds-self new.size e w)).outside i synced)

reads-or-off : {T : Type 0} (old : Medium) (r : Result T Down) (new : Medium) → Calm old r new → (area_of new.disk ≡ area_of old.disk) ⊎ (new.on ≡ false)
reads-or-off old (Ok x) new c = inl c.area
reads-or-off old (Err Fault) new c = inl c.area
reads-or-off old (Err Off) new c = inr c.ends.on

pub within-calm : {T : Type 0} (kept : ℕ → Type 0) (old : Medium) (r : Result T Down) (new : Medium) → IsMedium new → Calm old r new → Within kept old new
within-calm kept old r new w c = record {
  touches = touches-self kept old.disk new.disk c.keeps.adds;
  bytes = λ i keeps. calm-byte i old r new old.disk new.disk w.disk c.keeps.adds c.told (reads-or-off old r new c);
  told = c.told;
}

-- a byte that is kept after a settled disk
pub settled-stays : (kept : ℕ → Type 0) (i : ℕ) → kept i → (size : ℕ) (m e : Disk) → IsWhole size (Some e) → IsSettled (Some m) → Touches kept (Some m) (Some e) → get_or e.area i 0 ≡ get_or m.area i 0
settled-stays kept i keeps size m e w s touches =
    let before = touches e.area (holds-self size e w) in
    before.2.outside i keeps ∙ ap (λ (l : List ℕ). get_or l i 0) (settled-area m s before.0 before.1)

settled-byte : (kept : ℕ → Type 0) (i : ℕ) → kept i → (new : Medium) (a m b : Option Disk) → IsWhole new.size b → BothTold a m → area_of m ≡ area_of a → IsSettled m → Touches kept m b → BothTold m b → WhereTold (KeepsByte i new) a b
settled-byte kept i keeps new None None None w t same s touches u = tt
settled-byte kept i keeps new None None (Some e) w t same s touches u = absurd u
settled-byte kept i keeps new None (Some m) b w t same s touches u = absurd t
settled-byte kept i keeps new (Some d) None b w t same s touches u = absurd t
settled-byte kept i keeps new (Some d) (Some m) None w t same s touches u = absurd u
settled-byte kept i keeps new (Some d) (Some m) (Some e) w t same s touches u =
    inl (settled-stays kept i keeps new.size m e w s touches ∙ ap (λ (l : List ℕ). get_or l i 0) (same-area d m same))

-- after a sync only these bytes were written
pub within-then : (kept : ℕ → Type 0) (old mid new : Medium) → IsMedium new → KeepsDisk old.disk mid.disk → BothTold old.disk mid.disk → area_of mid.disk ≡ area_of old.disk → IsSettled mid.disk → Touches kept mid.disk new.disk → BothTold mid.disk new.disk → Within kept old new
within-then kept old mid new w k t same s touches u = record {
  touches = λ area held. let before = touches area held in (before.0, k.adds before.0 before.1, before.2);
  bytes = λ i keeps. settled-byte kept i keeps new old.disk mid.disk new.disk w.disk t same s touches u;
  told = told-then old.disk mid.disk new.disk t u;
}

pub within-wider : (kept less : ℕ → Type 0) (old new : Medium) → ((i : ℕ) → less i → kept i) → Within kept old new → Within less old new
within-wider kept less old new wider w = record {
  touches = touches-wider kept less old.disk new.disk wider w.touches;
  bytes = λ i keeps. w.bytes i (wider i keeps);
  told = w.told;
}

stays-on : (i : ℕ) (mid new : Medium) (d m e : Disk) → mid.on ≡ true → get_or e.area i 0 ≡ get_or m.area i 0 → KeepsByte i mid d m → KeepsByte i new d e
stays-on i mid new d m e on last (inl first) = inl (last ∙ first)
stays-on i mid new d m e on last (inr off) = let no : true ≡ false = sym on ∙ off.0 in absurd cc

byte-after : (kept : ℕ → Type 0) (i : ℕ) → kept i → (mid new : Medium) (a m b : Option Disk) → mid.on ≡ true → IsWhole new.size b → IsSettled m → WhereTold (KeepsByte i mid) a m → Touches kept m b → BothTold m b → WhereTold (KeepsByte i new) a b
byte-after kept i keeps mid new None None None on w s first touches u = tt
byte-after kept i keeps mid new None None (Some e) on w s first touches u = absurd u
byte-after kept i keeps mid new None (Some m) b on w s first touches u = absurd first
byte-after kept i keeps mid new (Some d) None b on w s first touches u = absurd first
byte-after kept i keeps mid new (Some d) (Some m) None on w s first touches u = absurd u
byte-after kept i keeps mid new (Some d) (Some m) (Some e) on w s first touches u = stays-on i mid new d m e on (settled-stays kept i keeps new.size m e w s touches) first

-- after a part that went through and stands, only these bytes were written
pub within-after : (kept less : ℕ → Type 0) (old mid new : Medium) → IsMedium new → mid.on ≡ true → IsSettled mid.disk → Within kept old mid → Touches less mid.disk new.disk → BothTold mid.disk new.disk → Within (λ i. kept i × less i) old new
within-after kept less old mid new v on s w touches u = record {
  touches = touches-then (λ i. kept i × less i) old.disk mid.disk new.disk
      (touches-wider kept (λ i. kept i × less i) old.disk mid.disk (λ i keeps. keeps.0) w.touches)
      (touches-wider less (λ i. kept i × less i) mid.disk new.disk (λ i keeps. keeps.1) touches);
  bytes = λ i keeps. byte-after less i keeps.1 mid new old.disk mid.disk new.disk on v.disk s (w.bytes i keeps.0) touches u;
  told = told-then old.disk mid.disk new.disk w.told u;
}
