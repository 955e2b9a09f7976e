-- Bytes that name a partition as the module writes them, and calls that have nothing to write.
use Rattle.std.proofs.Common.{◌≡◌, inl, inr, ℕ, ◌+◌, ◌<◌, true, false, List, [], ◌∷◌, length, get_or, refl, sym, ◌∙◌, ap, subst, arith}
use Rattle.std.specs.Prelude.{Option, Some, None, IfSome, Result, Ok, Err, OnOk}
use Rattle.device_model.specs.declared.calls.Down.{Down}
use Rattle.device_model.specs.Disk.{Disk, IsWhole, WhereTold, overwritten, area_of}
use Rattle.device_model.specs.How.{How, Through}
use Rattle.device_model.proofs.Refilled.{overwritten_inside}
use Rattle.device_model.proofs.Keeps.{same}
use Rattle.ab_image.specs.declared.partition.Partition.{Partition}
use Rattle.ab_image.specs.declared.settling.Named.{Named}
use Rattle.ab_image.specs.declared.report.AbAct.{AbAct}
use Rattle.ab_image.specs.Layout.{byte_of, named_by, chosen, origin, Agree, StaysOrNames}
use Rattle.ab_image.specs.Blocks.{Medium, EndsAs}
use Rattle.ab_image.specs.Parts.{BothTold, KeepsByte, Calm}
use Rattle.ab_image.specs.Act.{Rests}
use Rattle.ab_image.proofs.Areas.{byte-names}
use Rattle.ab_image.proofs.Withins.{same-area}

-- ---- areas and disks that may not be told

pub if-area : (o : Option (List ℕ)) (P : List ℕ → Type 0) → ((area : List ℕ) → P area) → IfSome o P
if-area None P h = tt
if-area (Some area) P h = h area

pub if-map : (P Q : List ℕ → Type 0) (o : Option (List ℕ)) → ((area : List ℕ) → P area → Q area) → IfSome o P → IfSome o Q
if-map P Q None f h = tt
if-map P Q (Some area) f h = f area h

-- what follows for a disk where it follows for its area
pub if-disk : (P : List ℕ → Type 0) (S T : Type 0) (disk : Option Disk) → (S → T) → IfSome (area_of disk) (λ area. P area → S) → IfSome disk (λ d. P d.area → T)
if-disk P S T None f h = tt
if-disk P S T (Some d) f h = λ p. f (h p)

pub where-both : (R S : Disk → Disk → Type 0) (a b : Option Disk) → WhereTold R a b → WhereTold S a b → WhereTold (λ d e. R d e × S d e) a b
where-both R S None None h k = tt
where-both R S None (Some e) h k = h
where-both R S (Some d) None h k = h
where-both R S (Some d) (Some e) h k = (h, k)

pub on-ok : {T : Type 0} (P Q : Type 0) (r : Result T Down) → (P → Q) → OnOk r P → OnOk r Q
on-ok P Q (Ok x) f h = f h
on-ok P Q (Err e) f h = tt

-- ---- a byte that was written

pub names-set : (at : ℕ) (p : Partition) (a b : List ℕ) → at < length a → b ≡ overwritten at (byte_of p ∷ []) a → StaysOrNames at a b
names-set at p a b fits is =
    let here : at ≡ at + 0 = omega arith in
    let byte : get_or b at 0 ≡ byte_of p = ap (λ (l : List ℕ). get_or l at 0) is ∙ ap (λ (k : ℕ). get_or (overwritten at (byte_of p ∷ []) a) k 0) here ∙ overwritten_inside 0 at (byte_of p ∷ []) a (omega arith) 0 (omega arith) in
    inr (byte ∙ sym (ap byte_of (ap named_by byte ∙ byte-names p)))

pub names-written : (at : ℕ) (p : Partition) (size : ℕ) → at < size → (a m b : Option Disk) → IsWhole size a → BothTold a m → area_of m ≡ area_of a
    → WhereTold (λ d e. e.area ≡ overwritten at (byte_of p ∷ []) d.area) m b → WhereTold (λ d e. StaysOrNames at d.area e.area) a b
names-written at p size fits None None None w t same h = tt
names-written at p size fits None None (Some e) w t same h = absurd h
names-written at p size fits None (Some m) b w t same h = absurd t
names-written at p size fits (Some d) None b w t same h = absurd t
names-written at p size fits (Some d) (Some m) None w t same h = absurd h
names-written at p size fits (Some d) (Some m) (Some e) w t same h =
    names-set at p d.area e.area (omega (arith, w.size)) (h ∙ ap (λ (l : List ℕ). overwritten at (byte_of p ∷ []) l) (same-area d m same))

-- ---- a byte that stays

names-same : (at : ℕ) (a b : Option Disk) → BothTold a b → area_of b ≡ area_of a → WhereTold (λ d e. StaysOrNames at d.area e.area) a b
names-same at None None t e = tt
names-same at None (Some y) t e = absurd t
names-same at (Some x) None t e = absurd t
names-same at (Some x) (Some y) t e = inl (ap (λ (l : List ℕ). get_or l at 0) (same-area x y e))

pub names-calm : {T : Type 0} (at : ℕ) (old : Medium) (r : Result T Down) (new : Medium) → Calm old r new → OnOk r (WhereTold (λ d e. StaysOrNames at d.area e.area) old.disk new.disk)
names-calm at old (Ok x) new c = names-same at old.disk new.disk c.told c.area
names-calm at old (Err e) new c = tt

kept-byte : (i : ℕ) (new : Medium) (d e : Disk) → new.on ≡ true → KeepsByte i new d e → StaysOrNames i d.area e.area
kept-byte i new d e on (inl stays) = inl stays
kept-byte i new d e on (inr off) = let no : true ≡ false = sym on ∙ off.0 in absurd cc

-- the power wasn't lost
pub names-kept : (i : ℕ) (new : Medium) → new.on ≡ true → (a b : Option Disk) → WhereTold (KeepsByte i new) a b → WhereTold (λ d e. StaysOrNames i d.area e.area) a b
names-kept i new on None None h = tt
names-kept i new on None (Some e) h = h
names-kept i new on (Some d) None h = h
names-kept i new on (Some d) (Some e) h = kept-byte i new d e on h

-- a byte that stays after it was written
pub names-then : (at : ℕ) (d m e : List ℕ) → get_or e at 0 ≡ get_or m at 0 → StaysOrNames at d m → StaysOrNames at d e
names-then at d m e stays (inl kept) = inl (stays ∙ kept)
names-then at d m e stays (inr named) = inr (stays ∙ named ∙ ap (λ (k : ℕ). byte_of (named_by k)) (sym stays))

pub names-self : (at : ℕ) (area : List ℕ) → StaysOrNames at area area
names-self at area = inl refl

pub through-on : (how : How) (old new : Medium) → EndsAs how old new → how ≡ Through → new.on ≡ true
through-on how old new ends e = let through : EndsAs Through old new = subst (λ (h : How). EndsAs h old new) e ends in through.on

-- ---- nothing is to be written

pub rests-still : (result : AbAct) (blocks : Medium) → Rests result blocks blocks
rests-still result blocks = record { area = λ ne. refl; keeps = same blocks.disk blocks.disk refl }

-- choice and origin were found to differ
pub differ-at : (P : List ℕ → Type 0) (o : Option (List ℕ)) (n : Named) → (n.origin ≡ n.choice → ⊥) → IfSome o (λ area. n.choice ≡ chosen area) → IfSome o (λ area. n.origin ≡ origin area) → IfSome o (λ area. Agree area → P area)
differ-at P None n differ c o = tt
differ-at P (Some area) n differ c o = λ agree. absurd (differ (o ∙ agree ∙ sym c))
