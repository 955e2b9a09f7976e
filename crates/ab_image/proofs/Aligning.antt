-- Setting the choice or the origin to what the other names.
use Rattle.std.proofs.Common.{◌≡◌, ℕ, ◌<◌, ◌≤◌, List, [], ◌∷◌, length, refl, sym, ◌∙◌, ap, subst, arith}
use Rattle.std.specs.Prelude.{Option, Some, None, IfSome, Result, Ok, Err, OnOk}
use Rattle.device_model.specs.declared.calls.Down.{Down}
use Rattle.device_model.specs.Disk.{Disk, IsApart, WhereTold, IsSettled, IsWhole as IsWholeDisk, MayHold, overwritten, area_of}
use Rattle.device_model.specs.How.{how_of}
use Rattle.ab_image.specs.declared.partition.Partition.{Partition}
use Rattle.ab_image.specs.declared.settling.Named.{Named}
use Rattle.ab_image.specs.Layout.{choice_at, origin_at, byte_of, chosen, origin, Agree, StaysOrNames, IsSane}
use Rattle.ab_image.specs.Blocks.{Medium, IsMedium}
use Rattle.ab_image.specs.Parts.{BothTold, Calm, Settles, Sets, Aligns}
use Rattle.ab_image.proofs.Steps.{ends-then, ends-err, calm-err, calm-ok}
use Rattle.ab_image.proofs.Withins.{within-calm, within-then}
use Rattle.ab_image.proofs.Naming.{if-area, on-ok, names-written, names-calm, differ-at}
use Rattle.ab_image.proofs.Areas.{Keeps, origin-set, choice-set, both-whole, sane-both, untold-insane, settled-area}

module _ (at : ℕ) (goal : List ℕ → List ℕ → Type 0) where
  pub aligns-failed : (old : Medium) (e : Down) (new : Medium) → IsMedium new → Settles old (Err e) new → Aligns at goal old (Err e) new
  aligns-failed old e new w s = record {
    ends = ends-err Named (Unit {0}) e old new s.calm.ends;
    sane = λ sane area held. sane area (s.calm.keeps.adds area held);
    within = within-calm (IsApart at 1) old _ new w s.calm;
    settled = tt;
    area = tt;
    named = tt;
    calm = if-area (area_of old.disk) _ (λ area agree. calm-err Named (Unit {0}) old e new s.calm);
  }

  -- what is named, where it is told
  named-told : (P : List ℕ → List ℕ → Type 0) (a b : Option Disk) → BothTold a b → area_of b ≡ area_of a → IfSome (area_of a) (λ area. P area area) → WhereTold (λ d e. P d.area e.area) a b
  named-told P None None t e h = tt
  named-told P None (Some y) t e h = absurd t
  named-told P (Some x) None t e h = absurd t
  named-told P (Some x) (Some y) t e h = subst (λ (o : Option (List ℕ)). IfSome o (λ area. P x.area area)) (sym e) h

  pub aligns-same : (old : Medium) (n : Named) (new : Medium) → IsMedium new → Settles old (Ok n) new → IfSome (area_of old.disk) (λ area. goal area area) → Aligns at goal old (Ok tt) new
  aligns-same old n new w s same = record {
    ends = s.calm.ends;
    sane = λ sane area held. sane area (s.calm.keeps.adds area held);
    within = within-calm (IsApart at 1) old _ new w s.calm;
    settled = s.settled;
    area = named-told goal old.disk new.disk s.calm.told s.calm.area same;
    named = names-calm at old (Ok n) new s.calm;
    calm = if-area (area_of old.disk) _ (λ area agree. calm-ok old n tt new s.calm);
  }

  -- both partitions are whole in all that a settled disk may hold
  differ : (old mid : Option Disk) (n : Named) → BothTold old mid → area_of mid ≡ area_of old → IsSettled mid
      → IfSome (area_of old) (λ area. n.choice ≡ chosen area) → IfSome (area_of old) (λ area. n.origin ≡ origin area) → (n.origin ≡ n.choice → ⊥)
      → IsSane old → (area : List ℕ) → MayHold mid area → origin area ≡ chosen area → ⊥
  differ None mid n t e s c o ne sane area held agree = untold-insane sane
  differ (Some d) None n t e s c o ne sane area held agree = absurd t
  differ (Some d) (Some m) n t e s c o ne sane area held agree =
      let here : area ≡ m.area = settled-area m s area held in
      let choice : n.choice ≡ chosen m.area = subst (λ (x : Option (List ℕ)). IfSome x (λ area. n.choice ≡ chosen area)) (sym e) c in
      let origins : n.origin ≡ origin m.area = subst (λ (x : Option (List ℕ)). IfSome x (λ area. n.origin ≡ origin area)) (sym e) o in
      ne (origins ∙ sym (ap origin here) ∙ agree ∙ ap chosen here ∙ sym choice)

  module _ (p : Partition) (apart : (size : ℕ) (p : Partition) → Keeps (IsApart at 1) size p) where
    set-area : (r : Result (Unit {0}) Down) (a m b : Option Disk) → BothTold a m → area_of m ≡ area_of a
        → ((d : List ℕ) (e : List ℕ) → IfSome (area_of a) (λ area. d ≡ area) → e ≡ overwritten at (byte_of p ∷ []) d → IfSome (area_of a) (λ area. goal d e))
        → OnOk r (WhereTold (λ d e. e.area ≡ overwritten at (byte_of p ∷ []) d.area) m b) → OnOk r (WhereTold (λ d e. goal d.area e.area) a b)
    set-area (Err e) a m b t same reach h = tt
    set-area (Ok x) None None b t same reach h = told-none b h
      where
        told-none : (b : Option Disk) → WhereTold (λ d e. e.area ≡ overwritten at (byte_of p ∷ []) d.area) None b → WhereTold (λ d e. goal d.area e.area) None b
        told-none None h = tt
        told-none (Some y) h = absurd h
    set-area (Ok x) None (Some m) b t same reach h = absurd t
    set-area (Ok x) (Some a) None b t same reach h = absurd t
    set-area (Ok x) (Some a) (Some m) None t same reach h = absurd h
    set-area (Ok x) (Some a) (Some m) (Some b) t same reach h =
        reach a.area b.area refl (h ∙ ap (λ (l : List ℕ). overwritten at (byte_of p ∷ []) l) (same-area a.area m.area same))
      where
        same-area : (k l : List ℕ) → Some l ≡ Some k → l ≡ k
        same-area k l e = subst (λ (o : Option (List ℕ)). IfSome o (λ x. l ≡ x)) e refl

    pub aligns-set : (old mid : Medium) (n : Named) (r : Result (Unit {0}) Down) (new : Medium) → at < 8192 → IsMedium old → IsMedium new → Settles old (Ok n) mid → (n.origin ≡ n.choice → ⊥) → Sets at (byte_of p ∷ []) mid r new
        → ((d : List ℕ) (e : List ℕ) → IfSome (area_of old.disk) (λ area. d ≡ area) → e ≡ overwritten at (byte_of p ∷ []) d → IfSome (area_of old.disk) (λ area. goal d e))
        → Aligns at goal old r new
    aligns-set old mid n r new low v w s ne set reach = record {
      ends = ends-then (how_of r) old mid new s.calm.ends set.ends;
      sane = λ sane area held.
          let before = set.touches area held in
          let may = s.calm.keeps.adds before.0 before.1 in
          sane-both (IsApart at 1) before.0 area before.2 (apart (length before.0))
          (both-whole before.0 (sane before.0 may) (differ old.disk mid.disk n s.calm.told s.calm.area s.settled s.choice s.origin ne sane before.0 before.1));
      within = within-then (IsApart at 1) old mid new w s.calm.keeps s.calm.told s.calm.area s.settled set.touches set.told;
      settled = set.settled;
      area = set-area r old.disk mid.disk new.disk s.calm.told s.calm.area reach set.area;
      named = on-ok (WhereTold (λ d e. e.area ≡ overwritten at (byte_of p ∷ []) d.area) mid.disk new.disk) (WhereTold (λ d e. StaysOrNames at d.area e.area) old.disk new.disk) r
          (names-written at p old.size (omega (arith, v.least)) old.disk mid.disk new.disk v.disk s.calm.told s.calm.area) set.area;
      calm = differ-at (λ area. Calm old r new) (area_of old.disk) n ne s.choice s.origin;
    }

-- the area of blocks has room for both bytes
long-area : (d : Option Disk) (size : ℕ) → IsWholeDisk size d → 8192 ≤ size → (a : List ℕ) → IfSome (area_of d) (λ area. a ≡ area) → IfSome (area_of d) (λ area. 8192 ≤ length a)
long-area None size w le a e = tt
long-area (Some d) size w le a e = omega (arith, ap length e, w.size)

reached : (P : List ℕ → Type 0) (o : Option (List ℕ)) (a : List ℕ) → IfSome o (λ area. a ≡ area) → IfSome o P → IfSome o (λ area. P a)
reached P None a e h = tt
reached P (Some area) a e h = subst P (sym e) h

pub origin-reach : (old : Medium) (n : Named) → IsMedium old → IfSome (area_of old.disk) (λ area. n.choice ≡ chosen area) → (d : List ℕ) (e : List ℕ) → IfSome (area_of old.disk) (λ area. d ≡ area) → e ≡ overwritten origin_at (byte_of n.choice ∷ []) d → IfSome (area_of old.disk) (λ area. Agree e)
origin-reach old n w c d e is set = both (area_of old.disk) (long-area old.disk old.size w.disk w.least d is) (reached (λ area. n.choice ≡ chosen area) (area_of old.disk) d is c)
  where
    both : (o : Option (List ℕ)) → IfSome o (λ area. 8192 ≤ length d) → IfSome o (λ area. n.choice ≡ chosen d) → IfSome o (λ area. Agree e)
    both None l c = tt
    both (Some area) l c = origin-set d e n.choice l c set

pub choice-reach : (old : Medium) (n : Named) → IsMedium old → IfSome (area_of old.disk) (λ area. n.origin ≡ origin area) → (d : List ℕ) (e : List ℕ) → IfSome (area_of old.disk) (λ area. d ≡ area)
    → e ≡ overwritten choice_at (byte_of n.origin ∷ []) d → IfSome (area_of old.disk) (λ area. chosen e ≡ origin d)
choice-reach old n w c d e is set = both (area_of old.disk) (long-area old.disk old.size w.disk w.least d is) (reached (λ area. n.origin ≡ origin area) (area_of old.disk) d is c)
  where
    both : (o : Option (List ℕ)) → IfSome o (λ area. 8192 ≤ length d) → IfSome o (λ area. n.origin ≡ origin d) → IfSome o (λ area. chosen e ≡ origin d)
    both None l c = tt
    both (Some area) l c = choice-set d e n.origin l set ∙ c
