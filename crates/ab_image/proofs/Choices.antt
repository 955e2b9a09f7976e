-- Choosing the other partition, where it is ready.
use Rattle.std.proofs.Common.{◌≡◌, ◌⊎◌, inl, inr, ℕ, ◌≤◌, Bool, true, false, List, [], ◌∷◌, length, get_or, refl, sym, ◌∙◌, ap, subst, arith}
use Rattle.std.specs.Prelude.{◌↔◌, IsTrue, MatchBool, Option, Some, None, IfSome, IfOk, Result, Ok, Err, OnOk}
use Rattle.sha2.specs.Sha256.{sha256}
use Rattle.device_model.specs.declared.calls.Down.{Down}
use Rattle.device_model.specs.declared.calls.Down.TheVariants.{Off, Fault}
use Rattle.device_model.specs.Disk.{Disk, IsApart, IsSynced, IsRefilled, WhereTold, IsSettled, IsWhole as IsWholeDisk, MayHold, overwritten, area_of}
use Rattle.device_model.specs.How.{how_of}
use Rattle.ab_image.specs.declared.partition.Partition.{Partition}
use Rattle.ab_image.specs.declared.partition.Partition.TheVariants.{Zero, One}
use Rattle.ab_image.specs.declared.settling.Named.{Named}
use Rattle.ab_image.specs.Layout.{choice_at, byte_of, named_by, other, chosen, origin, Agree, StaysOrNames, Whole, IsWhole, IsSane, IsReady}
use Rattle.ab_image.specs.Blocks.{Medium, IsMedium, EndsAs}
use Rattle.ab_image.specs.Parts.{Touches, BothTold, KeepsByte, Calm, Settles, Sets}
use Rattle.ab_image.specs.Act.{WritesNothing}
use Rattle.ab_image.specs.Choosing.{IsOtherReady, IsUnready, IsEitherBy, IsChosen, Chooses}
use Rattle.ab_image.proofs.Steps.{told-then, ends-then, calm-ok, calm-then}
use Rattle.ab_image.proofs.Areas.{whole-kept, sane-both, untold-insane, settled-area, choice-apart, choice-set}
use Rattle.ab_image.proofs.Naming.{if-area, if-map, on-ok, names-written, names-calm, differ-at}
use Rattle.ab_image.proofs.Withins.{holds-self, same-area, within-calm, within-then}
use Rattle.ab_image.proofs.Ready.{ready-whole}

-- ---- what may stand of a sane disk

-- the old choice, or the other partition, which is whole; that only where the choice byte was unsynced
abbrev pub IsHeld : Disk → List ℕ → Type 0
IsHeld d area = (chosen area ≡ chosen d.area) ⊎ ((IsSynced d.unsynced choice_at → ⊥) × IsWhole area (other (chosen d.area)))

by-choice : (d : Disk) (area : List ℕ) (q c : Partition) → chosen area ≡ q → chosen d.area ≡ c → IsWhole area (chosen area) → (IsSynced d.unsynced choice_at → ⊥) → IsHeld d area
by-choice d area Zero Zero e f w unsynced = inl (e ∙ sym f)
by-choice d area One One e f w unsynced = inl (e ∙ sym f)
by-choice d area Zero One e f w unsynced = inr (unsynced, subst (IsWhole area) (e ∙ sym (ap other f)) w)
by-choice d area One Zero e f w unsynced = inr (unsynced, subst (IsWhole area) (e ∙ sym (ap other f)) w)

by-flag : (d : Disk) (area : List ℕ) (b : Bool) → get_or d.unsynced choice_at false ≡ b → IsSane (Some d) → MayHold (Some d) area → IsHeld d area
by-flag d area false is sane held = inl (ap named_by (held.outside choice_at is))
by-flag d area true is sane held = by-choice d area (chosen area) (chosen d.area) refl refl (sane area held).chosen (λ synced. let no : true ≡ false = sym is ∙ synced in absurd cc)

pub held-sane : (d : Disk) (area : List ℕ) → IsSane (Some d) → MayHold (Some d) area → IsHeld d area
held-sane d area sane held = by-flag d area (get_or d.unsynced choice_at false) refl sane held

either-held : (sum : List ℕ) (old new : Option Disk) → ((area : List ℕ) → MayHold new area → MayHold old area) → IsSane old → IfSome old (λ d. (area : List ℕ) → MayHold new area → IsEitherBy sum d area)
either-held sum None new adds sane = tt
either-held sum (Some d) new adds sane = λ area held. by-held sum d area (held-sane d area sane (adds area held))
  where
    by-held : (sum : List ℕ) (d : Disk) (area : List ℕ) → IsHeld d area → IsEitherBy sum d area
    by-held sum d area (inl same) = inl same
    by-held sum d area (inr h) = inr (record { image = h.1.0; whole = h.1.1; summed = λ synced. absurd (h.0 synced) })

kept-or : (P : Disk → Type 0) (new : Medium) (a b : Option Disk) → WhereTold (KeepsByte choice_at new) a b → WhereTold (λ d e. KeepsByte choice_at new d e ⊎ P d) a b
kept-or P new None None h = tt
kept-or P new None (Some e) h = absurd h
kept-or P new (Some d) None h = absurd h
kept-or P new (Some d) (Some e) h = inl h

abbrev pub Finds : List ℕ → Medium → Result Bool Down → Type 0
Finds sum old r = IfOk r (λ ready. IfSome (area_of old.disk) (λ area. MatchBool ready (Agree area → IsOtherReady sum area) (IsUnready sum area)))

abbrev pub Leaves : Medium → Result Bool Down → Medium → Type 0
Leaves old r new = IfOk r (λ ready. MatchBool ready (IsChosen old new) (WritesNothing old new))

-- nothing was written
pub calm-chooses : (sum : List ℕ) (old : Medium) (r : Result Bool Down) (new : Medium) → IsMedium new → Calm old r new → Finds sum old r → Leaves old r new → Chooses sum old r new
calm-chooses sum old r new w c found leaves = record {
  ends = c.ends;
  sane = λ sane area held. sane area (c.keeps.adds area held);
  within = within-calm (IsApart choice_at 1) old r new w c;
  written = kept-or (λ d. Agree d.area × IsOtherReady sum d.area) new old.disk new.disk ((within-calm (λ i. Unit {0}) old r new w c).bytes choice_at tt);
  named = names-calm choice_at old r new c;
  calm = if-area (area_of old.disk) _ (λ area differ. c);
  either = either-held sum old.disk new.disk c.keeps.adds;
  found = found;
  leaves = leaves;
}

-- ---- what was read

both-told : (P : List ℕ → List ℕ → Type 0) (a b : Option Disk) → BothTold a b → area_of b ≡ area_of a → IfSome (area_of a) (λ area. P area area) → WhereTold (λ d e. P d.area e.area) a b
both-told P None None t e h = tt
both-told P None (Some y) t e h = absurd t
both-told P (Some x) None t e h = absurd t
both-told P (Some x) (Some y) t e h = subst (λ (area : List ℕ). P x.area area) (sym (same-area x y e)) h

pub differs-chooses : (sum : List ℕ) (old : Medium) (n : Named) (new : Medium) → IsMedium new → Settles old (Ok n) new → (n.origin ≡ n.choice → ⊥) → Chooses sum old (Ok true) new
differs-chooses sum old n new w s differ =
    calm-chooses sum old (Ok true) new w (calm-ok old n true new s.calm) (differ-at (IsOtherReady sum) (area_of old.disk) n differ s.choice s.origin)
    (record { settled = s.settled; other = both-told (λ before after. Agree before → chosen after ≡ other (chosen before)) old.disk new.disk s.calm.told s.calm.area (differ-at (λ area. chosen area ≡ other (chosen area)) (area_of old.disk) n differ s.choice s.origin) })

module _ (sum : List ℕ) (n : Named) (target : Partition) (is : target ≡ other n.choice) (agree : n.origin ≡ n.choice) where
  unready-at : (o : Option (List ℕ)) → IfSome o (λ area. n.choice ≡ chosen area) → IfSome o (λ area. n.origin ≡ origin area) → IfSome o (λ area. IsTrue false ↔ IsReady area target sum) → IfSome o (IsUnready sum)
  unready-at None c o h = tt
  unready-at (Some area) c o h = (sym o ∙ agree ∙ c, λ r. let no : false ≡ true = h.1 (subst (λ (p : Partition). IsReady area p sum) (ap other (sym c) ∙ sym is) r) in absurd cc)

  ready-at : (o : Option (List ℕ)) → IfSome o (λ area. n.choice ≡ chosen area) → IfSome o (λ area. IsTrue true ↔ IsReady area target sum) → IfSome o (IsOtherReady sum)
  ready-at None c h = tt
  ready-at (Some area) c h = subst (λ (p : Partition). IsReady area p sum) (is ∙ ap other c) (h.0 refl)

  agreed-at : (o : Option (List ℕ)) → IfSome o (λ area. n.choice ≡ chosen area) → IfSome o (λ area. n.origin ≡ origin area) → IfSome o (IsOtherReady sum) → IfSome o (λ area. Agree area × IsOtherReady sum area)
  agreed-at None c o h = tt
  agreed-at (Some area) c o h = (sym o ∙ agree ∙ c, h)

  -- the other partition wasn't ready
  pub unready-chooses : (old mid new : Medium) → IsMedium new → Settles old (Ok n) mid → Calm {T = Bool} mid (Ok false) new → IfSome (area_of mid.disk) (λ area. IsTrue false ↔ IsReady area target sum) → Chooses sum old (Ok false) new
  unready-chooses old mid new w s c h =
      let calm = calm-then old n mid (Ok false) new s.calm c in
      calm-chooses sum old (Ok false) new w calm
      (unready-at (area_of old.disk) s.choice s.origin (subst (λ (o : Option (List ℕ)). IfSome o (λ area. IsTrue false ↔ IsReady area target sum)) s.calm.area h))
      (record { area = calm.area; keeps = calm.keeps })

-- ---- the choice was written

refilled-from : (a m b : Option Disk) → BothTold a m → area_of m ≡ area_of a → IsSettled m → Touches (IsApart choice_at 1) m b → IfSome a (λ d. (area : List ℕ) → MayHold b area → IsRefilled (IsApart choice_at 1) d.area area)
refilled-from None m b t same s touches = tt
refilled-from (Some d) None b t same s touches = absurd t
refilled-from (Some d) (Some m) b t same s touches = λ area held.
    let before = touches area held in
    subst (λ (x : List ℕ). IsRefilled (IsApart choice_at 1) x area) (settled-area m s before.0 before.1 ∙ same-area d m same) before.2

either-of : (P : Partition → Type 0) (c p : Partition) → P c → P (other c) → P p
either-of P Zero Zero h k = h
either-of P Zero One h k = k
either-of P One Zero h k = k
either-of P One One h k = h

module _ (sum : List ℕ) (size : ℕ) (long : 8192 ≤ size) where
  -- the other partition, which is ready, is whole
  other-whole : (d : Disk) → IsWholeDisk size (Some d) → IsOtherReady sum d.area → (image : List ℕ) × Whole d.area (other (chosen d.area)) image × (sha256 image ≡ sum)
  other-whole d w ready = ready-whole d.area (other (chosen d.area)) sum w.bytes (omega (arith, w.size, long)) ready

  sane-chosen : (a b : Option Disk) → IsWholeDisk size a → IfSome (area_of a) (IsOtherReady sum) → IfSome a (λ d. (area : List ℕ) → MayHold b area → IsRefilled (IsApart choice_at 1) d.area area) → IsSane a → IsSane b
  sane-chosen None b w ready from sane = absurd (untold-insane sane)
  sane-chosen (Some d) b w ready from sane = λ area held.
      let whole = other-whole d w ready in
      sane-both (IsApart choice_at 1) d.area area (from area held) (choice-apart (length d.area))
      (λ p. either-of (IsWhole d.area) (chosen d.area) p (sane d.area (holds-self size d w)).chosen (whole.0, whole.1))

  either-chosen : (a b : Option Disk) → IsWholeDisk size a → IfSome (area_of a) (IsOtherReady sum) → IfSome a (λ d. (area : List ℕ) → MayHold b area → IsRefilled (IsApart choice_at 1) d.area area) → IfSome a (λ d. (area : List ℕ) → MayHold b area → IsEitherBy sum d area)
  either-chosen None b w ready from = tt
  either-chosen (Some d) b w ready from = λ area held.
      let whole = other-whole d w ready in
      inr (record {
        image = whole.0;
        whole = whole-kept (IsApart choice_at 1) d.area area (from area held) (other (chosen d.area)) whole.0 (choice-apart (length d.area) (other (chosen d.area))) whole.1;
        summed = λ synced. whole.2;
      })

ready-or : (sum : List ℕ) (new : Medium) (a b : Option Disk) → BothTold a b → IfSome (area_of a) (λ area. Agree area × IsOtherReady sum area) → WhereTold (λ d e. KeepsByte choice_at new d e ⊎ (Agree d.area × IsOtherReady sum d.area)) a b
ready-or sum new None None t ready = tt
ready-or sum new None (Some e) t ready = absurd t
ready-or sum new (Some d) None t ready = absurd t
ready-or sum new (Some d) (Some e) t ready = inr ready

-- the choice is the other partition
choice-is : (size : ℕ) → 8192 ≤ size → (a m b : Option Disk) → IsWholeDisk size a → BothTold a m → area_of m ≡ area_of a → (n : Named) (target : Partition) → target ≡ other n.choice → IfSome (area_of a) (λ area. n.choice ≡ chosen area)
    → WhereTold (λ d e. e.area ≡ overwritten choice_at (byte_of target ∷ []) d.area) m b → WhereTold (λ d e. Agree d.area → chosen e.area ≡ other (chosen d.area)) a b
choice-is size long None None None w t same n target is c h = tt
choice-is size long None None (Some e) w t same n target is c h = absurd h
choice-is size long None (Some m) b w t same n target is c h = absurd t
choice-is size long (Some d) None b w t same n target is c h = absurd t
choice-is size long (Some d) (Some m) None w t same n target is c h = absurd h
choice-is size long (Some d) (Some m) (Some e) w t same n target is c h = λ agree.
    let here : m.area ≡ d.area = same-area d m same in
    choice-set m.area e.area target (omega (arith, ap length here, w.size, long)) h ∙ is ∙ ap other c

-- as long as the choice was written
abbrev pub done_of : Result (Unit {0}) Down → Result Bool Down
done_of (Ok x) = Ok true
done_of (Err e) = Err e

ends-done : (r : Result (Unit {0}) Down) (old new : Medium) → EndsAs (how_of r) old new → EndsAs (how_of (done_of r)) old new
ends-done (Ok x) old new h = h
ends-done (Err Off) old new h = h
ends-done (Err Fault) old new h = h

found-done : (sum : List ℕ) (old : Medium) (o : Option (List ℕ)) → area_of old.disk ≡ o → IfSome o (IsOtherReady sum) → (r : Result (Unit {0}) Down) → Finds sum old (done_of r)
found-done sum old o e ready (Err d) = tt
found-done sum old o e ready (Ok x) = subst (λ (p : Option (List ℕ)). IfSome p (λ area. Agree area → IsOtherReady sum area)) (sym e) (weaker o ready)
  where
    weaker : (o : Option (List ℕ)) → IfSome o (IsOtherReady sum) → IfSome o (λ area. Agree area → IsOtherReady sum area)
    weaker None h = tt
    weaker (Some area) h = λ agree. h

named-done : (P : Type 0) (r : Result (Unit {0}) Down) → OnOk r P → OnOk (done_of r) P
named-done P (Ok x) h = h
named-done P (Err e) h = tt

leaves-done : (old new : Medium) (r : Result (Unit {0}) Down) → OnOk r (IsSettled new.disk) → OnOk r (WhereTold (λ d e. Agree d.area → chosen e.area ≡ other (chosen d.area)) old.disk new.disk) → Leaves old (done_of r) new
leaves-done old new (Err e) s h = tt
leaves-done old new (Ok x) s h = record { settled = s; other = h }

module _ (sum : List ℕ) (n : Named) (target : Partition) (is : target ≡ other n.choice) (agree : n.origin ≡ n.choice) where
  pub set-chooses : (old mid : Medium) (r : Result (Unit {0}) Down) (new : Medium) → IsMedium old → IsMedium new → Settles old (Ok n) mid → IfSome (area_of mid.disk) (λ area. IsTrue true ↔ IsReady area target sum) → Sets choice_at (byte_of target ∷ []) mid r new
      → Chooses sum old (done_of r) new
  set-chooses old mid r new w v s h set =
      let ready = ready-at sum n target is agree (area_of old.disk) s.choice (subst (λ (o : Option (List ℕ)). IfSome o (λ area. IsTrue true ↔ IsReady area target sum)) s.calm.area h) in
      let from = refilled-from old.disk mid.disk new.disk s.calm.told s.calm.area s.settled set.touches in
      record {
        ends = ends-done r old new (ends-then (how_of r) old mid new s.calm.ends set.ends);
        sane = sane-chosen sum old.size w.least old.disk new.disk w.disk ready from;
        within = within-then (IsApart choice_at 1) old mid new v s.calm.keeps s.calm.told s.calm.area s.settled set.touches set.told;
        written = ready-or sum new old.disk new.disk (told-then old.disk mid.disk new.disk s.calm.told set.told) (agreed-at sum n target is agree (area_of old.disk) s.choice s.origin ready);
        named = named-done (WhereTold (λ d e. StaysOrNames choice_at d.area e.area) old.disk new.disk) r
            (on-ok (WhereTold (λ d e. e.area ≡ overwritten choice_at (byte_of target ∷ []) d.area) mid.disk new.disk) (WhereTold (λ d e. StaysOrNames choice_at d.area e.area) old.disk new.disk) r
            (names-written choice_at target old.size (omega (arith, w.least)) old.disk mid.disk new.disk w.disk s.calm.told s.calm.area) set.area);
        calm = if-map _ _ (area_of old.disk) (λ area found differ. absurd (differ found.0)) (agreed-at sum n target is agree (area_of old.disk) s.choice s.origin ready);
        either = λ sane. either-chosen sum old.size w.least old.disk new.disk w.disk ready from;
        found = found-done sum old (area_of old.disk) refl ready r;
        leaves = leaves-done old new r set.settled
            (on-ok (WhereTold (λ d e. e.area ≡ overwritten choice_at (byte_of target ∷ []) d.area) mid.disk new.disk) (WhereTold (λ d e. Agree d.area → chosen e.area ≡ other (chosen d.area)) old.disk new.disk) r
            (choice-is old.size w.least old.disk mid.disk new.disk w.disk s.calm.told s.calm.area n target is s.choice) set.area);
      }
