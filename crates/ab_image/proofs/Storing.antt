-- The parts of Download, one after another.
use Rattle.std.proofs.Common.{◌≡◌, ap, refl, ◌⊎◌, inl, inr, ℕ, ◌≤◌, true, false, List, ◌++◌, length, get_or, sym, ◌∙◌, subst, arith}
use Rattle.std.specs.Prelude.{Option, Some, None, IfSome, Result, Ok, Err}
use Rattle.std.specs.Int.{w64, to_be_bytes}
use Rattle.sha2.specs.Sha256.{sha256}
use Rattle.io_model.specs.Source.{Content, When, IsLength, bytes_at}
use Rattle.io_model.specs.Source.Content.{Told, Untold}
use Rattle.device_model.specs.declared.calls.Down.{Down}
use Rattle.device_model.specs.declared.calls.Down.TheVariants.{Off, Fault}
use Rattle.device_model.specs.Disk.{Disk, IsApart, IsSettled, IsWhole, WhereTold, overwritten, area_of}
use Rattle.device_model.specs.How.{How, Through, PowerLost, DiskFailed}
use Rattle.ab_image.specs.declared.partition.Partition.{Partition}
use Rattle.ab_image.specs.declared.partition.Partition.TheVariants.{Zero, One}
use Rattle.ab_image.specs.declared.settling.Named.{Named}
use Rattle.ab_image.specs.declared.report.AbAct.{AbAct}
use Rattle.ab_image.specs.declared.report.AbAct.TheVariants as answer
use Rattle.ab_image.specs.Layout.{choice_at, origin_at, record_at, record_size, partition_at, partition_size, named_by, other, chosen, origin, IsBeside, IsSpared, Agree, StaysOrNames, Whole, IsSane}
use Rattle.ab_image.specs.Blocks.{Medium, IsMedium, EndsAs}
use Rattle.ab_image.specs.Parts.{Touches, BothTold, KeepsByte, Within, Calm, Settles, Sets, Cleans}
use Rattle.ab_image.specs.Answers.{how_of, stopped_by}
use Rattle.ab_image.specs.Taking.{IsFree, HasFront, Spares, Frees, Stores}
use Rattle.ab_image.proofs.Steps.{ends-then, ends-err, calm-err, calm-ok, calm-then}
use Rattle.ab_image.proofs.Filling.{stop-ends, touches-wider, spares-wider, spares-then, when-map}
use Rattle.ab_image.proofs.Areas.{origin-apart}
use Rattle.ab_image.proofs.Withins.{settled-stays, within-calm, within-wider, within-after}
use Rattle.ab_image.proofs.Naming.{if-map, names-then}
use Rattle.ab_image.proofs.Alone.{within-boots}
use Rattle.ab_image.proofs.Beside.{choice-beside, origin-beside, record-beside, front-beside, sane-stored, boots-stored, agree-stored, whole-written}

-- ---- the partition that isn't chosen

keeps-same : (i : ℕ) (mid new : Medium) (d e : Disk) → mid.on ≡ true → KeepsByte i mid d e → KeepsByte i new d e
keeps-same i mid new d e on (inl same) = inl same
keeps-same i mid new d e on (inr off) = let no : true ≡ false = sym on ∙ off.0 in absurd cc

where-map : (R S : Disk → Disk → Type 0) (a b : Option Disk) → ((d e : Disk) → R d e → S d e) → WhereTold R a b → WhereTold S a b
where-map R S None None f h = tt
where-map R S None (Some e) f h = h
where-map R S (Some d) None f h = h
where-map R S (Some d) (Some e) f h = f d e h

-- the disk stayed, whatever became of the power
within-same : (kept : ℕ → Type 0) (old mid new : Medium) → mid.on ≡ true → new.disk ≡ mid.disk → Within kept old mid → Within kept old new
within-same kept old mid new on same w = record {
  touches = subst (λ (d : Option Disk). Touches kept old.disk d) (sym same) w.touches;
  bytes = λ i keeps. subst (λ (d : Option Disk). WhereTold (KeepsByte i new) old.disk d) (sym same) (where-map (KeepsByte i mid) (KeepsByte i new) old.disk mid.disk (λ d e. keeps-same i mid new d e on) (w.bytes i keeps));
  told = subst (λ (d : Option Disk). BothTold old.disk d) (sym same) w.told;
}

pub frees-failed : (x : Unit {0}) (old mid : Medium) (e : Down) (new : Medium) → Cleans old (Ok x) mid → Settles mid (Err e) new → Frees old (Err e) new
frees-failed x old mid e new c s =
    let same = s.calm.keeps.settled c.settled in
    record {
      ends = ends-err Named Partition e old new (ends-then _ old mid new c.ends s.calm.ends);
      sane = λ sane. subst IsSane (sym same) (c.sane sane);
      within = within-same (IsApart origin_at 1) old mid new c.ends.on same c.within;
      settled = tt;
      named = tt;
      free = tt;
      calm = if-map (λ area. Agree area → Calm old (Ok x) mid) (λ area. Agree area → Calm {T = Partition} old (Err e) new) (area_of old.disk) (λ area quiet agree. calm-then old x mid (Err e) new (quiet agree) (calm-err Named Partition mid e new s.calm)) c.calm;
    }

-- nothing was written, and nothing was to be
pub frees-calm : (x : Unit {0}) (old mid : Medium) (n : Named) (target : Partition) (new : Medium) → Cleans old (Ok x) mid → Settles mid (Ok n) new → IfSome (area_of old.disk) (λ area. Agree area → Calm old (Ok target) new)
frees-calm x old mid n target new c s =
    if-map (λ area. Agree area → Calm old (Ok x) mid) (λ area. Agree area → Calm old (Ok target) new) (area_of old.disk) (λ area quiet agree. calm-then old x mid (Ok target) new (quiet agree) (calm-ok mid n target new s.calm)) c.calm

same-or : (p q : Partition) → (p ≡ q) ⊎ (p ≡ q → ⊥)
same-or Zero Zero = inl refl
same-or Zero One = inr (λ e. absurd cc)
same-or One Zero = inr (λ e. absurd cc)
same-or One One = inl refl

-- the origin is written only where the parities differ
abbrev IsOriginKept : List ℕ → ℕ → Type 0
IsOriginKept area i = Agree area ⊎ IsApart origin_at 1 i

frees-within : (r : Result Partition Down) (old new : Medium) → IsMedium new → Frees old r new → (d : Disk) → old.disk ≡ Some d → Within (IsOriginKept d.area) old new
frees-within r old new v f d is = by-parity (same-or (origin d.area) (chosen d.area))
  where
    by-parity : Agree d.area ⊎ (Agree d.area → ⊥) → Within (IsOriginKept d.area) old new
    by-parity (inl agree) =
        let quiet = subst (λ (o : Option Disk). IfSome (area_of o) (λ area. Agree area → Calm old r new)) is f.calm in
        within-calm (IsOriginKept d.area) old r new v (quiet agree)
    by-parity (inr differ) = within-wider (IsApart origin_at 1) (IsOriginKept d.area) old new (λ i keeps. apart differ i keeps) f.within
      where
        apart : (Agree d.area → ⊥) → (i : ℕ) → IsOriginKept d.area i → IsApart origin_at 1 i
        apart differ i (inl agree) = absurd (differ agree)
        apart differ i (inr out) = out

told-by : (o : Option Disk) (P : Disk → Type 0) → ((d : Disk) → o ≡ Some d → P d) → IfSome o P
told-by None P h = tt
told-by (Some d) P h = h d refl

-- ---- the image and its record

pub image-beside : (target : Partition) (count : ℕ) (old new : Medium) → count ≤ partition_size old.size → (r : AbAct) → Spares (IsApart (partition_at old.size target) count) r old new → Spares (IsBeside old.size target) r old new
image-beside target count old new fits r s = spares-wider (IsApart (partition_at old.size target) count) (IsBeside old.size target) r old new (front-beside old.size count target fits) s

module _ (target : Partition) (count : ℕ) (bytes : List ℕ) (old mid new : Medium) (r : Result (Unit {0}) Down) (fits : count ≤ partition_size old.size) (long : length bytes ≡ record_size) (f : Spares (IsApart (partition_at old.size target) count) answer.Done old mid) (s : Sets (record_at target) bytes mid r new) where
  image-spares : Spares (IsBeside old.size target) answer.Done old mid
  image-spares = image-beside target count old mid fits answer.Done f

  record-touches : Touches (IsBeside old.size target) mid.disk new.disk
  record-touches = touches-wider (IsApart (record_at target) (length bytes)) (IsBeside old.size target) mid.disk new.disk (λ i out. subst (λ (n : ℕ). IsApart (record_at target) n i) (sym long) (record-beside old.size target i out)) s.touches

  pub puts-done : EndsAs Through mid new → Spares (IsBeside old.size target) answer.Done old new
  puts-done ends = spares-then (IsBeside old.size target) answer.Done old mid new image-spares (record { ends = ends; touches = record-touches; told = s.told })

  pub puts-stopped : (e : Down) → EndsAs (how_of (stopped_by e)) mid new → Spares (IsBeside old.size target) (stopped_by e) old new
  puts-stopped e ends = spares-then (IsBeside old.size target) (stopped_by e) old mid new image-spares (record { ends = ends; touches = record-touches; told = s.told })

-- ---- both

stays : (mid : Medium) (d m : Disk) → mid.on ≡ true → KeepsByte choice_at mid d m → get_or m.area choice_at 0 ≡ get_or d.area choice_at 0
stays mid d m on (inl same) = same
stays mid d m on (inr off) = let no : true ≡ false = sym on ∙ off.0 in absurd cc

by-how : (how : How) (old new : Medium) → EndsAs how old new → new.size ≡ old.size
by-how Through old new ends = ends.size
by-how PowerLost old new ends = ends.size
by-how DiskFailed old new ends = ends.size

-- the choice stays through the first part, and through the second, which begins settled
choice-stored : (target : Partition) (mid new : Medium) (a m b : Option Disk) → mid.on ≡ true → IsWhole mid.size b → IsSettled m → Touches (IsBeside mid.size target) m b → WhereTold (KeepsByte choice_at mid) a m → BothTold m b → WhereTold (KeepsByte choice_at new) a b
choice-stored target mid new None None None on w s t first u = tt
choice-stored target mid new None None (Some e) on w s t first u = absurd u
choice-stored target mid new None (Some m) b on w s t first u = absurd first
choice-stored target mid new (Some d) None b on w s t first u = absurd first
choice-stored target mid new (Some d) (Some m) None on w s t first u = absurd u
choice-stored target mid new (Some d) (Some m) (Some e) on w s t first u =
    inl (settled-stays (IsBeside mid.size target) choice_at (choice-beside mid.size target) mid.size m e w s t ∙ stays mid d m on first)

-- the origin stays through the second part
origin-stored : (target : Partition) (size : ℕ) (a m b : Option Disk) → IsWhole size b → IsSettled m → Touches (IsBeside size target) m b → WhereTold (λ d e. StaysOrNames origin_at d.area e.area) a m → BothTold m b → WhereTold (λ d e. StaysOrNames origin_at d.area e.area) a b
origin-stored target size None None None w s t first u = tt
origin-stored target size None None (Some e) w s t first u = absurd u
origin-stored target size None (Some m) b w s t first u = absurd first
origin-stored target size (Some d) None b w s t first u = absurd first
origin-stored target size (Some d) (Some m) None w s t first u = absurd u
origin-stored target size (Some d) (Some m) (Some e) w s t first u = names-then origin_at d.area m.area e.area (settled-stays (IsBeside size target) origin_at (origin-beside size target) size m e w s t) first

ends-size : (r : AbAct) (old new : Medium) → EndsAs (how_of r) old new → new.size ≡ old.size
ends-size r old new ends = by-how (how_of r) old new ends

-- the partition is the one that wasn't chosen at the call
wasnt-chosen : (target : Partition) (mid : Medium) (d : Disk) (m : Option Disk) → mid.on ≡ true → WhereTold (KeepsByte choice_at mid) (Some d) m → IfSome m (λ x. IsFree target x.area) → target ≡ other (chosen d.area)
wasnt-chosen target mid d None on first free = absurd first
wasnt-chosen target mid d (Some m) on first free = free.1 ∙ ap (λ (k : ℕ). other (named_by k)) (stays mid d m on first)

spared-then : (target : Partition) (r : AbAct) (old mid new : Medium) → IsMedium mid → IsMedium new → Frees old (Ok target) mid → Spares (IsBeside mid.size target) r mid new → (d : Disk) → old.disk ≡ Some d → Within (IsSpared old.size d.area) old new
spared-then target r old mid new w v f p d is =
    let first = subst (λ (o : Option Disk). WhereTold (KeepsByte choice_at mid) o mid.disk) is (f.within.bytes choice_at (inl (omega arith))) in
    let other_one : target ≡ other (chosen d.area) = wasnt-chosen target mid d mid.disk f.ends.on first f.free in
    let sized = subst (λ (n : ℕ). Touches (IsBeside n target) mid.disk new.disk) f.ends.size p.touches in
    let last = subst (λ (q : Partition). Touches (IsBeside old.size q) mid.disk new.disk) other_one sized in
    within-after (IsOriginKept d.area) (IsBeside old.size (other (chosen d.area))) old mid new v f.ends.on f.settled (frees-within (Ok target) old mid w f d is) last p.told

pub stores-then : (target : Partition) (r : AbAct) (old mid new : Medium) → IsMedium mid → IsMedium new → Frees old (Ok target) mid → Spares (IsBeside mid.size target) r mid new → Stores r old new
stores-then target r old mid new w v f p =
    let size : new.size ≡ mid.size = ends-size r mid new p.ends in
    record {
      ends = ends-then (how_of r) old mid new f.ends p.ends;
      sane = λ sane. sane-stored mid.size target mid.disk new.disk w.disk f.settled f.free p.touches (f.sane sane);
      boots = boots-stored mid.size target old.disk mid.disk new.disk f.within.told p.told w.disk f.settled f.free f.within.touches p.touches;
      choice = choice-stored target mid new old.disk mid.disk new.disk f.ends.on (subst (λ (n : ℕ). IsWhole n new.disk) size v.disk) f.settled p.touches (f.within.bytes choice_at (inl (omega arith))) p.told;
      spared = told-by old.disk (λ d. Within (IsSpared old.size d.area) old new) (spared-then target r old mid new w v f p);
      named = λ e. origin-stored target mid.size old.disk mid.disk new.disk (subst (λ (n : ℕ). IsWhole n new.disk) size v.disk) f.settled p.touches f.named p.told;
    }

stop-through : (e : Down) → how_of (stopped_by e) ≡ Through → ⊥
stop-through Off h = absurd cc
stop-through Fault h = absurd cc

pub stores-stopped : (e : Down) (old new : Medium) → IsMedium new → Frees old (Err e) new → Stores (stopped_by e) old new
stores-stopped e old new v f = record {
  ends = stop-ends Partition e old new f.ends;
  sane = f.sane;
  boots = within-boots (IsApart origin_at 1) origin-apart old new f.within;
  choice = f.within.bytes choice_at (inl (omega arith));
  spared = told-by old.disk (λ d. Within (IsSpared old.size d.area) old new) (λ d is. within-wider (IsOriginKept d.area) (IsSpared old.size d.area) old new (λ i keeps. keeps.0) (frees-within (Err e) old new v f d is));
  named = λ h. absurd (stop-through e h);
}

-- ---- what stands then

-- the image and its record, where files and disk are told
pub whole-told : (c : Content) (i size count : ℕ) (sum : List ℕ) (p : Partition) (mid new : Medium) → IsMedium mid → IsMedium new → mid.size ≡ size → new.size ≡ mid.size → count ≤ partition_size size → length sum ≡ 32
    → IsLength c i count → When c (λ t. sum ≡ sha256 (bytes_at t i)) → When c (λ t. HasFront mid.disk (partition_at size p) count (bytes_at t i))
    → WhereTold (λ d e. e.area ≡ overwritten (record_at p) (to_be_bytes w64 count ++ sum) d.area) mid.disk new.disk
    → When c (λ t. IfSome new.disk (λ d. Whole d.area p (bytes_at t i)))
whole-told (Untold m) i size count sum p mid new w v first last fits long is named front h = tt
whole-told (Told t) i size count sum p mid new w v first last fits long is named front h =
    whole-written size count sum p (bytes_at t i) mid.disk new.disk (subst (λ (n : ℕ). 8192 ≤ n) first w.least) (subst (λ (n : ℕ). IsWhole n mid.disk) first w.disk) (subst (λ (n : ℕ). IsWhole n new.disk) (last ∙ first) v.disk) fits is named long front h

free-stored : (target : Partition) (r : AbAct) (old mid new : Medium) → IsMedium mid → IsMedium new → Frees old (Ok target) mid → Spares (IsBeside mid.size target) r mid new → IfSome new.disk (λ e. IsFree target e.area)
free-stored target r old mid new w v f p =
    agree-stored mid.size target mid.disk new.disk p.told w.disk f.settled f.free p.touches (subst (λ (n : ℕ). IsWhole n new.disk) (ends-size r mid new p.ends) v.disk)

agrees : (target : Partition) (new : Option Disk) → IfSome new (λ e. IsFree target e.area) → IfSome new (λ e. Agree e.area)
agrees target None h = tt
agrees target (Some e) h = h.0

other-whole : (target : Partition) (image : List ℕ) (new : Option Disk) → IfSome new (λ e. IsFree target e.area) → IfSome new (λ e. Whole e.area target image) → IfSome new (λ e. Whole e.area (other (chosen e.area)) image)
other-whole target image None h w = tt
other-whole target image (Some e) h w = subst (λ (p : Partition). Whole e.area p image) h.1 w

module _ (target : Partition) (r : AbAct) (old mid new : Medium) (w : IsMedium mid) (v : IsMedium new) (f : Frees old (Ok target) mid) (p : Spares (IsBeside mid.size target) r mid new) where
  pub agree-then : IfSome new.disk (λ d. Agree d.area)
  agree-then = agrees target new.disk (free-stored target r old mid new w v f p)

  pub whole-then : (c : Content) (i : ℕ) → When c (λ t. IfSome new.disk (λ d. Whole d.area target (bytes_at t i))) → When c (λ t. IfSome new.disk (λ d. Whole d.area (other (chosen d.area)) (bytes_at t i)))
  whole-then c i h = when-map c _ _ (λ t whole. other-whole target (bytes_at t i) new.disk (free-stored target r old mid new w v f p) whole) h
