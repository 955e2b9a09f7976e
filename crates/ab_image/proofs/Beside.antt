-- Writes to the partition that isn't chosen.
use Rattle.std.proofs.Common.{◌≡◌, inl, inr, ⊎_elim, ℕ, ◌+◌, ◌<◌, ◌≤◌, List, ◌++◌, length, take, drop, get_or, sym, ◌∙◌, ap, subst, arith, rules}
use Rattle.std.specs.Prelude.{Option, Some, None, IfSome, All}
use Rattle.std.proofs.lemmas.List.{ext_get_or, places, length-take, length-drop, length-append, take_all}
use Rattle.std.specs.Int.{w64, to_be_bytes}
use Rattle.sha2.specs.Sha256.{sha256}
use Rattle.device_model.specs.Disk.{Disk, IsByte, IsApart, IsRefilled, IsSettled, IsWhole as IsWholeDisk, MayHold, WhereTold, overwritten}
use Rattle.device_model.proofs.Refilled.{refilled_self, length-overwritten, overwritten_before, overwritten_behind, overwritten_inside}
use Rattle.ab_image.specs.declared.partition.Partition.{Partition}
use Rattle.ab_image.specs.declared.partition.Partition.TheVariants.{Zero, One}
use Rattle.ab_image.specs.Layout.{choice_at, origin_at, record_at, record_size, partition_at, partition_size, other, chosen, origin, record_of, front_of, IsBeside, Agree, Whole, IsWhole, Sane, IsSane}
use Rattle.ab_image.specs.Parts.{Touches, BothTold}
use Rattle.ab_image.specs.Act.{BootsAs}
use Rattle.ab_image.specs.Taking.{IsFree, HasFront}
use Rattle.ab_image.proofs.Areas.{Keeps, whole-kept, is-whole-kept, chosen-kept, origin-kept, kept-part, untold-insane, settled-area, origin-apart}

-- ---- what lies beside a partition

pub choice-beside : (size : ℕ) (p : Partition) → IsBeside size p choice_at
choice-beside size Zero = (inl (omega arith), inl (omega arith))
choice-beside size One = (inl (omega arith), inl (omega arith))

pub origin-beside : (size : ℕ) (p : Partition) → IsBeside size p origin_at
origin-beside size Zero = (inl (omega arith), inl (omega arith))
origin-beside size One = (inl (omega arith), inl (omega arith))

other-beside : (size : ℕ) (p : Partition) → Keeps (IsBeside size (other p)) size p
other-beside size Zero = record { named = λ i le lt. (inl (omega arith), inl (omega arith)); bytes = λ i le lt. (inr (omega arith), inl (omega arith)) }
other-beside size One = record { named = λ i le lt. (inr (omega arith), inl (omega arith)); bytes = λ i le lt. (inr (omega arith), inr (omega arith)) }

pub record-beside : (size : ℕ) (p : Partition) (i : ℕ) → IsBeside size p i → IsApart (record_at p) record_size i
record-beside size p i out = out.0

pub front-beside : (size count : ℕ) (p : Partition) → count ≤ partition_size size → (i : ℕ) → IsBeside size p i → IsApart (partition_at size p) count i
front-beside size count p fits i out = ⊎_elim (λ (lt : i < partition_at size p). inl lt) (λ (ge : partition_at size p + partition_size size ≤ i). inr (omega arith)) out.1

-- ---- an area of which only the partition that isn't chosen was written

module _ (target : Partition) (a b : List ℕ) (free : IsFree target a) (h : IsRefilled (IsBeside (length a) target) a b) where
  same-choice : chosen b ≡ chosen a
  same-choice = chosen-kept (IsBeside (length a) target) a b h (choice-beside (length a) target)

  same-origin : origin b ≡ origin a
  same-origin = origin-kept (IsBeside (length a) target) a b h (origin-beside (length a) target)

  keeps-chosen : Keeps (IsBeside (length a) target) (length a) (chosen a)
  keeps-chosen = subst (λ (p : Partition). Keeps (IsBeside (length a) p) (length a) (chosen a)) (sym free.1) (other-beside (length a) (chosen a))

  pub whole-beside : (image : List ℕ) → Whole a (chosen a) image → Whole b (chosen a) image
  whole-beside image w = whole-kept (IsBeside (length a) target) a b h (chosen a) image keeps-chosen w

  pub sane-beside : Sane a → Sane b
  sane-beside s =
      let kept : IsWhole b (chosen a) = is-whole-kept (IsBeside (length a) target) a b h (chosen a) keeps-chosen s.chosen in
      record {
        chosen = subst (λ (p : Partition). IsWhole b p) (sym same-choice) kept;
        origin = subst (λ (p : Partition). IsWhole b p) (sym (same-origin ∙ free.0)) kept;
      }

  pub agree-beside : Agree b
  agree-beside = same-origin ∙ free.0 ∙ sym same-choice

  pub target-beside : target ≡ other (chosen b)
  target-beside = free.1 ∙ ap other (sym same-choice)

-- ---- a disk that was settled, and of which only that partition was written

module _ (size : ℕ) (target : Partition) where
  touched : (d : Disk) (new : Option Disk) → IsWholeDisk size (Some d) → IsSettled (Some d) → Touches (IsBeside size target) (Some d) new → (area : List ℕ) → MayHold new area → IsRefilled (IsBeside (length d.area) target) d.area area
  touched d new w s t area held =
      let before = t area held in
      let here : before.0 ≡ d.area = settled-area d s before.0 before.1 in
      let filled : IsRefilled (IsBeside size target) d.area area = subst (λ (l : List ℕ). IsRefilled (IsBeside size target) l area) here before.2 in
      subst (λ (n : ℕ). IsRefilled (IsBeside n target) d.area area) (sym w.size) filled

  pub sane-stored : (mid new : Option Disk) → IsWholeDisk size mid → IsSettled mid → IfSome mid (λ d. IsFree target d.area) → Touches (IsBeside size target) mid new → IsSane mid → IsSane new
  sane-stored None new w s free t sane = absurd (untold-insane sane)
  sane-stored (Some d) new w s free t sane = λ area held.
      sane-beside target d.area area free (touched d new w s t area held) (sane d.area (holds d w))
    where
      holds : (d : Disk) → IsWholeDisk size (Some d) → MayHold (Some d) d.area
      holds d w = refilled_self _ d.area w.bytes

  pub boots-stored : (old mid new : Option Disk) → BothTold old mid → BothTold mid new → IsWholeDisk size mid → IsSettled mid → IfSome mid (λ d. IsFree target d.area)
      → Touches (IsApart origin_at 1) old mid → Touches (IsBeside size target) mid new → (area : List ℕ) → MayHold new area → BootsAs old area
  boots-stored None None None t u w s free first last area held = record { before = area; held = held; same = λ image w. w }
  boots-stored None None (Some e) t u w s free first last area held = absurd u
  boots-stored None (Some d) new t u w s free first last area held = absurd t
  boots-stored (Some o) None new t u w s free first last area held = absurd t
  boots-stored (Some o) (Some d) new t u w s free first last area held =
      let before = first d.area (refilled_self _ d.area w.bytes) in
      let same : chosen d.area ≡ chosen before.0 = chosen-kept (IsApart origin_at 1) before.0 d.area before.2 (inl (omega arith)) in
      let filled : IsRefilled (IsBeside (length d.area) target) d.area area = touched d new w s last area held in
      record {
        before = before.0;
        held = before.1;
        same = λ image whole.
            let mid : Whole d.area (chosen before.0) image = whole-kept (IsApart origin_at 1) before.0 d.area before.2 (chosen before.0) image (origin-apart (length before.0) (chosen before.0)) whole in
            subst (λ (p : Partition). Whole area p image) same (whole-beside target d.area area free filled image (subst (λ (p : Partition). Whole d.area p image) (sym same) mid));
      }

  pub agree-stored : (mid new : Option Disk) → BothTold mid new → IsWholeDisk size mid → IsSettled mid → IfSome mid (λ d. IsFree target d.area) → Touches (IsBeside size target) mid new → IsWholeDisk size new → IfSome new (λ e. IsFree target e.area)
  agree-stored mid None u w s free t v = tt
  agree-stored None (Some e) u w s free t v = absurd u
  agree-stored (Some d) (Some e) u w s free t v =
      let filled : IsRefilled (IsBeside (length d.area) target) d.area e.area = touched d (Some e) w s t e.area (refilled_self _ e.area v.bytes) in
      (agree-beside target d.area e.area free filled, target-beside target d.area e.area free filled)

-- ---- a partition with an image and its record

-- the bytes that were written
inside : (at : ℕ) (xs all : List ℕ) → at + length xs ≤ length all → take (length xs) (drop at (overwritten at xs all)) ≡ xs
inside at xs all fits =
    ext_get_or 0 _ _ (omega (arith, length-take (length xs) (drop at (overwritten at xs all)), length-drop at (overwritten at xs all), length-overwritten 0 at xs all fits))
    (λ i lt.
    let within : i < length xs = omega (arith, length-take (length xs) (drop at (overwritten at xs all)), lt) in
    let left : get_or (take (length xs) (drop at (overwritten at xs all))) i 0 ≡ get_or (overwritten at xs all) (at + i) 0 = search (rules, places) in
    left ∙ overwritten_inside 0 at xs all fits i within)

record-room : (size : ℕ) (p : Partition) → 8192 ≤ size → record_at p + record_size ≤ size
record-room size Zero least = omega arith
record-room size One least = omega arith

record-apart : (size count i : ℕ) (p : Partition) → partition_at size p ≤ i → IsApart (record_at p) record_size i
record-apart size count i Zero le = inr (omega arith)
record-apart size count i One le = inr (omega arith)

-- the image begins a partition, and then its record is written
pub whole-named : (p : Partition) (image d e : List ℕ) → 8192 ≤ length d → All IsByte e → length image ≤ partition_size (length d) → front_of d p (length image) ≡ image → length (sha256 image) ≡ 32 → e ≡ overwritten (record_at p) (record_of image) d → Whole e p image
whole-named p image d e least bytes fits begins long is =
    let size : length (record_of image) ≡ record_size = omega (arith, length-append (to_be_bytes w64 (length image)) (sha256 image)) in
    let room : record_at p + length (record_of image) ≤ length d = omega (arith, record-room (length d) p least) in
    let same : length e ≡ length d = ap length is ∙ length-overwritten 0 (record_at p) (record_of image) d room in
    let filled : IsRefilled (IsApart (record_at p) record_size) d e = record {
      same_length = same;
      bytes = bytes;
      outside = λ i out. ap (λ (l : List ℕ). get_or l i 0) is ∙ ⊎_elim
          (λ (lt : i < record_at p). overwritten_before 0 (record_at p) (record_of image) d room i lt)
          (λ (ge : record_at p + record_size ≤ i). overwritten_behind 0 (record_at p) (record_of image) d room i (omega (arith, size)))
          out;
    } in
    record {
      named = ap (λ (l : List ℕ). take record_size (drop (record_at p) l)) is
          ∙ ap (λ (n : ℕ). take n (drop (record_at p) (overwritten (record_at p) (record_of image) d))) (sym size)
          ∙ inside (record_at p) (record_of image) d room;
      fits = subst (λ (n : ℕ). length image ≤ partition_size n) (sym same) fits;
      begins = ap (λ (n : ℕ). take (length image) (drop (partition_at n p) e)) same
          ∙ kept-part (IsApart (record_at p) record_size) d e filled (partition_at (length d) p) (length image) (λ i le lt. record-apart (length d) (length image) i p le)
          ∙ begins;
    }

-- the same of a disk
pub whole-written : (size count : ℕ) (sum : List ℕ) (p : Partition) (image : List ℕ) (mid new : Option Disk) → 8192 ≤ size → IsWholeDisk size mid → IsWholeDisk size new → count ≤ partition_size size → count ≡ length image → sum ≡ sha256 image → length sum ≡ 32
    → HasFront mid (partition_at size p) count image → WhereTold (λ d e. e.area ≡ overwritten (record_at p) (to_be_bytes w64 count ++ sum) d.area) mid new → IfSome new (λ e. Whole e.area p image)
whole-written size count sum p image mid None least w v fits is named long front h = tt
whole-written size count sum p image None (Some e) least w v fits is named long front h = absurd h
whole-written size count sum p image (Some d) (Some e) least w v fits is named long front h =
    let all : take count image ≡ image = take_all count image (omega arith) in
    let begins : front_of d.area p (length image) ≡ image =
    ap (λ (n : ℕ). take (length image) (drop (partition_at n p) d.area)) w.size ∙ ap (λ (n : ℕ). take n (drop (partition_at size p) d.area)) (sym is) ∙ front ∙ all in
    whole-named p image d.area e.area (omega (arith, w.size)) v.bytes (omega (arith, ap partition_size w.size)) begins (ap length (sym named) ∙ long)
    (h ∙ ap (λ (n : ℕ). overwritten (record_at p) (to_be_bytes w64 n ++ sum) d.area) is ∙ ap (λ (l : List ℕ). overwritten (record_at p) (to_be_bytes w64 (length image) ++ l) d.area) named)
