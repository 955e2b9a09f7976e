-- Areas that differ in some places alone: what stays whole, and who is chosen.
use Rattle.std.proofs.Common.{◌≡◌, inr, ℕ, ◌+◌, ◌<◌, ◌≤◌, Bool, List, [], ◌∷◌, length, get_or, take, drop, refl, sym, ◌∙◌, ap, subst, arith, rules}
use Rattle.std.specs.Prelude.{Option, Some, None, All}
use Rattle.std.proofs.lemmas.List.{ext_get_or, places, length-take, length-drop, length-append}
use Rattle.std.specs.Int.{w64, to_be_bytes}
use Rattle.sha2.specs.Sha256.{sha256}
use Rattle.device_model.specs.Disk.{Disk, IsByte, IsApart, IsSynced, IsRefilled, IsSettled, MayHold, overwritten}
use Rattle.device_model.proofs.Refilled.{refilled_none, unmarked_synced, overwritten_before, overwritten_inside}
use Rattle.ab_image.specs.declared.partition.Partition.{Partition}
use Rattle.ab_image.specs.declared.partition.Partition.TheVariants.{Zero, One}
use Rattle.ab_image.specs.Layout.{choice_at, origin_at, record_at, record_size, partition_size, partition_at, named_by, byte_of, chosen, origin, record_in, record_of, Agree, Whole, IsWhole, Sane, IsSane}

-- two partitions have room
pub halves : (size : ℕ) → 8192 ≤ size → 4096 + partition_size size + partition_size size ≤ size
halves size least = omega arith

-- a part whose bytes are kept
pub kept-part : (kept : ℕ → Type 0) (a b : List ℕ) → IsRefilled kept a b → (at count : ℕ) → ((i : ℕ) → at ≤ i → i < at + count → kept i) → take count (drop at b) ≡ take count (drop at a)
kept-part kept a b h at count keeps =
    ext_get_or 0 _ _ (omega (arith, length-take count (drop at a), length-take count (drop at b), length-drop at a, length-drop at b, h.same_length))
    (λ i lt.
    let inside : i < count = omega (arith, length-take count (drop at b), lt) in
    let left : get_or (take count (drop at b)) i 0 ≡ get_or b (at + i) 0 = search (rules, places) in
    let right : get_or (take count (drop at a)) i 0 ≡ get_or a (at + i) 0 = search (rules, places) in
    left ∙ h.outside (at + i) (keeps (at + i) (omega arith) (omega arith)) ∙ sym right)

-- the bytes of a partition and of its record are kept
pub record Keeps (kept : ℕ → Type 0) (size : ℕ) (p : Partition) : Type 0 where
  pub named : (i : ℕ) → record_at p ≤ i → i < record_at p + record_size → kept i
  pub bytes : (i : ℕ) → partition_at size p ≤ i → i < partition_at size p + partition_size size → kept i

module _ (kept : ℕ → Type 0) (a b : List ℕ) (h : IsRefilled kept a b) where
  pub whole-kept : (p : Partition) (image : List ℕ) → Keeps kept (length a) p → Whole a p image → Whole b p image
  whole-kept p image k w = record {
    named = kept-part kept a b h (record_at p) record_size k.named ∙ w.named;
    fits = subst (λ (n : ℕ). length image ≤ partition_size n) (sym h.same_length) w.fits;
    begins = ap (λ (n : ℕ). take (length image) (drop (partition_at n p) b)) h.same_length
        ∙ kept-part kept a b h (partition_at (length a) p) (length image) (λ i le lt. k.bytes i le (omega (arith, w.fits, lt)))
        ∙ w.begins;
  }

  pub is-whole-kept : (p : Partition) → Keeps kept (length a) p → IsWhole a p → IsWhole b p
  is-whole-kept p k w = (w.0, whole-kept p w.0 k w.1)

  pub chosen-kept : kept choice_at → chosen b ≡ chosen a
  chosen-kept k = ap named_by (h.outside choice_at k)

  pub origin-kept : kept origin_at → origin b ≡ origin a
  origin-kept k = ap named_by (h.outside origin_at k)

  -- where both partitions are whole and kept, choice and origin may be anything
  pub sane-both : ((p : Partition) → Keeps kept (length a) p) → ((p : Partition) → IsWhole a p) → Sane b
  sane-both k w = record { chosen = is-whole-kept (chosen b) (k (chosen b)) (w (chosen b)); origin = is-whole-kept (origin b) (k (origin b)) (w (origin b)) }

either-whole : (area : List ℕ) (c o p : Partition) → (o ≡ c → ⊥) → IsWhole area c → IsWhole area o → IsWhole area p
either-whole area Zero Zero p ne w v = absurd (ne refl)
either-whole area One One p ne w v = absurd (ne refl)
either-whole area Zero One Zero ne w v = w
either-whole area Zero One One ne w v = v
either-whole area One Zero Zero ne w v = v
either-whole area One Zero One ne w v = w

-- where choice and origin differ
pub both-whole : (area : List ℕ) → Sane area → (origin area ≡ chosen area → ⊥) → (p : Partition) → IsWhole area p
both-whole area s ne p = either-whole area (chosen area) (origin area) p ne s.chosen s.origin

-- a disk that isn't told may hold anything
pub untold-insane : IsSane None → ⊥
untold-insane s =
    let w = (s [] no_bytes).chosen in
    none (chosen []) w.0 w.1
  where
    no_bytes : All IsByte []
    no_bytes = search rules

    long : (image : List ℕ) → length (record_of image) ≡ 8 + length (sha256 image)
    long image = length-append (to_be_bytes w64 (length image)) (sha256 image)

    empty : (p : Partition) → length (record_in [] p) ≡ 0
    empty Zero = refl
    empty One = refl

    none : (p : Partition) (image : List ℕ) → Whole [] p image → ⊥
    none p image w = absurd (omega (arith, long image, ap length w.named, empty p))

pub may-bytes : (disk : Option Disk) (area : List ℕ) → MayHold disk area → All IsByte area
may-bytes None area h = h
may-bytes (Some d) area h = h.bytes

-- what a settled disk may hold
pub settled-area : (d : Disk) → IsSettled (Some d) → (area : List ℕ) → MayHold (Some d) area → area ≡ d.area
settled-area d s area h = refilled_none (IsSynced d.unsynced) (λ i. subst (λ (u : List Bool). IsSynced u i) (sym s) (unmarked_synced d.unsynced i)) d.area area h

-- ---- a byte

pub byte-names : (p : Partition) → named_by (byte_of p) ≡ p
byte-names Zero = refl
byte-names One = refl

pub choice-apart : (size : ℕ) (p : Partition) → Keeps (IsApart choice_at 1) size p
choice-apart size Zero = record { named = λ i le lt. inr (omega arith); bytes = λ i le lt. inr (omega arith) }
choice-apart size One = record { named = λ i le lt. inr (omega arith); bytes = λ i le lt. inr (omega arith) }

pub origin-apart : (size : ℕ) (p : Partition) → Keeps (IsApart origin_at 1) size p
origin-apart size Zero = record { named = λ i le lt. inr (omega arith); bytes = λ i le lt. inr (omega arith) }
origin-apart size One = record { named = λ i le lt. inr (omega arith); bytes = λ i le lt. inr (omega arith) }

-- the origin names the choice
pub origin-set : (a b : List ℕ) (p : Partition) → 8192 ≤ length a → p ≡ chosen a → b ≡ overwritten origin_at (byte_of p ∷ []) a → Agree b
origin-set a b p long is e =
    ap origin e ∙ ap named_by (overwritten_inside 0 origin_at (byte_of p ∷ []) a (omega arith) 0 (omega arith)) ∙ byte-names p ∙ is
    ∙ sym (ap named_by (overwritten_before 0 origin_at (byte_of p ∷ []) a (omega arith) choice_at (omega arith))) ∙ sym (ap chosen e)

-- the choice is this partition
pub choice-set : (a b : List ℕ) (p : Partition) → 8192 ≤ length a → b ≡ overwritten choice_at (byte_of p ∷ []) a → chosen b ≡ p
choice-set a b p long e = ap chosen e ∙ ap named_by (overwritten_inside 0 choice_at (byte_of p ∷ []) a (omega arith) 0 (omega arith)) ∙ byte-names p
