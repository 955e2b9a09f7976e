-- What the record beside a partition says of it.
use Rattle.std.proofs.Common.{◌≡◌, ◌∙◌, ⊎_elim, ℕ, ◌+◌, ◌<◌, ◌≤◌, Bool, false, List, [], ◌∷◌, ◌++◌, length, get_or, take, drop, refl, sym, ap, subst, arith}
use Rattle.std.specs.Prelude.{◌↔◌, IsTrue, Option, Some, None, IfSome, All}
use Rattle.std.specs.Int.{w64, from_be_bytes, to_be_bytes}
use Rattle.std.specs.Str.{bytes_eq}
use Rattle.std.proofs.lemmas.List.{take_all, take-append-drop, length-drop, length-take-le, get_or_past}
use Rattle.std.proofs.lemmas.List.Elements.{All-take, All-drop}
use Rattle.std.proofs.lemmas.Nat.{be_bytes_8}
use Rattle.std.proofs.lemmas.Bool.{cases_lt}
use Rattle.std.proofs.lemmas.Slice.Eq.{bytes_eq-Decides}
use Rattle.sha2.specs.Sha256.{sha256}
use Rattle.device_model.specs.Disk.{Disk, IsByte, IsWhole, area_of}
use Rattle.ab_image.specs.declared.partition.Partition.{Partition}
use Rattle.ab_image.specs.declared.partition.Partition.TheVariants.{Zero, One}
use Rattle.ab_image.specs.Layout.{record_at, record_size, partition_size, partition_at, record_in, length_in, front_of, Whole, IsReady}
use Rattle.ab_image.proofs.Areas.{halves}

pub take-eight : (xs : List ℕ) → 8 ≤ length xs → get_or xs 0 0 ∷ (get_or xs 1 0 ∷ (get_or xs 2 0 ∷ (get_or xs 3 0 ∷ (get_or xs 4 0 ∷ (get_or xs 5 0 ∷ (get_or xs 6 0 ∷ (get_or xs 7 0 ∷ []))))))) ≡ take 8 xs
take-eight (a ∷ (b ∷ (c ∷ (d ∷ (e ∷ (f ∷ (g ∷ (h ∷ rest)))))))) long = refl
take-eight (a ∷ (b ∷ (c ∷ (d ∷ (e ∷ (f ∷ (g ∷ []))))))) long = absurd (omega arith)
take-eight (a ∷ (b ∷ (c ∷ (d ∷ (e ∷ (f ∷ [])))))) long = absurd (omega arith)
take-eight (a ∷ (b ∷ (c ∷ (d ∷ (e ∷ []))))) long = absurd (omega arith)
take-eight (a ∷ (b ∷ (c ∷ (d ∷ [])))) long = absurd (omega arith)
take-eight (a ∷ (b ∷ (c ∷ []))) long = absurd (omega arith)
take-eight (a ∷ (b ∷ [])) long = absurd (omega arith)
take-eight (a ∷ []) long = absurd (omega arith)
take-eight [] long = absurd (omega arith)

module _ (size : ℕ) (p : Partition) (bytes sum : List ℕ) (long : length bytes ≡ record_size) where
  -- the record names a length that fits, and the sum
  abbrev Names : Type 0
  Names = (from_be_bytes w64 (take 8 bytes) ≤ partition_size size) × (drop 8 bytes ≡ sum)

  there : (area : List ℕ) → bytes ≡ take (length bytes) (drop (record_at p) area) → record_in area p ≡ bytes
  there area is = ap (λ n. take n (drop (record_at p) area)) (sym long) ∙ sym is

  pub unready : (disk : Option Disk) → IsWhole size disk → IfSome disk (λ d. bytes ≡ take (length bytes) (drop (record_at p) d.area)) → (b : Bool) → b ≡ false → IsTrue b ↔ Names
      → IfSome (area_of disk) (λ area. IsTrue false ↔ IsReady area p sum)
  unready None w is b e names = tt
  unready (Some d) w is b e names = (
    λ f. absurd cc,
    λ r.
        let here = there d.area is in
        let fits : from_be_bytes w64 (take 8 bytes) ≤ partition_size size = rw (← here, ← w.size) r.fits in
        let named : drop 8 bytes ≡ sum = rw (← here) r.named in
        rw e at (names.1 (fits, named)),
  )

  pub ready : (disk : Option Disk) → IsWhole size disk → IfSome disk (λ d. bytes ≡ take (length bytes) (drop (record_at p) d.area)) → Names
      → (len : ℕ) → len ≡ from_be_bytes w64 (take 8 bytes) → (found : List ℕ) → IfSome (area_of disk) (λ area. found ≡ sha256 (take len (drop (partition_at size p) area))) → (r : Bool) → r ≡ bytes_eq found sum
      → IfSome (area_of disk) (λ area. IsTrue r ↔ IsReady area p sum)
  ready None w is names len count found has r e = tt
  ready (Some d) w is names len count found has r e =
      let here = there d.area is in
      let same : length_in d.area p ≡ len = ap (λ (b : List ℕ). from_be_bytes w64 (take 8 b)) here ∙ sym count in
      let front : front_of d.area p (length_in d.area p) ≡ take len (drop (partition_at size p) d.area) = ap (λ (n : ℕ). take n (drop (partition_at (length d.area) p) d.area)) same ∙ ap (λ (n : ℕ). take len (drop (partition_at n p) d.area)) w.size in
      let summed : found ≡ sha256 (front_of d.area p (length_in d.area p)) = has ∙ ap sha256 (sym front) in
      let decides = bytes_eq-Decides found sum in (
        λ yes. record {
          fits = subst (λ (n : ℕ). length_in d.area p ≤ partition_size n) (sym w.size) (subst (λ (b : List ℕ). from_be_bytes w64 (take 8 b) ≤ partition_size size) (sym here) names.0);
          named = ap (drop 8) here ∙ names.1;
          found = sym summed ∙ decides.0 (sym e ∙ yes);
        },
        λ r. e ∙ decides.1 (summed ∙ r.found),
      )

-- whether a record names a length and a sum
pub names-both : (len count most : ℕ) (bytes sum : List ℕ) (b : Bool) → length bytes ≡ record_size → len ≡ count → len ≤ most → b ≡ bytes_eq (take 32 (drop 8 bytes)) sum → IsTrue b ↔ ((count ≤ most) × (drop 8 bytes ≡ sum))
names-both len count most bytes sum b long same fits e =
    let all : take 32 (drop 8 bytes) ≡ drop 8 bytes = take_all 32 (drop 8 bytes) (omega (arith, length-drop 8 bytes, long)) in
    let decides = bytes_eq-Decides (drop 8 bytes) sum in
    let test : b ≡ bytes_eq (drop 8 bytes) sum = e ∙ ap (λ (l : List ℕ). bytes_eq l sum) all in
    (λ yes. (subst (λ n. n ≤ most) same fits, decides.0 (sym test ∙ yes)), λ h. test ∙ decides.1 h.1)

-- ---- a partition that is ready is whole

room : (size : ℕ) (p : Partition) → 8192 ≤ size → partition_at size p + partition_size size ≤ size
room size Zero long = omega (arith, halves size long)
room size One long = omega (arith, halves size long)

record-room : (p : Partition) → record_at p + record_size ≤ 8192
record-room Zero = omega arith
record-room One = omega arith

small : (xs : List ℕ) → All IsByte xs → (i : ℕ) → get_or xs i 0 < 256
small xs bytes i = ⊎_elim
    (λ (lt : i < length xs). bytes i 0 lt)
    (λ (le : length xs ≤ i). subst (λ n. n < 256) (sym (get_or_past xs i 0 le)) (omega arith))
    (cases_lt i (length xs))

pub ready-whole : (area : List ℕ) (p : Partition) (sum : List ℕ) → All IsByte area → 8192 ≤ length area → IsReady area p sum → (image : List ℕ) × Whole area p image × (sha256 image ≡ sum)
ready-whole area p sum bytes long r =
    let count = length_in area p in
    let image = front_of area p count in
    let fits : length image ≡ count = length-take-le count (drop (partition_at (length area) p) area) (omega (arith, length-drop (partition_at (length area) p) area, room (length area) p long, r.fits)) in
    let named = record_in area p in
    let forty : length named ≡ record_size = length-take-le record_size (drop (record_at p) area) (omega (arith, length-drop (record_at p) area, record-room p, long)) in
    let eight : length (take 8 named) ≡ 8 = length-take-le 8 named (omega (arith, forty)) in
    let number : to_be_bytes w64 count ≡ take 8 named = be_bytes_8 (take 8 named) count eight (small (take 8 named) (All-take IsByte 8 named (All-take IsByte record_size (drop (record_at p) area) (All-drop IsByte (record_at p) area bytes)))) refl in (
      image,
      record {
        named = sym (take-append-drop 8 named) ∙ ap (λ (l : List ℕ). l ++ drop 8 named) (sym number ∙ ap (to_be_bytes w64) (sym fits)) ∙ ap (λ (l : List ℕ). to_be_bytes w64 (length image) ++ l) (r.named ∙ sym r.found);
        fits = subst (λ n. n ≤ partition_size (length area)) (sym fits) r.fits;
        begins = ap (front_of area p) fits;
      },
      r.found,
    )
