-- Areas that differ in some places alone.
use Rattle.std.proofs.Common.{◌≡◌, ◌⊎◌, inl, inr, ⊎_elim, ℕ, ◌+◌, ◌-◌, ◌<◌, ◌≤◌, Bool, true, false, List, ◌++◌, length, get_or, take, drop, replicate, refl, sym, ◌∙◌, ap, arith, rules, length-append}
use Rattle.std.specs.Prelude.{All}
use Rattle.std.proofs.lemmas.Bool.{cases_lt}
use Rattle.std.proofs.lemmas.List.{ext_get_or, places, length-take, length-drop, length-replicate, get_or-replicate, get_or_past}
use Rattle.std.proofs.lemmas.List.Elements.{All-append, All-take, All-drop}
use Rattle.device_model.specs.Disk.{IsApart, IsByte, IsRefilled, IsSynced, overwritten, marked, unmarked}

pub refilled_self : (kept : ℕ → Type 0) (a : List ℕ) → All IsByte a → IsRefilled kept a a
refilled_self kept a bytes = record { same_length = refl; bytes = bytes; outside = λ i out. refl }

-- where all is kept
pub refilled_none : (kept : ℕ → Type 0) → ((i : ℕ) → kept i) → (a b : List ℕ) → IsRefilled kept a b → b ≡ a
refilled_none kept all a b h = ext_get_or 0 b a h.same_length (λ i lt. h.outside i (all i))

pub refilled_trans : (kept : ℕ → Type 0) (a b c : List ℕ) → IsRefilled kept a b → IsRefilled kept b c → IsRefilled kept a c
refilled_trans kept a b c h k = record {
  same_length = k.same_length ∙ h.same_length;
  bytes = k.bytes;
  outside = λ i out. k.outside i out ∙ h.outside i out;
}

pub refilled_wider : (kept less : ℕ → Type 0) (a b : List ℕ) → ((i : ℕ) → less i → kept i) → IsRefilled kept a b → IsRefilled less a b
refilled_wider kept less a b wider h = record { same_length = h.same_length; bytes = h.bytes; outside = λ i out. h.outside i (wider i out) }

module _ {A : Type 0} (d : A) (at : ℕ) (xs all : List A) (fits : at + length xs ≤ length all) where
  pub length-overwritten : length (overwritten at xs all) ≡ length all
  length-overwritten = omega (arith, length-append (take at all ++ xs) (drop (at + length xs) all), length-append (take at all) xs, length-take at all, length-drop (at + length xs) all)

  pub overwritten_before : (i : ℕ) → i < at → get_or (overwritten at xs all) i d ≡ get_or all i d
  overwritten_before i lt = search (rules, places)

  pub overwritten_behind : (i : ℕ) → at + length xs ≤ i → get_or (overwritten at xs all) i d ≡ get_or all i d
  overwritten_behind i le = search (rules, places)

  pub overwritten_inside : (k : ℕ) → k < length xs → get_or (overwritten at xs all) (at + k) d ≡ get_or xs k d
  overwritten_inside k lt = search (rules, places)

-- what is synced after a range was marked was synced before, and lies apart from it
pub marked_apart : (at count : ℕ) (unsynced : List Bool) → at + count ≤ length unsynced → (i : ℕ) → IsSynced (marked at count unsynced) i → IsSynced unsynced i × IsApart at count i
marked_apart at count unsynced fits i h =
    let size : length (replicate count true) ≡ count = length-replicate count true in
    let room : at + length (replicate count true) ≤ length unsynced = omega (arith, size) in
    ⊎_elim
    (λ (lt : i < at). (sym (overwritten_before false at (replicate count true) unsynced room i lt) ∙ h, inl lt))
    (λ (ge : at ≤ i). ⊎_elim
    (λ (inside : i < at + count).
    let k : i ≡ at + (i - at) = omega arith in
    let one : get_or (replicate count true) (i - at) false ≡ true = get_or-replicate count (i - at) true false (omega arith) in
    let yes : get_or (marked at count unsynced) i false ≡ true = ap (λ (j : ℕ). get_or (marked at count unsynced) j false) k ∙ overwritten_inside false at (replicate count true) unsynced room (i - at) (omega (arith, size)) ∙ one in
    let no : true ≡ false = sym yes ∙ h in
    absurd cc)
    (λ (behind : at + count ≤ i). (sym (overwritten_behind false at (replicate count true) unsynced room i (omega (arith, size))) ∙ h, inr behind))
    (cases_lt i (at + count)))
    (cases_lt i at)

-- what was synced and lies apart from the range still is
pub synced_marked : (at count : ℕ) (unsynced : List Bool) → at + count ≤ length unsynced → (i : ℕ) → IsSynced unsynced i → IsApart at count i → IsSynced (marked at count unsynced) i
synced_marked at count unsynced fits i h apart =
    let size : length (replicate count true) ≡ count = length-replicate count true in
    let room : at + length (replicate count true) ≤ length unsynced = omega (arith, size) in
    ⊎_elim
    (λ (lt : i < at). overwritten_before false at (replicate count true) unsynced room i lt ∙ h)
    (λ (behind : at + count ≤ i). overwritten_behind false at (replicate count true) unsynced room i (omega (arith, size)) ∙ h)
    apart

pub unmarked_synced : (unsynced : List Bool) (i : ℕ) → IsSynced (unmarked unsynced) i
unmarked_synced unsynced i = ⊎_elim
    (λ (lt : i < length unsynced). get_or-replicate (length unsynced) i false false lt)
    (λ (le : length unsynced ≤ i). get_or_past (unmarked unsynced) i false (omega (arith, length-replicate (length unsynced) false)))
    (cases_lt i (length unsynced))

-- a refill of what isn't kept and of a range is a refill of what isn't kept, and then of the range
module _ (kept : ℕ → Type 0) (at count : ℕ) (a b : List ℕ) (fits : at + count ≤ length a) (small : All IsByte a) (h : IsRefilled (λ i. kept i × IsApart at count i) a b) where
  abbrev part : List ℕ
  part = take count (drop at a)

  abbrev between : List ℕ
  between = overwritten at part b

  length-part : length part ≡ count
  length-part = omega (arith, length-take count (drop at a), length-drop at a)

  fits_b : at + length part ≤ length b
  fits_b = omega (arith, length-part, h.same_length)

  old_at : (k : ℕ) → k < count → get_or part k 0 ≡ get_or a (at + k) 0
  old_at k lt = search (rules, places)

  between_bytes : All IsByte between
  between_bytes = All-append IsByte _ _ (All-append IsByte _ _ (All-take IsByte at b h.bytes) (All-take IsByte count (drop at a) (All-drop IsByte at a small))) (All-drop IsByte (at + length part) b h.bytes)

  between_outside : (i : ℕ) → kept i → get_or between i 0 ≡ get_or a i 0
  between_outside i out =
      ⊎_elim
      (λ (lt : i < at). overwritten_before 0 at part b fits_b i lt ∙ h.outside i (out, inl lt))
      (λ (ge : at ≤ i). ⊎_elim
      (λ (inside : i < at + count).
      ap (λ (j : ℕ). get_or between j 0) (omega arith) ∙ overwritten_inside 0 at part b fits_b (i - at) (omega (arith, length-part)) ∙ old_at (i - at) (omega arith) ∙ ap (λ (j : ℕ). get_or a j 0) (omega arith))
      (λ (behind : at + count ≤ i). overwritten_behind 0 at part b fits_b i (omega (arith, length-part)) ∙ h.outside i (out, inr behind))
      (cases_lt i (at + count)))
      (cases_lt i at)

  pub refilled_split : (d : List ℕ) × IsRefilled kept a d × IsRefilled (IsApart at count) d b
  refilled_split = (
    between,
    record { same_length = length-overwritten 0 at part b fits_b ∙ h.same_length; bytes = between_bytes; outside = between_outside },
    record {
      same_length = sym (length-overwritten 0 at part b fits_b);
      bytes = h.bytes;
      outside = λ i out. ⊎_elim (λ (lt : i < at). sym (overwritten_before 0 at part b fits_b i lt)) (λ (le : at + count ≤ i). sym (overwritten_behind 0 at part b fits_b i (omega (arith, length-part)))) out;
    },
  )
