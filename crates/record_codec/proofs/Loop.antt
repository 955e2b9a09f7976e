-- Reading items one after the other, as a loop does.
use Rattle.std.proofs.Common.{◌≡◌, ℕ, suc, ◌-◌, ◌+◌, ◌≤◌, ◌<◌, List, [], ◌∷◌, ◌++◌, Result, Ok, Err, refl, sym, ap, ◌∙◌, append_assoc, arith}
use Rattle.std.proofs.lemmas.List.{append-nil}
use Rattle.upd_text.specs.Order.{last_from}
use Rattle.std.specs.Int.{w8}
use Rattle.record_codec.specs.Spelling.{is_kind}
use Rattle.upd_text.specs.Results.{◌>>=◌}
use Rattle.record_codec.specs.Reading.{Rest, items_at, text_at, kinds_at}
use Rattle.upd_text.proofs.OrderLemmas.{last_from-push}

-- what was read before, and what is still read
abbrev pub with_front : {A : Type 0} → List A → Result (List A × Rest) ℕ → Result (List A × Rest) ℕ
with_front front read = read >>= λ x. Ok (front ++ x.0, x.1)

regroup : {A : Type 0} (front : List A) (x : A) (read : Result (List A × Rest) ℕ) → with_front front (read >>= λ y. Ok (x ∷ y.0, y.1)) ≡ with_front (front ++ x ∷ []) read
regroup {A} front x (Ok y) = ap (λ (xs : List A). Ok (xs, y.1)) (simp append_assoc)
regroup front x (Err f) = refl

same : {A : Type 0} (read : Result (List A × Rest) ℕ) → with_front [] read ≡ read
same (Ok x) = refl
same (Err f) = refl

module _ {A : Type 0} (key : A → List ℕ) (item : List ℕ → Rest → Result (A × Rest) ℕ) where
  -- what is left to read after `front`, of `count` items of which `i` were read
  abbrev pub rest_of : ℕ → ℕ → List A → Rest → Result (List A × Rest) ℕ
  rest_of count i front r = with_front front (items_at key item (count - i) (last_from key [] front) r)

  pub goes_on : (front : List A) (count i : ℕ) (r : Rest) (x : A) (after : Rest) (total : Result (List A × Rest) ℕ) → i < count → item (last_from key [] front) r ≡ Ok (x, after)
      → rest_of count i front r ≡ total → rest_of count (i + 1) (front ++ x ∷ []) after ≡ total
  unfolding items_at
  goes_on front count i r x after total lt h so_far =
      let k : count - i ≡ suc (count - (i + 1)) = omega arith in
      let one : rest_of count i front r ≡ rest_of count (i + 1) (front ++ x ∷ []) after = rw (k, h, last_from-push key [] front x) (regroup front x (items_at key item (count - (i + 1)) (key x) after)) in
      sym one ∙ so_far

  pub ends : (offset : ℕ) (front : List A) (count i : ℕ) (r : Rest) (total : Result (List A × Rest) ℕ) → i < count → item (last_from key [] front) r ≡ Err offset
      → rest_of count i front r ≡ total → total ≡ Err offset
  unfolding items_at
  ends offset front count i r total lt h so_far =
      let k : count - i ≡ suc (count - (i + 1)) = omega arith in
      let one : rest_of count i front r ≡ Err offset = rw (k, h) refl in
      sym so_far ∙ one

  pub is_done : (front : List A) (count i : ℕ) (r : Rest) (total : Result (List A × Rest) ℕ) → count ≤ i → rest_of count i front r ≡ total → total ≡ Ok (front, r)
  unfolding items_at
  is_done front count i r total le so_far =
      let k : count - i ≡ 0 = omega arith in
      let one : rest_of count i front r ≡ Ok (front, r) = rw k (ap (λ (xs : List A). Ok (xs, r)) (append-nil front)) in
      sym so_far ∙ one

  pub starts : (count : ℕ) (r : Rest) → rest_of count 0 [] r ≡ items_at key item count [] r
  unfolding items_at
  starts count r = let e : count - 0 ≡ count = omega arith in rw e (same (items_at key item count [] r))

-- ---- payload types, one after the other
pub kinds_go_on : (front : List (List ℕ)) (count i : ℕ) (r : Rest) (x : List ℕ) (after : Rest) (total : Result (List (List ℕ) × Rest) ℕ) → i < count → text_at w8 is_kind r ≡ Ok (x, after)
    → with_front front (kinds_at (count - i) r) ≡ total → with_front (front ++ x ∷ []) (kinds_at (count - (i + 1)) after) ≡ total
unfolding kinds_at
kinds_go_on front count i r x after total lt h so_far =
    let k : count - i ≡ suc (count - (i + 1)) = omega arith in
    let one : with_front front (kinds_at (count - i) r) ≡ with_front (front ++ x ∷ []) (kinds_at (count - (i + 1)) after) = rw (k, h) (regroup front x (kinds_at (count - (i + 1)) after)) in
    sym one ∙ so_far

pub kinds_end : (offset : ℕ) (front : List (List ℕ)) (count i : ℕ) (r : Rest) (total : Result (List (List ℕ) × Rest) ℕ) → i < count → text_at w8 is_kind r ≡ Err offset
    → with_front front (kinds_at (count - i) r) ≡ total → total ≡ Err offset
unfolding kinds_at
kinds_end offset front count i r total lt h so_far =
    let k : count - i ≡ suc (count - (i + 1)) = omega arith in
    let one : with_front front (kinds_at (count - i) r) ≡ Err offset = rw (k, h) refl in
    sym so_far ∙ one

pub kinds_done : (front : List (List ℕ)) (count i : ℕ) (r : Rest) (total : Result (List (List ℕ) × Rest) ℕ) → count ≤ i → with_front front (kinds_at (count - i) r) ≡ total → total ≡ Ok (front, r)
unfolding kinds_at
kinds_done front count i r total le so_far =
    let k : count - i ≡ 0 = omega arith in
    let one : with_front front (kinds_at (count - i) r) ≡ Ok (front, r) = rw k (ap (λ (xs : List (List ℕ)). Ok (xs, r)) (append-nil front)) in
    sym so_far ∙ one
