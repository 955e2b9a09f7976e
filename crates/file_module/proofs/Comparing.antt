-- What is saved against the target, piece by piece.
use Rattle.std.proofs.Common.{◌≡◌, ◌≢◌, ℕ, Bool, ◌+◌, ◌-◌, ◌<◌, ◌≤◌, true, false, List, ◌++◌, length, take, drop, sym, ◌∙◌, ap, subst, arith}
use Rattle.std.specs.Prelude.{Option, Some, None, option_map, MatchBool}
use Rattle.std.proofs.lemmas.List.{take_rest, length-append, length-drop, length-take-le}
use Rattle.std.proofs.Math.Seq.{take-length}
use Rattle.file_module.specs.Contents.{Contents}
use Rattle.file_module.specs.Calls.{Gives}
use Rattle.file_module.specs.Copying.{piece, rest}
use Rattle.file_module.proofs.Pieces.{piece_of, piece_more, drop_more}

-- what two reads gave is the same, or isn't
pub pieces_same : (saved target : Option (List ℕ)) (at from : ℕ) (into beside : List ℕ) (count : ℕ) → Gives saved at into → Gives target from beside → length into ≡ count → length beside ≡ count → into ≡ beside → piece at count saved ≡ piece from count target
pieces_same saved target at from into beside count g h m n same = sym (piece_of saved at count into g m) ∙ same ∙ piece_of target from count beside h n

pub pieces_differ : (saved target : Option (List ℕ)) (at from : ℕ) (into beside : List ℕ) (count : ℕ) → Gives saved at into → Gives target from beside → length into ≡ count → length beside ≡ count → into ≢ beside → piece at count saved ≢ piece from count target
pieces_differ saved target at from into beside count g h m n differ same = differ (piece_of saved at count into g m ∙ same ∙ sym (piece_of target from count beside h n))

-- a piece more is the same
pub compared_more : (saved target : Option (List ℕ)) (at count : ℕ) → 1 ≤ at → piece 1 (at - 1) saved ≡ piece 0 (at - 1) target → piece at count saved ≡ piece (at - 1) count target → piece 1 (at + count - 1) saved ≡ piece 0 (at + count - 1) target
compared_more saved target at count le before next =
    let at_is : at - 1 - 0 ≡ at - 1 = omega arith in
    let count_is : at - 1 + count - 0 ≡ at + count - 1 = omega arith in
    sym (piece_more saved 1 at count le)
    ∙ ap (λ (l : List ℕ). l ++ piece at count saved) before
    ∙ ap (λ (l : List ℕ). piece 0 (at - 1) target ++ l) next
    ∙ ap (λ (n : ℕ). piece 0 n target ++ piece (at - 1) count target) (sym at_is)
    ∙ piece_more target 0 (at - 1) count (omega arith)
    ∙ ap (λ (n : ℕ). piece 0 n target) count_is

pub compared_step : (old mid : Contents) (same : Bool) (at count n : ℕ) → 1 ≤ at → mid ≡ old → same ≡ true → n ≡ count → piece 1 (at - 1) old.saved ≡ piece 0 (at - 1) old.target
    → MatchBool same (piece at n mid.saved ≡ piece (at - 1) n mid.target) (piece at n mid.saved ≢ piece (at - 1) n mid.target)
    → piece 1 (at + count - 1) old.saved ≡ piece 0 (at + count - 1) old.target
compared_step old mid false at count n le still is long before next = absurd (cc)
compared_step old mid true at count n le still is long before next =
    let here : piece at n old.saved ≡ piece (at - 1) n old.target = subst (λ (m : Contents). piece at n m.saved ≡ piece (at - 1) n m.target) still next in
    compared_more old.saved old.target at count le before (subst (λ (k : ℕ). piece at k old.saved ≡ piece (at - 1) k old.target) long here)

-- all of it is the same
pub compared_all : (saved target : Option (List ℕ)) (size at : ℕ) → option_map length saved ≡ Some size → option_map length target ≡ Some (size - 1) → at ≡ size → piece 1 (at - 1) saved ≡ piece 0 (at - 1) target → target ≡ Some (rest 1 saved)
compared_all None target size at m n end same = absurd (cc)
compared_all (Some bytes) None size at m n end same = absurd (cc)
compared_all (Some bytes) (Some found) size at m n end same =
    let long : length bytes ≡ at = let is : length bytes ≡ size = cc in is ∙ sym end in
    let short : length found ≡ at - 1 = let is : length found ≡ size - 1 = cc in is ∙ ap (λ (k : ℕ). k - 1) (sym end) in
    let left : take (at - 1) (drop 1 bytes) ≡ drop 1 bytes = ap (λ (k : ℕ). take (k - 1) (drop 1 bytes)) (sym long) ∙ take_rest bytes 1 in
    let right : take (at - 1) found ≡ found = ap (λ (k : ℕ). take k found) (sym short) ∙ take-length found in
    ap Some (sym right ∙ sym same ∙ left)

-- a piece differs, so all of it does
pub differs_in : (bytes : List ℕ) (at count : ℕ) → 0 < at → take count (drop (at - 1) (drop 1 bytes)) ≡ take count (drop at bytes)
differs_in bytes at count past =
    let at_is : 1 + (at - 1) ≡ at = omega arith in
    ap (λ (l : List ℕ). take count l) (sym (drop_more 1 (at - 1) bytes) ∙ ap (λ (k : ℕ). drop k bytes) at_is)

pub differs : (saved target : Option (List ℕ)) (at count size : ℕ) → 0 < at → option_map length saved ≡ Some size → piece at count saved ≢ piece (at - 1) count target → target ≢ Some (rest 1 saved)
differs None target at count size past there differ same = absurd (cc)
differs (Some bytes) target at count size past there differ same =
    differ (sym (differs_in bytes at count past) ∙ ap (λ (o : Option (List ℕ)). piece (at - 1) count o) (sym same))

-- it has another length
pub other_length : (saved target : Option (List ℕ)) (size : ℕ) → option_map length saved ≡ Some size → option_map length target ≢ Some (size - 1) → target ≢ Some (rest 1 saved)
other_length None target size there differ same = absurd (cc)
other_length (Some bytes) target size there differ same =
    let long : length bytes ≡ size = cc in
    differ (ap (λ (o : Option (List ℕ)). option_map length o) same ∙ ap Some (length-drop 1 bytes ∙ ap (λ (n : ℕ). n - 1) long))

-- a front is written anew
pub refilled : (new old : List ℕ) (count n : ℕ) → length new ≡ length (take count old) → count ≤ length old → length old ≡ n → length (new ++ drop count old) ≡ n
refilled new old count n same le long =
    let whole : length (new ++ drop count old) ≡ length new + length (drop count old) = length-append new (drop count old) in
    let front : length new ≡ count = same ∙ length-take-le count old le in
    let back : length (drop count old) ≡ length old - count = length-drop count old in
    omega arith
