-- The reader's answer, and the manifest as a text.
use Rattle.std.proofs.Common.{◌≡◌, ◌≢◌, ℕ, ◌-◌, ◌<◌, ◌∙◌, ◌⊎◌, false, ltb, Option, Some, None, ◌≤◌, List, [], ◌∷◌, ◌++◌, length, get_or, Result, Ok, Err, refl, sym, ap, subst, arith, append_assoc, length-append, inl, inr}
use Rattle.std.specs.Prelude.{◌↔◌, position, IsNone, IsSome, IsOk, IfOk, IfErr}
use Rattle.std.specs.Result.{result_ok}
use Rattle.std.specs.List.{All, AllPass, HoldsAt, list_any, position_or_len}
use Rattle.std.specs.Option.{is_some}
use Rattle.std.specs.Str.{bytes_eq}
use Rattle.std.proofs.lemmas.Bool.{both_ways, false_from_ne_true, cond-false, le-ltb}
use Rattle.std.proofs.lemmas.List.{append-nil, get_or_at, get_or_append_left}
use Rattle.std.proofs.lemmas.List.Elements.{All-nil, All-push}
use Rattle.std.proofs.lemmas.List.Folds.{list_any_at, list_any_none}
use Rattle.std.proofs.lemmas.List.Quantifiers.{all_pairs_push, position-Some}
use Rattle.std.proofs.lemmas.List.Sums.{position_or_len_is, fails_before_first}
use Rattle.std.proofs.lemmas.Slice.Eq.{bytes_eq-Decides}
use Rattle.hex.specs.Hex.{decode_sized, encode_lower, is_hex_digit, IsBytes}
use Rattle.hex.specs.declared.error.FromHexError.{FromHexError}
use Rattle.hex.proofs.HexLemmas.{IsOk-decode_sized, decode_sized-encode_lower}
use Rattle.manifest_sums.specs.Spelling.{SpellsSum, AreRight, IsManifest, IsFirstFault, IsWrong, Begins, is_packed}
use Rattle.manifest_sums.specs.Manifest.{has_path, sum_of, most_lines, manifest_of, Answers}
use Rattle.manifest_sums.specs.declared.manifest.Line.{Line}
use Rattle.manifest_sums.specs.declared.manifest.ManifestFault.{ManifestFault}
use Rattle.manifest_sums.specs.declared.manifest.ManifestFault.TheVariants.{TooMany, NoMemory}
use Rattle.upd_text.proofs.TextLemmas.{not_below}
use Rattle.manifest_sums.proofs.FirstLine.{sum_spelled, sum_read}
use Rattle.manifest_sums.proofs.Reading.{RightAfter, lines_read, found_lines}
use Rattle.manifest_sums.proofs.Faults.{fault_stops, line_wrong, stop}

-- ---- right lines, as a list and one behind the other

fresh_at : (found : List Line) (line : Line) → list_any (has_path line.path) found ≡ false → (k : ℕ) (d : Line) → k < length found → (get_or found k d).path ≢ line.path
fresh_at found line h k d lt e = both_ways _ h (list_any_at (has_path line.path) found k d lt ((bytes_eq-Decides (get_or found k d).path line.path).1 e))

right_from : (found lines : List Line) → AreRight found → RightAfter found lines → AreRight (found ++ lines)
right_from found [] a r = rw append-nil a
right_from found (line ∷ lines) a r =
    let pushed : AreRight (found ++ line ∷ []) = record {
      distinct = all_pairs_push (λ x y. x.path ≢ y.path) found line a.distinct (fresh_at found line r.1);
      unpacked = All-push (λ l. is_packed l ≡ false) found line a.unpacked r.0;
    } in
    subst AreRight (append_assoc found (line ∷ []) lines) (right_from (found ++ line ∷ []) lines pushed r.2)

right_to : (found lines : List Line) → AreRight (found ++ lines) → RightAfter found lines
right_to found [] a = tt
right_to found (line ∷ lines) a =
    let long : length found < length (found ++ line ∷ lines) = omega (arith, length-append found (line ∷ lines)) in
    let here : (d : Line) → get_or (found ++ line ∷ lines) (length found) d ≡ line = λ d. get_or_at found line lines d (length found) refl in
    let unpacked : is_packed line ≡ false = ap is_packed (sym (here line)) ∙ a.unpacked (length found) line long in
    let other : (k : ℕ) (d : Line) → k < length found → bytes_eq (get_or found k d).path line.path ≡ false = λ k d lt. false_from_ne_true _ (λ t. a.distinct k (length found) d lt long (ap (λ l. l.path) (get_or_append_left found (line ∷ lines) d k lt) ∙ (bytes_eq-Decides (get_or found k d).path line.path).0 t ∙ ap (λ l. l.path) (sym (here d)))) in
    (unpacked, list_any_none (has_path line.path) found other, right_to (found ++ line ∷ []) lines (subst AreRight (sym (append_assoc found (line ∷ []) lines)) a))

none_right : AreRight []
none_right = record { distinct = λ i j d lt lj. absurd (omega arith); unpacked = All-nil (λ l. is_packed l ≡ false) }

-- ---- both answers

manifest_found : (bytes : List ℕ) (lines : List Line) → manifest_of bytes ≡ Ok lines → IsManifest bytes lines
unfolding manifest_of most_lines
manifest_found bytes lines h =
    let r = found_lines 256 [] bytes lines h in
    record {
      rows = subst (λ l. Begins bytes l []) r.same r.rows;
      right = subst AreRight r.same (right_from [] r.lines none_right r.right);
      few = omega (arith, ap length r.same, r.few);
    }

manifest_only : (bytes : List ℕ) (lines : List Line) → IsManifest bytes lines → manifest_of bytes ≡ Ok lines
unfolding manifest_of most_lines
manifest_only bytes lines m = lines_read 256 (256 - length lines) [] bytes [] lines m.rows (right_to [] lines m.right) (omega (arith, m.few))

pub manifest_text : (bytes : List ℕ) (lines : List Line) → (manifest_of bytes ≡ Ok lines) ↔ IsManifest bytes lines
manifest_text bytes lines = (manifest_found bytes lines, manifest_only bytes lines)

fault_found : (bytes : List ℕ) (fault : ManifestFault) → manifest_of bytes ≡ Err fault → IsFirstFault bytes fault
unfolding manifest_of most_lines
fault_found bytes fault h =
    let s = fault_stops 256 [] bytes fault h in
    record {
      lines = s.lines;
      rest = s.rest;
      rows = s.rows;
      right = right_from [] s.lines none_right s.right;
      wrong = elim s.stops.1 [
        | inl full ↦
            let w : IsWrong s.lines s.rest TooMany = (omega (arith, s.same, full.0), s.stops.0) in
            subst (λ f. IsWrong s.lines s.rest f) (sym full.1) w
        | inr bad ↦ line_wrong s.lines s.rest fault (omega (arith, s.same, bad.0)) s.stops.0 bad.1
      ];
    }

fault_only : (bytes : List ℕ) (fault : ManifestFault) → IsFirstFault bytes fault → manifest_of bytes ≡ Err fault
unfolding manifest_of most_lines
fault_only bytes fault f = stop fault f.lines bytes f.rest f.rows (right_to [] f.lines f.right) f.wrong

pub manifest_fault : (bytes : List ℕ) (fault : ManifestFault) → (manifest_of bytes ≡ Err fault) ↔ IsFirstFault bytes fault
manifest_fault bytes fault = (fault_found bytes fault, fault_only bytes fault)

-- ---- what the call answers

pub gives_found : (r : Result (List Line) ManifestFault) (bytes : List ℕ) → Answers r (manifest_of bytes) → IfOk r (λ lines. IsManifest bytes lines)
gives_found (Ok lines) bytes h = manifest_found bytes lines h
gives_found (Err e) bytes h = tt

pub gives_refused : (r : Result (List Line) ManifestFault) (bytes : List ℕ) → Answers r (manifest_of bytes) → IfErr r (λ e. (e ≡ NoMemory) ⊎ IsFirstFault bytes e)
gives_refused (Ok lines) bytes h = tt
gives_refused (Err e) bytes h = elim h [ inl m ↦ inl m | inr f ↦ inr (fault_found bytes e f) ]

pub gives_only : (r : Result (List Line) ManifestFault) (bytes : List ℕ) → Answers r (manifest_of bytes) → (lines : List Line) → IsManifest bytes lines → (r ≡ Ok lines) ⊎ (r ≡ Err NoMemory)
gives_only (Ok found) bytes h lines m = inl (sym h ∙ manifest_only bytes lines m)
gives_only (Err e) bytes h lines m =
    elim h [
      | inl none ↦ inr (ap Err none)
      | inr f ↦ absurd (let bad : Err e ≡ Ok lines = sym f ∙ manifest_only bytes lines m in cc)
    ]

pub ruleset answers = (gives_found, gives_refused, gives_only)

-- ---- sums

pub sum_both : (digits sum : List ℕ) → (sum_of digits ≡ Some sum) ↔ SpellsSum digits sum
sum_both digits sum = (sum_spelled digits sum, sum_read digits sum)

some_ok : (r : Result (List ℕ) FromHexError) → IsSome (result_ok r) → IsOk r
some_ok (Ok x) h = refl
some_ok (Err e) h = absurd cc

ok_some : (r : Result (List ℕ) FromHexError) → IsOk r → IsSome (result_ok r)
ok_some (Ok x) h = refl
ok_some (Err e) h = absurd cc

pub readable : (digits : List ℕ) → IsSome (sum_of digits) ↔ ((length digits ≡ 64) × AllPass is_hex_digit digits)
readable digits =
    let d = IsOk-decode_sized digits 32 in (
      λ h. d.0 (some_ok (decode_sized digits 32) h),
      λ h. ok_some (decode_sized digits 32) (d.1 h),
    )

pub sum_back : (sum : List ℕ) → length sum ≡ 32 → IsBytes sum → sum_of (encode_lower sum) ≡ Some sum
sum_back sum long h = ap result_ok (decode_sized-encode_lower sum 32 long h)

-- ---- a path's line

absent : (lines : List Line) (path : List ℕ) → position (has_path path) lines ≡ None → All (λ line. line.path ≢ path) lines
absent lines path h k d lt e =
    let all : length lines ≤ position_or_len (has_path path) lines = not_below _ _ _ h in
    both_ways _ (fails_before_first (has_path path) lines k d (omega (arith, all))) ((bytes_eq-Decides (get_or lines k d).path path).1 e)

nowhere : (lines : List Line) (path : List ℕ) → All (λ line. line.path ≢ path) lines → position (has_path path) lines ≡ None
nowhere [] path h = refl
nowhere (l ∷ ls) path h =
    let fails : (k : ℕ) → k < length (l ∷ ls) → has_path path (get_or (l ∷ ls) k l) ≡ false = λ k lt. false_from_ne_true _ (λ t. h k l lt ((bytes_eq-Decides (get_or (l ∷ ls) k l).path path).0 t)) in
    let e : position_or_len (has_path path) (l ∷ ls) ≡ length (l ∷ ls) = position_or_len_is (has_path path) (l ∷ ls) (length (l ∷ ls)) l (omega arith) fails (λ lt. absurd (omega (arith, lt))) in
    cond-false _ _ _ (ap (λ n. ltb n (length (l ∷ ls))) e ∙ le-ltb _ _ (omega arith))

none_is : (o : Option ℕ) → IsNone o → o ≡ None
none_is None h = refl
none_is (Some i) h = absurd cc

pub path_none : (lines : List Line) (path : List ℕ) (o : Option ℕ) → o ≡ position (has_path path) lines → IsNone o ↔ All (λ line. line.path ≢ path) lines
path_none lines path o e = (
  λ h. absent lines path (sym e ∙ none_is o h),
  λ h. ap is_some (e ∙ nowhere lines path h),
)

pub path_some : (lines : List Line) (path : List ℕ) (i : ℕ) → Some i ≡ position (has_path path) lines → HoldsAt (λ line. line.path ≡ path) lines i
path_some lines path i e d = let p = position-Some (has_path path) lines i d (sym e) in (bytes_eq-Decides (get_or lines i d).path path).0 p.1
