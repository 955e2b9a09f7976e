-- The first line of bytes, read and spelled.
use Rattle.std.proofs.Common.{◌≡◌, ◌≢◌, ℕ, ◌+◌, ◌<◌, ◌∙◌, Bool, true, false, cond, eqb, ltb, List, [], ◌∷◌, ◌++◌, length, get_or, take, drop, Option, Some, None, Result, Ok, Err, refl, sym, ap, arith, zero, suc, length-append, append_assoc, take-append-drop, drop-cons, take_at, drop_at}
use Rattle.std.specs.Prelude.{position, codes, IsOk}
use Rattle.std.specs.List.{All, position_or_len}
use Rattle.std.specs.Option.{option_map, option_and_then}
use Rattle.std.specs.Result.{result_ok}
use Rattle.std.specs.Str.{bytes_eq}
use Rattle.std.proofs.lemmas.Bool.{le-ltb, lt-ltb, eqb-true, ne_eqb}
use Rattle.std.proofs.lemmas.List.Elements.{All-head, All-tail, All-append}
use Rattle.std.proofs.lemmas.List.Quantifiers.{position-Some}
use Rattle.std.proofs.lemmas.Slice.Eq.{bytes_eq-Decides}
use Rattle.hex.specs.Hex.{decode_sized, is_hex_digit}
use Rattle.hex.specs.declared.error.FromHexError.{FromHexError}
use Rattle.hex.proofs.HexLemmas.{decode_sized-twice, decode_sized-ok, IsOk-decode_sized}
use Rattle.upd_text.specs.Text.{name_of, unless_bad, is_bad, IsName}
use Rattle.upd_text.specs.declared.fault.NameFault.{NameFault}
use Rattle.upd_text.specs.declared.fault.NameFault.TheVariants.{Empty, TooLong}
use Rattle.upd_text.proofs.FormLemmas.{name_is}
use Rattle.manifest_sums.specs.Spelling.{SpellsSum, SpellsLine, Begins}
use Rattle.manifest_sums.specs.Manifest.{is_newline, sum_of, with_path, with_sum, line_of, next_line}
use Rattle.manifest_sums.specs.declared.manifest.Line.{Line}

-- ---- where the newline stands

-- behind a front on which the test fails, it passes first at the element that follows
first_behind : (p : ℕ → Bool) (front : List ℕ) (y : ℕ) (rest : List ℕ) → All (λ b. p b ≡ false) front → p y ≡ true → position_or_len p (front ++ y ∷ rest) ≡ length front
first_behind p [] y rest none here = rw here refl
first_behind p (x ∷ xs) y rest none here =
    let e : p x ≡ false = All-head (λ b. p b ≡ false) x xs none in
    let ih = first_behind p xs y rest (All-tail (λ b. p b ≡ false) x xs none) here in
    rw e (omega (arith, ih))

position_behind : (front rest : List ℕ) → All (λ b. is_newline b ≡ false) front → position is_newline (front ++ 10 ∷ rest) ≡ Some (length front)
position_behind front rest none =
    let e = first_behind is_newline front 10 rest none refl in
    let lt : length front < length (front ++ 10 ∷ rest) = omega (arith, length-append front (10 ∷ rest)) in
    rw (e, lt-ltb _ _ lt) refl

not_newline : (b : ℕ) → b ≢ 10 → is_newline b ≡ false
not_newline b h = ne_eqb b 10 h

name_without : (path : List ℕ) → IsName path → All (λ b. is_newline b ≡ false) path
name_without path h k d lt = let g = ((name_is path).0 h).good k d lt in not_newline (get_or path k d) (λ e. absurd (omega (arith, e, g.0)))

hex_not_newline : (c : ℕ) → is_hex_digit c ≡ true → is_newline c ≡ false
hex_not_newline c h = not_newline c (λ e. let w : is_hex_digit 10 ≡ true = rw e at h in cc w)

ok_here : (r : Result (List ℕ) FromHexError) (sum : List ℕ) → r ≡ Ok sum → IsOk r
ok_here r sum h = rw h refl

-- digits that spell a sum
sized : (digits sum : List ℕ) → SpellsSum digits sum → decode_sized digits 32 ≡ Ok sum
sized digits sum s = decode_sized-twice digits 32 s.long ∙ s.value

digits_without : (digits sum : List ℕ) → SpellsSum digits sum → All (λ b. is_newline b ≡ false) digits
digits_without digits sum s k d lt =
    let good = ((IsOk-decode_sized digits 32).0 (ok_here _ sum (sized digits sum s))).1 in
    hex_not_newline (get_or digits k d) (good k d lt)

two_spaces : All (λ b. is_newline b ≡ false) (codes "  ")
two_spaces zero d lt = refl
two_spaces (suc zero) d lt = refl
two_spaces (suc (suc k)) d lt = absurd (omega arith)

-- ---- the bytes before the newline

line_cong : (a b : Bool) (s : Option (List ℕ)) (bytes sum path : List ℕ) → a ≡ false → b ≡ true → s ≡ Some sum → name_of bytes ≡ Ok path → cond a None (cond b (with_sum s bytes) None) ≡ Some (record { path = path; sum = sum })
line_cong a b s bytes sum path ea eb es en = rw (ea, eb, es, en) refl

line_from : (text digits sum path : List ℕ) → text ≡ digits ++ (codes "  " ++ path) → SpellsSum digits sum → IsName path → line_of text ≡ Some (record { path = path; sum = sum })
unfolding line_of
line_from text digits sum path e s n =
    let len : length text ≡ 64 + (2 + length path) = ap length e ∙ omega (arith, length-append digits (codes "  " ++ path), s.long) in
    let t : take 64 text ≡ digits = ap (take 64) e ∙ take_at digits (codes "  " ++ path) 64 s.long in
    let d : drop 64 text ≡ codes "  " ++ path = ap (drop 64) e ∙ drop_at digits (codes "  " ++ path) 64 s.long in
    line_cong (ltb (length text) 66) (bytes_eq (take 2 (drop 64 text)) (codes "  ")) (sum_of (take 64 text)) (drop 2 (drop 64 text)) sum path
    (le-ltb (length text) 66 (omega (arith, len)))
    (ap (λ x. bytes_eq (take 2 x) (codes "  ")) d)
    (ap sum_of t ∙ ap result_ok (sized digits sum s))
    (ap (λ x. name_of (drop 2 x)) d ∙ n)

path_parts : (sum : List ℕ) (r : Result (List ℕ) NameFault) (line : Line) → with_path sum r ≡ Some line → (sum ≡ line.sum) × (r ≡ Ok line.path)
path_parts sum (Err fault) line h = absurd cc
path_parts sum (Ok path) line h =
    let e : record { path = path; sum = sum } ≡ line = cc in
    (ap (λ l. l.sum) e, ap (λ l. Ok l.path) e)

line_tests : (a b : Bool) (s : Option (List ℕ)) (bytes : List ℕ) (line : Line) → cond a None (cond b (with_sum s bytes) None) ≡ Some line → (a ≡ false) × (b ≡ true) × (s ≡ Some line.sum) × (name_of bytes ≡ Ok line.path)
line_tests true b s bytes line h = absurd cc
line_tests false false s bytes line h = absurd cc
line_tests false true None bytes line h = absurd cc
line_tests false true (Some sum) bytes line h = let p = path_parts sum (name_of bytes) line h in (refl, refl, ap Some p.0, p.1)

name_by : (a b : Bool) (p : Option ℕ) (bytes path : List ℕ) → cond a (Err Empty) (cond b (Err TooLong) (unless_bad bytes p)) ≡ Ok path → bytes ≡ path
name_by true b p bytes path h = absurd cc
name_by false true p bytes path h = absurd cc
name_by false false (Some i) bytes path h = absurd cc
name_by false false None bytes path h = cc

name_same : (bytes path : List ℕ) → name_of bytes ≡ Ok path → bytes ≡ path
unfolding name_of
name_same bytes path h = name_by (eqb (length bytes) 0) (ltb 128 (length bytes)) (position is_bad bytes) bytes path h

sum_parts : (r : Result (List ℕ) FromHexError) (sum : List ℕ) → result_ok r ≡ Some sum → r ≡ Ok sum
sum_parts (Ok x) sum h = cc
sum_parts (Err e) sum h = absurd cc

pub sum_spelled : (digits sum : List ℕ) → sum_of digits ≡ Some sum → SpellsSum digits sum
sum_spelled digits sum h =
    let r = sum_parts (decode_sized digits 32) sum h in
    let long : length digits ≡ 64 = omega (arith, decode_sized-ok digits 32 sum r) in
    record { long = long; value = sym (decode_sized-twice digits 32 long) ∙ r }

pub sum_read : (digits sum : List ℕ) → SpellsSum digits sum → sum_of digits ≡ Some sum
sum_read digits sum s = ap result_ok (sized digits sum s)

line_spelled : (text : List ℕ) (line : Line) → line_of text ≡ Some line → SpellsLine (text ++ 10 ∷ []) line
unfolding line_of
line_spelled text line h =
    let t = line_tests (ltb (length text) 66) (bytes_eq (take 2 (drop 64 text)) (codes "  ")) (sum_of (take 64 text)) (drop 2 (drop 64 text)) line h in
    let spaces : take 2 (drop 64 text) ≡ codes "  " = (bytes_eq-Decides _ _).0 t.1 in
    let path : drop 2 (drop 64 text) ≡ line.path = name_same _ _ t.3 in
    let name : name_of line.path ≡ Ok line.path = rw path at t.3 in
    let back : drop 64 text ≡ codes "  " ++ line.path = sym (take-append-drop 2 (drop 64 text)) ∙ ap (λ x. x ++ drop 2 (drop 64 text)) spaces ∙ ap (λ x. codes "  " ++ x) path in
    let whole : text ≡ take 64 text ++ codes "  " ++ line.path = sym (take-append-drop 64 text) ∙ ap (λ x. take 64 text ++ x) back ∙ sym (append_assoc (take 64 text) (codes "  ") line.path) in
    record {
      digits = take 64 text;
      sum = sum_spelled (take 64 text) line.sum t.2;
      path = name;
      parts = ap (λ x. x ++ 10 ∷ []) whole;
    }

-- ---- the first line

abbrev pub paired : Line → List ℕ → Line × List ℕ
paired line rest = (line, rest)

first_from : (bytes rest : List ℕ) (line : Line) (at : ℕ) → position is_newline bytes ≡ Some at → line_of (take at bytes) ≡ Some line → drop 1 (drop at bytes) ≡ rest → next_line bytes ≡ Some (line, rest)
unfolding next_line
first_from bytes rest line at p q r =
    ap (λ o. option_and_then (λ i. option_map (λ l. (l, drop 1 (drop i bytes))) (line_of (take i bytes))) o) p
    ∙ ap (λ o. option_map (λ l. (l, drop 1 (drop at bytes))) o) q
    ∙ ap (λ x. Some (line, x)) r

pub spelled_first : (bytes rest : List ℕ) (line : Line) → Begins bytes (line ∷ []) rest → next_line bytes ≡ Some (line, rest)
spelled_first bytes rest line b =
    let s : SpellsLine b.0 line = b.3 in
    let front = s.digits ++ codes "  " ++ line.path in
    let whole : bytes ≡ front ++ 10 ∷ rest = b.2 ∙ ap (λ x. x ++ b.1) s.parts ∙ append_assoc front (10 ∷ []) b.1 ∙ ap (λ x. front ++ 10 ∷ x) b.4 in
    let none : All (λ c. is_newline c ≡ false) front = All-append (λ c. is_newline c ≡ false) (s.digits ++ codes "  ") line.path (All-append (λ c. is_newline c ≡ false) s.digits (codes "  ") (digits_without s.digits line.sum s.sum) two_spaces) (name_without line.path s.path) in
    let p : position is_newline bytes ≡ Some (length front) = ap (position is_newline) whole ∙ position_behind front rest none in
    let t : take (length front) bytes ≡ front = ap (take (length front)) whole ∙ take_at front (10 ∷ rest) (length front) refl in
    let d : drop (length front) bytes ≡ 10 ∷ rest = ap (drop (length front)) whole ∙ drop_at front (10 ∷ rest) (length front) refl in
    first_from bytes rest line (length front) p (ap line_of t ∙ line_from front s.digits line.sum line.path (append_assoc s.digits (codes "  ") line.path) s.sum s.path) (ap (drop 1) d)

with_rest : (o : Option Line) (r : List ℕ) (line : Line) (rest : List ℕ) → option_map {U = Line × List ℕ} (λ l. (l, r)) o ≡ Some (line, rest) → (o ≡ Some line) × (r ≡ rest)
with_rest None r line rest h = absurd cc
with_rest (Some l) r line rest h =
    let e : paired l r ≡ paired line rest = cc in
    (ap (λ q. Some q.0) e, ap (λ q. q.1) e)

first_parts : (o : Option ℕ) (bytes : List ℕ) (line : Line) (rest : List ℕ) → option_and_then {U = Line × List ℕ} (λ i. option_map {U = Line × List ℕ} (λ l. (l, drop 1 (drop i bytes))) (line_of (take i bytes))) o ≡ Some (line, rest) → (at : ℕ) × (o ≡ Some at) × (line_of (take at bytes) ≡ Some line) × (drop 1 (drop at bytes) ≡ rest)
first_parts None bytes line rest h = absurd cc
first_parts (Some at) bytes line rest h = let w = with_rest (line_of (take at bytes)) (drop 1 (drop at bytes)) line rest h in (at, refl, w.0, w.1)

pub first_spelled : (bytes rest : List ℕ) (line : Line) → next_line bytes ≡ Some (line, rest) → Begins bytes (line ∷ []) rest
unfolding next_line
first_spelled bytes rest line h =
    let f = first_parts (position is_newline bytes) bytes line rest h in
    let at = f.0 in
    let here = position-Some is_newline bytes at 0 f.1 in
    let ten : get_or bytes at 0 ≡ 10 = eqb-true _ _ here.1 in
    let tail : drop at bytes ≡ get_or bytes at 0 ∷ drop (suc at) bytes = drop-cons bytes at 0 here.0 in
    let after : drop (suc at) bytes ≡ rest = sym (ap (drop 1) tail) ∙ f.3 in
    let whole : bytes ≡ take at bytes ++ 10 ∷ [] ++ rest = sym (take-append-drop at bytes) ∙ ap (λ x. take at bytes ++ x) (tail ∙ ap (λ x. x ∷ drop (suc at) bytes) ten ∙ ap (λ x. 10 ∷ x) after) ∙ sym (append_assoc (take at bytes) (10 ∷ []) rest) in
    (take at bytes ++ 10 ∷ [], rest, whole, line_spelled (take at bytes) line f.2, refl)
