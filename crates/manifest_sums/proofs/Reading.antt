-- Right lines in a row, read one after another.
use Rattle.std.proofs.Common.{◌≡◌, ℕ, ◌+◌, ◌<◌, ◌≤◌, ◌∙◌, Bool, true, false, cond, List, [], ◌∷◌, ◌++◌, length, Option, Some, None, Result, Ok, Err, refl, sym, ap, arith, zero, suc, length-append, append_assoc}
use Rattle.std.proofs.lemmas.List.{append-nil}
use Rattle.std.specs.Prelude.{codes}
use Rattle.std.specs.List.{list_any}
use Rattle.std.specs.Option.{ok_or}
use Rattle.manifest_sums.specs.Spelling.{SpellsLine, Begins, is_packed}
use Rattle.manifest_sums.specs.Manifest.{has_path, next_line, unless_bad, line_at, lines_after}
use Rattle.upd_text.specs.Results.{◌>>=◌}
use Rattle.manifest_sums.specs.declared.manifest.Line.{Line}
use Rattle.manifest_sums.specs.declared.manifest.ManifestFault.{ManifestFault}
use Rattle.manifest_sums.specs.declared.manifest.ManifestFault.TheVariants.{BadLine, PackedHeader, Doubled}
use Rattle.manifest_sums.proofs.Rows.{one_line}
use Rattle.manifest_sums.proofs.FirstLine.{paired, spelled_first, first_spelled}

-- each of the lines is right behind those found before it
abbrev pub RightAfter : List Line → List Line → Type 0
RightAfter found [] = Unit {0}
RightAfter found (line ∷ lines) = (is_packed line ≡ false) × (list_any (has_path line.path) found ≡ false) × RightAfter (found ++ line ∷ []) lines

pub line_some : (bytes more : List ℕ) (line : Line) → Begins bytes (line ∷ []) more → 0 < length bytes
line_some bytes more line b =
    let s : SpellsLine b.0 line = b.3 in
    let front = s.digits ++ codes "  " ++ line.path in
    omega (arith, ap length b.2, ap length s.parts, length-append b.0 b.1, length-append front (10 ∷ []))

pub good_line : (found : List Line) (bytes rest : List ℕ) (line : Line) → next_line bytes ≡ Some (line, rest) → is_packed line ≡ false → list_any (has_path line.path) found ≡ false → line_at found bytes ≡ Ok (line, rest)
unfolding line_at unless_bad
good_line found bytes rest line f p n =
    let good : unless_bad found line ≡ Ok line = rw (p, n) refl in
    ap (λ o. ok_or o (BadLine (length found + 1)) >>= λ first. unless_bad found first.0 >>= λ good. Ok (paired good first.1)) f
    ∙ ap (λ u. u >>= λ good. Ok (paired good rest)) good

-- the reader stands behind right lines that the bytes spell
pub lines_read : (room less : ℕ) (found : List Line) (bytes rest : List ℕ) (lines : List Line) → Begins bytes lines rest → RightAfter found lines → room ≡ less + length lines → lines_after room found bytes ≡ lines_after less (found ++ lines) rest
lines_read room less found bytes rest [] b r e =
    let same : room ≡ less = omega arith in
    ap (λ n. lines_after n found bytes) same ∙ ap (lines_after less found) b ∙ ap (λ l. lines_after less l rest) (sym (append-nil found))
lines_read room less found bytes rest (line ∷ lines) b r e =
    let more : List ℕ = b.1 in
    let first : Begins bytes (line ∷ []) more = (b.0, more, b.2, b.3, refl) in
    let f = spelled_first bytes more line first in
    let g = good_line found bytes more line f r.0 r.1 in
    one_line room (less + length lines) found bytes line more (line_some bytes more line first) (omega arith) g
    ∙ lines_read (less + length lines) less (found ++ line ∷ []) more rest lines b.4 r.2 refl
    ∙ ap (λ l. lines_after less l rest) (append_assoc found (line ∷ []) lines)

-- ---- what an answer shows

pub bind_ok : {A B : Type 0} (r : Result A ManifestFault) (f : A → Result B ManifestFault) (y : B) → (r >>= f) ≡ Ok y → (x : A) × (r ≡ Ok x) × (f x ≡ Ok y)
bind_ok (Ok x) f y h = (x, refl, h)
bind_ok (Err e) f y h = cc h

pub record GoodLine (found : List Line) (bytes : List ℕ) (line : Line) (rest : List ℕ) : Type 0 where
  pub first : next_line bytes ≡ Some (line, rest)
  pub unpacked : is_packed line ≡ false
  pub fresh : list_any (has_path line.path) found ≡ false

good_by : (packed old : Bool) (k : ℕ) (line good : Line) → cond packed (Err (PackedHeader k)) (cond old (Err (Doubled k)) (Ok line)) ≡ Ok good → (packed ≡ false) × (old ≡ false) × (line ≡ good)
good_by true old k line good h = absurd cc
good_by false true k line good h = absurd cc
good_by false false k line good h = (refl, refl, cc)

good_parts : (found : List Line) (line good : Line) → unless_bad found line ≡ Ok good → (is_packed line ≡ false) × (list_any (has_path line.path) found ≡ false) × (line ≡ good)
unfolding unless_bad
good_parts found line good h = good_by (is_packed line) (list_any (has_path line.path) found) (length found + 1) line good h

first_by : (o : Option (Line × List ℕ)) (found : List Line) (p : Line × List ℕ) → (ok_or o (BadLine (length found + 1)) >>= λ first. unless_bad found first.0 >>= λ good. Ok (paired good first.1)) ≡ Ok p → (r : Line × List ℕ) × (o ≡ Some r) × (unless_bad found r.0 ≡ Ok p.0) × (r.1 ≡ p.1)
first_by None found p h = absurd cc
first_by (Some r) found p h =
    let q = bind_ok (unless_bad found r.0) (λ good. Ok (paired good r.1)) p h in
    let pair : Line × List ℕ = (q.0, r.1) in
    let e : pair ≡ p = cc q.2 in
    (r, refl, q.1 ∙ ap (λ t. Ok t.0) e, ap (λ t. t.1) e)

pub line_parts : (found : List Line) (bytes rest : List ℕ) (line : Line) → line_at found bytes ≡ Ok (line, rest) → GoodLine found bytes line rest
unfolding line_at
line_parts found bytes rest line h =
    let f = first_by (next_line bytes) found (line, rest) h in
    let g = good_parts found f.0.0 line f.2 in
    let first : next_line bytes ≡ Some (line, rest) = f.1 ∙ ap (λ l. Some (paired l f.0.1)) g.2 ∙ ap (λ r. Some (paired line r)) f.3 in
    record {
      first = first;
      unpacked = ap is_packed (sym g.2) ∙ g.0;
      fresh = ap (λ l. list_any (has_path l.path) found) (sym g.2) ∙ g.1;
    }

-- the lines that were read behind those found before
pub record Read (room : ℕ) (found : List Line) (bytes : List ℕ) (all : List Line) : Type 0 where
  pub lines : List Line
  pub same : found ++ lines ≡ all
  pub rows : Begins bytes lines []
  pub right : RightAfter found lines
  pub few : length lines ≤ room

pub found_lines : (room : ℕ) (found : List Line) (bytes : List ℕ) (all : List Line) → lines_after room found bytes ≡ Ok all → Read room found bytes all
found_lines room found [] all h = record { lines = []; same = append-nil found ∙ cc h; rows = refl; right = tt; few = omega arith }
found_lines zero found (b ∷ bs) all h = absurd cc
found_lines (suc room) found (b ∷ bs) all h =
    let p = bind_ok (line_at found (b ∷ bs)) (λ r. lines_after room (found ++ r.0 ∷ []) r.1) all h in
    let line : Line = p.0.0 in
    let more : List ℕ = p.0.1 in
    let g = line_parts found (b ∷ bs) more line p.1 in
    let ih = found_lines room (found ++ line ∷ []) more all p.2 in
    let first = first_spelled (b ∷ bs) more line g.first in
    record {
      lines = line ∷ ih.lines;
      same = sym (append_assoc found (line ∷ []) ih.lines) ∙ ih.same;
      rows = (first.0, more, first.2 ∙ ap (λ m. first.0 ++ m) first.4, first.3, ih.rows);
      right = (g.unpacked, g.fresh, ih.right);
      few = omega (arith, ih.few);
    }
