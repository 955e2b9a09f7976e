-- Where the reader stops, and what is wrong there.
use Rattle.std.proofs.Common.{◌≡◌, ℕ, ◌+◌, ◌-◌, ◌<◌, ◌∙◌, ◌⊎◌, Bool, true, false, cond, List, [], ◌∷◌, ◌++◌, length, Option, Some, None, Result, Ok, Err, refl, sym, ap, subst, arith, zero, suc, append_assoc, inl, inr}
use Rattle.std.proofs.lemmas.List.{append-nil}
use Rattle.std.proofs.lemmas.List.Folds.{Any-from_list_any, list_any-from_Any}
use Rattle.std.proofs.lemmas.Slice.Eq.{bytes_eq-Decides}
use Rattle.std.specs.List.{Any, list_any}
use Rattle.std.specs.Option.{ok_or}
use Rattle.manifest_sums.specs.Spelling.{Begins, IsWrong, is_packed}
use Rattle.manifest_sums.specs.Manifest.{has_path, next_line, unless_bad, line_at, lines_after}
use Rattle.upd_text.specs.Results.{◌>>=◌}
use Rattle.manifest_sums.specs.declared.manifest.Line.{Line}
use Rattle.manifest_sums.specs.declared.manifest.ManifestFault.{ManifestFault}
use Rattle.manifest_sums.specs.declared.manifest.ManifestFault.TheVariants.{BadLine, PackedHeader, Doubled, TooMany, NoMemory}
use Rattle.manifest_sums.proofs.Rows.{one_fault, too_many}
use Rattle.manifest_sums.proofs.FirstLine.{paired, spelled_first, first_spelled}
use Rattle.manifest_sums.proofs.Reading.{RightAfter, line_some, line_parts, lines_read}

bind_err : {A B : Type 0} (r : Result A ManifestFault) (f : A → Result B ManifestFault) (e : ManifestFault) → (r >>= f) ≡ Err e → (r ≡ Err e) ⊎ ((x : A) × (r ≡ Ok x) × (f x ≡ Err e))
bind_err (Ok x) f e h = inr (x, refl, h)
bind_err (Err d) f e h = inl (cc h)

-- more bytes without room, or a line that is refused
abbrev pub Stops : ℕ → List Line → List ℕ → ManifestFault → Type 0
Stops less found rest fault = (0 < length rest) × (((less ≡ 0) × (fault ≡ TooMany)) ⊎ ((0 < less) × (line_at found rest ≡ Err fault)))

pub record Stopped (room : ℕ) (found : List Line) (bytes : List ℕ) (fault : ManifestFault) : Type 0 where
  pub lines : List Line
  pub rest : List ℕ
  pub less : ℕ
  pub rows : Begins bytes lines rest
  pub right : RightAfter found lines
  pub same : room ≡ less + length lines
  pub stops : Stops less (found ++ lines) rest fault

pub fault_stops : (room : ℕ) (found : List Line) (bytes : List ℕ) (fault : ManifestFault) → lines_after room found bytes ≡ Err fault → Stopped room found bytes fault
fault_stops room found [] fault h = absurd cc
fault_stops zero found (b ∷ bs) fault h = record { lines = []; rest = b ∷ bs; less = 0; rows = refl; right = tt; same = omega arith; stops = (omega arith, inl (refl, cc)) }
fault_stops (suc room) found (b ∷ bs) fault h =
    elim (bind_err (line_at found (b ∷ bs)) (λ r. lines_after room (found ++ r.0 ∷ []) r.1) fault h) [
      | inl e ↦ record { lines = []; rest = b ∷ bs; less = suc room; rows = refl; right = tt; same = omega arith; stops = (omega arith, inr (omega arith, ap (λ l. line_at l (b ∷ bs)) (append-nil found) ∙ e)) }
      | inr p ↦
          let line : Line = p.0.0 in
          let more : List ℕ = p.0.1 in
          let g = line_parts found (b ∷ bs) more line p.1 in
          let ih = fault_stops room (found ++ line ∷ []) more fault p.2 in
          let first = first_spelled (b ∷ bs) more line g.first in
          record {
            lines = line ∷ ih.lines;
            rest = ih.rest;
            less = ih.less;
            rows = (first.0, more, first.2 ∙ ap (λ m. first.0 ++ m) first.4, first.3, ih.rows);
            right = (g.unpacked, g.fresh, ih.right);
            same = omega (arith, ih.same);
            stops = subst (λ l. Stops ih.less l ih.rest fault) (append_assoc found (line ∷ []) ih.lines) ih.stops;
          }
    ]

-- ---- what is wrong with a line that is refused

earlier : (found : List Line) (line : Line) → list_any (has_path line.path) found ≡ true → Any (λ e. e.path ≡ line.path) found
earlier found line h = let a = Any-from_list_any (has_path line.path) found h in (a.0, a.1, a.2, a.3, (bytes_eq-Decides a.1.path line.path).0 a.4)

listed : (found : List Line) (line : Line) → Any (λ e. e.path ≡ line.path) found → list_any (has_path line.path) found ≡ true
listed found line a = list_any-from_Any (has_path line.path) found (a.0, a.1, a.2, a.3, (bytes_eq-Decides a.1.path line.path).1 a.4)

bad_by : (packed old : Bool) (found : List Line) (rest more : List ℕ) (line : Line) (fault : ManifestFault) → is_packed line ≡ packed → list_any (has_path line.path) found ≡ old → Begins rest (line ∷ []) more → length found < 256 → cond packed (Err (PackedHeader (length found + 1))) (cond old (Err (Doubled (length found + 1))) (Ok line)) ≡ Err fault → IsWrong found rest fault
bad_by true old found rest more line fault p n b lt h =
    let e : PackedHeader (length found + 1) ≡ fault = cc in
    let w : IsWrong found rest (PackedHeader (length found + 1)) = (refl, lt, line, more, b, p) in
    subst (λ f. IsWrong found rest f) e w
bad_by false true found rest more line fault p n b lt h =
    let e : Doubled (length found + 1) ≡ fault = cc in
    let w : IsWrong found rest (Doubled (length found + 1)) = (refl, lt, line, more, b, p, earlier found line n) in
    subst (λ f. IsWrong found rest f) e w
bad_by false false found rest more line fault p n b lt h = absurd cc

bad_line : (found : List Line) (rest more : List ℕ) (line : Line) (fault : ManifestFault) → Begins rest (line ∷ []) more → length found < 256 → unless_bad found line ≡ Err fault → IsWrong found rest fault
unfolding unless_bad
bad_line found rest more line fault b lt h = bad_by (is_packed line) (list_any (has_path line.path) found) found rest more line fault refl refl b lt h

wrong_by : (o : Option (Line × List ℕ)) (found : List Line) (rest : List ℕ) (fault : ManifestFault) → next_line rest ≡ o → length found < 256 → 0 < length rest → (ok_or o (BadLine (length found + 1)) >>= λ first. unless_bad found first.0 >>= λ good. Ok (paired good first.1)) ≡ Err fault → IsWrong found rest fault
wrong_by None found rest fault f lt some h =
    let e : BadLine (length found + 1) ≡ fault = cc in
    let w : IsWrong found rest (BadLine (length found + 1)) = (refl, lt, some, λ line more b. let c : None ≡ Some (paired line more) = sym f ∙ spelled_first rest more line b in cc) in
    subst (λ f. IsWrong found rest f) e w
wrong_by (Some r) found rest fault f lt some h =
    elim (bind_err (unless_bad found r.0) (λ good. Ok (paired good r.1)) fault h) [
      | inl u ↦ bad_line found rest r.1 r.0 fault (first_spelled rest r.1 r.0 f) lt u
      | inr q ↦ absurd (cc q.2)
    ]

pub line_wrong : (found : List Line) (rest : List ℕ) (fault : ManifestFault) → length found < 256 → 0 < length rest → line_at found rest ≡ Err fault → IsWrong found rest fault
unfolding line_at
line_wrong found rest fault lt some h = wrong_by (next_line rest) found rest fault refl lt some h

-- ---- what a wrong line gives

none_from : (o : Option (Line × List ℕ)) (rest : List ℕ) → next_line rest ≡ o → ((line : Line) (more : List ℕ) → ¬ (Begins rest (line ∷ []) more)) → o ≡ None
none_from None rest f h = refl
none_from (Some r) rest f h = absurd (h r.0 r.1 (first_spelled rest r.1 r.0 f))

bad_at : (found : List Line) (rest : List ℕ) → next_line rest ≡ None → line_at found rest ≡ Err (BadLine (length found + 1))
unfolding line_at
bad_at found rest f = ap (λ o. ok_or o (BadLine (length found + 1)) >>= λ first. unless_bad found first.0 >>= λ good. Ok (paired good first.1)) f

refused_at : (found : List Line) (rest more : List ℕ) (line : Line) (fault : ManifestFault) → next_line rest ≡ Some (paired line more) → unless_bad found line ≡ Err fault → line_at found rest ≡ Err fault
unfolding line_at
refused_at found rest more line fault f u =
    ap (λ o. ok_or o (BadLine (length found + 1)) >>= λ first. unless_bad found first.0 >>= λ good. Ok (paired good first.1)) f
    ∙ ap (λ r. r >>= λ good. Ok (paired good more)) u

packed_refused : (found : List Line) (line : Line) → is_packed line ≡ true → unless_bad found line ≡ Err (PackedHeader (length found + 1))
unfolding unless_bad
packed_refused found line p = rw p refl

doubled_refused : (found : List Line) (line : Line) → is_packed line ≡ false → list_any (has_path line.path) found ≡ true → unless_bad found line ≡ Err (Doubled (length found + 1))
unfolding unless_bad
doubled_refused found line p n = rw (p, n) refl

stop_at : (lines : List Line) (bytes rest : List ℕ) (fault : ManifestFault) → Begins bytes lines rest → RightAfter [] lines → length lines < 256 → 0 < length rest → line_at lines rest ≡ Err fault → lines_after 256 [] bytes ≡ Err fault
stop_at lines bytes rest fault b r lt some e =
    lines_read 256 (256 - length lines) [] bytes rest lines b r (omega arith)
    ∙ one_fault (256 - length lines) lines rest fault some (omega arith) e

pub stop : (fault : ManifestFault) (lines : List Line) (bytes rest : List ℕ) → Begins bytes lines rest → RightAfter [] lines → IsWrong lines rest fault → lines_after 256 [] bytes ≡ Err fault
stop (BadLine k) lines bytes rest b r w =
    stop_at lines bytes rest (BadLine k) b r w.1 w.2 (bad_at lines rest (none_from (next_line rest) rest refl w.3) ∙ ap (λ n. Err (BadLine n)) (sym w.0))
stop (PackedHeader k) lines bytes rest b r w =
    stop_at lines bytes rest (PackedHeader k) b r w.1 (line_some rest w.3 w.2 w.4) (refused_at lines rest w.3 w.2 _ (spelled_first rest w.3 w.2 w.4) (packed_refused lines w.2 w.5) ∙ ap (λ n. Err (PackedHeader n)) (sym w.0))
stop (Doubled k) lines bytes rest b r w =
    stop_at lines bytes rest (Doubled k) b r w.1 (line_some rest w.3 w.2 w.4) (refused_at lines rest w.3 w.2 _ (spelled_first rest w.3 w.2 w.4) (doubled_refused lines w.2 w.5 (listed lines w.2 w.6)) ∙ ap (λ n. Err (Doubled n)) (sym w.0))
stop TooMany lines bytes rest b r w = lines_read 256 0 [] bytes rest lines b r (omega arith) ∙ too_many lines rest w.1
stop NoMemory lines bytes rest b r w = absurd w
