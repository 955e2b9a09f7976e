-- One line after another.
use Rattle.std.proofs.Common.{◌≡◌, ℕ, ◌+◌, ◌<◌, ◌∙◌, List, [], ◌∷◌, ◌++◌, length, Ok, Err, refl, ap, arith, zero, suc}
use Rattle.manifest_sums.specs.Manifest.{line_at, lines_after}
use Rattle.upd_text.specs.Results.{◌>>=◌}
use Rattle.manifest_sums.specs.declared.manifest.Line.{Line}
use Rattle.manifest_sums.specs.declared.manifest.ManifestFault.{ManifestFault}
use Rattle.manifest_sums.specs.declared.manifest.ManifestFault.TheVariants.{TooMany}

pub no_bytes : (room : ℕ) (found : List Line) (bytes : List ℕ) → length bytes ≡ 0 → lines_after room found bytes ≡ Ok found
no_bytes room found [] h = refl
no_bytes zero found (b ∷ bs) h = absurd (omega arith)
no_bytes (suc room) found (b ∷ bs) h = absurd (omega arith)

pub too_many : (found : List Line) (bytes : List ℕ) → 0 < length bytes → lines_after 0 found bytes ≡ Err TooMany
too_many found [] h = absurd (omega arith)
too_many found (b ∷ bs) h = refl

pub one_line : (room less : ℕ) (found : List Line) (bytes : List ℕ) (line : Line) (rest : List ℕ) → 0 < length bytes → room ≡ less + 1 → line_at found bytes ≡ Ok (line, rest) → lines_after room found bytes ≡ lines_after less (found ++ line ∷ []) rest
one_line room less found [] line rest h e r = absurd (omega arith)
one_line zero less found (b ∷ bs) line rest h e r = absurd (omega arith)
one_line (suc room) less found (b ∷ bs) line rest h e r =
    let same : room ≡ less = omega arith in
    ap (λ x. x >>= λ y. lines_after room (found ++ y.0 ∷ []) y.1) r ∙ ap (λ n. lines_after n (found ++ line ∷ []) rest) same

pub one_fault : (room : ℕ) (found : List Line) (bytes : List ℕ) (e : ManifestFault) → 0 < length bytes → 0 < room → line_at found bytes ≡ Err e → lines_after room found bytes ≡ Err e
one_fault room found [] e h k r = absurd (omega arith)
one_fault zero found (b ∷ bs) e h k r = absurd (omega arith)
one_fault (suc room) found (b ∷ bs) e h k r = ap (λ x. x >>= λ y. lines_after room (found ++ y.0 ∷ []) y.1) r
