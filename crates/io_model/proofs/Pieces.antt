-- A file's bytes, piece by piece.
use Rattle.std.proofs.Common.{◌≡◌, ℕ, ◌+◌, ◌≤◌, ◌∙◌, List, ◌++◌, length, take, drop, sym, ap, take-add}
use Rattle.std.proofs.lemmas.List.{length-take-le, take_at, drop_at, take-append-le}
use Rattle.io_model.specs.Source.{Content, When, bytes_at, IsPart}
use Rattle.io_model.specs.Source.Content.{Told, Untold}

-- a piece comes behind the bytes before it
pub next_part : (c : Content) (i at n : ℕ) (into : List ℕ) → n ≤ length into → IsPart c i at (take n into) → When c (λ t. take at (bytes_at t i) ++ take n into ≡ take (at + n) (bytes_at t i))
next_part (Untold m) i at n into fits part = tt
next_part (Told t) i at n into fits part =
    let long : length (take n into) ≡ n = length-take-le n into fits in
    let same : take n into ≡ take n (drop at (bytes_at t i)) = part ∙ ap (λ k. take k (drop at (bytes_at t i))) long in
    ap (λ ys. take at (bytes_at t i) ++ ys) same ∙ sym (take-add at n (bytes_at t i))

-- a buffer that had the file's bytes up to at has n more after the piece
pub next_read : (c : Content) (i at n : ℕ) (old into rest : List ℕ) → at ≤ length old → n ≤ length into → IsPart c i at (take n into) → When c (λ t. take at old ≡ take at (bytes_at t i)) → When c (λ t. take (at + n) (take at old ++ (into ++ rest)) ≡ take (at + n) (bytes_at t i))
next_read (Untold m) i at n old into rest within fits part h = tt
next_read (Told t) i at n old into rest within fits part h =
    let long : length (take at old) ≡ at = length-take-le at old within in
    let front : take at (take at old ++ (into ++ rest)) ≡ take at old = take_at (take at old) (into ++ rest) at long in
    let back : drop at (take at old ++ (into ++ rest)) ≡ into ++ rest = drop_at (take at old) (into ++ rest) at long in
    take-add at n (take at old ++ (into ++ rest)) ∙ ap (λ xs. xs ++ take n (drop at (take at old ++ (into ++ rest)))) (front ∙ h) ∙ ap (λ ys. take at (bytes_at t i) ++ ys) (ap (take n) back ∙ take-append-le n into rest fits) ∙ next_part (Told t) i at n into fits part
