-- The sum of a file, piece by piece.
use Rattle.std.proofs.Common.{◌≡◌, ℕ, ◌+◌, ◌≤◌, ◌∙◌, List, ◌++◌, length, take, drop, ap, subst}
use Rattle.io_model.specs.Source.{Content, When, bytes_at, IsPart}
use Rattle.io_model.specs.Source.Content.{Told, Untold}
use Rattle.io_model.proofs.Pieces.{next_part}
use Rattle.manifest_sums.specs.Message.{Has}
use Rattle.manifest_sums.specs.declared.sum.Summing.{Summing}

-- a summing that had the file's bytes up to at has n more after the piece
pub next_sum : (c : Content) (i at n : ℕ) (into piece : List ℕ) (old new : Summing) → n ≤ length into → piece ≡ take n into → IsPart c i at (take n into) → ((message : List ℕ) → Has old message → Has new (message ++ piece)) → When c (λ t. Has old (take at (bytes_at t i))) → When c (λ t. Has new (take (at + n) (bytes_at t i)))
next_sum (Untold m) i at n into piece old new fits e part step h = tt
next_sum (Told t) i at n into piece old new fits e part step h =
    let P : List ℕ → Type 0 = λ m. Has new m in
    subst P (ap (λ ys. take at (bytes_at t i) ++ ys) e ∙ next_part (Told t) i at n into fits part) (step (take at (bytes_at t i)) h)
