-- The table of the files, row by row.
use Rattle.std.proofs.Common.{◌≡◌, ℕ, ◌+◌, ◌<◌, List, [], ◌∷◌, ◌++◌, length, take, Option, refl, ap, arith, zero, suc, add-one}
use Rattle.io_model.specs.Source.{Tree, Content, count_of, path_at, bytes_at, IsPath, IsLength, When}
use Rattle.io_model.specs.Source.Content.{Told, Untold}
use Rattle.admit.specs.Table.{heads_of}
use Rattle.admit.specs.Table.{FileHead}

pub head_at : (t : Tree) (i : ℕ) → i < length t → take (suc i) (heads_of t) ≡ take i (heads_of t) ++ record { path = path_at t i; length = length (bytes_at t i) } ∷ []
head_at [] i h = absurd (omega arith)
head_at (f ∷ fs) zero h = refl
head_at (f ∷ fs) (suc i) h = let row : FileHead = record { path = f.0; length = length f.1 } in ap (λ xs. row ∷ xs) (head_at fs i (omega arith))

pub next_head : (c : Content) (i : ℕ) (heads : List FileHead) (p : Option (List ℕ)) (len : ℕ) → i < count_of c → IsPath c i p → IsLength c i len → When c (λ t. heads ≡ take i (heads_of t)) → When c (λ t. heads ++ record { path = p; length = len } ∷ [] ≡ take (i + 1) (heads_of t))
next_head (Untold n) i heads p len lt pe le h = tt
next_head (Told t) i heads p len lt pe le h = rw (add-one, head_at t i lt, h, pe, le) refl
