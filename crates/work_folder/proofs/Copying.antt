-- Steps of a copy.
use Rattle.std.proofs.Common.{◌≡◌, ℕ, ◌+◌, ◌≤◌, List, ◌++◌, length, take, drop, sym, ◌∙◌, ap, arith, take-add}
use Rattle.std.proofs.lemmas.List.{take_all}
use Rattle.sha2.specs.Sha256.{sha256}
use Rattle.manifest_sums.specs.Message.{Has}
use Rattle.manifest_sums.specs.declared.sum.Summing.{Summing}
use Rattle.device_model.specs.declared.calls.Part.{Part}
use Rattle.device_model.specs.Work.{with_bytes}
use Rattle.device_model.specs.State.{State, after_work}
use Rattle.device_model.proofs.Appends.{after_work-twice}
use Rattle.io_model.specs.Source.{Content, bytes_at, IsLength, When}
use Rattle.io_model.specs.Source.Content.{Told, Untold}
use Rattle.work_folder.specs.Adding.{CopiesPiece, Copies}

-- what was copied so far
pub record SoFar (part : Part) (path : List ℕ) (content : Content) (i at : ℕ) (old now : State) (summing : Summing) : Type 0 where
  pub bytes : List ℕ
  pub added : now ≡ after_work (with_bytes part path bytes) old
  pub summed : Has summing bytes
  pub same : When content (λ t. bytes ≡ take at (bytes_at t i))

same_more : (content : Content) (i at count : ℕ) (bytes more : List ℕ) → When content (λ t. bytes ≡ take at (bytes_at t i)) → When content (λ t. more ≡ take count (drop at (bytes_at t i))) → When content (λ t. bytes ++ more ≡ take (at + count) (bytes_at t i))
same_more (Untold n) i at count bytes more h k = tt
same_more (Told t) i at count bytes more h k = ap (λ (l : List ℕ). l ++ more) h ∙ ap (λ (l : List ℕ). take at (bytes_at t i) ++ l) k ∙ sym (take-add at count (bytes_at t i))

pub SoFar-more : (part : Part) (path : List ℕ) (content : Content) (i at count : ℕ) (old mid new : State) (before after : Summing) → SoFar part path content i at old mid before → CopiesPiece part path content i at count mid new before after → SoFar part path content i (at + count) old new after
SoFar-more part path content i at count old mid new before after h k = record {
  bytes = h.bytes ++ k.bytes;
  added = after_work-twice part path k.bytes h.bytes old mid new h.added k.added;
  summed = k.summed h.bytes h.summed;
  same = same_more content i at count h.bytes k.bytes h.same k.same;
}

same_all : (content : Content) (i at size : ℕ) (bytes : List ℕ) → size ≤ at → IsLength content i size → When content (λ t. bytes ≡ take at (bytes_at t i)) → When content (λ t. bytes ≡ bytes_at t i)
same_all (Untold n) i at size bytes le h k = tt
same_all (Told t) i at size bytes le h k = k ∙ take_all at (bytes_at t i) (omega (arith, h))

pub SoFar-all : (part : Part) (path : List ℕ) (content : Content) (i at size : ℕ) (old now : State) (summing : Summing) (sum : List ℕ) → size ≤ at → IsLength content i size → SoFar part path content i at old now summing → ((m : List ℕ) → Has summing m → sum ≡ sha256 m) → Copies part path content i old now sum
SoFar-all part path content i at size old now summing sum le length h final = record { bytes = h.bytes; added = h.added; summed = final h.bytes h.summed; same = same_all content i at size h.bytes le length h.same }
