-- The front of a partition, piece by piece.
use Rattle.std.proofs.Common.{◌≡◌, ℕ, ◌+◌, List, ◌++◌, take, drop, arith, subst}
use Rattle.std.specs.Prelude.{Option, Some, None, IfSome}
use Rattle.std.proofs.lemmas.List.{same_lists, places}
use Rattle.manifest_sums.specs.Message.{Has}
use Rattle.manifest_sums.specs.declared.sum.Summing.{Summing}
use Rattle.device_model.specs.Disk.{Disk, area_of}

take-piece : (start at count : ℕ) (area : List ℕ) → take at (drop start area) ++ take count (drop (start + at) area) ≡ take (at + count) (drop start area)
take-piece start at count area = same_lists _ _ (grind (arith, places)) (λ k d h. grind (arith, places))

pub front-more : (disk : Option Disk) (start at count : ℕ) (old new : Summing) → IfSome (area_of disk) (λ area. Has old (take at (drop start area)))
    → IfSome (area_of disk) (λ area. (message : List ℕ) → Has old message → Has new (message ++ take count (drop (start + at) area)))
    → IfSome (area_of disk) (λ area. Has new (take (at + count) (drop start area)))
front-more None start at count old new h k = tt
front-more (Some d) start at count old new h k = subst (λ (m : List ℕ). Has new m) (take-piece start at count d.area) (k (take at (drop start d.area)) h)
