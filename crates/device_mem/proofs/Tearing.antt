-- The bytes that a loss leaves, one by one.
use Rattle.std.proofs.Common.{◌≡◌, ℕ, zero, suc, ◌<◌, Bool, false, List, [], ◌∷◌, length, get_or, refl, sym, ◌∙◌, arith}
use Rattle.std.proofs.lemmas.Grind.{same_number_lists}
use Rattle.device_mem.specs.declared.script.Tear.{Tear}
use Rattle.device_mem.specs.Tears.{torn_byte, torn_area}

module _ (tear : Tear) where
  length-torn_area : (unsynced : List Bool) (before area : List ℕ) → length unsynced ≡ length area → length before ≡ length area → length (torn_area tear unsynced before area) ≡ length area
  length-torn_area [] before area u b = refl
  length-torn_area (flag ∷ unsynced) [] area u b = refl
  length-torn_area (flag ∷ unsynced) (was ∷ before) [] u b = refl
  length-torn_area (flag ∷ unsynced) (was ∷ before) (is ∷ area) u b = let rest = length-torn_area unsynced before area (omega arith) (omega arith) in omega arith

  torn_area-at : (unsynced : List Bool) (before area : List ℕ) → length unsynced ≡ length area → length before ≡ length area → (k : ℕ) → k < length area
      → get_or (torn_area tear unsynced before area) k 0 ≡ torn_byte tear (get_or unsynced k false) (get_or before k 0) (get_or area k 0)
  torn_area-at unsynced before [] u b k lt = absurd (omega arith)
  torn_area-at [] before (is ∷ area) u b k lt = absurd (omega arith)
  torn_area-at (flag ∷ unsynced) [] (is ∷ area) u b k lt = absurd (omega arith)
  torn_area-at (flag ∷ unsynced) (was ∷ before) (is ∷ area) u b zero lt = refl
  torn_area-at (flag ∷ unsynced) (was ∷ before) (is ∷ area) u b (suc k) lt = torn_area-at unsynced before area (omega arith) (omega arith) k (omega arith)

  -- a list that is so at each byte
  pub torn_area-by : (unsynced : List Bool) (before area new : List ℕ) → length unsynced ≡ length area → length before ≡ length area → length new ≡ length area
      → ((k : ℕ) → k < length area → get_or new k 0 ≡ torn_byte tear (get_or unsynced k false) (get_or before k 0) (get_or area k 0))
      → new ≡ torn_area tear unsynced before area
  torn_area-by unsynced before area new u b n at =
      let size = length-torn_area unsynced before area u b in
      same_number_lists new (torn_area tear unsynced before area) (omega arith) (λ k lt. at k (omega arith) ∙ sym (torn_area-at unsynced before area u b k (omega arith)))
