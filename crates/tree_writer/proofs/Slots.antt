-- Files that are kept as places among all bytes.
use Rattle.std.proofs.Common.{◌≡◌, ℕ, ◌-◌, ◌≤◌, List, [], ◌∷◌, ◌++◌, length, map, take, drop, Some, refl, ap, ◌∙◌, arith, length-append, length-drop}
use Rattle.std.specs.Prelude.{slice_range}
use Rattle.std.specs.List.{AllByRecursion}
use Rattle.std.proofs.lemmas.List.{take_all, map-append, drop-append-le, take-append-le}
use Rattle.std.proofs.Math.Seq.{drop-append_seam}
use Rattle.std.proofs.lemmas.List.Elements.{All-from_recursion, recursion_from_All}
use Rattle.io_model.specs.Source.{Tree}
use Rattle.tree_writer.specs.declared.mem_tree.Slot.{Slot}
use Rattle.tree_writer.specs.MemTree.{file_of, files_of, AreWithin}
use Rattle.tree_writer.proofs.ManifestBack.{all_append}

range_kept : (bytes more : List ℕ) (a b : ℕ) → a ≤ b → b ≤ length bytes → slice_range (bytes ++ more) a b ≡ slice_range bytes a b
range_kept bytes more a b le within =
    ap (take (b - a)) (drop-append-le a bytes more (omega arith)) ∙ take-append-le (b - a) (drop a bytes) more (omega (arith, length-drop a bytes))

range_last : (bytes more : List ℕ) → slice_range (bytes ++ more) (length bytes) (length (bytes ++ more)) ≡ more
range_last bytes more =
    ap (take (length (bytes ++ more) - length bytes)) (drop-append_seam bytes more) ∙ take_all (length (bytes ++ more) - length bytes) more (omega (arith, length-append bytes more))

abbrev IsWithin : List ℕ → Slot → Type 0
IsWithin bytes slot = (slot.from ≤ slot.to) × (slot.to ≤ length bytes)

files_kept : (bytes more : List ℕ) (slots : List Slot) → AllByRecursion (IsWithin bytes) slots → map (file_of (bytes ++ more)) slots ≡ map (file_of bytes) slots
files_kept bytes more [] h = refl
files_kept bytes more (s ∷ slots) h =
    ap (λ (x : List ℕ). (Some s.path, x) ∷ map (file_of (bytes ++ more)) slots) (range_kept bytes more s.from s.to h.0.0 h.0.1)
    ∙ ap (λ (t : Tree). file_of bytes s ∷ t) (files_kept bytes more slots h.1)

pub file_kept : (bytes more : List ℕ) (slots : List Slot) (s : Slot) → AreWithin bytes slots → s.from ≡ length bytes → s.to ≡ length (bytes ++ more) → files_of (bytes ++ more) (slots ++ s ∷ []) ≡ files_of bytes slots ++ (Some s.path, more) ∷ []
file_kept bytes more slots s within from to =
    map-append (file_of (bytes ++ more)) slots (s ∷ [])
    ∙ ap (λ (t : Tree). t ++ file_of (bytes ++ more) s ∷ []) (files_kept bytes more slots (recursion_from_All (IsWithin bytes) slots within))
    ∙ ap (λ (x : List ℕ). files_of bytes slots ++ (Some s.path, x) ∷ []) (ap (λ a. slice_range (bytes ++ more) a s.to) from ∙ ap (λ b. slice_range (bytes ++ more) (length bytes) b) to ∙ range_last bytes more)

wider : (bytes more : List ℕ) (slots : List Slot) → AllByRecursion (IsWithin bytes) slots → AllByRecursion (IsWithin (bytes ++ more)) slots
wider bytes more [] h = tt
wider bytes more (s ∷ slots) h = ((h.0.0, omega (arith, h.0.1, length-append bytes more)), wider bytes more slots h.1)

pub within_kept : (bytes more : List ℕ) (slots : List Slot) (s : Slot) → AreWithin bytes slots → s.from ≡ length bytes → s.to ≡ length (bytes ++ more) → AreWithin (bytes ++ more) (slots ++ s ∷ [])
within_kept bytes more slots s within from to =
    let last : IsWithin (bytes ++ more) s = (omega (arith, from, to, length-append bytes more), omega (arith, to)) in
    All-from_recursion (IsWithin (bytes ++ more)) (slots ++ s ∷ []) (all_append (IsWithin (bytes ++ more)) slots (s ∷ []) (wider bytes more slots (recursion_from_All (IsWithin bytes) slots within)) (last, tt))
