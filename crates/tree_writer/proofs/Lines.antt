-- The manifest's lines, file by file.
use Rattle.std.proofs.Common.{◌≡◌, ℕ, List, [], ◌∷◌, ◌++◌, map, refl, sym, ap, ◌∙◌, append-nil}
use Rattle.std.specs.Prelude.{flat_map}
use Rattle.std.proofs.lemmas.Grind.{flat_map-append}
use Rattle.io_model.specs.Source.{Tree}
use Rattle.tree_writer.specs.Files.{Entry, as_file, line_text, manifest_text, version_entry, file_line}

lines-placed : (es : List Entry) → flat_map file_line (map as_file es) ≡ manifest_text es
lines-placed [] = refl
lines-placed (e ∷ es) = ap (λ (l : List ℕ). line_text e ++ l) (lines-placed es)

-- the lines of the files, and then that of the version
pub manifest-made : (tree : Tree) (before after : List ℕ) → before ≡ flat_map file_line tree → after ≡ before ++ line_text version_entry → (front : List Entry) → tree ≡ map as_file front → after ≡ manifest_text (front ++ version_entry ∷ [])
manifest-made tree before after lines last front is =
    last ∙ ap (λ (l : List ℕ). l ++ line_text version_entry) (lines ∙ ap (flat_map file_line) is ∙ lines-placed front)
    ∙ ap (λ (l : List ℕ). manifest_text front ++ l) (sym (append-nil (line_text version_entry))) ∙ sym (flat_map-append line_text front (version_entry ∷ []))

pub ruleset manifest_lines = (manifest-made)
