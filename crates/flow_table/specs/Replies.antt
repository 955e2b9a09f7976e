-- What a module's replies mean.
use Rattle.std.specs.Prelude.{ℕ, ◌==◌, ◌||◌, Bool, true, false, if◌then◌else◌, List, [], ◌∷◌, ◌++◌, Option, Some, None, codes}
use Rattle.std.specs.Str.{bytes_eq}
use Rattle.flow_table.specs.declared.position.Reboot.{Reboot}
use Rattle.flow_table.specs.declared.position.Reboot.TheVariants.{No, Yes, Automatic}

-- whether the text is the word, alone or with one newline (10) behind it
abbrev pub is_reply : List ℕ → List ℕ → Bool
is_reply word text = bytes_eq text word || bytes_eq text (word ++ 10 ∷ [])

-- what the first word means that the text is
abbrev pub meaning : {A : Type 0} → List (List ℕ × A) → List ℕ → Option A
meaning [] text = None
meaning (row ∷ rows) text = if is_reply row.0 text then Some row.1 else meaning rows text

-- the replies to SupportsRollback, and to NeedsArtifactReboot; no text at all means no
abbrev pub supports_words : List (List ℕ × Bool)
supports_words = ([], false) ∷ (codes "No", false) ∷ (codes "Yes", true) ∷ []

abbrev pub needs_words : List (List ℕ × Reboot)
needs_words = ([], No) ∷ (codes "No", No) ∷ (codes "Yes", Yes) ∷ (codes "Automatic", Automatic) ∷ []

-- a reply counts where the module exits 0
abbrev pub supports_of : ℕ → List ℕ → Option Bool
supports_of code text = if code == 0 then meaning supports_words text else None

abbrev pub needs_of : ℕ → List ℕ → Option Reboot
needs_of code text = if code == 0 then meaning needs_words text else None
