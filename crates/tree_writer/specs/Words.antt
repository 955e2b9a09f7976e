-- What the words say: NAME, DEVICE, KIND and CLEARS, and then any number of KEY=VALUE.
use Rattle.std.specs.Prelude.{ℕ, suc, ◌+◌, ◌-◌, ◌^◌, ◌==◌, min, Bool, if◌then◌else◌, List, [], ◌∷◌, length, take, drop, codes, position, Option, Some, None, Result, Ok, Err}
use Rattle.std.specs.Option.{option_and_then, is_some}
use Rattle.std.specs.Str.{bytes_eq}
use Rattle.upd_text.specs.Text.{name_of, value_of}
use Rattle.upd_text.specs.Results.{◌>>=◌}
use Rattle.upd_text.specs.declared.fault.NameFault.{NameFault}
use Rattle.io_model.specs.Source.{Tree}
use Rattle.provides_map.specs.Pairs.{Pairs, get, put}
use Rattle.provides_map.specs.declared.change.Clears.{Clears}
use Rattle.provides_map.specs.declared.change.Clears.TheVariants.{All, Listed}
use Rattle.tree_writer.specs.declared.words.WordFault.{WordFault}
use Rattle.tree_writer.specs.declared.words.WordFault.TheVariants as fault
use Rattle.tree_writer.specs.declared.spec.TreeSpec.{TreeSpec}
use Rattle.tree_writer.specs.declared.words.Spoken.{Spoken}

-- of the word with an index, or of so many words
abbrev pub usage : ℕ → WordFault
usage i = fault.Usage (min i (2 ^ 32 - 1))

-- a word of its kind
abbrev pub word : ℕ → Result (List ℕ) NameFault → Result (List ℕ) WordFault
word i (Ok text) = Ok text
word i (Err e) = Err (usage i)

abbrev pub one_pattern : List ℕ → Result Clears WordFault
one_pattern text = word 3 (name_of text) >>= λ pattern. Ok (Listed (pattern ∷ []))

-- `-` clears all, and any other name is the one pattern
abbrev pub clears_word : List ℕ → Result Clears WordFault
clears_word text = if bytes_eq text (codes "-") then Ok All else one_pattern text

-- ---- KEY=VALUE

abbrev pub is_equals : ℕ → Bool
is_equals b = b == 61

-- what stands before and behind a place
abbrev pub parts_at : List ℕ → Option ℕ → Option (List ℕ × List ℕ)
parts_at text None = None
parts_at text (Some i) = Some (take i text, drop (i + 1) text)

abbrev pub name_and_value : Result (List ℕ) NameFault → Result (List ℕ) NameFault → Option (List ℕ × List ℕ)
name_and_value (Ok key) (Ok value) = Some (key, value)
name_and_value (Ok key) (Err e) = None
name_and_value (Err e) value = None

-- a name and a value, split at the first `=`
abbrev pub pair_of : List ℕ → Option (List ℕ × List ℕ)
pair_of text = option_and_then (λ parts. name_and_value (name_of parts.0) (value_of parts.1)) (parts_at text (position is_equals text))

-- a pair whose key is new
abbrev pub new_pair : ℕ → Pairs → Option (List ℕ × List ℕ) → Result (List ℕ × List ℕ) WordFault
new_pair i found None = Err (usage i)
new_pair i found (Some pair) = if is_some (get found pair.0) then Err (usage i) else Ok pair

-- the pairs of the words from index i on, behind those found before
abbrev pub pairs_after : ℕ → Pairs → List (List ℕ) → Result Pairs WordFault
pairs_after i found [] = Ok found
pairs_after i found (text ∷ texts) = new_pair i found (pair_of text) >>= λ pair. pairs_after (suc i) (put found pair.0 pair.1) texts

-- ---- all of them

-- the first word that is wrong, or the number of the words where there are fewer than four
unfoldable pub spoken : List (List ℕ) → Result Spoken WordFault
spoken (a ∷ b ∷ c ∷ d ∷ texts) =
    word 0 (name_of a) >>= λ name.
    word 1 (value_of b) >>= λ device.
    word 2 (name_of c) >>= λ kind.
    clears_word d >>= λ clears.
    pairs_after 4 [] texts >>= λ provides.
    Ok (record { name = name; device = device; kind = kind; clears = clears; provides = provides })
spoken texts = Err (usage (length texts))

-- the artifact of one payload with these files
abbrev pub spec_of : Spoken → Tree → TreeSpec
spec_of said files = record {
  name = said.name;
  group = None;
  device_types = said.device ∷ [];
  needs_names = [];
  needs_groups = [];
  payloads = record { kind = said.kind; provides = said.provides; wants = []; clears = said.clears; files = files } ∷ [];
  scripts = [];
}
