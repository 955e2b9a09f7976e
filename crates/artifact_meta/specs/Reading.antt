-- Words for the laws: the items of a list, and the first of them that can't be read.
use Rattle.std.specs.Prelude.{◌≡◌, ℕ, List, [], ◌∷◌, ◌++◌, map, Result, Ok, Err, IsOk}
use Rattle.std.specs.List.{All}
use Rattle.serde_json.specs.Data.{Data, Items, no_items, item}
use Rattle.artifact_meta.specs.declared.fault.MetaFault.{MetaFault}

abbrev pub list_of : Items → List Data
list_of no_items = []
list_of (item d ds) = d ∷ list_of ds

-- each item is read, in order
abbrev pub AreRead : (Data → Result (List ℕ) MetaFault) → List Data → List (List ℕ) → Type 0
AreRead reads items texts = map reads items ≡ map (λ text. Ok text) texts

-- one item has the fault, and each one before it can be read
pub record HasFirstFault (reads : Data → Result (List ℕ) MetaFault) (items : List Data) (fault : MetaFault) : Type 0 where
  pub before : List Data
  pub bad : Data
  pub behind : List Data
  pub place : items ≡ before ++ bad ∷ behind
  pub good : All (λ d. IsOk (reads d)) before
  pub fault_is : reads bad ≡ Err fault
