-- What a sink of files means, and what an add does to it.
use Rattle.std.specs.Prelude.{◌≡◌, ◌⊎◌, ℕ, ◌≤◌, List, [], ◌∷◌, ◌++◌, Option, Some, None, Result, Ok, Err}
use Rattle.upd_text.specs.Counts.{Rose}
use Rattle.io_model.specs.Source.{Tree}
use Rattle.tree_writer.specs.declared.sink.TreeFault.{TreeFault}

-- the files that were added, where the sink tells them, and how often an add failed
pub record Added : Type 0 where
  pub told : Option Tree
  pub faults : ℕ

-- the files stand behind those that were there, where the sink tells them
abbrev pub StandBehind : Option Tree → Tree → Option Tree → Type 0
StandBehind None files new = new ≡ None
StandBehind (Some before) files new = new ≡ Some (before ++ files)

-- a file of this path may stand behind those that were there, in any form
abbrev pub MayStandBehind : Option Tree → List ℕ → Option Tree → Type 0
MayStandBehind None path new = new ≡ None
MayStandBehind (Some before) path new = (new ≡ Some before) ⊎ ((bytes : List ℕ) × (new ≡ Some (before ++ (Some path, bytes) ∷ [])))

-- the file was added
pub record TakesFile (old : Added) (path bytes : List ℕ) (new : Added) : Type 0 where
  pub adds : StandBehind old.told ((Some path, bytes) ∷ []) new.told
  pub count : old.faults ≤ new.faults

-- the sink failed
pub record LosesFile (old : Added) (path : List ℕ) (new : Added) : Type 0 where
  pub may : MayStandBehind old.told path new.told
  pub count : Rose old.faults new.faults

-- an add of a file, by its answer
abbrev pub Takes : Added → List ℕ → List ℕ → Result (Unit {0}) TreeFault → Added → Type 0
Takes old path bytes (Ok u) new = TakesFile old path bytes new
Takes old path bytes (Err e) new = LosesFile old path new

-- ---- several files one after another

-- all files were added
pub record TakesAll (old : Added) (files : Tree) (new : Added) : Type 0 where
  pub adds : StandBehind old.told files new.told
  pub count : old.faults ≤ new.faults

-- the first files were added, the add of the next one failed, and no other was tried
pub record TakesSome (old : Added) (files : Tree) (new : Added) : Type 0 where
  pub front : Tree
  pub path : List ℕ
  pub bytes : List ℕ
  pub rest : Tree
  pub parts : files ≡ front ++ (Some path, bytes) ∷ rest
  pub mid : Option Tree
  pub adds : StandBehind old.told front mid
  pub may : MayStandBehind mid path new.told
  pub count : Rose old.faults new.faults

abbrev pub TakesEach : Added → Tree → Result (Unit {0}) TreeFault → Added → Type 0
TakesEach old files (Ok u) new = TakesAll old files new
TakesEach old files (Err e) new = TakesSome old files new
