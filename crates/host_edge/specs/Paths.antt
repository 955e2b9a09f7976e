-- Where things stand in the data folder.
use Rattle.std.specs.Prelude.{ℕ, List, ◌∷◌, ◌++◌, codes, nat_eq, if◌then◌else◌}
use Rattle.std.specs.List.{starts_with}

-- the path of what has this name in a folder: a slash stands between them
abbrev pub in_folder : List ℕ → List ℕ → List ℕ
in_folder folder name = folder ++ 47 ∷ name

-- where a script stands: one of Download on the device, each other in the work folder
abbrev pub script_path : List ℕ → List ℕ → List ℕ → List ℕ
script_path device work name = in_folder (if starts_with nat_eq name (codes "Download_") then device else work) name
