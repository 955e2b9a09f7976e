-- Files that are added to the work folder one after the other.
use Rattle.std.specs.Prelude.{◌≡◌, ℕ, true, false, List, [], ◌∷◌, ◌++◌, take, drop, codes}
use Rattle.std.specs.List.{All, Contains}
use Rattle.upd_text.specs.Order.{is_below}
use Rattle.sha2.specs.Sha256.{sha256}
use Rattle.manifest_sums.specs.Message.{Has}
use Rattle.manifest_sums.specs.declared.sum.Summing.{Summing}
use Rattle.artifact_meta.specs.declared.header.HeaderInfo.{HeaderInfo}
use Rattle.provides_map.specs.Pairs.{Pairs, get}
use Rattle.provides_map.specs.After.{artifact_name, artifact_group}
use Rattle.script_names.specs.declared.site.Site.{Site}
use Rattle.io_model.specs.Source.{Content, bytes_at, When}
use Rattle.device_model.specs.declared.calls.Part.{Part}
use Rattle.device_model.specs.declared.calls.Part.TheVariants.{Tree}
use Rattle.device_model.specs.Work.{File, Work, with_bytes}
use Rattle.device_model.specs.State.{State, after_work}
use Rattle.work_folder.specs.Rows.{Row, or_nothing}
use Rattle.work_folder.specs.Folder.{IsFolder}

abbrev pub adding : List File → Work → Work
adding [] work = work
adding (file ∷ files) work = adding files (with_bytes file.part file.path file.bytes work)

-- files were added that are those of the rows, and nothing else was done
pub record Adds (content : Content) (rows : List Row) (old new : State) : Type 0 where
  pub files : List File
  pub are : IsFolder content rows files
  pub added : new ≡ after_work (adding files) old

-- these files were added, and nothing else was done
abbrev pub AddsValues : List File → State → State → Type 0
AddsValues files old new = new ≡ after_work (adding files) old

-- in the folder of payload k
abbrev pub value_file : ℕ → List ℕ → List ℕ → File
value_file k path bytes = record { part = Tree k; path = path; bytes = bytes }

-- what the device is and holds
abbrev pub current_files : ℕ → Site → Pairs → List File
current_files k site held =
    value_file k (codes "version") (codes "3")
    ∷ value_file k (codes "current_artifact_name") (or_nothing (get held artifact_name))
    ∷ value_file k (codes "current_artifact_group") (or_nothing (get held artifact_group))
    ∷ value_file k (codes "current_device_type") site.device_type
    ∷ []

-- what the artifact is, and its payload of this type
abbrev pub artifact_files : ℕ → HeaderInfo → List ℕ → List File
artifact_files k header kind =
    value_file k (codes "header/artifact_name") header.name
    ∷ value_file k (codes "header/artifact_group") (or_nothing header.group)
    ∷ value_file k (codes "header/payload_type") kind
    ∷ []

-- so many bytes were added to the file and to what is summed; where the source's files are told, they are the file's from
-- this place on
pub record CopiesPiece (part : Part) (path : List ℕ) (content : Content) (i at count : ℕ) (old new : State) (before after : Summing) : Type 0 where
  pub bytes : List ℕ
  pub added : new ≡ after_work (with_bytes part path bytes) old
  pub summed : (message : List ℕ) → Has before message → Has after (message ++ bytes)
  pub same : When content (λ t. bytes ≡ take count (drop at (bytes_at t i)))

-- some bytes were added to the file, and this is their sum; where the source's files are told, they are the file's
pub record Copies (part : Part) (path : List ℕ) (content : Content) (i : ℕ) (old new : State) (sum : List ℕ) : Type 0 where
  pub bytes : List ℕ
  pub added : new ≡ after_work (with_bytes part path bytes) old
  pub summed : sum ≡ sha256 bytes
  pub same : When content (λ t. bytes ≡ bytes_at t i)

-- none of the names is above this one
abbrev pub IsLast : List (List ℕ) → List ℕ → Type 0
IsLast names last = All (λ name. is_below last name ≡ false) names

-- it is the first of the names above this one
pub record IsNext (names : List (List ℕ)) (last next : List ℕ) : Type 0 where
  pub among : Contains names next
  pub above : is_below last next ≡ true
  pub first : All (λ name. is_below last name ≡ true → is_below name next ≡ false) names
