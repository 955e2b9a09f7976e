-- What a search of an artifact finds, and why it finds nothing.
use Rattle.std.specs.Prelude.{◌≡◌, ◌≢◌, ℕ, ◌+◌, ◌<◌, ◌==◌, ◌&&◌, if◌then◌else◌, List, length, find}
use Rattle.std.specs.Prelude.{Option, Some, None, IfSome, option_map, option_and_then, Result, Ok, Err, ⊤}
use Rattle.std.specs.Option.{option_or}
use Rattle.io_model.specs.Source.{File, Tree, Content, When, bytes_at}
use Rattle.artifact_meta.specs.declared.fault.MetaFault.{MetaFault}
use Rattle.artifact_meta.specs.declared.fault.MetaFault.TheVariants as meta
use Rattle.ab_image.specs.declared.artifact.Found.{Found}
use Rattle.ab_image.specs.declared.artifact.TheConstants.{MOST}
use Rattle.ab_image.specs.declared.image.Image.{Image}
use Rattle.ab_image.specs.declared.report.AbAct.{AbAct}
use Rattle.ab_image.specs.declared.report.AbAct.TheVariants as answer
use Rattle.ab_image.specs.Answers.{source_after}
use Rattle.ab_image.specs.Artifact.{is_image_path, count_images, image_of, is_type_info_path, is_type_info, listed_in, listed}

-- ---- the paths

-- the indexes are below this one
pub record AreBelow (count : ℕ) (found : Found) : Type 0 where
  pub image : 0 < found.images → found.image < count
  pub type_info : IfSome found.type_info (λ i. i < count)

-- how many files are images, where the first of them is, and where the first type-info is
pub record IsFound (tree : Tree) (found : Found) : Type 0 where
  pub images : found.images ≡ count_images tree
  pub image : 0 < found.images → image_of tree ≡ Some (bytes_at tree found.image)
  pub type_info : option_map (bytes_at tree) found.type_info ≡ option_map (λ (f : File). f.1) (find is_type_info tree)

-- what is found after one more file, with this index and this path
abbrev pub found_after : Found → ℕ → Option (List ℕ) → Found
found_after found i path = record {
  images = if is_image_path path then found.images + 1 else found.images;
  image = if is_image_path path && (found.images == 0) then i else found.image;
  type_info = option_or found.type_info (if is_type_info_path path then Some i else None);
}

-- ---- the sum

-- what the file with this index lists, if there is one
abbrev pub listed_at : Tree → Option ℕ → Option (List ℕ)
listed_at tree type_info = option_and_then (λ (i : ℕ). listed_in (bytes_at tree i)) type_info

-- ---- the image

-- the file is the one image of the tree, and this sum is listed for it
pub record IsImageOf (tree : Tree) (image : Image) : Type 0 where
  pub one : count_images tree ≡ 1
  pub is_image : image_of tree ≡ Some (bytes_at tree image.file)
  pub is_listed : listed tree ≡ Some image.listed

-- the one image of the tree has so many bytes, and a sum is listed for it
pub record HasLength (tree : Tree) (count : ℕ) : Type 0 where
  pub one : count_images tree ≡ 1
  pub image : List ℕ
  pub is_image : image_of tree ≡ Some image
  pub is_count : count ≡ length image
  pub sum : List ℕ
  pub is_listed : listed tree ≡ Some sum

-- ---- why nothing is found

-- only the answer `SourceFault` raises the count
abbrev pub Stops : {T : Type 0} → ℕ → Result T AbAct → ℕ → Type 0
Stops old (Ok x) new = new ≡ old
Stops old (Err stop) new = new ≡ source_after stop old

-- the file isn't read as a type-info: it has more than 65,536 bytes; a fault and want of memory are free
abbrev pub NoText : Content → ℕ → AbAct → Type 0
NoText content i answer.NoChecksum = When content (λ tree. MOST < length (bytes_at tree i))
NoText content i answer.SourceFault = ⊤
NoText content i answer.NoMemory = ⊤
NoText content i _ = ⊥

-- the answer where a type-info has this fault
abbrev pub unread_by : MetaFault → AbAct
unread_by meta.NoMemory = answer.NoMemory
unread_by _ = answer.NoChecksum

-- no sum is listed there; a fault and want of memory are free
abbrev pub NoSum : Content → Option ℕ → AbAct → Type 0
NoSum content type_info answer.NoChecksum = When content (λ tree. listed_at tree type_info ≡ None)
NoSum content type_info answer.SourceFault = ⊤
NoSum content type_info answer.NoMemory = ⊤
NoSum content type_info _ = ⊥

-- so many files are images; or one is, and no sum is listed; or a sum is, and the image has more bytes than most
abbrev pub NoImage : Content → ℕ → AbAct → Type 0
NoImage content most (answer.BadPayload n) = (n ≢ 1) × When content (λ tree. n ≡ count_images tree)
NoImage content most answer.NoChecksum = When content (λ tree. (count_images tree ≡ 1) × (listed tree ≡ None))
NoImage content most (answer.TooLong n) = (most < n) × When content (λ tree. HasLength tree n)
NoImage content most answer.SourceFault = ⊤
NoImage content most answer.NoMemory = ⊤
NoImage content most _ = ⊥
