-- How the area of a disk with two partitions is laid out, and what it stands for.
use Rattle.std.specs.Prelude.{◌≡◌, ◌⊎◌, ℕ, ◌+◌, ◌-◌, ◌/◌, ◌%◌, ◌==◌, ◌≤◌, if◌then◌else◌, List, ◌++◌, length, slice_index_or, take, drop, Option}
use Rattle.std.specs.Int.{w64, to_be_bytes, from_be_bytes}
use Rattle.sha2.specs.Sha256.{sha256}
use Rattle.device_model.specs.Disk.{Disk, MayHold, IsApart}
use Rattle.ab_image.specs.declared.layout.TheConstants.{CHOICE, ORIGIN, RECORD_0, RECORD_1, RECORD, FIRST}
use Rattle.ab_image.specs.declared.partition.Partition.{Partition}
use Rattle.ab_image.specs.declared.partition.Partition.TheVariants.{Zero, One}

-- ---- where things stand

abbrev pub choice_at : ℕ
choice_at = CHOICE

abbrev pub origin_at : ℕ
origin_at = ORIGIN

-- the record beside a partition
abbrev pub record_at : Partition → ℕ
record_at Zero = RECORD_0
record_at One = RECORD_1

-- how many bytes a record has: a length and a sum
abbrev pub record_size : ℕ
record_size = RECORD

-- how many bytes each partition has, in an area of so many bytes
abbrev pub partition_size : ℕ → ℕ
partition_size size = (size - FIRST) / 2

abbrev pub partition_at : ℕ → Partition → ℕ
partition_at size Zero = FIRST
partition_at size One = FIRST + partition_size size

-- apart from a partition and its record
abbrev pub IsBeside : (size : ℕ) → Partition → ℕ → Type 0
IsBeside size p i = IsApart (record_at p) record_size i × IsApart (partition_at size p) (partition_size size) i

-- ---- what bytes stand for

abbrev pub other : Partition → Partition
other Zero = One
other One = Zero

-- a byte names a partition by its parity
abbrev pub named_by : ℕ → Partition
named_by byte = if byte % 2 == 0 then Zero else One

-- the byte that the module writes for a partition
abbrev pub byte_of : Partition → ℕ
byte_of Zero = 0
byte_of One = 1

-- the byte at an offset is as before, or the one that the module writes for the partition that it names
abbrev pub StaysOrNames : ℕ → List ℕ → List ℕ → Type 0
StaysOrNames at before after = (slice_index_or after at 0 ≡ slice_index_or before at 0) ⊎ (slice_index_or after at 0 ≡ byte_of (named_by (slice_index_or after at 0)))

-- the partition that the choice byte picks
abbrev pub chosen : List ℕ → Partition
chosen area = named_by (slice_index_or area choice_at 0)

-- the partition that the origin byte names
abbrev pub origin : List ℕ → Partition
origin area = named_by (slice_index_or area origin_at 0)

-- the parities of choice and origin agree
abbrev pub Agree : List ℕ → Type 0
Agree area = origin area ≡ chosen area

-- apart from the partition that isn't chosen and its record, and from the origin where the parities differ
abbrev pub IsSpared : (size : ℕ) → (area : List ℕ) → ℕ → Type 0
IsSpared size area i = (Agree area ⊎ IsApart origin_at 1 i) × IsBeside size (other (chosen area)) i

abbrev pub record_in : List ℕ → Partition → List ℕ
record_in area p = take record_size (drop (record_at p) area)

-- the length and the sum that the record beside a partition names
abbrev pub length_in : List ℕ → Partition → ℕ
length_in area p = from_be_bytes w64 (take 8 (record_in area p))

abbrev pub sum_in : List ℕ → Partition → List ℕ
sum_in area p = drop 8 (record_in area p)

-- the first bytes of a partition
abbrev pub front_of : List ℕ → Partition → ℕ → List ℕ
front_of area p count = take count (drop (partition_at (length area) p) area)

-- the record of an image
abbrev pub record_of : List ℕ → List ℕ
record_of image = to_be_bytes w64 (length image) ++ sha256 image

-- the record beside the partition names the image's length and sum, and the partition begins with the image
pub record Whole (area : List ℕ) (p : Partition) (image : List ℕ) : Type 0 where
  pub named : record_in area p ≡ record_of image
  pub fits : length image ≤ partition_size (length area)
  pub begins : front_of area p (length image) ≡ image

abbrev pub IsWhole : List ℕ → Partition → Type 0
IsWhole area p = (image : List ℕ) × Whole area p image

-- the chosen partition and the origin are whole, each for some image
pub record Sane (area : List ℕ) : Type 0 where
  pub chosen : IsWhole area (chosen area)
  pub origin : IsWhole area (origin area)

-- for every filling of what is unsynced
abbrev pub IsSane : Option Disk → Type 0
IsSane disk = (area : List ℕ) → MayHold disk area → Sane area

-- the record beside a partition names a length that fits and this sum, and as many first bytes of the partition have the sum
pub record IsReady (area : List ℕ) (p : Partition) (sum : List ℕ) : Type 0 where
  pub fits : length_in area p ≤ partition_size (length area)
  pub named : sum_in area p ≡ sum
  pub found : sha256 (front_of area p (length_in area p)) ≡ sum
