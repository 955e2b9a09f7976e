-- What the disk and the work folder of a device in memory mean.
use Rattle.std.specs.Prelude.{ℕ, List, [], length, replicate, false, None, if◌then◌else◌}
use Rattle.device_model.specs.Disk.{Disk}
use Rattle.device_model.specs.Work.{Work, Synced}
use Rattle.device_mem.specs.Folders.{folder_by, given_by}
use Rattle.device_mem.specs.declared.disk.MemDisk.{MemDisk}
use Rattle.device_mem.specs.declared.folder.MemFolder.{MemFolder}

abbrev pub disk_of : MemDisk → Disk
disk_of d = record { area = d.area.items; unsynced = d.unsynced.items }

-- an area of which nothing is unsynced
abbrev pub fresh_disk : List ℕ → Disk
fresh_disk area = record { area = area; unsynced = replicate (length area) false }

abbrev pub work_of : MemFolder → Work
work_of f = record { folder = folder_by f.kind (if f.is_apart then f.own else f.base); given = given_by f.given_kind f.base }

-- no file, and no child was started
abbrev pub fresh_work : Work
fresh_work = record { folder = Synced []; given = None }
