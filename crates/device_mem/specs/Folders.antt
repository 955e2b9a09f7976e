-- The work folder of a device in memory, by its files and what is known of them.
use Rattle.std.specs.Prelude.{Bool, List, [], Option, Some, None, if◌then◌else◌}
use Rattle.device_model.specs.Work.{File, Work, Folder, Unknown as UnknownFolder, Changed as ChangedFolder, Synced as SyncedFolder}
use Rattle.device_mem.specs.declared.work.Kind.{Kind}
use Rattle.device_mem.specs.declared.work.Kind.TheVariants.{Unknown, Changed, Synced}

abbrev pub folder_by : Kind → List File → Folder
folder_by Unknown files = UnknownFolder
folder_by Changed files = ChangedFolder files
folder_by Synced files = SyncedFolder files

abbrev pub given_by : Option Kind → List File → Option Folder
given_by None files = None
given_by (Some kind) files = Some (folder_by kind files)

abbrev pub first_kind : Option Kind → Kind → Kind
first_kind None kind = kind
first_kind (Some given) kind = given

abbrev pub changed_kind : Kind → Kind
changed_kind Unknown = Unknown
changed_kind Changed = Changed
changed_kind Synced = Changed

-- a folder whose files were taken out
abbrev pub emptied : Folder → Folder
emptied UnknownFolder = UnknownFolder
emptied (ChangedFolder files) = ChangedFolder []
emptied (SyncedFolder files) = SyncedFolder []

-- what a child leaves
abbrev pub left_by : Bool → Work → Work
left_by meddle work = if meddle then record work { folder = emptied work.folder } else work

-- the files that a child was given: none where none was started, and where the folder was unknown
abbrev pub given_files : Option Folder → List File
given_files None = []
given_files (Some UnknownFolder) = []
given_files (Some (ChangedFolder files)) = files
given_files (Some (SyncedFolder files)) = files
