-- A campaign: boots in a row on a device in memory, each with one command.
use Rattle.std.specs.Prelude.{◌≡◌, ℕ, zero, suc, ◌+◌, ◌≤◌, Bool, true, false, List, [], ◌∷◌, ◌++◌, length, map, All, Result, Ok, Err, ⊤}
use Rattle.std.specs.List.{flat_map, count_by}
use Rattle.upd_text.specs.Counts.{counted}
use Rattle.upd_text.specs.declared.list.NoMemory.{NoMemory}
use Rattle.device_model.specs.declared.calls.Event.{Event}
use Rattle.io_model.specs.Source.Content.{Told}
use Rattle.io_model.specs.MemSource.{Shelf}
use Rattle.script_names.specs.declared.site.Site.{Site}
use Rattle.record_codec.specs.declared.entry.Db.{Db}
use Rattle.slot_store.specs.Slots.{May, Sound}
use Rattle.device_mem.specs.Fits.{Fits}
use Rattle.device_mem.specs.MemState.{MemState}
use Rattle.client_words.specs.declared.command.Command.{Command}
use Rattle.client_words.specs.declared.command.Command.TheVariants.{Simulate}
use Rattle.client_top.specs.declared.status.Status.{Status}
use Rattle.client_top.specs.declared.status.Status.TheVariants.{DiskFault, SourceFault, SinkFault, Usage, BadStore}
use Rattle.lab.specs.declared.runs.BootRun.{BootRun}
use Rattle.lab.specs.Events.{ends_with_loss}
use Rattle.lab.specs.Path.{Leads, is_off}

-- the count after it rose so often; it stays at the end of its type
abbrev pub risen : ℕ → ℕ → ℕ
risen n zero = n
risen n (suc times) = counted (risen n times)

abbrev pub is_disk_fault : Status → Bool
is_disk_fault DiskFault = true
is_disk_fault _ = false

abbrev pub is_source_fault : Status → Bool
is_source_fault SourceFault = true
is_source_fault _ = false

-- a command that no boot obeys
abbrev pub simulates : Command → Bool
simulates (Simulate seed rounds) = true
simulates _ = false

-- An answer that a campaign on a sound device may give: its sink never fails, its words are commands, and its store is a
-- record.
abbrev pub IsExpected : Status → Type 0
IsExpected SinkFault = ⊥
IsExpected (Usage fault) = ⊥
IsExpected (BadStore offset) = ⊥
IsExpected _ = ⊤

-- all events of the boots in a row
abbrev pub events_of : List BootRun → List Event
events_of runs = flat_map (λ (r : BootRun). r.events.events) runs

-- the events of the last boot are these
abbrev pub LastHas : List Event → List BootRun → Type 0
LastHas events [] = ⊤
LastHas events (run ∷ []) = run.events.events ≡ events
LastHas events (run ∷ next ∷ runs) = LastHas events (next ∷ runs)

-- The boots were made with these commands, and this is what they did.
pub record Campaigned (site : Site) (boots : List Command) (old new : MemState) (source source' : Shelf) (runs : List BootRun) : Type 0 where
  pub commands : map (λ (r : BootRun). r.command) runs ≡ boots
  pub none : boots ≡ [] → new ≡ old
  -- the database
  pub reached : (d : Db) → May new.device.disk d → Leads site (Told source.tree) old.device.disk runs d
  pub sound : Sound old.device.disk → Sound new.device.disk
  -- the device and its script
  pub fits : Fits old.plan.script old.taken old.started (events_of runs) new.taken new.started
  pub last : LastHas new.device.journal runs
  pub script : new.plan.script ≡ old.plan.script
  pub room : old.device.room + length old.device.journal ≤ new.device.room + length new.device.journal
  -- the source
  pub tree : source'.tree ≡ source.tree
  pub failing : source'.failing ≡ source.failing
  -- the counts, and the answers that raise them
  pub losses : new.device.losses ≡ risen old.device.losses (count_by (λ (r : BootRun). ends_with_loss r.events.events) runs)
  pub off : All (λ (r : BootRun). is_off r.status ≡ ends_with_loss r.events.events) runs
  pub faults : new.device.faults ≡ risen old.device.faults (count_by (λ (r : BootRun). is_disk_fault r.status) runs)
  pub source_faults : source'.faults ≡ risen source.faults (count_by (λ (r : BootRun). is_source_fault r.status) runs)
  pub answers : Sound old.device.disk → All (λ (r : BootRun). IsExpected r.status) runs

-- The campaign ended early: the boots up to one were made.
pub record CutShort (site : Site) (boots : List Command) (old new : MemState) (source source' : Shelf) : Type 0 where
  pub made : List Command
  pub left : List Command
  pub are : boots ≡ made ++ left
  pub runs : List BootRun
  pub campaign : Campaigned site made old new source source' runs

-- what a campaign did, by its answer
abbrev pub Campaigns : Site → List Command → MemState → MemState → Shelf → Shelf → Result (List BootRun) NoMemory → Type 0
Campaigns site boots old new source source' (Ok runs) = Campaigned site boots old new source source' runs
Campaigns site boots old new source source' (Err e) = CutShort site boots old new source source'
