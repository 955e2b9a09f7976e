-- Boots in a row from an area of zeros.
use Rattle.std.proofs.Common.{◌≡◌, ℕ, List, sym, ap, ◌∙◌, subst, replicate}
use Rattle.std.specs.Prelude.{Option, Some, Result, Ok}
use Rattle.device_model.specs.Disk.{Disk, unmarked}
use Rattle.io_model.specs.Source.Content.{Told}
use Rattle.io_model.specs.MemSource.{Shelf}
use Rattle.script_names.specs.declared.site.Site.{Site}
use Rattle.record_codec.specs.declared.entry.Db.{Db}
use Rattle.record_codec.specs.declared.entry.Db.TheVariants.{Empty}
use Rattle.record_codec.specs.Held.{held}
use Rattle.slot_store.specs.Slots.{May, stood}
use Rattle.slot_store.proofs.Disks.{settled-area}
use Rattle.slot_store.proofs.Zeros.{zeros-stand}
use Rattle.device_mem.specs.MemState.{MemState}
use Rattle.client_words.specs.declared.command.Command.{Command}
use Rattle.lab.specs.declared.runs.BootRun.{BootRun}
use Rattle.lab.specs.Campaign.{Campaigned}
use Rattle.lab.specs.Path.{Path}
use Rattle.lab.specs.Holding.{HeldAfter}
use Rattle.lab.proofs.Holdings.{held-after}

same-db : {a b : Db} → ◌≡◌ {A = Result Db ℕ} (Ok a) (Ok b) → a ≡ b
same-db h = cc

-- nothing but the empty database may stand on it
pub zeros-hold : (disk : Disk) → disk.area ≡ replicate 266240 0 → disk.unsynced ≡ unmarked disk.unsynced → (c : Db) → May (Some disk) c → c ≡ Empty
zeros-hold disk zeros settled c may =
    same-db (sym may.stands ∙ ap stood (settled-area disk settled may.area may.held ∙ zeros) ∙ zeros-stand)

pub held-from-zeros : (site : Site) (boots : List Command) (old new : MemState) (source source' : Shelf) (runs : List BootRun) (disk : Disk) → Campaigned site boots old new source source' runs →
    old.device.disk ≡ Some disk → disk.area ≡ replicate 266240 0 → disk.unsynced ≡ unmarked disk.unsynced → (d : Db) → May new.device.disk d → HeldAfter site (Told source.tree) runs d (held d)
held-from-zeros site boots old new source source' runs disk campaign is zeros settled d may =
    let led = campaign.reached d may in
    let empty : led.from ≡ Empty = zeros-hold disk zeros settled led.from (subst (λ (o : Option Disk). May o led.from) is led.may) in
    held-after site (Told source.tree) d runs (subst (λ (c : Db). Path site (Told source.tree) c runs d) empty led.path)
