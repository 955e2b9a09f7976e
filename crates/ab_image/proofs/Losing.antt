-- A loss after a call's effect is a loss in the call.
use Rattle.std.proofs.Common.{◌≡◌, ℕ, ◌+◌, ◌≤◌, false, List, length, refl, sym, ◌∙◌, ap, subst}
use Rattle.std.specs.Prelude.{Option, Result, Ok, Err}
use Rattle.device_model.specs.declared.calls.Down.{Down}
use Rattle.device_model.specs.declared.calls.Down.TheVariants.{Off, Fault}
use Rattle.upd_text.specs.Counts.{counted}
use Rattle.device_model.specs.Disk.{Disk, IsWhole, KeepsDisk}
use Rattle.device_model.proofs.Keeps.{same, torn, synced_keeps, off}
use Rattle.device_mem.proofs.Losing.{torn_synced, torn_written}
use Rattle.ab_image.specs.Blocks.{Medium, LosesPower, EndsRead, EndsSync, after_write, after_sync}

rest_after : (old mid new : Medium) → mid ≡ record old { disk = mid.disk } → new ≡ record mid { on = false; disk = new.disk; losses = counted mid.losses } → new ≡ record old { on = false; disk = new.disk; losses = counted old.losses }
rest_after old mid new is l = l ∙ ap (λ (s : Medium). record s { on = false; disk = new.disk; losses = counted s.losses }) is

pub lost_synced : (old new : Medium) → LosesPower 0 0 (after_sync old) new → LosesPower 0 0 old new
lost_synced old new l = record { rest = rest_after old (after_sync old) new refl l.rest; disk = torn_synced old.disk new.disk l.disk }

pub lost_written : (at : ℕ) (bytes : List ℕ) (old new : Medium) → at + length bytes ≤ old.size → IsWhole old.size old.disk → LosesPower 0 0 (after_write at bytes old) new → LosesPower at (length bytes) old new
lost_written at bytes old new fits w l = record { rest = rest_after old (after_write at bytes old) new refl l.rest; disk = torn_written old.size at bytes fits old.disk new.disk w l.disk }

stays : (old new : Medium) → new ≡ old → KeepsDisk old.disk new.disk
stays old new e = same old.disk new.disk (ap (λ (m : Medium). m.disk) e)

pub loses : (old new : Medium) → LosesPower 0 0 old new → KeepsDisk old.disk new.disk
loses old new l = torn old.disk new.disk l.disk

pub read_keeps : {T : Type 0} (old : Medium) (r : Result T Down) (new : Medium) → EndsRead old r new → KeepsDisk old.disk new.disk
read_keeps old (Ok x) new h = stays old new h.1
read_keeps old (Err Fault) new h = same old.disk new.disk (ap (λ (m : Medium). m.disk) h.1)
read_keeps old (Err Off) new h = off old.on (LosesPower 0 0 old new) (new ≡ old) (KeepsDisk old.disk new.disk) h (loses old new) (stays old new)

pub sync_keeps : {T : Type 0} (old : Medium) (r : Result T Down) (new : Medium) → EndsSync old r new → KeepsDisk old.disk new.disk
sync_keeps old (Ok x) new h = subst (λ (d : Option Disk). KeepsDisk old.disk d) (sym (ap (λ (m : Medium). m.disk) h.1)) (synced_keeps old.disk)
sync_keeps old (Err Fault) new h = same old.disk new.disk (ap (λ (m : Medium). m.disk) h.1)
sync_keeps old (Err Off) new h = off old.on (LosesPower 0 0 old new) (new ≡ old) (KeepsDisk old.disk new.disk) h (loses old new) (stays old new)
