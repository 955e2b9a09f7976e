use Rattle.std.proofs.Common.{◌≡◌, ◌∙◌, List, ℕ, false, length, arith, refl, subst, sym, IsTrue}
use Rattle.std.proofs.lemmas.List.{take_at}
use Rattle.slot_store.specs.Kept.{Kept}
use Rattle.slot_store.specs.Mount.{is_old}
use Rattle.slot_store.proofs.Mounts.{mounted, bad, bad-slot, bad-cell, found-storable, old-slot, old-only}
use Rattle.slot_store.proofs.store.Store.read.Goals as goal

pub placed-requires : goal.placed-requires
placed-requires g c = record { storable = found-storable c.in-Ok-decode.db c.deref.result.now c.in-Ok-decode.ensures.found }

pub returns-in-Err-NotARecord-clause-ends : goal.returns-in-Err-NotARecord-clause-ends
returns-in-Err-NotARecord-clause-ends g c =
    let slot = c.read_picked.new.slot in
    let whole : length slot ≡ c.in-Ok.buffer.len = omega (arith, c.read_picked.auto.slot, c.deref_mut.ensures.len) in
    let bytes : c.deref.result.now ≡ slot = c.deref.ensures.value ∙ take_at slot _ c.in-Ok.buffer.len whole in
    let wrong = rw (bytes, c.in-Err-NotARecord.field-0-is) at c.in-Err-NotARecord.ensures.exact in
    rw c.in-Err-NotARecord.field-0-is (bad (g.D.Device.means c.args.device.now) (g.D.Device.means c.read_picked.new.device) slot c.in-Ok-read_picked.found c.in-Err-NotARecord.offset c.in-Ok-read_picked.ensures.ends (bad-slot slot c.in-Ok-read_picked.found.cell c.in-Err-NotARecord.offset wrong))

pub returns-in-Err-clause-ends : goal.returns-in-Err-clause-ends
returns-in-Err-clause-ends g c =
    let slot = c.read_picked.new.slot in
    let whole : length slot ≡ c.in-Ok.buffer.len = omega (arith, c.read_picked.auto.slot, c.deref_mut.ensures.len) in
    let bytes : c.deref.result.now ≡ slot = c.deref.ensures.value ∙ take_at slot _ c.in-Ok.buffer.len whole in
    let read = rw bytes at c.in-Ok-decode.ensures.exact in
    bad (g.D.Device.means c.args.device.now) (g.D.Device.means c.read_picked.new.device) slot c.in-Ok-read_picked.found c.in-Err.offset c.in-Ok-read_picked.ensures.ends (bad-cell slot c.in-Ok-read_picked.found.cell c.in-Ok-decode.db c.in-Err.offset read (sym c.in-Err.ensures.is))

pub returns-clause-ends : goal.returns-clause-ends
returns-clause-ends g c =
    let old = g.D.Device.means c.args.device.now in
    let new = g.D.Device.means c.read_picked.new.device in
    let slot = c.read_picked.new.slot in
    let whole : length slot ≡ c.in-Ok.buffer.len = omega (arith, c.read_picked.auto.slot, c.deref_mut.ensures.len) in
    let bytes : c.deref.result.now ≡ slot = c.deref.ensures.value ∙ take_at slot _ c.in-Ok.buffer.len whole in
    let again : c.deref-2.result.now ≡ slot = c.deref-2.ensures.value ∙ take_at slot _ c.in-Ok.buffer.len whole in
    let read = rw bytes at c.in-Ok-decode.ensures.exact in
    let store : Kept = record { picked = c.in-Ok-read_picked.found.picked; cell = c.in-Ok-read_picked.found.cell_picked; loaded = false; db = c.in-Ok-placed.db } in (
      mounted old new slot c.in-Ok-read_picked.found c.in-Ok-decode.db store c.in-Ok-read_picked.ensures.ends (g.met.D.Device.whole c.read_picked.new.device) read (sym c.in-Ok-placed.ensures.is) refl refl refl,
      record {
        entry = c.is_old_entry-is_old.ensures.entry;
        slot = old-slot old new slot c.in-Ok-read_picked.found c.is_old_entry-is_old.result c.in-Ok-read_picked.ensures.ends (λ t. subst (λ (l : List ℕ). IsTrue (is_old l)) again (c.is_old_entry-is_old.ensures.slot t));
        only = λ full. old-only old new slot c.in-Ok-read_picked.found c.is_old_entry-is_old.result c.in-Ok-read_picked.ensures.ends (λ t. c.is_old_entry-is_old.ensures.only full (subst (λ (l : List ℕ). IsTrue (is_old l)) (sym again) t));
      },
    )
