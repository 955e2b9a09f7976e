use Rattle.slot_store.proofs.writing.write_synced.Goals as goal

pub returns-in-Err-clause-leaves : goal.returns-in-Err-clause-leaves
returns-in-Err-clause-leaves g c = c.write_bytes.ensures.leaves

pub returns-clause-leaves : goal.returns-clause-leaves
returns-clause-leaves g c = λ area held. c.write_bytes.ensures.leaves area (c.disk_sync.ensures.leaves.adds area held)
