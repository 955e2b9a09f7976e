use Rattle.std.proofs.Common.{◌≡◌, ℕ, ◌<◌, ◌≤◌, false, get_or}
use Rattle.std.specs.Prelude.{All}
use Rattle.device_model.specs.Disk.{IsSynced, IsByte}
use Rattle.device_mem.specs.Tears.{torn_byte}
use Rattle.device_mem.proofs.bytes.tear_unsynced.Given as goal

abbrev pub invariant-loop-i : goal.invariant-loop-i
invariant-loop-i l = record {
  same : (k : ℕ) → IsSynced l.unsynced k → get_or l.area k 0 ≡ get_or l.fn.area k 0;
  bytes : All IsByte l.area;
  torn : (k : ℕ) → k < l.i → get_or l.area k 0 ≡ torn_byte l.tear (get_or l.unsynced k false) (get_or l.before k 0) (get_or l.fn.area k 0);
  tear : l.tear ≡ l.fn.tear;
  rest : (k : ℕ) → l.i ≤ k → get_or l.area k 0 ≡ get_or l.fn.area k 0;
}
