use Rattle.std.proofs.Common.{◌≡◌, [], drop, length}
use Rattle.std.specs.Prelude.{map}
use Rattle.admit.specs.Kept.{numbered_text}
use Rattle.admit.specs.Admit.{infos_after}
use Rattle.admit.proofs.fields.infos_of.Given as goal

abbrev pub invariant-loop-kind : goal.invariant-loop-kind
invariant-loop-kind l = record {
  value : infos_after l.infos (drop l.kind-index l.kinds) (map numbered_text l.texts) ≡ infos_after [] l.kinds (map numbered_text l.texts);
  count : length l.infos ≡ l.kind-index;
}
