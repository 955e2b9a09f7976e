use Rattle.std.proofs.Common.{◌≡◌, drop}
use Rattle.std.specs.Prelude.{map}
use Rattle.admit.specs.Kept.{numbered_text}
use Rattle.admit.specs.Admit.{text_of}
use Rattle.admit.proofs.fields.text_of.Given as goal

abbrev pub invariant-loop-info : goal.invariant-loop-info
invariant-loop-info l = text_of (map numbered_text (drop l.info-index l.texts)) l.payload ≡ text_of (map numbered_text l.texts) l.payload
