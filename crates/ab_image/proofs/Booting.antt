-- Whatever calls there are, with losses between them, each boot finds a whole image.
use Rattle.std.proofs.Common.{List, [], ◌∷◌}
use Rattle.std.specs.Prelude.{Option}
use Rattle.device_model.specs.Disk.{Disk}
use Rattle.ab_image.specs.Layout.{IsSane}
use Rattle.ab_image.specs.Calls.{Called, Runs, Boots}

pub runs_sane : (old : Option Disk) (calls : List Called) → IsSane old → Runs old calls → Boots calls
runs_sane old [] s r = tt
runs_sane old (c ∷ calls) s r =
    let before : IsSane c.before.blocks.disk = λ area held. s area (r.0 area held) in
    let after : IsSane c.after.blocks.disk = c.acts.stands.sane before in
    (λ area held. (before area held).chosen, λ area held. (after area held).chosen, runs_sane c.after.blocks.disk calls after r.1)
