use Rattle.std.proofs.Common.{◌≡◌, ◌∙◌, Bool, true, false, [], ◌∷◌, Ok, Err, sym, subst}
use Rattle.std.specs.Prelude.{◌↔◌, IsTrue, IfSome}
use Rattle.std.proofs.lemmas.Result.{err_from_is_err_and}
use Rattle.device_model.specs.Disk.{area_of}
use Rattle.ab_image.specs.declared.settling.Named.{Named}
use Rattle.ab_image.specs.Layout.{choice_at, byte_of, IsReady}
use Rattle.ab_image.specs.Blocks.{Medium}
use Rattle.ab_image.specs.Parts.{Sets}
use Rattle.ab_image.proofs.Steps.{calm-err}
use Rattle.ab_image.proofs.Choices.{calm-chooses, differs-chooses, set-chooses}
use Rattle.ab_image.proofs.committing.choose.Goals as goal

pub returns-in_err-named : goal.returns-in_err-named
returns-in_err-named g c =
    let old = g.B.Blocks.means c.args.blocks.now in
    let new = g.B.Blocks.means c.settle.new.blocks in
    let p = err_from_is_err_and c.from_residual.result c.from_residual.ensures.1 in
    rw (p.1, p.2) (record { chooses = calm-chooses c.args.listed.now old (Err _) new (g.met.B.Blocks.whole c.settle.new.blocks) (calm-err Named Bool old _ new c.in_err-named.ensures.settles.calm) tt tt })

pub returns-then-not-is : goal.returns-then-not-is
returns-then-not-is g c =
    let old = g.B.Blocks.means c.args.blocks.now in
    let new = g.B.Blocks.means c.settle.new.blocks in
    record { chooses = differs-chooses c.args.listed.now old c.in_ok-named.named new (g.met.B.Blocks.whole c.settle.new.blocks) c.in_ok-named.ensures.settles (λ same. let no : false ≡ true = sym c.if-not-is.true ∙ c.is.ensures.1 same in absurd cc) }

pub returns-in-Ok : goal.returns-in-Ok
returns-in-Ok g c =
    let old = g.B.Blocks.means c.args.blocks.now in
    let mid = g.B.Blocks.means c.settle.new.blocks in
    let new = g.B.Blocks.means c.set.new.blocks in
    let sum = c.args.listed.now in
    let target = c.other-target.result in
    record {
      chooses = set-chooses sum c.in_ok-named.named target c.other-target.ensures (c.is.ensures.0 c.if-not-is.false) old mid (Ok c.in-Ok.field-0) new (g.met.B.Blocks.whole c.args.blocks.now) (g.met.B.Blocks.whole c.set.new.blocks) c.in_ok-named.ensures.settles
          (subst (λ (b : Bool). IfSome (area_of mid.disk) (λ area. IsTrue b ↔ IsReady area target sum)) c.if-not-ready.false c.in_ok-ready.ensures.ready)
          (subst (λ (m : Medium). Sets choice_at (byte_of target ∷ []) m (Ok c.in-Ok.field-0) new) c.in_ok-ready.ensures.same c.in-Ok.ensures.sets);
    }

pub returns-in-Err : goal.returns-in-Err
returns-in-Err g c =
    let old = g.B.Blocks.means c.args.blocks.now in
    let mid = g.B.Blocks.means c.settle.new.blocks in
    let new = g.B.Blocks.means c.set.new.blocks in
    let sum = c.args.listed.now in
    let target = c.other-target.result in
    record {
      chooses = set-chooses sum c.in_ok-named.named target c.other-target.ensures (c.is.ensures.0 c.if-not-is.false) old mid (Err c.in-Err.down) new (g.met.B.Blocks.whole c.args.blocks.now) (g.met.B.Blocks.whole c.set.new.blocks) c.in_ok-named.ensures.settles
          (subst (λ (b : Bool). IfSome (area_of mid.disk) (λ area. IsTrue b ↔ IsReady area target sum)) c.if-not-ready.false c.in_ok-ready.ensures.ready)
          (subst (λ (m : Medium). Sets choice_at (byte_of target ∷ []) m (Err c.in-Err.down) new) c.in_ok-ready.ensures.same c.in-Err.ensures.sets);
    }
