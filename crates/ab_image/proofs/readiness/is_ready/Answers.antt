use Rattle.std.proofs.Common.{◌≡◌, ◌∙◌, ℕ, ◌≤◌, length, take, drop, ap, subst}
use Rattle.std.specs.Prelude.{◌↔◌, IsTrue, IfSome}
use Rattle.std.specs.Int.{w64, from_be_bytes}
use Rattle.sha2.specs.Sha256.{sha256}
use Rattle.device_model.specs.Disk.{area_of}
use Rattle.ab_image.specs.Layout.{partition_size, partition_at}
use Rattle.ab_image.specs.Blocks.{Medium}
use Rattle.ab_image.proofs.Ready.{unready, ready}
use Rattle.ab_image.proofs.readiness.is_ready.Goals as goal

pub returns-then-not-names-clause-ready : goal.returns-then-not-names-clause-ready
returns-then-not-names-clause-ready g c =
    let old = g.B.Blocks.means c.args.blocks.now in
    let bytes = c.read.new.into in
    let sum = c.args.listed.now in
    let size : c.size.result ≡ old.size = c.size.ensures ∙ ap (λ (m : Medium). m.size) c.in_ok-read.ensures.ends.1 in
    unready old.size c.args.partition bytes sum c.read.auto.into old.disk (g.met.B.Blocks.whole c.args.blocks.now).disk
    (subst (λ (n : ℕ). IfSome old.disk (λ d. bytes ≡ take (length bytes) (drop n d.area))) c.record_at.ensures c.in_ok-read.ensures.bytes)
    c.names.result c.if-not-names.true
    (subst (λ (n : ℕ). IsTrue c.names.result ↔ ((from_be_bytes w64 (take 8 bytes) ≤ n) × (drop 8 bytes ≡ sum))) (c.partition_size.ensures ∙ ap partition_size size) c.names.ensures)

pub returns-clause-ready : goal.returns-clause-ready
returns-clause-ready g c =
    let old = g.B.Blocks.means c.args.blocks.now in
    let bytes = c.read.new.into in
    let sum = c.args.listed.now in
    let found = c.in_ok-found.found in
    let size : c.size.result ≡ old.size = c.size.ensures ∙ ap (λ (m : Medium). m.size) c.in_ok-read.ensures.ends.1 in
    let names = c.names.ensures.0 c.if-not-names.false in
    ready old.size c.args.partition bytes sum c.read.auto.into old.disk (g.met.B.Blocks.whole c.args.blocks.now).disk
    (subst (λ (n : ℕ). IfSome old.disk (λ d. bytes ≡ take (length bytes) (drop n d.area))) c.record_at.ensures c.in_ok-read.ensures.bytes)
    (subst (λ (n : ℕ). from_be_bytes w64 (take 8 bytes) ≤ n) (c.partition_size.ensures ∙ ap partition_size size) names.0, names.1)
    c.length_in.result c.length_in.ensures found
    (subst (λ (m : Medium). IfSome (area_of m.disk) (λ area. found ≡ sha256 (take c.length_in.result (drop (partition_at m.size c.args.partition) area)))) c.in_ok-read.ensures.ends.1 c.in_ok-found.ensures.sum)
    c.is.result c.is.ensures
