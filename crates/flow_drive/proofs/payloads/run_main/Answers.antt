use Rattle.std.proofs.Common.{◌≡◌, Bool, true, false, refl, subst}
use Rattle.std.specs.Prelude.{◌||◌}
use Rattle.flow_words.specs.Course.{done}
use Rattle.flow_words.specs.Stretch.{Finishes, Stops}
use Rattle.flow_words.specs.Words.{child_calls, is_ignored}
use Rattle.flow_words.proofs.Reach.{Stops-front}
use Rattle.flow_words.proofs.Payloads.{main-finished, or-true}
use Rattle.flow_drive.proofs.payloads.run_main.Goals as goal

pub returns-in-Off-clause-ran : goal.returns-in-Off-clause-ran
returns-in-Off-clause-ran g c =
    let made = subst (λ (b : Bool). Stops (child_calls c.args.kinds.now c.in-Some.main.child b) (g.D.Device.means c.args.device.now) (g.D.Device.means c.run_children.new.device)) c.calls_every.ensures c.in-Off.ensures.ran in
    rw c.in-Some.is (Stops-front (λ good. done (is_ignored c.in-Some.main.mode || good)) made)

pub returns-in-Done-clause-ran : goal.returns-in-Done-clause-ran
returns-in-Done-clause-ran g c =
    let made = subst (λ (b : Bool). Finishes (child_calls c.args.kinds.now c.in-Some.main.child b) true (g.D.Device.means c.args.device.now) (g.D.Device.means c.run_children.new.device)) c.calls_every.ensures c.in-Done.ensures.ran in
    rw c.in-Some.is (main-finished (is_ignored c.in-Some.main.mode) true (or-true (is_ignored c.in-Some.main.mode)) made)

pub returns-then-is_ignored-clause-ran : goal.returns-then-is_ignored-clause-ran
returns-then-is_ignored-clause-ran g c =
    let made = subst (λ (b : Bool). Finishes (child_calls c.args.kinds.now c.in-Some.main.child b) false (g.D.Device.means c.args.device.now) (g.D.Device.means c.run_children.new.device)) c.calls_every.ensures c.in-Failed.ensures.ran in
    let is : is_ignored c.in-Some.main.mode ≡ true = cc in
    rw c.in-Some.is (main-finished (is_ignored c.in-Some.main.mode) true (rw is refl) made)

pub returns-else-is_ignored-clause-ran : goal.returns-else-is_ignored-clause-ran
returns-else-is_ignored-clause-ran g c =
    let made = subst (λ (b : Bool). Finishes (child_calls c.args.kinds.now c.in-Some.main.child b) false (g.D.Device.means c.args.device.now) (g.D.Device.means c.run_children.new.device)) c.calls_every.ensures c.in-Failed.ensures.ran in
    let is : is_ignored c.in-Some.main.mode ≡ false = cc in
    rw c.in-Some.is (main-finished (is_ignored c.in-Some.main.mode) false (rw is refl) made)
