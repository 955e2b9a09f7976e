use Rattle.std.proofs.Common.{◌≡◌, Bool, true, false, ◌∙◌, sym, ap, subst, refl}
use Rattle.std.specs.Prelude.{Ok, Err, ◌||◌}
use Rattle.flow_words.specs.Course.{done}
use Rattle.flow_words.specs.Words.{child_calls, is_ignored}
use Rattle.trace_check.specs.Reading.{read}
use Rattle.trace_check.proofs.Readings.{err-is, then-ok, then-err}
use Rattle.trace_check.proofs.calls.read_main.Goals as goal

or-then : (b good : Bool) → b ≡ true → (b || good) ≡ true
or-then true good is = refl
or-then false good is = absurd cc

or-else : (b good : Bool) → b ≡ false → (b || good) ≡ good
or-else false good is = refl
or-else true good is = absurd cc

pub returns-in_err-good-in-Some : goal.returns-in_err-good-in-Some
returns-in_err-good-in-Some c =
    let m = c.in-Some.main in
    let made = subst (λ (b : Bool). Err c.in_err-good-in-Some.field-0.0 ≡ read c.args.events.now (child_calls c.args.kinds.now m.child b) c.args.at) c.calls_every.ensures c.in_err-good-in-Some.ensures in
    rw c.in-Some.is (err-is c.from_residual.result c.in_err-good-in-Some.field-0.0 c.from_residual.ensures.1
    ∙ sym (then-err c.args.events.now (child_calls c.args.kinds.now m.child _) (λ good. done (is_ignored m.mode || good)) c.args.at c.in_err-good-in-Some.field-0.0 (sym made)))

pub returns-then-is_ignored : goal.returns-then-is_ignored
returns-then-is_ignored c =
    let m = c.in-Some.main in
    let good = c.in_ok-good-in-Some.good in
    let made = subst (λ (b : Bool). Ok (good, c.in_ok-good-in-Some.next) ≡ read c.args.events.now (child_calls c.args.kinds.now m.child b) c.args.at) c.calls_every.ensures c.in_ok-good-in-Some.ensures in
    let holds : is_ignored m.mode ≡ true = cc in
    let both : (is_ignored m.mode || good) ≡ c.is_ignored.result = or-then (is_ignored m.mode) good holds ∙ cc in
    rw c.in-Some.is (sym (then-ok c.args.events.now (child_calls c.args.kinds.now m.child _) (λ good. done (is_ignored m.mode || good)) c.args.at good _ (sym made) ∙ ap (λ b. Ok (b, c.in_ok-good-in-Some.next)) both))

pub returns-else-is_ignored : goal.returns-else-is_ignored
returns-else-is_ignored c =
    let m = c.in-Some.main in
    let good = c.in_ok-good-in-Some.good in
    let made = subst (λ (b : Bool). Ok (good, c.in_ok-good-in-Some.next) ≡ read c.args.events.now (child_calls c.args.kinds.now m.child b) c.args.at) c.calls_every.ensures c.in_ok-good-in-Some.ensures in
    let fails : is_ignored m.mode ≡ false = cc in
    rw c.in-Some.is (sym (then-ok c.args.events.now (child_calls c.args.kinds.now m.child _) (λ good. done (is_ignored m.mode || good)) c.args.at good _ (sym made) ∙ ap (λ b. Ok (b, c.in_ok-good-in-Some.next)) (or-else (is_ignored m.mode) good fails)))
