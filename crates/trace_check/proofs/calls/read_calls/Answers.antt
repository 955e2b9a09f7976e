use Rattle.std.proofs.Common.{◌∙◌, sym}
use Rattle.flow_table.specs.declared.table.Heard.TheVariants.{Failed}
use Rattle.script_names.specs.declared.place.Action.TheVariants.{Enter, Leave}
use Rattle.flow_words.specs.Course.{done}
use Rattle.flow_words.specs.Words.{scripts, main_call, question, if_good}
use Rattle.flow_words.proofs.StateCalls.{after_main, after_enter}
use Rattle.trace_check.specs.Follows.{callees}
use Rattle.trace_check.proofs.Readings.{err-is}
use Rattle.trace_check.proofs.Steps.{good-err, good-off, good-on, heard-err, heard-bad, heard-well}
use Rattle.trace_check.proofs.calls.read_calls.Goals as goal

pub returns-in_err-good : goal.returns-in_err-good
returns-in_err-good c =
    let who = callees c.args.head.now in
    let row = c.args.row.now in
    let events = c.args.events.now in
    err-is c.from_residual.result _ c.from_residual.ensures.1
    ∙ sym (good-err events (scripts who Enter row.enter) (after_enter who row) c.args.at _ (sym c.in_err-good.ensures))

pub returns-then-not-good : goal.returns-then-not-good
returns-then-not-good c =
    let who = callees c.args.head.now in
    let row = c.args.row.now in
    let events = c.args.events.now in
    sym (good-off events (scripts who Enter row.enter) (after_enter who row) c.args.at c.in_ok-good.good _ (cc) (sym c.in_ok-good.ensures))

pub returns-in_err-good-2 : goal.returns-in_err-good-2
returns-in_err-good-2 c =
    let who = callees c.args.head.now in
    let row = c.args.row.now in
    let events = c.args.events.now in
    err-is c.from_residual-in_err-good-2.result _ c.from_residual-in_err-good-2.ensures.1
    ∙ sym (good-on events (scripts who Enter row.enter) (after_enter who row) c.args.at c.in_ok-good.good _ (cc) (sym c.in_ok-good.ensures)
    ∙ good-err events (main_call who.kinds row.main) (after_main who row) c.in_ok-good.at _ (sym c.in_err-good-2.ensures))

pub returns-then-not-good-2 : goal.returns-then-not-good-2
returns-then-not-good-2 c =
    let who = callees c.args.head.now in
    let row = c.args.row.now in
    let events = c.args.events.now in
    sym (good-on events (scripts who Enter row.enter) (after_enter who row) c.args.at c.in_ok-good.good _ (cc) (sym c.in_ok-good.ensures)
    ∙ good-off events (main_call who.kinds row.main) (after_main who row) c.in_ok-good.at c.in_ok-good-2.good _ (cc) (sym c.in_ok-good-2.ensures))

pub returns-in_err-heard : goal.returns-in_err-heard
returns-in_err-heard c =
    let who = callees c.args.head.now in
    let row = c.args.row.now in
    let events = c.args.events.now in
    err-is c.from_residual-in_err-heard.result _ c.from_residual-in_err-heard.ensures.1
    ∙ sym (good-on events (scripts who Enter row.enter) (after_enter who row) c.args.at c.in_ok-good.good _ (cc) (sym c.in_ok-good.ensures)
    ∙ good-on events (main_call who.kinds row.main) (after_main who row) c.in_ok-good.at c.in_ok-good-2.good _ (cc) (sym c.in_ok-good-2.ensures)
    ∙ heard-err events (question who.kinds row.query) (done Failed) (λ h. if_good (scripts who Leave row.leave) (done h)) c.in_ok-good-2.at _ (sym c.in_err-heard.ensures))

pub returns-then-is_failed : goal.returns-then-is_failed
returns-then-is_failed c =
    let who = callees c.args.head.now in
    let row = c.args.row.now in
    let events = c.args.events.now in
    sym (good-on events (scripts who Enter row.enter) (after_enter who row) c.args.at c.in_ok-good.good _ (cc) (sym c.in_ok-good.ensures)
    ∙ good-on events (main_call who.kinds row.main) (after_main who row) c.in_ok-good.at c.in_ok-good-2.good _ (cc) (sym c.in_ok-good-2.ensures)
    ∙ heard-bad events (question who.kinds row.query) (done Failed) (λ h. if_good (scripts who Leave row.leave) (done h)) c.in_ok-good-2.at c.in_ok-heard.heard _ (cc) (sym c.in_ok-heard.ensures))

pub returns-in_err-good-3 : goal.returns-in_err-good-3
returns-in_err-good-3 c =
    let who = callees c.args.head.now in
    let row = c.args.row.now in
    let events = c.args.events.now in
    err-is c.from_residual-in_err-good-3.result _ c.from_residual-in_err-good-3.ensures.1
    ∙ sym (good-on events (scripts who Enter row.enter) (after_enter who row) c.args.at c.in_ok-good.good _ (cc) (sym c.in_ok-good.ensures)
    ∙ good-on events (main_call who.kinds row.main) (after_main who row) c.in_ok-good.at c.in_ok-good-2.good _ (cc) (sym c.in_ok-good-2.ensures)
    ∙ heard-well events (question who.kinds row.query) (done Failed) (λ h. if_good (scripts who Leave row.leave) (done h)) c.in_ok-good-2.at c.in_ok-heard.heard _ (cc) (sym c.in_ok-heard.ensures)
    ∙ good-err events (scripts who Leave row.leave) (done c.in_ok-heard.heard) c.in_ok-heard.at _ (sym c.in_err-good-3.ensures))

pub returns-then-good : goal.returns-then-good
returns-then-good c =
    let who = callees c.args.head.now in
    let row = c.args.row.now in
    let events = c.args.events.now in
    sym (good-on events (scripts who Enter row.enter) (after_enter who row) c.args.at c.in_ok-good.good _ (cc) (sym c.in_ok-good.ensures)
    ∙ good-on events (main_call who.kinds row.main) (after_main who row) c.in_ok-good.at c.in_ok-good-2.good _ (cc) (sym c.in_ok-good-2.ensures)
    ∙ heard-well events (question who.kinds row.query) (done Failed) (λ h. if_good (scripts who Leave row.leave) (done h)) c.in_ok-good-2.at c.in_ok-heard.heard _ (cc) (sym c.in_ok-heard.ensures)
    ∙ good-on events (scripts who Leave row.leave) (done c.in_ok-heard.heard) c.in_ok-heard.at c.in_ok-good-3.good _ (cc) (sym c.in_ok-good-3.ensures))

pub returns-else-good : goal.returns-else-good
returns-else-good c =
    let who = callees c.args.head.now in
    let row = c.args.row.now in
    let events = c.args.events.now in
    sym (good-on events (scripts who Enter row.enter) (after_enter who row) c.args.at c.in_ok-good.good _ (cc) (sym c.in_ok-good.ensures)
    ∙ good-on events (main_call who.kinds row.main) (after_main who row) c.in_ok-good.at c.in_ok-good-2.good _ (cc) (sym c.in_ok-good-2.ensures)
    ∙ heard-well events (question who.kinds row.query) (done Failed) (λ h. if_good (scripts who Leave row.leave) (done h)) c.in_ok-good-2.at c.in_ok-heard.heard _ (cc) (sym c.in_ok-heard.ensures)
    ∙ good-off events (scripts who Leave row.leave) (done c.in_ok-heard.heard) c.in_ok-heard.at c.in_ok-good-3.good _ (cc) (sym c.in_ok-good-3.ensures))
