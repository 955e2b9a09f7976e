use Rattle.std.proofs.Common.{◌∙◌, sym}
use Rattle.flow_table.specs.declared.table.Heard.TheVariants.{Failed}
use Rattle.flow_words.specs.Course.{done, and_then}
use Rattle.flow_words.specs.Words.{calls, errors}
use Rattle.trace_check.specs.Follows.{callees}
use Rattle.trace_check.proofs.Readings.{err-is, then-ok, then-err}
use Rattle.trace_check.proofs.Steps.{heard-err, heard-bad, heard-well}
use Rattle.trace_check.proofs.calls.read_row.Goals as goal

pub returns-in_err-heard : goal.returns-in_err-heard
returns-in_err-heard c =
    let who = callees c.args.head.now in
    let row = c.args.row.now in
    let events = c.args.events.now in
    err-is c.from_residual.result _ c.from_residual.ensures.1
    ∙ sym (heard-err events (calls who row) (and_then (errors who row.error) (λ _. done Failed)) (λ h. done h) c.args.at _ (sym c.in_err-heard.ensures))

pub returns-then-not-is_failed : goal.returns-then-not-is_failed
returns-then-not-is_failed c =
    let who = callees c.args.head.now in
    let row = c.args.row.now in
    let events = c.args.events.now in
    sym (heard-well events (calls who row) (and_then (errors who row.error) (λ _. done Failed)) (λ h. done h) c.args.at c.in_ok-heard.heard _ (cc) (sym c.in_ok-heard.ensures))

pub returns-in_err-at : goal.returns-in_err-at
returns-in_err-at c =
    let who = callees c.args.head.now in
    let row = c.args.row.now in
    let events = c.args.events.now in
    err-is c.from_residual-in_err-at.result _ c.from_residual-in_err-at.ensures.1
    ∙ sym (heard-bad events (calls who row) (and_then (errors who row.error) (λ _. done Failed)) (λ h. done h) c.args.at c.in_ok-heard.heard _ (cc) (sym c.in_ok-heard.ensures)
    ∙ then-err events (errors who row.error) (λ _. done Failed) c.in_ok-heard.at _ (sym c.in_err-at.ensures))

pub returns : goal.returns
returns c =
    let who = callees c.args.head.now in
    let row = c.args.row.now in
    let events = c.args.events.now in
    sym (heard-bad events (calls who row) (and_then (errors who row.error) (λ _. done Failed)) (λ h. done h) c.args.at c.in_ok-heard.heard _ (cc) (sym c.in_ok-heard.ensures)
    ∙ then-ok events (errors who row.error) (λ _. done Failed) c.in_ok-heard.at _ _ (sym c.in_ok-at.ensures))
