use Rattle.flow_words.specs.Course.{done}
use Rattle.flow_words.specs.Words.{calls}
use Rattle.flow_words.proofs.Reach.{Reaches-start, Reaches-stop, Finishes-done}
use Rattle.flow_words.proofs.StateCalls.{after_question, after_main, after_enter, good-on, good-fails, good-stops, calls-entered, calls-made, calls-asked, question-fails, question-good}
use Rattle.flow_drive.specs.Calls.{callees}
use Rattle.flow_drive.proofs.calls.run_calls.Goals as goal

pub returns-in-Off-clause-ran : goal.returns-in-Off-clause-ran
returns-in-Off-clause-ran g c =
    let who = callees c.args.site.now c.args.entry.now in
    let row = c.args.row.now in
    good-stops (after_enter who row) (Reaches-start (calls who row) (g.D.Device.means c.args.device.now)) c.in-Off.ensures.ran

pub returns-in-Failed-clause-ran : goal.returns-in-Failed-clause-ran
returns-in-Failed-clause-ran g c =
    let who = callees c.args.site.now c.args.entry.now in
    let row = c.args.row.now in
    good-fails (after_enter who row) (Reaches-start (calls who row) (g.D.Device.means c.args.device.now)) c.in-Failed.ensures.ran

pub returns-in-Off-run_main-clause-ran : goal.returns-in-Off-run_main-clause-ran
returns-in-Off-run_main-clause-ran g c =
    let who = callees c.args.site.now c.args.entry.now in
    let row = c.args.row.now in
    good-stops (after_main who row) (calls-entered who row c.in-Done.ensures.ran) c.in-Off-run_main.ensures.ran

pub returns-in-Failed-run_main-clause-ran : goal.returns-in-Failed-run_main-clause-ran
returns-in-Failed-run_main-clause-ran g c =
    let who = callees c.args.site.now c.args.entry.now in
    let row = c.args.row.now in
    good-fails (after_main who row) (calls-entered who row c.in-Done.ensures.ran) c.in-Failed-run_main.ensures.ran

pub returns-in-Off-ask-clause-ran : goal.returns-in-Off-ask-clause-ran
returns-in-Off-ask-clause-ran g c =
    let who = callees c.args.site.now c.args.entry.now in
    let row = c.args.row.now in
    Reaches-stop (after_question who row) (calls-made who row c.in-Done.ensures.ran c.in-Done-run_main.ensures.ran) c.in-Off-ask.ensures.ran

pub returns-then-is_failed-clause-ran : goal.returns-then-is_failed-clause-ran
returns-then-is_failed-clause-ran g c =
    let who = callees c.args.site.now c.args.entry.now in
    let row = c.args.row.now in
    question-fails who row c.in-Heard.heard c.in-Heard.ensures.ran.stretch.passed.ends.on (cc) (calls-asked who row c.in-Done.ensures.ran c.in-Done-run_main.ensures.ran c.in-Heard.ensures.ran)

pub returns-in-Off-run_scripts-clause-ran : goal.returns-in-Off-run_scripts-clause-ran
returns-in-Off-run_scripts-clause-ran g c =
    let who = callees c.args.site.now c.args.entry.now in
    let row = c.args.row.now in
    good-stops (done c.in-Heard.heard) (question-good who row c.in-Heard.heard (cc) (calls-asked who row c.in-Done.ensures.ran c.in-Done-run_main.ensures.ran c.in-Heard.ensures.ran)) c.in-Off-run_scripts.ensures.ran

pub returns-in-Failed-run_scripts-clause-ran : goal.returns-in-Failed-run_scripts-clause-ran
returns-in-Failed-run_scripts-clause-ran g c =
    let who = callees c.args.site.now c.args.entry.now in
    let row = c.args.row.now in
    good-fails (done c.in-Heard.heard) (question-good who row c.in-Heard.heard (cc) (calls-asked who row c.in-Done.ensures.ran c.in-Done-run_main.ensures.ran c.in-Heard.ensures.ran)) c.in-Failed-run_scripts.ensures.ran

pub returns-in-Done-run_scripts-clause-ran : goal.returns-in-Done-run_scripts-clause-ran
returns-in-Done-run_scripts-clause-ran g c =
    let who = callees c.args.site.now c.args.entry.now in
    let row = c.args.row.now in
    (good-on (done c.in-Heard.heard) (question-good who row c.in-Heard.heard (cc) (calls-asked who row c.in-Done.ensures.ran c.in-Done-run_main.ensures.ran c.in-Heard.ensures.ran)) c.in-Done-run_scripts.ensures.ran).finishes _ _ (Finishes-done _ _ c.in-Done-run_scripts.ensures.ran.stretch.passed.ends.on)
