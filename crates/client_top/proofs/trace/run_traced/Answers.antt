use Rattle.std.proofs.Common.{◌≡◌, ℕ, sym, ap, ◌∙◌, subst}
use Rattle.std.specs.Prelude.{Option, None, Bool}
use Rattle.trace_check.specs.declared.note.Deed.{Deed}
use Rattle.client_words.specs.Forms.{command_of, traced_of}
use Rattle.client_top.specs.Answers.{Words}
use Rattle.client_top.specs.Asked.{asked_at, command_word}
use Rattle.client_top.specs.Did.{Shelf, Obeyed}
use Rattle.client_top.specs.Finds.{Request}
use Rattle.client_top.specs.Traced.{Traced, deed_noted}
use Rattle.client_top.proofs.Noting.{traced-none}
use Rattle.client_top.proofs.trace.run_traced.Goals as goal

pub returns-in-None-clause-traced : goal.returns-in-None-clause-traced
returns-in-None-clause-traced g c =
    let words : Words = asked_at (command_word c.args.words.now) (command_of c.args.words.now) in
    let asked : Request = record { command = words; site = c.args.site.now; content = g.S.Source.content c.args.source.now } in
    let shelf0 : Shelf = record { faults = g.S.Source.faults c.args.source.now; given = g.S.Source.given c.args.source.now } in
    let shelf2 : Shelf = record { faults = g.S.Source.faults c.answer.new.source; given = g.S.Source.given c.answer.new.source } in
    let old = g.D.Device.means c.args.device.now in
    let new = g.D.Device.means c.answer.new.device in
    let before = g.O.Sink.means c.args.out.now in
    let behind = g.O.Sink.means c.answer.new.out in
    let is : c.asked-asked.result ≡ words = c.asked-asked.ensures ∙ ap (λ (w : Words). asked_at c.command_word.result w) c.read_words.ensures ∙ ap (λ (n : ℕ). asked_at n (command_of c.args.words.now)) c.command_word.ensures in
    let none : deed_noted (traced_of c.args.words.now) words ≡ None =
    ap (λ (b : Bool). deed_noted b words) (sym c.traced.ensures) ∙ ap (λ (w : Words). deed_noted c.traced.result w) (sym is) ∙ sym c.deed_noted.ensures ∙ c.in-None.is in
    let obeyed = subst (λ (w : Words). Obeyed (record { command = w; site = c.args.site.now; content = g.S.Source.content c.args.source.now }) old new shelf0 shelf2 before behind c.answer.result) is c.answer.ensures.obeyed in
    subst (λ (d : Option Deed). Traced d asked old new shelf0 shelf2 before behind c.answer.result) (sym none) (traced-none {asked = asked} obeyed)
