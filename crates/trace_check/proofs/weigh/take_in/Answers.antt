use Rattle.std.proofs.Common.{◌+◌, ◌++◌, List, subst, sym}
use Rattle.trace_check.specs.declared.note.Note.{Note}
use Rattle.trace_check.specs.Weighing.{Knows}
use Rattle.trace_check.proofs.Knowing.{knows-more}
use Rattle.trace_check.proofs.weigh.take_in.Goals as goal

pub returns-clause-front : goal.returns-clause-front
returns-clause-front c = λ notes knows.
    subst (λ (l : List Note). Knows (notes ++ c.args.ended.now) (record { verdict = c.with_note-front.result; count = c.args.front.now.count + 1; last = l })) (sym c.replace.ensures.value)
    (knows-more notes c.args.ended.now c.at.result.now c.args.front.now c.with_note-front.result c.requires.one c.at.ensures c.requires.kinds knows (λ count last judged. c.with_note-front.ensures notes count last judged))
