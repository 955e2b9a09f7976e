-- The end of a deployment decides the answer.
use Rattle.std.proofs.Common.{◌≡◌, refl, sym, ap, ◌∙◌}
use Rattle.std.specs.Prelude.{Some, Bool, true, false, ◌&&◌, not, if◌then◌else◌, IsTrue}
use Rattle.flow_table.specs.declared.position.Outcome.TheVariants as outcome
use Rattle.flow_words.specs.Pieces.{End, Halted}
use Rattle.client_top.specs.declared.status.Status.{Status}
use Rattle.client_top.specs.declared.status.Status.TheVariants.{Done, Refused, NoUpdate, Inconsistent, RebootNeeded, DiskFault, SourceFault, NoMemory, SinkFault, Usage, PowerOff, BadStore, TooLarge, NotNow, NotInstalled}
use Rattle.client_top.specs.declared.status.Good.TheVariants.{Committed, Waiting, RolledBack, Shown, Admitted, Simulated}
use Rattle.client_top.specs.Answers.{Words, row_of, end_of, deploys, rolls_back}
use Rattle.client_top.specs.Promises.{answer_for}

some-one : {a b : End} → Some a ≡ Some b → a ≡ b
some-one h = cc

unasked : (a b : Bool) → IsTrue (a && not b) → b ≡ false
unasked true true h = absurd cc
unasked true false h = refl
unasked false b h = absurd cc

asked-back : (b : Bool) → IsTrue b → b ≡ true
asked-back true h = refl
asked-back false h = absurd cc

choose : (x y : Status) (b c : Bool) → b ≡ c → (if b then x else y) ≡ (if c then x else y)
choose x y b c h = ap (λ (z : Bool). if z then x else y) h

told : (w : Words) (status : Status) (end : End) → IsTrue ((row_of status).whose w) → Some end ≡ end_of status → (end ≡ Halted → ⊥) → answer_for w end ≡ Some status
told w (Done Committed) end whose is not = ap (answer_for w) (some-one is)
told w (Done Waiting) end whose is not = ap (answer_for w) (some-one is)
told w (Done RolledBack) end whose is not = ap (answer_for w) (some-one is) ∙ ap Some (choose (Done RolledBack) (NotInstalled outcome.RolledBack) (rolls_back w) true (asked-back (rolls_back w) whose))
told w Inconsistent end whose is not = ap (answer_for w) (some-one is)
told w RebootNeeded end whose is not = ap (answer_for w) (some-one is)
told w (NotInstalled outcome.Kept) end whose is not = ap (answer_for w) (some-one is)
told w (NotInstalled outcome.RolledBack) end whose is not = ap (answer_for w) (some-one is) ∙ ap Some (choose (Done RolledBack) (NotInstalled outcome.RolledBack) (rolls_back w) false (unasked (deploys w) (rolls_back w) whose))
told w (NotInstalled outcome.Committed) end whose is not = absurd cc
told w (NotInstalled outcome.Undecided) end whose is not = absurd cc
told w (NotInstalled outcome.Inconsistent) end whose is not = absurd cc
told w DiskFault end whose is not = absurd (not (some-one is))
told w PowerOff end whose is not = absurd (not (some-one is))
told w (Done Shown) end whose is not = absurd cc
told w (Done Admitted) end whose is not = absurd cc
told w (Done Simulated) end whose is not = absurd cc
told w (Refused x) end whose is not = absurd cc
told w NoUpdate end whose is not = absurd cc
told w SourceFault end whose is not = absurd cc
told w NoMemory end whose is not = absurd cc
told w SinkFault end whose is not = absurd cc
told w (Usage u) end whose is not = absurd cc
told w (BadStore o) end whose is not = absurd cc
told w (TooLarge b) end whose is not = absurd cc
told w (NotNow n) end whose is not = absurd cc

pub tells : (w : Words) (status : Status) (end : End) → IsTrue ((row_of status).whose w) → end_of status ≡ Some end → (end ≡ Halted → ⊥) → answer_for w end ≡ Some status
tells w status end whose is not = told w status end whose (sym is) not
