use Rattle.std.proofs.Common.{take}
use Rattle.std.specs.Prelude.{MatchOption}
use Rattle.work_folder.specs.Rows.{payload_names}
use Rattle.work_folder.specs.Adding.{IsLast, IsNext}
use Rattle.work_folder.proofs.names.next_name.Given as goal

abbrev pub invariant-loop-line : goal.invariant-loop-line
invariant-loop-line l = MatchOption l.best (IsLast (payload_names l.k (take l.line-index l.lines)) l.last) (λ next. IsNext (payload_names l.k (take l.line-index l.lines)) l.last next.now)
