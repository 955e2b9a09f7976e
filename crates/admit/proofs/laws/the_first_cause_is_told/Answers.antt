use Rattle.admit.proofs.FirstCause.{head_refused, whole_refused, whole_taken}
use Rattle.admit.proofs.laws.the_first_cause_is_told.Goals as goal

pub returns-clause-head : goal.returns-clause-head
returns-clause-head c = head_refused

pub returns-clause-refused : goal.returns-clause-refused
returns-clause-refused c = whole_refused

pub returns-clause-taken : goal.returns-clause-taken
returns-clause-taken c = whole_taken
