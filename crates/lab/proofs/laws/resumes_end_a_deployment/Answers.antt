use Rattle.lab.proofs.Between.{ends-within}
use Rattle.lab.proofs.Resuming.{resume-nearer, resumes-end}
use Rattle.lab.proofs.laws.resumes_end_a_deployment.Goals as goal

pub returns-clause-nearer : goal.returns-clause-nearer
returns-clause-nearer c = resume-nearer

pub returns-clause-bound : goal.returns-clause-bound
returns-clause-bound c = resumes-end

pub returns-clause-within : goal.returns-clause-within
returns-clause-within c = ends-within
