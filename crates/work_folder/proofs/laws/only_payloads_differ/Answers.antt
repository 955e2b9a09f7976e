use Rattle.admit.proofs.Right.{rest_right}
use Rattle.work_folder.proofs.Payloads.{only_payloads}
use Rattle.work_folder.proofs.laws.only_payloads_differ.Goals as goal

pub returns : goal.returns
returns c = λ t type held plan of taken. only_payloads t plan of (rest_right t type held plan taken)
