-- The faults of the host by number, and what a call over files answers and counts.
use Rattle.std.specs.Prelude.{ℕ, Result, Ok, Err}
use Rattle.upd_text.specs.Counts.{counted}
use Rattle.host_edge.specs.declared.fault.HostFault.{HostFault}
use Rattle.host_edge.specs.declared.fault.HostFault.TheVariants.{NoFolder, NoDeviceType, BadDeviceType, TooManyScripts, NoStore, NoTree, NoMemory}

-- the number of `cannot start N`
abbrev pub fault_number : HostFault → ℕ
fault_number NoFolder = 1
fault_number NoDeviceType = 2
fault_number BadDeviceType = 3
fault_number TooManyScripts = 4
fault_number NoStore = 5
fault_number NoTree = 6
fault_number NoMemory = 7

-- the answer where a call of the host was done, or failed: this fault
abbrev pub answer_of : {A E F : Type 0} → F → Result A E → Result A F
answer_of fault (Ok x) = Ok x
answer_of fault (Err e) = Err fault

-- only a call that failed is counted
abbrev pub count_of : {A E : Type 0} → ℕ → Result A E → ℕ
count_of before (Ok x) = before
count_of before (Err e) = counted before
