-- What a call of `make` answers, and what it leaves in the sink.
use Rattle.std.specs.Prelude.{◌≡◌, ℕ, ◌-◌, ◌^◌, nat_lt, min, if◌then◌else◌, IsTrue, List, length, Result, Ok, Err}
use Rattle.std.specs.List.{sum_by}
use Rattle.std.specs.Result.{is_ok}
use Rattle.upd_text.specs.Counts.{counted}
use Rattle.upd_text.specs.Results.{◌>>=◌}
use Rattle.io_model.specs.Source.{Tree}
use Rattle.tree_writer.specs.declared.fault.WriteFault.{WriteFault}
use Rattle.tree_writer.specs.declared.answer.Made.{Made}
use Rattle.tree_writer.specs.declared.answer.Made.TheVariants as made
use Rattle.tree_writer.specs.declared.early.Early.{Early}
use Rattle.tree_writer.specs.declared.early.Early.TheVariants as early
use Rattle.tree_writer.specs.declared.spec.TreeSpec.{TreeSpec}
use Rattle.tree_writer.specs.declared.words.Spoken.{Spoken}
use Rattle.tree_writer.specs.declared.words.WordFault.{WordFault}
use Rattle.tree_writer.specs.declared.words.WordFault.TheVariants as fault
use Rattle.tree_writer.specs.Faults.{written_tree}
use Rattle.tree_writer.specs.Plan.{IsAdmitted}
use Rattle.tree_writer.specs.Sink.{Added, TakesAll, TakesSome}
use Rattle.tree_writer.specs.Words.{spoken, spec_of}

-- how many bytes the files may have together
abbrev pub most_bytes : ℕ
most_bytes = 268435456

abbrev pub size_of : Tree → ℕ
size_of files = sum_by (λ file. length file.1) files

abbrev pub unless_long : ℕ → Result (Unit {0}) Early
unless_long size = if nat_lt most_bytes size then Err (early.TooLong (min size (2 ^ 64 - 1))) else Ok tt

-- what the words and the files ask for
abbrev pub asked_for : Spoken → Tree → Result TreeSpec Early
asked_for said files = unless_long (size_of files) >>= λ _. Ok (spec_of said files)

abbrev pub or_unsaid : Result Spoken WordFault → Result Spoken Made
or_unsaid (Ok said) = Ok said
or_unsaid (Err (fault.Usage i)) = Err (made.Usage i)
or_unsaid (Err fault.NoMemory) = Err made.NoMemory

abbrev pub made_of : Early → Made
made_of (early.TooLong size) = made.TooLong size
made_of early.SourceFault = made.SourceFault
made_of early.NoMemory = made.NoMemory

abbrev pub or_early : Result TreeSpec Early → Result TreeSpec Made
or_early (Ok spec) = Ok spec
or_early (Err e) = Err (made_of e)

abbrev pub or_fault : Result Tree WriteFault → Result Tree Made
or_fault (Ok tree) = Ok tree
or_fault (Err f) = Err (made.Fault f)

-- the tree that the words and the files give, or the answer in its place
abbrev pub meant : List (List ℕ) → Tree → Result Tree Made
meant texts files = or_unsaid (spoken texts) >>= λ said. or_early (asked_for said files) >>= λ spec. or_fault (written_tree spec)

-- over every source a wrong word is answered, and all other answers but want of memory come where no word is wrong
abbrev pub Heeds : Made → Result Spoken WordFault → Type 0
Heeds (made.Usage i) said = said ≡ Err (fault.Usage i)
Heeds made.NoMemory said = Unit {0}
Heeds _ said = IsTrue (is_ok said)

-- an answer, and what it leaves in the sink
abbrev pub Makes : Made → Result Tree Made → Added → Added → Type 0
Makes made.Made tree old new = (files : Tree) × (tree ≡ Ok files) × TakesAll old files new
Makes (made.Fault f) tree old new = (tree ≡ Err (made.Fault f)) × (new ≡ old)
Makes (made.Usage i) tree old new = (tree ≡ Err (made.Usage i)) × (new ≡ old)
Makes (made.TooLong size) tree old new = (tree ≡ Err (made.TooLong size)) × (new ≡ old)
-- it comes by the count alone
Makes made.SourceFault tree old new = new ≡ old
Makes made.TreeFault tree old new = (files : Tree) × (tree ≡ Ok files) × TakesSome old files new
-- want of memory is free
Makes made.NoMemory tree old new = new ≡ old

-- what any answer leaves in the sink
abbrev pub LeavesTree : Made → Added → Added → Type 0
LeavesTree made.Made old new = (files : Tree) × TakesAll old files new
LeavesTree made.TreeFault old new = (files : Tree) × TakesSome old files new
LeavesTree _ old new = new ≡ old

-- the tree that was made is admitted with the plan of what was asked for
abbrev pub Admits : Made → Result Spoken WordFault → Tree → Type 0
Admits made.Made (Ok said) files = IsAdmitted (spec_of said files)
Admits _ _ files = Unit {0}

-- the count of the source's faults
abbrev pub faults_after : Made → ℕ → ℕ
faults_after made.SourceFault count = counted count
faults_after _ count = count

-- the number with which the program ends
abbrev pub made_number : Made → ℕ
made_number made.Made = 0
made_number (made.Fault f) = 1
made_number (made.Usage i) = 2
made_number (made.TooLong size) = 3
made_number made.SourceFault = 4
made_number made.TreeFault = 5
made_number made.NoMemory = 6

-- ---- for private clauses

-- the count of the source's faults
abbrev pub CountsEarly : {A : Type 0} → ℕ → Result A Early → ℕ → Type 0
CountsEarly old (Ok x) new = new ≡ old
CountsEarly old (Err early.SourceFault) new = new ≡ counted old
CountsEarly old (Err _) new = new ≡ old

-- neither the words nor the files explain it
abbrev pub Stopped : Early → Type 0
Stopped early.SourceFault = Unit {0}
Stopped early.NoMemory = Unit {0}
Stopped _ = ⊥

-- an answer in place of what is asked for
abbrev pub Fails : Early → Result TreeSpec Early → Type 0
Fails early.SourceFault meant = Unit {0}
Fails early.NoMemory meant = Unit {0}
Fails answer meant = meant ≡ Err answer

abbrev pub Gives : Result TreeSpec Early → Result TreeSpec Early → Type 0
Gives (Ok spec) meant = meant ≡ Ok spec
Gives (Err answer) meant = Fails answer meant
