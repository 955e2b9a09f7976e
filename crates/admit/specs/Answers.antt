-- What an answer says of the checks and of the source.
use Rattle.std.specs.Prelude.{◌≡◌, ◌≢◌, ℕ, ◌<◌, ◌≤◌, Option, Some, None, Result, Ok, Err}
use Rattle.upd_text.specs.Counts.{counted}
use Rattle.artifact_meta.specs.declared.fault.MetaFault.TheVariants as meta
use Rattle.manifest_sums.specs.declared.manifest.ManifestFault.TheVariants as sums
use Rattle.admit.specs.declared.stop.Stop.{Stop}
use Rattle.admit.specs.declared.stop.Stop.TheVariants as stop
use Rattle.admit.specs.declared.sums.PayloadFault.{PayloadFault}
use Rattle.admit.specs.declared.sums.PayloadFault.TheVariants as payload
use Rattle.admit.specs.declared.refusal.Differs.{Differs}
use Rattle.admit.specs.declared.refusal.AdmitFault.{AdmitFault}
use Rattle.admit.specs.declared.refusal.AdmitFault.TheVariants as fault
use Rattle.admit.specs.declared.refusal.Refusal.{Refusal}
use Rattle.admit.specs.declared.refusal.Refusal.TheVariants.{TooManyFiles, Manifest, Meta}

abbrev pub fault_of : Stop → AdmitFault
fault_of stop.Source = fault.Source
fault_of stop.Memory = fault.Memory

-- a reading, and what it does to the count of the source's faults: only the answer Source is counted
abbrev pub Stops : {A : Type 0} → ℕ → Result A Stop → ℕ → Type 0
Stops old (Ok x) new = new ≡ old
Stops old (Err stop.Source) new = new ≡ counted old
Stops old (Err stop.Memory) new = new ≡ old

-- an answer, and what it does to the count: only Source is counted
abbrev pub Counted : {A : Type 0} → ℕ → Result A AdmitFault → ℕ → Type 0
Counted old (Ok x) new = new ≡ old
Counted old (Err fault.Source) new = new ≡ counted old
Counted old (Err fault.Memory) new = new ≡ old
Counted old (Err (fault.Refused r)) new = new ≡ old

abbrev pub Fails : {A : Type 0} → AdmitFault → Result A Refusal → Type 0
Fails fault.Source meant = Unit {0}
Fails fault.Memory meant = Unit {0}
Fails (fault.Refused refusal) meant = meant ≡ Err refusal

-- the answer is what the checks give; a fault of the source and want of memory are free
abbrev pub Gives : {A : Type 0} → Result A AdmitFault → Result A Refusal → Type 0
Gives (Ok x) meant = meant ≡ Ok x
Gives (Err e) meant = Fails e meant

-- what a check of at most 256 files may refuse: want of memory of a reader is no refusal
abbrev pub IsCause : Refusal → Type 0
IsCause (TooManyFiles n) = ⊥
IsCause (Manifest e) = e ≢ sums.NoMemory
IsCause (Meta e k) = e ≢ meta.NoMemory
IsCause _ = Unit {0}

abbrev pub IsOwn : AdmitFault → Type 0
IsOwn fault.Source = ⊥
IsOwn fault.Memory = Unit {0}
IsOwn (fault.Refused refusal) = IsCause refusal

-- an answer without a call of the source: no fault of it, and no want of memory that looks like a refusal
abbrev pub Own : {A : Type 0} → Result A AdmitFault → Type 0
Own (Ok x) = Unit {0}
Own (Err e) = IsOwn e

-- an answer of a reading
abbrev pub IsRead : AdmitFault → Type 0
IsRead fault.Source = Unit {0}
IsRead fault.Memory = Unit {0}
IsRead (fault.Refused refusal) = IsCause refusal

-- a tree of so many files is refused as having too many exactly at more than 256
abbrev pub IsProper : ℕ → Refusal → Type 0
IsProper count (TooManyFiles n) = (n ≡ count) × (256 < count)
IsProper count refusal = IsCause refusal

-- what is answered of a source of so many files
abbrev pub Proper : {A : Type 0} → ℕ → Result A AdmitFault → Type 0
Proper count (Ok x) = count ≤ 256
Proper count (Err fault.Source) = Unit {0}
Proper count (Err fault.Memory) = Unit {0}
Proper count (Err (fault.Refused refusal)) = IsProper count refusal

-- ---- the payloads' sums

-- the count of the source's faults after the payloads were summed
abbrev pub faults_after : Result (Unit {0}) PayloadFault → ℕ → ℕ
faults_after (Ok u) n = n
faults_after (Err payload.Source) n = counted n
faults_after (Err (payload.Differs d)) n = n

-- what the payloads' sums say: none differs, or this is the first; a fault of the source is free
abbrev pub Finds : Result (Unit {0}) PayloadFault → Option Differs → Type 0
Finds (Ok u) meant = meant ≡ None
Finds (Err payload.Source) meant = Unit {0}
Finds (Err (payload.Differs d)) meant = meant ≡ Some d

abbrev pub IfDiffers : Result (Unit {0}) PayloadFault → (Differs → Type 0) → Type 0
IfDiffers (Ok u) P = Unit {0}
IfDiffers (Err payload.Source) P = Unit {0}
IfDiffers (Err (payload.Differs d)) P = P d
