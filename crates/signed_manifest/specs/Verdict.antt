-- What each verdict says of the three texts.
use Rattle.std.specs.Prelude.{ℕ, List, ⊤}
use Rattle.sha2.specs.Sha256.{sha256}
use Rattle.key_text.specs.Pem.{IsBase64}
use Rattle.key_text.specs.Keys.{SpellsKeys, IsWrongKeys}
use Rattle.key_text.specs.declared.fault.KeyFault.{KeyFault}
use Rattle.key_text.specs.declared.fault.KeyFault.TheVariants.{NotPem, NotRsa, OtherExponent, OtherSize}
use Rattle.key_text.specs.declared.fault.KeyFault.TheVariants as fault
use Rattle.signed_manifest.specs.Signed.{FitsOne, IsSigned}
use Rattle.signed_manifest.specs.declared.verdict.Verdict.{Verdict}
use Rattle.signed_manifest.specs.declared.verdict.Verdict.TheVariants.{Signed, WrongKey, NotBase64, NotSigned, NoMemory}

abbrev pub Tells : List ℕ → List ℕ → List ℕ → Verdict → Type 0
Tells key manifest signature Signed = IsSigned key manifest signature
Tells key manifest signature (WrongKey fault) = IsWrongKeys key fault
Tells key manifest signature NotBase64 = (octets : List ℕ) → ¬ (IsBase64 signature octets)
-- right keys and a signature in base64, which isn't one of this manifest under any of them
Tells key manifest signature NotSigned = (moduli : List (List ℕ)) × (octets : List ℕ) × SpellsKeys key moduli × IsBase64 signature octets × ¬ (FitsOne moduli (sha256 manifest) octets)
-- an allocation was refused, whatever the texts are
Tells key manifest signature NoMemory = ⊤

-- the verdict on a key at fault
abbrev pub verdict_of : KeyFault → Verdict
verdict_of NotPem = WrongKey NotPem
verdict_of NotRsa = WrongKey NotRsa
verdict_of OtherExponent = WrongKey OtherExponent
verdict_of OtherSize = WrongKey OtherSize
verdict_of fault.NoMemory = NoMemory

-- the exit status: 0 for a signed manifest, 1 for one that isn't, 2 where the key or the memory is at fault
abbrev pub status_of : Verdict → ℕ
status_of Signed = 0
status_of NotBase64 = 1
status_of NotSigned = 1
status_of (WrongKey fault) = 2
status_of NoMemory = 2
