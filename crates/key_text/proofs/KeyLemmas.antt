-- A key's form and its faults.
use Rattle.std.proofs.Common.{◌≡◌, ℕ, Bool, true, false, not, ◌⊎◌, List, Some, None, refl, sym, subst, ◌∙◌, inl, inr}
use Rattle.std.specs.Str.{bytes_eq}
use Rattle.std.proofs.lemmas.Bool.{both_ways, not-false, not_from_true}
use Rattle.std.proofs.lemmas.Slice.Eq.{bytes_eq-Decides}
use Rattle.std.proofs.lemmas.Option.{none-some, some_pair_parts}
use Rattle.rsa_signature.specs.Message.{IsModulus}
use Rattle.key_text.specs.Der.{IsKey}
use Rattle.key_text.specs.Pem.{IsPem, IsBase64}
use Rattle.key_text.specs.Keys.{SpellsKey, usual_exponent, IsWrongForm, IsWrongKey}
use Rattle.key_text.specs.Reading.{key_of, frame_at}
use Rattle.key_text.specs.declared.fault.KeyFault.{KeyFault}
use Rattle.key_text.specs.declared.fault.KeyFault.TheVariants.{NotPem, NotRsa, OtherExponent, OtherSize, NoMemory}
use Rattle.key_text.proofs.DerLemmas.{key_takes}
use Rattle.key_text.proofs.PemLemmas.{frame_gives, frame_takes}

-- ---- the answer of a comparison

pub differs : (a b : List ℕ) (r : Bool) → r ≡ true → r ≡ not (bytes_eq a b) → b ≡ usual_exponent → a ≡ usual_exponent → ⊥
differs a b r here e usual same =
    let alike : bytes_eq a b ≡ true = (bytes_eq-Decides a b).1 (same ∙ sym usual) in
    both_ways (not (bytes_eq a b)) (not_from_true (bytes_eq a b) alike) (sym e ∙ here)

pub alike : (a b : List ℕ) (r : Bool) → r ≡ false → r ≡ not (bytes_eq a b) → b ≡ usual_exponent → a ≡ usual_exponent
alike a b r here e usual = (bytes_eq-Decides a b).0 (not-false (bytes_eq a b) (sym e ∙ here)) ∙ usual

-- ---- the form

pub no_key : (octets : List ℕ) → key_of octets ≡ None → (m e : List ℕ) → ¬ (IsKey octets m e)
no_key octets none m e k = none-some (m, e) (sym none ∙ key_takes octets m e k)

same_exponent : (octets m n e f : List ℕ) → IsKey octets m e → IsKey octets n f → e ≡ f
same_exponent octets m n e f a b = (some_pair_parts m n e f (sym (key_takes octets m e a) ∙ key_takes octets n f b)).1

pub same_modulus : (octets m n : List ℕ) → IsKey octets m usual_exponent → IsKey octets n usual_exponent → m ≡ n
same_modulus octets m n a b = (some_pair_parts m n usual_exponent usual_exponent (sym (key_takes octets m usual_exponent a) ∙ key_takes octets n usual_exponent b)).0

-- a key of a right size has no fault
pub no_fault : (octets m : List ℕ) (fault : KeyFault) → IsKey octets m usual_exponent → IsModulus m → ¬ (IsWrongForm octets fault)
no_fault octets m NotRsa k size w = w m usual_exponent k
no_fault octets m OtherExponent k size w = w.3 (sym (some_pair_parts m w.0 usual_exponent w.1 (sym (key_takes octets m usual_exponent k) ∙ key_takes octets w.0 w.1 w.2)).1)
no_fault octets m OtherSize k size w = w.2 (subst IsModulus (same_modulus octets m w.0 k w.1) size)
no_fault octets m NotPem k size w = w
no_fault octets m NoMemory k size w = w

-- what is at fault has one fault
pub one_form : (octets : List ℕ) (f g : KeyFault) → IsWrongForm octets f → IsWrongForm octets g → f ≡ g
one_form octets NotRsa NotRsa a b = refl
one_form octets NotRsa OtherExponent a b = absurd (a b.0 b.1 b.2)
one_form octets NotRsa OtherSize a b = absurd (a b.0 usual_exponent b.1)
one_form octets OtherExponent NotRsa a b = absurd (b a.0 a.1 a.2)
one_form octets OtherExponent OtherExponent a b = refl
one_form octets OtherExponent OtherSize a b = absurd (a.3 (same_exponent octets a.0 b.0 a.1 usual_exponent a.2 b.1))
one_form octets OtherSize NotRsa a b = absurd (b a.0 usual_exponent a.1)
one_form octets OtherSize OtherExponent a b = absurd (b.3 (same_exponent octets b.0 a.0 b.1 usual_exponent b.2 a.1))
one_form octets OtherSize OtherSize a b = refl
one_form octets NotRsa NotPem a b = absurd b
one_form octets NotRsa NoMemory a b = absurd b
one_form octets OtherExponent NotPem a b = absurd b
one_form octets OtherExponent NoMemory a b = absurd b
one_form octets OtherSize NotPem a b = absurd b
one_form octets OtherSize NoMemory a b = absurd b
one_form octets NotPem g a b = absurd a
one_form octets NoMemory g a b = absurd a

-- ---- the text

pub no_frame : (text : List ℕ) → frame_at text ≡ None → (octets rest : List ℕ) → ¬ (IsPem text octets rest)
no_frame text none octets rest p = none-some (p.body, rest) (sym none ∙ frame_takes text p.body rest p.framed)

pub no_base64 : (text body behind : List ℕ) → frame_at text ≡ Some (body, behind) → ((bytes : List ℕ) → ¬ (IsBase64 body bytes)) → (octets rest : List ℕ) → ¬ (IsPem text octets rest)
no_base64 text body behind found none octets rest p =
    let e = some_pair_parts p.body body rest behind (sym (frame_takes text p.body rest p.framed) ∙ found) in
    none octets (subst (λ (l : List ℕ). IsBase64 l octets) e.0 p.base64)

pub a_pem : (text body octets rest : List ℕ) → frame_at text ≡ Some (body, rest) → IsBase64 body octets → IsPem text octets rest
a_pem text body octets rest found base64 = record { body = body; framed = frame_gives text body rest found; base64 = base64 }

pub a_key : (text octets given modulus rest : List ℕ) → IsPem text octets rest → given ≡ octets → IsKey given modulus usual_exponent × IsModulus modulus → SpellsKey text modulus rest
a_key text octets given modulus rest pem same key =
    record { octets = octets; pem = pem; key = subst (λ (l : List ℕ). IsKey l modulus usual_exponent) same key.0; size = key.1 }

-- an error of the form is one of the text
pub a_fault : (text octets given rest : List ℕ) (fault : KeyFault) → IsPem text octets rest → given ≡ octets → IsWrongForm given fault → IsWrongKey text fault
a_fault text octets given rest NotPem pem same w = absurd w
a_fault text octets given rest NotRsa pem same w = (octets, rest, pem, subst (λ (l : List ℕ). IsWrongForm l NotRsa) same w)
a_fault text octets given rest OtherExponent pem same w = (octets, rest, pem, subst (λ (l : List ℕ). IsWrongForm l OtherExponent) same w)
a_fault text octets given rest OtherSize pem same w = (octets, rest, pem, subst (λ (l : List ℕ). IsWrongForm l OtherSize) same w)
a_fault text octets given rest NoMemory pem same w = absurd w

-- what the octets' reader says of the text
pub no_pem : (text : List ℕ) (fault : KeyFault) → (fault ≡ NoMemory) ⊎ ((fault ≡ NotPem) × ((octets rest : List ℕ) → ¬ (IsPem text octets rest))) → (fault ≡ NoMemory) ⊎ IsWrongKey text fault
no_pem text fault why = elim why [ inl memory ↦ inl memory | inr none ↦ inr (subst (IsWrongKey text) (sym none.0) none.1) ]
