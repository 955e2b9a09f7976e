-- A text is one key or several in one way, or at fault in one way.
use Rattle.std.proofs.Common.{◌≡◌, ℕ, ◌<◌, ◌≢◌, List, [], ◌∷◌, ◌++◌, length, refl, sym, ap, subst, ◌∙◌, arith, inl, inr, length-append, Bool, false, cond, Result, Ok, Err}
use Rattle.std.specs.Result.{is_err, is_ok}
use Rattle.std.proofs.lemmas.Bool.{both_ways}
use Rattle.key_text.specs.Der.{IsKey}
use Rattle.key_text.specs.Pem.{IsPem}
use Rattle.key_text.specs.Keys.{usual_exponent, SpellsKey, BeginsWithKeys, SpellsKeys, IsWrongForm, IsWrongKey, IsWrongKeys}
use Rattle.key_text.specs.declared.fault.KeyFault.{KeyFault}
use Rattle.key_text.specs.declared.fault.KeyFault.TheVariants.{NotPem, NotRsa, OtherExponent, OtherSize, NoMemory}
use Rattle.key_text.proofs.PemLemmas.{begin_line, end_line, same_octets}
use Rattle.key_text.proofs.KeyLemmas.{same_modulus, no_fault, one_form}

-- ---- the first key

same_key : (text m n r s : List ℕ) → SpellsKey text m r → SpellsKey text n s → (m ≡ n) × (r ≡ s)
same_key text m n r s a b =
    let same = same_octets text a.octets b.octets r s a.pem b.pem in
    (same_modulus b.octets m n (subst (λ (l : List ℕ). IsKey l m usual_exponent) same.0 a.key) b.key, same.1)

-- a wrong key has a PEM form of a wrong form, or none
form_apart : (text m rest : List ℕ) (fault : KeyFault) → SpellsKey text m rest → (octets behind : List ℕ) → IsPem text octets behind → ¬ (IsWrongForm octets fault)
form_apart text m rest fault key octets behind pem wrong =
    let same = same_octets text octets key.octets behind rest pem key.pem in
    no_fault key.octets m fault key.key key.size (subst (λ (l : List ℕ). IsWrongForm l fault) same.0 wrong)

key_apart : (text m rest : List ℕ) (fault : KeyFault) → SpellsKey text m rest → ¬ (IsWrongKey text fault)
key_apart text m rest NotPem key wrong = wrong key.octets rest key.pem
key_apart text m rest NotRsa key wrong = form_apart text m rest NotRsa key wrong.0 wrong.1 wrong.2 wrong.3
key_apart text m rest OtherExponent key wrong = form_apart text m rest OtherExponent key wrong.0 wrong.1 wrong.2 wrong.3
key_apart text m rest OtherSize key wrong = form_apart text m rest OtherSize key wrong.0 wrong.1 wrong.2 wrong.3
key_apart text m rest NoMemory key wrong = wrong.3

both_forms : (text a b r s : List ℕ) (f g : KeyFault) → IsPem text a r → IsPem text b s → IsWrongForm a f → IsWrongForm b g → f ≡ g
both_forms text a b r s f g p q one two =
    let same = same_octets text a b r s p q in
    one_form b f g (subst (λ (l : List ℕ). IsWrongForm l f) same.0 one) two

-- a wrong key is at fault in one way
key_fault : (text : List ℕ) (f g : KeyFault) → IsWrongKey text f → IsWrongKey text g → f ≡ g
key_fault text NotPem NotPem a b = refl
key_fault text NotPem NotRsa a b = absurd (a b.0 b.1 b.2)
key_fault text NotPem OtherExponent a b = absurd (a b.0 b.1 b.2)
key_fault text NotPem OtherSize a b = absurd (a b.0 b.1 b.2)
key_fault text NotPem NoMemory a b = absurd b.3
key_fault text NotRsa NotPem a b = absurd (b a.0 a.1 a.2)
key_fault text OtherExponent NotPem a b = absurd (b a.0 a.1 a.2)
key_fault text OtherSize NotPem a b = absurd (b a.0 a.1 a.2)
key_fault text NoMemory g a b = absurd a.3
key_fault text NotRsa NoMemory a b = absurd b.3
key_fault text OtherExponent NoMemory a b = absurd b.3
key_fault text OtherSize NoMemory a b = absurd b.3
key_fault text NotRsa NotRsa a b = refl
key_fault text NotRsa OtherExponent a b = both_forms text a.0 b.0 a.1 b.1 NotRsa OtherExponent a.2 b.2 a.3 b.3
key_fault text NotRsa OtherSize a b = both_forms text a.0 b.0 a.1 b.1 NotRsa OtherSize a.2 b.2 a.3 b.3
key_fault text OtherExponent NotRsa a b = both_forms text a.0 b.0 a.1 b.1 OtherExponent NotRsa a.2 b.2 a.3 b.3
key_fault text OtherExponent OtherExponent a b = refl
key_fault text OtherExponent OtherSize a b = both_forms text a.0 b.0 a.1 b.1 OtherExponent OtherSize a.2 b.2 a.3 b.3
key_fault text OtherSize NotRsa a b = both_forms text a.0 b.0 a.1 b.1 OtherSize NotRsa a.2 b.2 a.3 b.3
key_fault text OtherSize OtherExponent a b = both_forms text a.0 b.0 a.1 b.1 OtherSize OtherExponent a.2 b.2 a.3 b.3
key_fault text OtherSize OtherSize a b = refl

-- a text that begins with a key isn't empty, and the rest is shorter
pub shorter : (text m rest : List ℕ) → SpellsKey text m rest → length rest < length text
shorter text m rest key =
    let f = key.pem.framed in
    let whole = ap length f.parts in
    let a = length-append (begin_line ++ key.pem.body ++ end_line ++ f.ends) rest in
    let b = length-append (begin_line ++ key.pem.body ++ end_line) f.ends in
    let c = length-append (begin_line ++ key.pem.body) end_line in
    omega (arith, whole, a, b, c)

none_in_nothing : (text m rest : List ℕ) → text ≡ [] → ¬ (SpellsKey text m rest)
none_in_nothing text m rest empty key =
    let less = shorter text m rest key in
    let none : length text ≡ 0 = ap length empty in
    omega (arith, less, none)

-- ---- several

-- one key more
begins_more : (text : List ℕ) (moduli : List (List ℕ)) (rest m behind : List ℕ) → BeginsWithKeys text moduli rest → SpellsKey rest m behind → BeginsWithKeys text (moduli ++ m ∷ []) behind
begins_more text [] rest m behind same key = (behind, subst (λ (l : List ℕ). SpellsKey l m behind) (sym same) key, refl)
begins_more text (n ∷ ns) rest m behind begins key = (begins.0, begins.1, begins_more begins.0 ns rest m behind begins.2 key)

some_more : (moduli : List (List ℕ)) (m : List ℕ) → moduli ++ m ∷ [] ≢ []
some_more moduli m none =
    let count : length (moduli ++ m ∷ []) ≡ 0 = ap length none in
    omega (arith, count, length-append moduli (m ∷ []))

-- what a push that is no error leaves
pub pushed : {X T E : Type 0} (r : Result T E) (b : Bool) (now added before : X) → b ≡ is_err r → b ≡ false → now ≡ cond (is_ok r) added before → now ≡ added
pushed (Ok x) b now added before is none same = same
pushed (Err x) b now added before is none same = absurd (both_ways b none is)

-- what the reader of keys has then
pub all_read : (text : List ℕ) (moduli added : List (List ℕ)) (rest m behind : List ℕ) → BeginsWithKeys text moduli rest → SpellsKey rest m behind → added ≡ moduli ++ m ∷ [] → behind ≡ [] → SpellsKeys text added
all_read text moduli added rest m behind begins key more end =
    let all : BeginsWithKeys text (moduli ++ m ∷ []) [] = subst (λ (l : List ℕ). BeginsWithKeys text (moduli ++ m ∷ []) l) end (begins_more text moduli rest m behind begins key) in
    subst (SpellsKeys text) (sym more) (record { all = all; some = some_more moduli m })

pub one_read : (text : List ℕ) (moduli added : List (List ℕ)) (rest m behind : List ℕ) → BeginsWithKeys text moduli rest → SpellsKey rest m behind → added ≡ moduli ++ m ∷ [] → BeginsWithKeys text added behind
one_read text moduli added rest m behind begins key more = subst (λ (l : List (List ℕ)). BeginsWithKeys text l behind) (sym more) (begins_more text moduli rest m behind begins key)

-- behind a front of keys stands one rest
same_front : (text : List ℕ) (m n r s : List ℕ) (ns : List (List ℕ)) (rest : List ℕ) → SpellsKey text m r → SpellsKey text n s → BeginsWithKeys s ns rest → BeginsWithKeys r ns rest
same_front text m n r s ns rest a b begins = subst (λ (l : List ℕ). BeginsWithKeys l ns rest) (sym (same_key text m n r s a b).1) begins

one_list : (a b : List (List ℕ)) (text : List ℕ) → BeginsWithKeys text a [] → BeginsWithKeys text b [] → a ≡ b
one_list [] [] text p q = refl
one_list [] (n ∷ ns) text p q = absurd (none_in_nothing text n q.0 p q.1)
one_list (m ∷ ms) [] text p q = absurd (none_in_nothing text m p.0 q p.1)
one_list (m ∷ ms) (n ∷ ns) text p q =
    let first = (same_key text m n p.0 q.0 p.1 q.1).0 in
    let others = one_list ms ns p.0 p.2 (same_front text m n p.0 q.0 ns [] p.1 q.1 q.2) in
    ap (λ (l : List ℕ). l ∷ ms) first ∙ ap (λ (l : List (List ℕ)). n ∷ l) others

pub same_keys : (text : List ℕ) (a b : List (List ℕ)) → SpellsKeys text a → SpellsKeys text b → a ≡ b
same_keys text a b p q = one_list a b text p.all q.all

-- what stands behind right keys is no wrong one where all are right
apart_behind : (keys before : List (List ℕ)) (text rest : List ℕ) (fault : KeyFault) → BeginsWithKeys text keys [] → BeginsWithKeys text before rest → rest ≢ [] → ¬ (IsWrongKey rest fault)
apart_behind [] [] text rest fault p q more wrong = more (sym q ∙ p)
apart_behind [] (n ∷ ns) text rest fault p q more wrong = none_in_nothing text n q.0 p q.1
apart_behind (m ∷ ms) [] text rest fault p q more wrong = key_apart text m p.0 fault p.1 (subst (λ (l : List ℕ). IsWrongKey l fault) (sym q) wrong)
apart_behind (m ∷ ms) (n ∷ ns) text rest fault p q more wrong = apart_behind ms ns p.0 rest fault p.2 (same_front text m n p.0 q.0 ns rest p.1 q.1 q.2) more wrong

apart_at : (keys : List (List ℕ)) (text : List ℕ) (fault : KeyFault) → BeginsWithKeys text keys [] → keys ≢ [] → ¬ (IsWrongKey text fault)
apart_at [] text fault p some wrong = some refl
apart_at (m ∷ ms) text fault p some wrong = key_apart text m p.0 fault p.1 wrong

pub keys_apart : (text : List ℕ) (keys : List (List ℕ)) (fault : KeyFault) → SpellsKeys text keys → ¬ (IsWrongKeys text fault)
keys_apart text keys fault p w = elim w.more [
  | inl none ↦ apart_at keys text fault p.all p.some (subst (λ (l : List ℕ). IsWrongKey l fault) (sym (subst (λ (l : List (List ℕ)). BeginsWithKeys text l w.rest) none w.right)) w.wrong)
  | inr more ↦ apart_behind keys w.before text w.rest fault p.all w.right more w.wrong
]

-- the first wrong one is one
one_fault : (a b : List (List ℕ)) (text r s : List ℕ) (f g : KeyFault) → BeginsWithKeys text a r → BeginsWithKeys text b s → IsWrongKey r f → IsWrongKey s g → f ≡ g
one_fault [] [] text r s f g p q one two = key_fault text f g (subst (λ (l : List ℕ). IsWrongKey l f) (sym p) one) (subst (λ (l : List ℕ). IsWrongKey l g) (sym q) two)
one_fault [] (n ∷ ns) text r s f g p q one two = absurd (key_apart text n q.0 f q.1 (subst (λ (l : List ℕ). IsWrongKey l f) (sym p) one))
one_fault (m ∷ ms) [] text r s f g p q one two = absurd (key_apart text m p.0 g p.1 (subst (λ (l : List ℕ). IsWrongKey l g) (sym q) two))
one_fault (m ∷ ms) (n ∷ ns) text r s f g p q one two = one_fault ms ns p.0 r s f g p.2 (same_front text m n p.0 q.0 ns s p.1 q.1 q.2) one two

pub same_fault : (text : List ℕ) (f g : KeyFault) → IsWrongKeys text f → IsWrongKeys text g → f ≡ g
same_fault text f g a b = one_fault a.before b.before text a.rest b.rest f g a.right b.right a.wrong b.wrong
