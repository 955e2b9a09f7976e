-- What reading in pieces, and file after file, adds up to.
use Rattle.std.proofs.Common.{◌≡◌, ◌≢◌, ◌∙◌, inl, inr, ℕ, ◌+◌, zero, suc, Bool, true, false, List, [], ◌∷◌, length, Option, Some, None, refl, sym, ap, arith}
use Rattle.std.specs.Prelude.{get_or, set, option_map}
use Rattle.std.specs.List.{Contains, All}
use Rattle.std.proofs.lemmas.List.{set-get_or, get_or-set_same, get_or-set_other}
use Rattle.upd_text.specs.Counts.{raised}
use Rattle.upd_text.specs.Told.{WhereTold}
use Rattle.io_model.specs.Source.{Tree, Content, IsLength, bytes_at, gave, HasNumber}
use Rattle.io_model.specs.Source.Content.{Told, Untold}
use Rattle.io_model.specs.Reading.{IsUnread, OnlyOf, IsReadOnce, IsReadInPart, IsReadBy, Gave, IsAtMost, IsReadAlone, AreRead}

-- ---- the number of one file

pub raised_none : (n : ℕ) → raised n 0 ≡ n
unfolding raised
raised_none n = omega arith

raised_more : (n a b : ℕ) → raised (raised n a) b ≡ raised n (a + b)
unfolding raised
raised_more n a b = omega arith

gave_none : (i : ℕ) (given : List ℕ) → gave i 0 given ≡ given
gave_none i given = ap (set given i) (raised_none (get_or given i 0)) ∙ set-get_or given i 0

gave_more : (i a b : ℕ) (given : List ℕ) → gave i b (gave i a given) ≡ gave i (a + b) given
gave_more i a b [] = refl
gave_more zero a b (x ∷ xs) = ap (λ (n : ℕ). n ∷ xs) (raised_more x a b)
gave_more (suc i) a b (x ∷ xs) = ap (λ (l : List ℕ). x ∷ l) (gave_more i a b xs)

pub given_none : (i : ℕ) (given : Option (List ℕ)) → given ≡ option_map (gave i 0) given
given_none i None = refl
given_none i (Some given) = ap Some (sym (gave_none i given))

pub given_more : (i a b : ℕ) (old mid new : Option (List ℕ)) → mid ≡ option_map (gave i a) old → new ≡ option_map (gave i b) mid → new ≡ option_map (gave i (a + b)) old
given_more i a b old mid new h k = k ∙ ap (option_map (gave i b)) h ∙ more old
  where
    more : (given : Option (List ℕ)) → option_map (gave i b) (option_map (gave i a) given) ≡ option_map (gave i (a + b)) given
    more None = refl
    more (Some given) = ap Some (gave_more i a b given)

-- ---- what a call says of the others

pub only_same : (i : ℕ) (old new : Option (List ℕ)) → new ≡ old → WhereTold (OnlyOf i) old new
only_same i None new e = rw e tt
only_same i (Some given) new e = rw e (λ j other. refl)

pub only_gave : (i n : ℕ) (old mid new : Option (List ℕ)) → WhereTold (OnlyOf i) old mid → new ≡ option_map (gave i n) mid → WhereTold (OnlyOf i) old new
only_gave i n None None new h e = rw e tt
only_gave i n None (Some b) new h e = absurd h
only_gave i n (Some a) None new h e = absurd h
only_gave i n (Some a) (Some b) new h e = rw e (λ j other. get_or-set_other b i j (raised (get_or b i 0) n) 0 other ∙ h j other)

pub gave_of : (i n : ℕ) (P : ℕ → Type 0) (old new : Option (List ℕ)) → P n → HasNumber i old → new ≡ option_map (gave i n) old → Gave i P old new
gave_of i n P None new many has e = record { count = n; many = many; is = rw e tt }
gave_of i n P (Some given) new many has e = record { count = n; many = many; is = rw e (get_or-set_same given i (raised (get_or given i 0) n) 0 has, λ j other. get_or-set_other given i j (raised (get_or given i 0) n) 0 other) }

pub gave_nothing : (i : ℕ) (P : ℕ → Type 0) (old new : Option (List ℕ)) → P 0 → new ≡ old → Gave i P old new
gave_nothing i P None new many e = record { count = 0; many = many; is = rw e tt }
gave_nothing i P (Some given) new many e = record { count = 0; many = many; is = rw e (sym (raised_none (get_or given i 0)), λ j other. refl) }

pub only_of : (i : ℕ) (P : ℕ → Type 0) (old new : Option (List ℕ)) → Gave i P old new → WhereTold (OnlyOf i) old new
only_of i P None None g = tt
only_of i P None (Some b) g = absurd (g.is)
only_of i P (Some a) None g = absurd (g.is)
only_of i P (Some a) (Some b) g = (g.is).1

pub in_part : (c : Content) (i : ℕ) (old new : Option (List ℕ)) → Gave i (IsLength c i) old new → Gave i (IsAtMost c i) old new
in_part (Untold n) i old new g = record { count = g.count; many = tt; is = g.is }
in_part (Told t) i old new g = record { count = g.count; many = omega (arith, g.many); is = g.is }

-- ---- file after file

pub part_of_once : (t : Tree) (i : ℕ) (old new : List ℕ) → IsReadOnce t i old new → IsReadInPart t i old new
part_of_once t i old new h = record { count = length (bytes_at t i); most = omega arith; rises = h }

pub part_of_none : (t : Tree) (i : ℕ) (old new : List ℕ) → IsUnread i old new → IsReadInPart t i old new
part_of_none t i old new h = record { count = 0; most = omega arith; rises = h ∙ sym (raised_none (get_or old i 0)) }

pub alone_whole : (t : Tree) (n : ℕ) (old new : List ℕ) → Gave n (IsLength (Told t) n) (Some old) (Some new) → IsReadAlone true t n old new
alone_whole t n old new g = ((g.is).0 ∙ ap (λ (k : ℕ). raised (get_or old n 0) k) g.many, (g.is).1)

pub alone_part : (t : Tree) (n : ℕ) (old new : List ℕ) → Gave n (IsAtMost (Told t) n) (Some old) (Some new) → IsReadAlone false t n old new
alone_part t n old new g = (record { count = g.count; most = g.many; rises = (g.is).0 }, (g.is).1)

-- one more file in front, read whole, where it is told how much was
pub read_first : (whole : Bool) (t : Tree) (n : ℕ) (ns : List ℕ) (old mid new : Option (List ℕ)) → Gave n (IsLength (Told t) n) old mid → WhereTold (AreRead whole t ns) mid new → WhereTold (AreRead whole t (n ∷ ns)) old new
read_first whole t n ns None None None g h = tt
read_first whole t n ns None None (Some c) g h = absurd h
read_first whole t n ns None (Some b) new g h = absurd (g.is)
read_first whole t n ns (Some a) None new g h = absurd (g.is)
read_first whole t n ns (Some a) (Some b) None g h = absurd h
read_first true t n ns (Some a) (Some b) (Some c) g h = (b, alone_whole t n a b g, h)
read_first false t n ns (Some a) (Some b) (Some c) g h = inr (b, alone_whole t n a b g, h)

pub read_part : (t : Tree) (n : ℕ) (ns : List ℕ) (old new : Option (List ℕ)) → Gave n (IsAtMost (Told t) n) old new → WhereTold (AreRead false t (n ∷ ns)) old new
read_part t n ns None None g = tt
read_part t n ns None (Some b) g = absurd (g.is)
read_part t n ns (Some a) None g = absurd (g.is)
read_part t n ns (Some a) (Some b) g = inl (alone_part t n a b g)

unread_then : (i : ℕ) (old mid new : List ℕ) → IsUnread i old mid → IsUnread i mid new → IsUnread i old new
unread_then i old mid new h k = k ∙ h

-- a file that isn't among them wasn't read
pub not_read : (whole : Bool) (t : Tree) (ns : List ℕ) (i : ℕ) (old new : List ℕ) → All (λ n. i ≢ n) ns → AreRead whole t ns old new → IsUnread i old new
not_read whole t [] i old new other h = ap (λ (l : List ℕ). get_or l i 0) h
not_read true t (n ∷ ns) i old new other (mid, first, rest) = unread_then i old mid new (first.1 i (other 0 n (omega arith))) (not_read true t ns i mid new (λ k d lt. other (suc k) d (omega (arith, lt))) rest)
not_read false t (n ∷ ns) i old new other (inl part) = part.1 i (other 0 n (omega arith))
not_read false t (n ∷ ns) i old new other (inr (mid, first, rest)) = unread_then i old mid new (first.1 i (other 0 n (omega arith))) (not_read false t ns i mid new (λ k d lt. other (suc k) d (omega (arith, lt))) rest)

-- no number stands twice
abbrev pub Apart : List ℕ → Type 0
Apart [] = Unit {0}
Apart (n ∷ ns) = All (λ m. n ≢ m) ns × Apart ns

pub read_before : (whole : Bool) (t : Tree) (i : ℕ) (old mid new : List ℕ) → IsReadBy whole t i old mid → IsUnread i mid new → IsReadBy whole t i old new
read_before true t i old mid new h k = k ∙ h
read_before false t i old mid new h k = record { count = h.count; most = h.most; rises = k ∙ h.rises }

pub read_after : (whole : Bool) (t : Tree) (i : ℕ) (old mid new : List ℕ) → IsUnread i old mid → IsReadBy whole t i mid new → IsReadBy whole t i old new
read_after true t i old mid new h k = k ∙ ap (λ (x : ℕ). raised x (length (bytes_at t i))) h
read_after false t i old mid new h k = record { count = k.count; most = k.most; rises = k.rises ∙ ap (λ (x : ℕ). raised x k.count) h }

differs : (n i : ℕ) (ns : List ℕ) → All (λ m. n ≢ m) ns → Contains ns i → i ≢ n
differs n i ns h (k, lt, e) same = h k i lt (sym same ∙ sym e)

-- a file that is among them was read
pub is_read : (whole : Bool) (t : Tree) (ns : List ℕ) (i : ℕ) (old new : List ℕ) → Apart ns → Contains ns i → AreRead whole t ns old new → IsReadBy whole t i old new
is_read whole t [] i old new apart (k, lt, e) h = absurd (omega (arith, lt))
is_read true t (n ∷ ns) i old new apart (zero, lt, e) (mid, first, rest) =
    rw (← e) (read_before true t n old mid new first.0 (not_read true t ns n mid new apart.0 rest))
is_read true t (n ∷ ns) i old new apart (suc k, lt, e) (mid, first, rest) =
    let there : Contains ns i = (k, omega (arith, lt), e) in
    read_after true t i old mid new (first.1 i (differs n i ns apart.0 there)) (is_read true t ns i mid new apart.1 there rest)
is_read false t (n ∷ ns) i old new apart (zero, lt, e) (inl part) = rw (← e) part.0
is_read false t (n ∷ ns) i old new apart (suc k, lt, e) (inl part) =
    let there : Contains ns i = (k, omega (arith, lt), e) in
    part_of_none t i old new (part.1 i (differs n i ns apart.0 there))
is_read false t (n ∷ ns) i old new apart (zero, lt, e) (inr (mid, first, rest)) =
    rw (← e) (part_of_once t n old new (read_before true t n old mid new first.0 (not_read false t ns n mid new apart.0 rest)))
is_read false t (n ∷ ns) i old new apart (suc k, lt, e) (inr (mid, first, rest)) =
    let there : Contains ns i = (k, omega (arith, lt), e) in
    read_after false t i old mid new (first.1 i (differs n i ns apart.0 there)) (is_read false t ns i mid new apart.1 there rest)

pub none_at_all : (c : Content) (i : ℕ) → IsAtMost c i 0
none_at_all (Untold n) i = tt
none_at_all (Told t) i = omega arith
