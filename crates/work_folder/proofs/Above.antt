-- The next name in byte order.
use Rattle.std.proofs.Common.{◌≡◌, ◌⊎◌, inl, inr, ℕ, ◌+◌, ◌<◌, ◌≤◌, Bool, true, false, cond, eqb, List, [], ◌∷◌, ◌++◌, length, get_or, Option, Some, None, Ordering, Less, Equal, Greater, refl, sym, ◌∙◌, ap, length-drop, take, arith}
use Rattle.std.specs.Prelude.{MatchOption, codes, suc, zero}
use Rattle.std.specs.List.{All, Contains, cons_option}
use Rattle.std.specs.Ordering.{is_lt, is_eq, ordering_reverse}
use Rattle.std.proofs.lemmas.Bool.Decides.{nat_tests}
use Rattle.std.proofs.lemmas.Cmp.{nat_list_cmp_total}
use Rattle.std.proofs.lemmas.Map.Text.{is_eq-slice_cmp}
use Rattle.std.proofs.lemmas.Slice.Eq.{bytes_eq-Decides}
use Rattle.std.proofs.lemmas.List.Elements.{All-nil, All-cons, All-push, All-contains, Contains-append_left, Contains-push, filter_map-append}
use Rattle.std.proofs.lemmas.List.{take_more}
use Rattle.upd_text.specs.Order.{byte_cmp, is_below}
use Rattle.upd_text.proofs.OrderLemmas.{less}
use Rattle.manifest_sums.specs.declared.manifest.Line.{Line}
use Rattle.admit.specs.Places.{place_of, payload_at}
use Rattle.admit.proofs.Placed.{payload_path}
use Rattle.upd_text.proofs.FormLemmas.{name_is}
use Rattle.work_folder.specs.Rows.{name_in, payload_names}
use Rattle.work_folder.specs.Adding.{IsLast, IsNext}

pub both : {A : Type 0} (b : Bool) → b ≡ true → b ≡ false → A
both true h k = absurd cc
both false h k = absurd cc

not_true : (b : Bool) → (b ≡ true → ⊥) → b ≡ false
not_true true h = absurd (h refl)
not_true false h = refl

pub below_trans : (a b c : List ℕ) → is_below a b ≡ true → is_below b c ≡ true → is_below a c ≡ true
below_trans a b c h k = ap is_lt (nat_list_cmp_total.trans a b c (less (byte_cmp a b) h) (less (byte_cmp b c) k))

own_reverse : (o : Ordering) → o ≡ ordering_reverse o → is_lt o ≡ false
own_reverse Less h = absurd cc
own_reverse Equal h = refl
own_reverse Greater h = refl

pub below_itself : (a : List ℕ) → is_below a a ≡ false
below_itself a = own_reverse (byte_cmp a a) (nat_list_cmp_total.antisymm a a)

by_order : (a b : List ℕ) (o : Ordering) → byte_cmp a b ≡ o → is_lt o ≡ false → (a ≡ b) ⊎ (is_below b a ≡ true)
by_order a b Less e h = absurd cc
by_order a b Equal e h = inl ((bytes_eq-Decides a b).0 (sym (is_eq-slice_cmp a b) ∙ ap is_eq e))
by_order a b Greater e h = inr (ap is_lt (nat_list_cmp_total.antisymm b a ∙ ap ordering_reverse e))

pub not_below : (a b : List ℕ) → is_below a b ≡ false → (a ≡ b) ⊎ (is_below b a ≡ true)
not_below a b h = by_order a b (byte_cmp a b) refl h

-- ---- one name more is looked at

pub passed : {A : Type 0} (v : A → List ℕ) (o : Option A) (names : List (List ℕ)) (last name : List ℕ) → is_below last name ≡ false → MatchOption o (IsLast names last) (λ n. IsNext names last (v n)) → MatchOption o (IsLast (names ++ name ∷ []) last) (λ n. IsNext (names ++ name ∷ []) last (v n))
passed v None names last name low h = All-push (λ n. is_below last n ≡ false) names name h low
passed v (Some x) names last name low h = record {
  among = Contains-append_left names (name ∷ []) (v x) h.among;
  above = h.above;
  first = All-push (λ n. is_below last n ≡ true → is_below n (v x) ≡ false) names name h.first (λ e. both (is_below last name) e low);
}

pub first_above : (names : List (List ℕ)) (last name : List ℕ) → is_below last name ≡ true → IsLast names last → IsNext (names ++ name ∷ []) last name
first_above names last name high h = record {
  among = Contains-push names name;
  above = high;
  first = All-push (λ n. is_below last n ≡ true → is_below n name ≡ false) names name (λ k d lt e. both (is_below last (get_or names k d)) e (h k d lt)) (λ e. below_itself name);
}

pub nearer_one : (names : List (List ℕ)) (last next name : List ℕ) → is_below last name ≡ true → is_below name next ≡ true → IsNext names last next → IsNext (names ++ name ∷ []) last name
nearer_one names last next name high near h = record {
  among = Contains-push names name;
  above = high;
  first = All-push (λ n. is_below last n ≡ true → is_below n name ≡ false) names name
      (λ k d lt e. not_true (is_below (get_or names k d) name) (λ b. both (is_below (get_or names k d) next) (below_trans (get_or names k d) name next b near) (h.first k d lt e)))
      (λ e. below_itself name);
}

pub farther_one : (names : List (List ℕ)) (last next name : List ℕ) → is_below name next ≡ false → IsNext names last next → IsNext (names ++ name ∷ []) last next
farther_one names last next name far h = record {
  among = Contains-append_left names (name ∷ []) next h.among;
  above = h.above;
  first = All-push (λ n. is_below last n ≡ true → is_below n next ≡ false) names name h.first (λ e. far);
}

-- ---- fewer names are above the next one

-- how many pass
pub count : {A : Type 0} → (A → Bool) → List A → ℕ
count p [] = 0
count p (x ∷ xs) = cond (p x) (1 + count p xs) (count p xs)

fewer_or_same : (a b : Bool) (m n : ℕ) → (b ≡ true → a ≡ true) → m ≤ n → cond b (1 + m) m ≤ cond a (1 + n) n
fewer_or_same true true m n f h = omega arith
fewer_or_same true false m n f h = omega arith
fewer_or_same false true m n f h = absurd (let e = f refl in cc)
fewer_or_same false false m n f h = omega arith

fewer_then : (a b : Bool) (m n : ℕ) → (b ≡ true → a ≡ true) → m < n → cond b (1 + m) m < cond a (1 + n) n
fewer_then true true m n f h = omega arith
fewer_then true false m n f h = omega arith
fewer_then false true m n f h = absurd (let e = f refl in cc)
fewer_then false false m n f h = omega arith

one_less : (a b : Bool) (m n : ℕ) → a ≡ true → b ≡ false → m ≤ n → cond b (1 + m) m < cond a (1 + n) n
one_less true false m n e f h = omega arith
one_less true true m n e f h = absurd cc
one_less false b m n e f h = absurd cc

module _ {A : Type 0} (p q : A → Bool) (weaker : (x : A) → q x ≡ true → p x ≡ true) where
  count_weaker : (xs : List A) → count q xs ≤ count p xs
  unfolding count
  count_weaker [] = omega arith
  count_weaker (x ∷ xs) = fewer_or_same (p x) (q x) (count q xs) (count p xs) (weaker x) (count_weaker xs)

  pub count_fewer : (xs : List A) (y : A) → Contains xs y → p y ≡ true → q y ≡ false → count q xs < count p xs
  unfolding count
  count_fewer [] y c passes fails = absurd (let lt = c.1 in omega arith)
  count_fewer (x ∷ xs) y (zero, lt, is) passes fails = one_less (p x) (q x) (count q xs) (count p xs) (ap p is ∙ passes) (ap q is ∙ fails) (count_weaker xs)
  count_fewer (x ∷ xs) y (suc k, lt, is) passes fails = fewer_then (p x) (q x) (count q xs) (count p xs) (weaker x) (count_fewer xs y (k, omega arith, is) passes fails)

pub fewer_above : (names : List (List ℕ)) (last next : List ℕ) → IsNext names last next → count (λ n. is_below next n) names < count (λ n. is_below last n) names
fewer_above names last next h = count_fewer (λ n. is_below last n) (λ n. is_below next n) (λ n e. below_trans last next n h.above e) names next h.among h.above (below_itself next)

-- ---- no name is empty

-- the name is that of a file of payload k
pub named_file : (k : ℕ) (o : Option (ℕ × List ℕ)) (name : List ℕ) → name_in k o ≡ Some name → o ≡ Some (k, name)
named_file k None name h = absurd cc
named_file k (Some file) name h = by_number (eqb file.0 k) refl h
  where
    by_number : (b : Bool) → b ≡ eqb file.0 k → cond b (Some file.1) None ≡ Some name → Some file ≡ Some (k, name)
    by_number true e g =
        let number : file.0 ≡ k = grind (arith, nat_tests) in
        let same : file.1 ≡ name = cc in
        ap (λ (n : ℕ). Some (n, file.1)) number ∙ ap (λ (l : List ℕ). Some (k, l)) same
    by_number false e g = absurd cc

some_behind : (k : ℕ) (path : List ℕ) (o : Option (List ℕ)) (names : List (List ℕ)) → name_in k (payload_at (place_of path)) ≡ o → All (λ n. 0 < length n) names → All (λ n. 0 < length n) (cons_option o names)
some_behind k path None names e h = h
some_behind k path (Some name) names e h =
    let text = (name_is name).0 ((payload_path path k name (named_file k (payload_at (place_of path)) name e)).file.name) in
    All-cons (λ n. 0 < length n) name names (omega (arith, text.some)) h

pub none_empty : (k : ℕ) (lines : List Line) → All (λ n. 0 < length n) (payload_names k lines)
none_empty k [] = All-nil (λ n. 0 < length n)
none_empty k (line ∷ lines) = some_behind k line.path (name_in k (payload_at (place_of line.path))) (payload_names k lines) refl (none_empty k lines)

above_nothing : (name : List ℕ) → 0 < length name → is_below [] name ≡ true
above_nothing [] h = absurd (omega arith)
above_nothing (b ∷ name) h = refl

pub all_above_nothing : (k : ℕ) (lines : List Line) (name : List ℕ) → Contains (payload_names k lines) name → is_below [] name ≡ true
all_above_nothing k lines name c = above_nothing name (All-contains (λ n. 0 < length n) (payload_names k lines) name (none_empty k lines) c)

-- ---- one line more is looked at

pub payload_names-more : (k : ℕ) (lines : List Line) (i : ℕ) (line : Line) → i < length lines → line ≡ get_or lines i line → payload_names k (take (i + 1) lines) ≡ payload_names k (take i lines) ++ cons_option (name_in k (payload_at (place_of line.path))) []
payload_names-more k lines i line lt is =
    ap (payload_names k) (take_more lines i line lt) ∙ filter_map-append (λ (l : Line). name_in k (payload_at (place_of l.path))) (take i lines) (get_or lines i line ∷ []) ∙ ap (λ (l : Line). payload_names k (take i lines) ++ cons_option (name_in k (payload_at (place_of l.path))) []) (sym is)
