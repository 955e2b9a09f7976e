-- Files that are copied one after the other.
use Rattle.std.proofs.Common.{◌≡◌, ◌≢◌, ◌∙◌, ◌⊎◌, inl, inr, ℕ, ◌+◌, ◌<◌, ◌≤◌, zero, suc, Bool, true, false, cond, List, [], ◌∷◌, ◌++◌, length, Option, Some, None, refl, sym, ap, subst, map, arith}
use Rattle.std.specs.Prelude.{option_map, slice_get}
use Rattle.std.specs.List.{All, AllZip, Contains, zip, filter, filter_map, cons_option}
use Rattle.std.specs.Str.{bytes_eq}
use Rattle.std.proofs.lemmas.List.{map-append}
use Rattle.std.proofs.lemmas.List.Elements.{Contains-append_left, Contains-append_right}
use Rattle.std.proofs.lemmas.Slice.Eq.{bytes_eq-Decides}
use Rattle.sha2.specs.Sha256.{sha256}
use Rattle.upd_text.specs.Told.{WhereTold}
use Rattle.manifest_sums.specs.declared.manifest.Line.{Line}
use Rattle.io_model.specs.Source.{Tree, Content, bytes_at, IsLength, InFile, When}
use Rattle.io_model.specs.Source.Content.{Told, Untold}
use Rattle.io_model.specs.Reading.{IsAtMost, Gave, AreRead}
use Rattle.io_model.proofs.Readings.{read_first, read_part, in_part, gave_nothing}
use Rattle.admit.specs.Table.{first_some}
use Rattle.admit.specs.Differing.{Listed, listed_of, IsDiffering, differing}
use Rattle.admit.specs.declared.admitted.Admitted.{Admitted}
use Rattle.admit.specs.declared.refusal.Differs.{Differs}
use Rattle.admit.proofs.Readings.{told_alike, none_read, told_front, told_part}
use Rattle.work_folder.specs.declared.fault.PrepareFault.{PrepareFault}
use Rattle.work_folder.specs.declared.fault.PrepareFault.TheVariants as fault
use Rattle.work_folder.specs.Prepare.{IfFaultDiffers, IsOfDevice, files_of, first_wrong, CopiesAll, CopiesSome}

-- ---- the first that differs

step_then : {B : Type 0} (o z : Option B) (rest more : List B) → (slice_get rest 0 ≡ None → slice_get more 0 ≡ z) → slice_get (cons_option o rest) 0 ≡ None → slice_get (cons_option o more) 0 ≡ z
step_then None z rest more f h = f h
step_then (Some y) z rest more f h = absurd cc

first_then : {A B : Type 0} (f : A → Option B) (xs ys : List A) → first_some f xs ≡ None → first_some f (xs ++ ys) ≡ first_some f ys
first_then f [] ys h = refl
first_then f (x ∷ xs) ys h = step_then (f x) (first_some f ys) (filter_map f xs) (filter_map f (xs ++ ys)) (first_then f xs ys) h

step_front : {B : Type 0} (o : Option B) (d : B) (rest more : List B) → (slice_get rest 0 ≡ Some d → slice_get more 0 ≡ Some d) → slice_get (cons_option o rest) 0 ≡ Some d → slice_get (cons_option o more) 0 ≡ Some d
step_front None d rest more f h = f h
step_front (Some y) d rest more f h = h

first_front : {A B : Type 0} (f : A → Option B) (xs ys : List A) (d : B) → first_some f xs ≡ Some d → first_some f (xs ++ ys) ≡ Some d
first_front f [] ys d h = absurd cc
first_front f (x ∷ xs) ys d h = step_front (f x) d (filter_map f xs) (filter_map f (xs ++ ys)) (first_front f xs ys d) h

pub wrong_then : (t : Tree) (xs ys : List Listed) → first_wrong t xs ≡ None → first_wrong t (xs ++ ys) ≡ first_wrong t ys
wrong_then t xs ys h = first_then (λ (l : Listed). differing l.0 (sha256 (bytes_at t l.1))) xs ys h

pub wrong_front : (t : Tree) (xs ys : List Listed) (d : Differs) → first_wrong t xs ≡ Some d → first_wrong t (xs ++ ys) ≡ Some d
wrong_front t xs ys d h = first_front (λ (l : Listed). differing l.0 (sha256 (bytes_at t l.1))) xs ys d h

pub if_differs : (e : PrepareFault) (P Q : Differs → Type 0) → ((d : Differs) → P d → Q d) → IfFaultDiffers e P → IfFaultDiffers e Q
if_differs fault.Off P Q f h = tt
if_differs fault.DiskFault P Q f h = tt
if_differs fault.SourceFault P Q f h = tt
if_differs (fault.Differs d) P Q f h = f d h

pub of_device : (e : PrepareFault) (P : Differs → Type 0) → IsOfDevice e → IfFaultDiffers e P
of_device fault.Off P h = tt
of_device fault.DiskFault P h = tt
of_device fault.SourceFault P h = tt
of_device (fault.Differs d) P h = absurd h

pub files_append : (xs ys : List Listed) → files_of (xs ++ ys) ≡ files_of xs ++ files_of ys
files_append xs ys = map-append (λ (l : Listed). l.1) xs ys

-- ---- one stretch after the other

pub all_nothing : (c : Content) (old new : Option (List ℕ)) → new ≡ old → CopiesAll c [] old new
all_nothing (Untold n) old new e = record { read = tt; right = tt }
all_nothing (Told t) old new e = record { read = rw e (told_alike (AreRead true t []) old (λ x. refl)); right = refl }

pub all_then : (c : Content) (xs ys : List Listed) (old mid new : Option (List ℕ)) → CopiesAll c xs old mid → CopiesAll c ys mid new → CopiesAll c (xs ++ ys) old new
all_then (Untold n) xs ys old mid new a b = record { read = tt; right = tt }
all_then (Told t) xs ys old mid new a b = record {
  read = subst (λ (ns : List ℕ). WhereTold (AreRead true t ns) old new) (sym (files_append xs ys)) (told_front true t (files_of xs) (files_of ys) old mid new a.read b.read);
  right = wrong_then t xs ys a.right ∙ b.right;
}

pub some_then : (c : Content) (xs ys : List Listed) (e : PrepareFault) (old mid new : Option (List ℕ)) → CopiesAll c xs old mid → CopiesSome c ys e mid new → CopiesSome c (xs ++ ys) e old new
some_then (Untold n) xs ys e old mid new a b = record {
  read = tt;
  wrong = if_differs e _ _ (λ d h. tt) b.wrong;
  among = if_differs e _ _ (λ d (l, in_ys, h). (l, Contains-append_right xs ys l in_ys, h)) b.among;
}
some_then (Told t) xs ys e old mid new a b = record {
  read = subst (λ (ns : List ℕ). WhereTold (AreRead false t ns) old new) (sym (files_append xs ys)) (told_front false t (files_of xs) (files_of ys) old mid new a.read b.read);
  wrong = if_differs e _ _ (λ d h. wrong_then t xs ys a.right ∙ h) b.wrong;
  among = if_differs e _ _ (λ d (l, in_ys, h). (l, Contains-append_right xs ys l in_ys, h)) b.among;
}

pub some_front : (c : Content) (xs ys : List Listed) (e : PrepareFault) (old new : Option (List ℕ)) → CopiesSome c xs e old new → CopiesSome c (xs ++ ys) e old new
some_front (Untold n) xs ys e old new a = record {
  read = tt;
  wrong = if_differs e _ _ (λ d h. tt) a.wrong;
  among = if_differs e _ _ (λ d (l, in_xs, h). (l, Contains-append_left xs ys l in_xs, h)) a.among;
}
some_front (Told t) xs ys e old new a = record {
  read = subst (λ (ns : List ℕ). WhereTold (AreRead false t ns) old new) (sym (files_append xs ys)) (told_part t (files_of xs) (files_of ys) old new a.read);
  wrong = if_differs e _ _ (λ d h. wrong_front t xs ys d h) a.wrong;
  among = if_differs e _ _ (λ d (l, in_xs, h). (l, Contains-append_left xs ys l in_xs, h)) a.among;
}

-- the device stopped it before any file was read
pub some_nothing : (c : Content) (xs : List Listed) (e : PrepareFault) (old new : Option (List ℕ)) → IsOfDevice e → new ≡ old → CopiesSome c xs e old new
some_nothing (Untold n) xs e old new of same = record { read = tt; wrong = of_device e _ of; among = of_device e _ of }
some_nothing (Told t) xs e old new of same = record { read = rw same (none_read t (files_of xs) old); wrong = of_device e _ of; among = of_device e _ of }

-- ---- one file

none_behind : (t : Tree) (x : Option (List ℕ)) → WhereTold (AreRead true t []) x x
none_behind t x = told_alike (AreRead true t []) x (λ y. refl)

right_sum : (line : Line) (sum : List ℕ) → line.sum ≡ sum → differing line sum ≡ None
right_sum line sum e = ap (λ (b : Bool). cond b None (Some (record { path = line.path; listed = line.sum; found = sum }))) ((bytes_eq-Decides line.sum sum).1 e)

pub all_one : (c : Content) (line : Line) (n : ℕ) (sum : List ℕ) (old new : Option (List ℕ)) → Gave n (IsLength c n) old new → When c (λ t. sum ≡ sha256 (bytes_at t n)) → line.sum ≡ sum → CopiesAll c ((line, n) ∷ []) old new
all_one (Untold m) line n sum old new g s e = record { read = tt; right = tt }
all_one (Told t) line n sum old new g s e = record {
  read = read_first true t n [] old new new g (none_behind t new);
  right = ap (λ o. slice_get (cons_option o []) 0) (right_sum line (sha256 (bytes_at t n)) (e ∙ s));
}

pub some_one : (c : Content) (line : Line) (n : ℕ) (e : PrepareFault) (old new : Option (List ℕ)) → Gave n (IsAtMost c n) old new → IfFaultDiffers e (λ d. ⊥) → CopiesSome c ((line, n) ∷ []) e old new
some_one (Untold m) line n e old new g h = record { read = tt; wrong = if_differs e _ _ (λ d x. absurd x) h; among = if_differs e _ _ (λ d x. absurd x) h }
some_one (Told t) line n e old new g h = record { read = read_part t n [] old new g; wrong = if_differs e _ _ (λ d x. absurd x) h; among = if_differs e _ _ (λ d x. absurd x) h }

abbrev found_in : Line → List ℕ → Differs
found_in line sum = record { path = line.path; listed = line.sum; found = sum }

wrong_by : (line : Line) (sum : List ℕ) (b : Bool) → b ≡ bytes_eq line.sum sum → line.sum ≢ sum → cond b None (Some (found_in line sum)) ≡ Some (found_in line sum)
wrong_by line sum true e other = absurd (other ((bytes_eq-Decides line.sum sum).0 (sym e)))
wrong_by line sum false e other = refl

wrong_sum : (line : Line) (sum : List ℕ) → line.sum ≢ sum → differing line sum ≡ Some (found_in line sum)
wrong_sum line sum other = wrong_by line sum (bytes_eq line.sum sum) refl other

pub wrong_one : (c : Content) (line : Line) (n : ℕ) (sum : List ℕ) (old new : Option (List ℕ)) → Gave n (IsLength c n) old new → When c (λ t. sum ≡ sha256 (bytes_at t n)) → line.sum ≢ sum → CopiesSome c ((line, n) ∷ []) (fault.Differs (record { path = line.path; listed = line.sum; found = sum })) old new
wrong_one (Untold m) line n sum old new g s other = record {
  read = tt;
  wrong = tt;
  among = ((line, n), (0, omega arith, refl), record { path = refl; sum = refl; other = λ e. other (sym e); found = tt });
}
wrong_one (Told t) line n sum old new g s other = record {
  read = read_part t n [] old new (in_part (Told t) n old new g);
  wrong = ap (λ (o : Option Differs). slice_get (cons_option o []) 0) (ap (λ (m : List ℕ). differing line m) (sym s) ∙ wrong_sum line sum other);
  among = ((line, n), (0, omega arith, refl), record { path = refl; sum = refl; other = λ e. other (sym e); found = s });
}

pub sum_told : (c : Content) (n : ℕ) (sum bytes : List ℕ) → sum ≡ sha256 bytes → When c (λ t. bytes ≡ bytes_at t n) → When c (λ t. sum ≡ sha256 (bytes_at t n))
sum_told (Untold m) n sum bytes e h = tt
sum_told (Told t) n sum bytes e h = e ∙ ap sha256 h

pub inside : (c : Content) (i at len count : ℕ) → InFile c i at len → count ≤ len → IsAtMost c i (at + count)
inside (Untold m) i at len count fits le = tt
inside (Told t) i at len count fits le = omega (arith, fits, le)

-- the same of the same source and lines
pub all_of : (F : List Listed → List Listed) (c other : Content) (plan : Admitted) (read : List Line) (found : List ℕ) (old new : Option (List ℕ)) → other ≡ c → read ≡ plan.manifest → found ≡ plan.numbers → CopiesAll other (F (zip read found)) old new → CopiesAll c (F (listed_of plan)) old new
all_of F c other plan read found old new same e f h = rw (same, e, f) at h

pub some_of : (F : List Listed → List Listed) (e : PrepareFault) (c other : Content) (plan : Admitted) (read : List Line) (found : List ℕ) (old new : Option (List ℕ)) → other ≡ c → read ≡ plan.manifest → found ≡ plan.numbers → CopiesSome other (F (zip read found)) e old new → CopiesSome c (F (listed_of plan)) e old new
some_of F fault c other plan read found old new same e f h = rw (same, e, f) at h
