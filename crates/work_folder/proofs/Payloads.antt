-- What the copies say of the payloads.
use Rattle.std.proofs.Common.{◌≡◌, ◌≢◌, ◌∙◌, ◌⊎◌, inl, inr, ℕ, ◌+◌, ◌<◌, ◌≤◌, zero, suc, Bool, true, false, cond, List, [], ◌∷◌, ◌++◌, length, Option, Some, None, refl, sym, ap, subst, map, arith}
use Rattle.std.specs.Prelude.{find, slice_get, codes, not, AllPairs}
use Rattle.std.specs.List.{All, AllByRecursion, AllZip, Contains, zip, filter, filter_map, cons_option}
use Rattle.std.specs.Str.{bytes_eq}
use Rattle.std.specs.Option.{is_some}
use Rattle.std.proofs.lemmas.List.Elements.{All-nil, All-cons, All-head, All-tail, All-append}
use Rattle.std.proofs.lemmas.Slice.Eq.{bytes_eq-Decides}
use Rattle.sha2.specs.Sha256.{sha256}
use Rattle.upd_text.specs.Told.{WhereTold}
use Rattle.manifest_sums.specs.declared.manifest.Line.{Line}
use Rattle.io_model.specs.Source.{Tree, Content, bytes_at, path_at, When}
use Rattle.io_model.specs.Source.Content.{Told, Untold}
use Rattle.io_model.specs.Reading.{IsUnread, IsReadBy, AreRead}
use Rattle.io_model.proofs.Readings.{not_read, read_after, read_before, part_of_once, part_of_none}
use Rattle.admit.specs.IsOf.{IsOf}
use Rattle.admit.specs.Table.{first_some}
use Rattle.admit.specs.Places.{place_of, spelled, IsSpelled, payload_at, script_at, is_payload}
use Rattle.artifact_meta.specs.declared.kinds.TheConstants.{MOST_PAYLOADS}
use Rattle.admit.specs.Differing.{Listed, listed_of, in_payload, in_rest, differing, differing_in, first_differing, picked}
use Rattle.admit.specs.Given.{is_payload_file, ReadsPayloads}
use Rattle.admit.specs.declared.admitted.Admitted.{Admitted}
use Rattle.admit.specs.declared.place.TreePlace.{TreePlace}
use Rattle.admit.specs.declared.place.TreePlace.TheVariants as at
use Rattle.admit.specs.declared.refusal.Differs.{Differs}
use Rattle.admit.proofs.Placed.{place_spelled}
use Rattle.admit.proofs.Readings.{payloads_read}
use Rattle.admit.proofs.Spared.{other_file}
use Rattle.admit.proofs.TableLemmas.{all_none}
use Rattle.work_folder.specs.declared.fault.PrepareFault.{PrepareFault}
use Rattle.work_folder.specs.declared.groups.Group.TheVariants as group
use Rattle.work_folder.specs.Rows.{is_in, line_with, header_lines, headers_lines, group_lines, copied_of}
use Rattle.work_folder.specs.Prepare.{IsOfDevice, files_of, first_wrong, CopiesAll, CopiesSome}
use Rattle.work_folder.proofs.Copied.{files_append, wrong_then, wrong_front, of_device}

-- ---- which lines are copied

is_payload_at : (place : TreePlace) → is_some (payload_at place) ≡ is_payload place
is_payload_at at.Version = refl
is_payload_at at.Manifest = refl
is_payload_at at.Signature = refl
is_payload_at at.HeaderInfo = refl
is_payload_at (at.TypeInfo k) = refl
is_payload_at (at.MetaData k) = refl
is_payload_at (at.Script name) = refl
is_payload_at (at.Payload k name) = refl
is_payload_at at.Augmented = refl
is_payload_at at.Other = refl

no_payload_at : (place : TreePlace) → is_some (script_at place) ≡ true → is_payload place ≡ false
no_payload_at (at.Script name) h = refl
no_payload_at at.Version h = absurd cc
no_payload_at at.Manifest h = absurd cc
no_payload_at at.Signature h = absurd cc
no_payload_at at.HeaderInfo h = absurd cc
no_payload_at (at.TypeInfo k) h = absurd cc
no_payload_at (at.MetaData k) h = absurd cc
no_payload_at (at.Payload k name) h = absurd cc
no_payload_at at.Augmented h = absurd cc
no_payload_at at.Other h = absurd cc

-- the files of the payloads' lines
payload_files : (listed : List Listed) → files_of (group_lines group.Payload listed) ≡ picked in_payload listed
payload_files [] = refl
payload_files (l ∷ listed) = step l (group_lines group.Payload listed) (picked in_payload listed) (payload_files listed) (is_some (payload_at (place_of l.0.path))) (in_payload l.0.path) (is_payload_at (place_of l.0.path))
  where
    step : (l : Listed) (rest : List Listed) (ns : List ℕ) → files_of rest ≡ ns → (a b : Bool) → a ≡ b → files_of (cond a (l ∷ rest) rest) ≡ cons_option (cond b (Some l.1) None) ns
    step l rest ns h true true e = ap (λ (ms : List ℕ). l.1 ∷ ms) h
    step l rest ns h false false e = h
    step l rest ns h true false e = absurd cc
    step l rest ns h false true e = absurd cc

-- ---- which files the other lines have

abbrev There : Tree → Listed → Type 0
There t l = path_at t l.1 ≡ Some l.0.path

there : (t : Tree) (lines : List Line) (numbers : List ℕ) → AllZip (λ line n. path_at t n ≡ Some line.path) lines numbers → AllByRecursion (There t) (zip lines numbers)
there t [] numbers z = tt
there t (line ∷ lines) [] z = tt
there t (line ∷ lines) (n ∷ numbers) z = (z.0, there t lines numbers z.1)

no_header : (t : Tree) (i : ℕ) (path : List ℕ) (listed : List Listed) → in_payload path ≡ false → is_payload_file t i ≡ true → AllByRecursion (There t) listed → All (λ n. i ≢ n) (files_of (line_with path listed))
no_header t i path [] other payload h = All-nil (λ n. i ≢ n)
no_header t i path (l ∷ listed) other payload h = step (no_header t i path listed other payload h.1) (bytes_eq l.0.path path) refl
  where
    step : All (λ n. i ≢ n) (files_of (line_with path listed)) → (b : Bool) → b ≡ bytes_eq l.0.path path → All (λ n. i ≢ n) (files_of (cons_option (cond b (Some l) (find (λ (x : Listed). bytes_eq x.0.path path) listed)) []))
    step more true e = All-cons (λ n. i ≢ n) l.1 [] (other_file t path l.1 i (h.0 ∙ ap Some ((bytes_eq-Decides l.0.path path).0 (sym e))) other payload) (All-nil (λ n. i ≢ n))
    step more false e = more

-- the header of a payload

header_place : (place : TreePlace) → IsSpelled place → is_payload place ≡ false → in_payload (spelled place) ≡ false
header_place place right other = ap is_payload (place_spelled place right) ∙ other

no_header_of : (t : Tree) (i k : ℕ) (listed : List Listed) → k < MOST_PAYLOADS → is_payload_file t i ≡ true → AllByRecursion (There t) listed → All (λ n. i ≢ n) (files_of (header_lines k listed))
no_header_of t i k listed few payload all =
    let info = line_with (spelled at.HeaderInfo) listed in
    let type = line_with (spelled (at.TypeInfo k)) listed in
    let meta = line_with (spelled (at.MetaData k)) listed in
    rw (files_append info (type ++ meta), files_append type meta)
    (All-append (λ n. i ≢ n) (files_of info) (files_of type ++ files_of meta) (no_header t i (spelled at.HeaderInfo) listed (header_place at.HeaderInfo tt refl) payload all)
    (All-append (λ n. i ≢ n) (files_of type) (files_of meta) (no_header t i (spelled (at.TypeInfo k)) listed (header_place (at.TypeInfo k) few refl) payload all) (no_header t i (spelled (at.MetaData k)) listed (header_place (at.MetaData k) few refl) payload all)))

no_headers : (t : Tree) (i : ℕ) (listed : List Listed) → is_payload_file t i ≡ true → AllByRecursion (There t) listed → (k n : ℕ) → k + n ≤ MOST_PAYLOADS → All (λ m. i ≢ m) (files_of (headers_lines k n listed))
no_headers t i listed payload all k zero few = All-nil (λ m. i ≢ m)
no_headers t i listed payload all k (suc n) few =
    let one = header_lines k listed in
    let more = headers_lines (k + 1) n listed in
    rw (files_append one more)
    (All-append (λ m. i ≢ m) (files_of one) (files_of more) (no_header_of t i k listed (omega arith) payload all) (no_headers t i listed payload all (k + 1) n (omega arith)))

no_script : (t : Tree) (i : ℕ) (listed : List Listed) → is_payload_file t i ≡ true → AllByRecursion (There t) listed → All (λ n. i ≢ n) (files_of (group_lines group.Scripts listed))
no_script t i [] payload h = All-nil (λ n. i ≢ n)
no_script t i (l ∷ listed) payload h = step t i l (group_lines group.Scripts listed) payload h.0 (no_script t i listed payload h.1) (is_some (script_at (place_of l.0.path))) refl
  where
    step : (t : Tree) (i : ℕ) (l : Listed) (rest : List Listed) → is_payload_file t i ≡ true → There t l → All (λ n. i ≢ n) (files_of rest) → (b : Bool) → b ≡ is_some (script_at (place_of l.0.path)) → All (λ n. i ≢ n) (files_of (cond b (l ∷ rest) rest))
    step t i l rest payload here more true e = All-cons (λ n. i ≢ n) l.1 (files_of rest) (other_file t l.0.path l.1 i here (no_payload_at (place_of l.0.path) (sym e)) payload) more
    step t i l rest payload here more false e = more

-- ---- one stretch after the other

split_all : (t : Tree) (xs ys : List ℕ) (old new : List ℕ) → AreRead true t (xs ++ ys) old new → (mid : List ℕ) × AreRead true t xs old mid × AreRead true t ys mid new
split_all t [] ys old new h = (old, refl, h)
split_all t (n ∷ xs) ys old new (m, first, rest) = let s = split_all t xs ys m new rest in (s.0, (m, first, s.1), s.2)

split_some : (t : Tree) (xs ys : List ℕ) (old new : List ℕ) → AreRead false t (xs ++ ys) old new → AreRead false t xs old new ⊎ ((mid : List ℕ) × AreRead true t xs old mid × AreRead false t ys mid new)
split_some t [] ys old new h = inr (old, refl, h)
split_some t (n ∷ xs) ys old new (inl part) = inl (inl part)
split_some t (n ∷ xs) ys old new (inr (m, first, rest)) = elim (split_some t xs ys m new rest) [
  | inl a ↦ (inl (inr (m, first, a)))
  | inr s ↦ (inr (s.0, (m, first, s.1), s.2))
]

module _ (t : Tree) (plan : Admitted) (of : IsOf (Told t) plan) where
  listed : List Listed
  listed = listed_of plan

  headers : List ℕ
  headers = files_of (headers_lines 0 (length plan.header.kinds) (listed_of plan))

  payloads : List ℕ
  payloads = files_of (group_lines group.Payload (listed_of plan))

  scripts : List ℕ
  scripts = files_of (group_lines group.Scripts (listed_of plan))

  split_files : files_of (copied_of plan) ≡ headers ++ (payloads ++ scripts)
  unfolding headers payloads scripts
  split_files =
      let header = headers_lines 0 (length plan.header.kinds) (listed_of plan) in
      files_append header (group_lines group.Payload (listed_of plan) ++ group_lines group.Scripts (listed_of plan)) ∙ ap (λ (ns : List ℕ). files_of header ++ ns) (files_append (group_lines group.Payload (listed_of plan)) (group_lines group.Scripts (listed_of plan)))

  headers_apart : (i : ℕ) → is_payload_file t i ≡ true → All (λ n. i ≢ n) headers
  unfolding headers
  headers_apart i payload =
      let few : 0 + length plan.header.kinds ≤ MOST_PAYLOADS = omega (arith, of.kinds.few) in
      no_headers t i (listed_of plan) payload (there t plan.manifest plan.numbers of.places) 0 (length plan.header.kinds) few

  scripts_apart : (i : ℕ) → is_payload_file t i ≡ true → All (λ n. i ≢ n) scripts
  unfolding scripts
  scripts_apart i payload = no_script t i (listed_of plan) payload (there t plan.manifest plan.numbers of.places)

  payload_read : (whole : Bool) (old new : List ℕ) → AreRead whole t payloads old new → (i : ℕ) → is_payload_file t i ≡ true → IsReadBy whole t i old new
  unfolding payloads
  payload_read whole old new h i payload = payloads_read t plan of whole (Some old) (Some new) (subst (λ (ns : List ℕ). AreRead whole t ns old new) (payload_files (listed_of plan)) h) i payload

  reads_whole : (old new : List ℕ) → AreRead true t (headers ++ (payloads ++ scripts)) old new → (i : ℕ) → is_payload_file t i ≡ true → IsReadBy true t i old new
  reads_whole old new h i payload =
      let a = split_all t headers (payloads ++ scripts) old new h in
      let b = split_all t payloads scripts a.0 new a.2 in
      read_after true t i old a.0 new (not_read true t headers i old a.0 (headers_apart i payload) a.1)
      (read_before true t i a.0 b.0 new (payload_read true a.0 b.0 b.1 i payload) (not_read true t scripts i b.0 new (scripts_apart i payload) b.2))

  reads_part : (old new : List ℕ) → AreRead false t (headers ++ (payloads ++ scripts)) old new → (i : ℕ) → is_payload_file t i ≡ true → IsReadBy false t i old new
  reads_part old new h i payload = elim (split_some t headers (payloads ++ scripts) old new h) [
    | inl a ↦ (part_of_none t i old new (not_read false t headers i old new (headers_apart i payload) a))
    | inr a ↦ (read_after false t i old a.0 new (not_read true t headers i old a.0 (headers_apart i payload) a.1)
        (elim (split_some t payloads scripts a.0 new a.2) [
          | inl b ↦ (payload_read false a.0 new b i payload)
          | inr b ↦ (read_before false t i a.0 b.0 new (part_of_once t i a.0 b.0 (payload_read true a.0 b.0 b.1 i payload)) (not_read false t scripts i b.0 new (scripts_apart i payload) b.2))
        ]))
  ]

  told_whole : (old new : Option (List ℕ)) → WhereTold (AreRead true t (files_of (copied_of plan))) old new → ReadsPayloads true t old new
  told_whole None None h = tt
  told_whole None (Some b) h = absurd h
  told_whole (Some a) None h = absurd h
  told_whole (Some a) (Some b) h = λ i payload. reads_whole a b (subst (λ (ns : List ℕ). AreRead true t ns a b) split_files h) i payload

  told_part : (old new : Option (List ℕ)) → WhereTold (AreRead false t (files_of (copied_of plan))) old new → ReadsPayloads false t old new
  told_part None None h = tt
  told_part None (Some b) h = absurd h
  told_part (Some a) None h = absurd h
  told_part (Some a) (Some b) h = λ i payload. reads_part a b (subst (λ (ns : List ℕ). AreRead false t ns a b) split_files h) i payload

pub all_payloads : (c : Content) (plan : Admitted) → IsOf c plan → (old new : Option (List ℕ)) → CopiesAll c (copied_of plan) old new → When c (λ t. ReadsPayloads true t old new)
all_payloads (Untold n) plan of old new h = tt
all_payloads (Told t) plan of old new h = told_whole t plan of old new h.read

pub some_payloads : (c : Content) (plan : Admitted) → IsOf c plan → (e : PrepareFault) (old new : Option (List ℕ)) → CopiesSome c (copied_of plan) e old new → When c (λ t. ReadsPayloads false t old new)
some_payloads (Untold n) plan of e old new h = tt
some_payloads (Told t) plan of e old new h = told_part t plan of old new h.read

-- all were copied, and then the device stopped it
all_but_synced : (t : Tree) (ns : List ℕ) (old new : List ℕ) → AreRead true t ns old new → AreRead false t ns old new
all_but_synced t [] old new h = h
all_but_synced t (n ∷ ns) old new (m, first, rest) = inr (m, first, all_but_synced t ns m new rest)

told_all_but : (t : Tree) (ns : List ℕ) (old new : Option (List ℕ)) → WhereTold (AreRead true t ns) old new → WhereTold (AreRead false t ns) old new
told_all_but t ns None None h = tt
told_all_but t ns None (Some b) h = absurd h
told_all_but t ns (Some a) None h = absurd h
told_all_but t ns (Some a) (Some b) h = all_but_synced t ns a b h

pub stopped_after : (c : Content) (copied : List Listed) (e : PrepareFault) (old new : Option (List ℕ)) → IsOfDevice e → CopiesAll c copied old new → CopiesSome c copied e old new
stopped_after (Untold n) copied e old new of h = record { read = tt; wrong = of_device e _ of; among = of_device e _ of }
stopped_after (Told t) copied e old new of h = record { read = told_all_but t (files_of copied) old new h.read; wrong = of_device e _ of; among = of_device e _ of }

-- ---- the first copied file that differs

found_right : (t : Tree) (path : List ℕ) (listed : List Listed) → in_rest path ≡ true → All (λ (l : Listed). differing_in in_rest t l ≡ None) listed → first_wrong t (line_with path listed) ≡ None
found_right t path [] rest h = refl
found_right t path (l ∷ listed) rest h = step t path l listed rest (All-head (λ (x : Listed). differing_in in_rest t x ≡ None) l listed h) (found_right t path listed rest (All-tail (λ (x : Listed). differing_in in_rest t x ≡ None) l listed h)) (bytes_eq l.0.path path) refl
  where
    step : (t : Tree) (path : List ℕ) (l : Listed) (listed : List Listed) → in_rest path ≡ true → differing_in in_rest t l ≡ None → first_wrong t (line_with path listed) ≡ None → (b : Bool) → b ≡ bytes_eq l.0.path path → first_wrong t (cons_option (cond b (Some l) (find (λ (x : Listed). bytes_eq x.0.path path) listed)) []) ≡ None
    step t path l listed rest here more true e =
        let is_rest : in_rest l.0.path ≡ true = ap in_rest ((bytes_eq-Decides l.0.path path).0 (sym e)) ∙ rest in
        let right : differing l.0 (sha256 (bytes_at t l.1)) ≡ None = sym (ap (λ (b : Bool). cond b (differing l.0 (sha256 (bytes_at t l.1))) None) is_rest) ∙ here in
        ap (λ (o : Option Differs). slice_get (cons_option o []) 0) right
    step t path l listed rest here more false e = more

scripts_right : (t : Tree) (listed : List Listed) → All (λ (l : Listed). differing_in in_rest t l ≡ None) listed → first_wrong t (group_lines group.Scripts listed) ≡ None
scripts_right t [] h = refl
scripts_right t (l ∷ listed) h = step t l (group_lines group.Scripts listed) (All-head (λ (x : Listed). differing_in in_rest t x ≡ None) l listed h) (scripts_right t listed (All-tail (λ (x : Listed). differing_in in_rest t x ≡ None) l listed h)) (is_some (script_at (place_of l.0.path))) refl
  where
    step : (t : Tree) (l : Listed) (rest : List Listed) → differing_in in_rest t l ≡ None → first_wrong t rest ≡ None → (b : Bool) → b ≡ is_some (script_at (place_of l.0.path)) → first_wrong t (cond b (l ∷ rest) rest) ≡ None
    step t l rest here more true e =
        let is_rest : in_rest l.0.path ≡ true = ap not (no_payload_at (place_of l.0.path) (sym e)) in
        let right : differing l.0 (sha256 (bytes_at t l.1)) ≡ None = sym (ap (λ (b : Bool). cond b (differing l.0 (sha256 (bytes_at t l.1))) None) is_rest) ∙ here in
        ap (λ (o : Option Differs). slice_get (cons_option o (filter_map (λ (x : Listed). differing x.0 (sha256 (bytes_at t x.1))) rest)) 0) right ∙ more
    step t l rest here more false e = more

payload_first : (t : Tree) (listed : List Listed) → first_wrong t (group_lines group.Payload listed) ≡ first_differing in_payload t listed
payload_first t [] = refl
payload_first t (l ∷ listed) = step t l (group_lines group.Payload listed) listed (payload_first t listed) (is_some (payload_at (place_of l.0.path))) (in_payload l.0.path) (is_payload_at (place_of l.0.path))
  where
    same : (t : Tree) (o : Option Differs) (rest listed : List Listed) → first_wrong t rest ≡ first_differing in_payload t listed → slice_get (cons_option o (filter_map (λ (x : Listed). differing x.0 (sha256 (bytes_at t x.1))) rest)) 0 ≡ slice_get (cons_option o (filter_map (differing_in in_payload t) listed)) 0
    same t None rest listed h = h
    same t (Some d) rest listed h = refl

    step : (t : Tree) (l : Listed) (rest listed : List Listed) → first_wrong t rest ≡ first_differing in_payload t listed → (a b : Bool) → a ≡ b → first_wrong t (cond a (l ∷ rest) rest) ≡ slice_get (cons_option (cond b (differing l.0 (sha256 (bytes_at t l.1))) None) (filter_map (differing_in in_payload t) listed)) 0
    step t l rest listed h true true e = same t (differing l.0 (sha256 (bytes_at t l.1))) rest listed h
    step t l rest listed h false false e = h
    step t l rest listed h true false e = absurd cc
    step t l rest listed h false true e = absurd cc

header_right : (t : Tree) (k : ℕ) (listed : List Listed) → k < MOST_PAYLOADS → All (λ (l : Listed). differing_in in_rest t l ≡ None) listed → first_wrong t (header_lines k listed) ≡ None
header_right t k listed few all =
    let info = line_with (spelled at.HeaderInfo) listed in
    let type = line_with (spelled (at.TypeInfo k)) listed in
    let meta = line_with (spelled (at.MetaData k)) listed in
    let rest = λ (place : TreePlace) (right : IsSpelled place) (other : is_payload place ≡ false). ap not (header_place place right other) in
    wrong_then t info (type ++ meta) (found_right t (spelled at.HeaderInfo) listed (rest at.HeaderInfo tt refl) all)
    ∙ (wrong_then t type meta (found_right t (spelled (at.TypeInfo k)) listed (rest (at.TypeInfo k) few refl) all)
    ∙ found_right t (spelled (at.MetaData k)) listed (rest (at.MetaData k) few refl) all)

headers_right : (t : Tree) (listed : List Listed) → All (λ (l : Listed). differing_in in_rest t l ≡ None) listed → (k n : ℕ) → k + n ≤ MOST_PAYLOADS → first_wrong t (headers_lines k n listed) ≡ None
headers_right t listed all k zero few = refl
headers_right t listed all k (suc n) few = wrong_then t (header_lines k listed) (headers_lines (k + 1) n listed) (header_right t k listed (omega arith) all) ∙ headers_right t listed all (k + 1) n (omega arith)

first_of_both : (t : Tree) (xs ys : List Listed) (o : Option Differs) → first_wrong t xs ≡ o → first_wrong t ys ≡ None → first_wrong t (xs ++ ys) ≡ o
first_of_both t xs ys None h k = wrong_then t xs ys h ∙ k
first_of_both t xs ys (Some d) h k = wrong_front t xs ys d h

pub only_payloads : (t : Tree) (plan : Admitted) → IsOf (Told t) plan → first_differing in_rest t (listed_of plan) ≡ None → first_wrong t (copied_of plan) ≡ first_differing in_payload t (listed_of plan)
only_payloads t plan of rest =
    let listed = listed_of plan in
    let all = all_none (differing_in in_rest t) listed rest in
    let payload = group_lines group.Payload listed in
    let scripts = group_lines group.Scripts listed in
    let inner : first_wrong t (payload ++ scripts) ≡ first_differing in_payload t listed = first_of_both t payload scripts (first_differing in_payload t listed) (payload_first t listed) (scripts_right t listed all) in
    let few : 0 + length plan.header.kinds ≤ MOST_PAYLOADS = omega (arith, of.kinds.few) in
    wrong_then t (headers_lines 0 (length plan.header.kinds) listed) (payload ++ scripts) (headers_right t listed all 0 (length plan.header.kinds) few) ∙ inner
