-- The payloads' files, one after the other.
use Rattle.std.proofs.Common.{zero, suc, ◌+◌, ◌<◌, ◌≤◌, length, get_or, drop, ◌≡◌, ◌≢◌, ◌∙◌, ◌⊎◌, inl, inr, ℕ, Bool, true, false, cond, List, [], ◌∷◌, ◌++◌, Option, Some, None, refl, sym, ap, subst, arith}
use Rattle.std.specs.List.{zip, All, filter_map, cons_option}
use Rattle.std.proofs.lemmas.List.Elements.{All-nil, All-cons, All-head, All-tail}
use Rattle.std.specs.Prelude.{AllPairs, codes, slice_get}
use Rattle.std.specs.List.{AllZip, Contains}
use Rattle.std.specs.Option.{option_and_then}
use Rattle.std.proofs.lemmas.Bool.{cases_lt}
use Rattle.std.proofs.lemmas.List.{drop_more, drop_all}
use Rattle.std.proofs.lemmas.Option.{slice_get_past}
use Rattle.std.proofs.lemmas.Slice.Zip.{length-zip, get_or-zip}
use Rattle.manifest_sums.specs.declared.manifest.Line.{Line}
use Rattle.upd_text.specs.Told.{WhereTold}
use Rattle.io_model.specs.Source.{File, Tree, Content, path_at, When}
use Rattle.io_model.specs.Source.Content.{Told, Untold}
use Rattle.io_model.specs.Reading.{AreRead}
use Rattle.io_model.proofs.Readings.{part_of_none, Apart, not_read, is_read}
use Rattle.admit.specs.Places.{place_of, place_at, is_payload}
use Rattle.admit.specs.IsOf.{IsOf}
use Rattle.admit.specs.declared.admitted.Admitted.{Admitted}
use Rattle.admit.specs.declared.refusal.Differs.{Differs}
use Rattle.admit.specs.Given.{NoneButThese, is_payload_file, ReadsPayloads, SparesTheRest}
use Rattle.admit.specs.Differing.{Listed, listed_of, in_payload, in_rest, differing_in, first_differing, picked, IsDiffering, IsDifferingIn}

-- ---- the payloads

abbrev pub Reads : Bool → Content → List ℕ → Option (List ℕ) → Option (List ℕ) → Type 0
Reads whole c ns old new = When c (λ t. WhereTold (AreRead whole t ns) old new)

pub told_alike : {T : Type 0} (R : T → T → Type 0) (old : Option T) → ((x : T) → R x x) → WhereTold R old old
told_alike R None f = tt
told_alike R (Some x) f = f x

none_read_at : (t : Tree) (ns : List ℕ) (old : List ℕ) → AreRead false t ns old old
none_read_at t [] old = refl
none_read_at t (n ∷ ns) old = inl (part_of_none t n old old refl, λ j other. refl)

pub none_read : (t : Tree) (ns : List ℕ) (old : Option (List ℕ)) → WhereTold (AreRead false t ns) old old
none_read t ns old = told_alike (AreRead false t ns) old (none_read_at t ns)

front_read : (whole : Bool) (t : Tree) (fs gs : List ℕ) (old mid new : List ℕ) → AreRead true t fs old mid → AreRead whole t gs mid new → AreRead whole t (fs ++ gs) old new
front_read whole t [] gs old mid new h k = subst (λ (l : List ℕ). AreRead whole t gs l new) h k
front_read true t (n ∷ fs) gs old mid new (m, first, rest) k = (m, first, front_read true t fs gs m mid new rest k)
front_read false t (n ∷ fs) gs old mid new (m, first, rest) k = inr (m, first, front_read false t fs gs m mid new rest k)

part_read : (t : Tree) (fs gs : List ℕ) (old new : List ℕ) → AreRead false t fs old new → AreRead false t (fs ++ gs) old new
part_read t [] gs old new h = subst (λ (l : List ℕ). AreRead false t gs old l) (sym h) (none_read_at t gs old)
part_read t (n ∷ fs) gs old new (inl h) = inl h
part_read t (n ∷ fs) gs old new (inr (m, first, rest)) = inr (m, first, part_read t fs gs m new rest)

pub told_front : (whole : Bool) (t : Tree) (fs gs : List ℕ) (old mid new : Option (List ℕ)) → WhereTold (AreRead true t fs) old mid → WhereTold (AreRead whole t gs) mid new → WhereTold (AreRead whole t (fs ++ gs)) old new
told_front whole t fs gs None None None h k = tt
told_front whole t fs gs None None (Some c) h k = absurd k
told_front whole t fs gs None (Some b) new h k = absurd h
told_front whole t fs gs (Some a) None new h k = absurd h
told_front whole t fs gs (Some a) (Some b) None h k = absurd k
told_front whole t fs gs (Some a) (Some b) (Some c) h k = front_read whole t fs gs a b c h k

pub told_part : (t : Tree) (fs gs : List ℕ) (old new : Option (List ℕ)) → WhereTold (AreRead false t fs) old new → WhereTold (AreRead false t (fs ++ gs)) old new
told_part t fs gs None None h = tt
told_part t fs gs None (Some b) h = absurd h
told_part t fs gs (Some a) None h = absurd h
told_part t fs gs (Some a) (Some b) h = part_read t fs gs a b h

pub picked_more : (picks : List ℕ → Bool) (l : Listed) (rest : List Listed) → picked picks (l ∷ rest) ≡ picked picks (l ∷ []) ++ picked picks rest
picked_more picks l rest = elim (picks l.0.path) as (λ b. cons_option (cond b (Some l.1) None) (picked picks rest) ≡ cons_option (cond b (Some l.1) None) [] ++ picked picks rest) [ true ↦ refl | false ↦ refl ]

-- one more line was read, and then the rest
pub reads_more : (whole : Bool) (t : Tree) (l : Listed) (rest : List Listed) (old mid new : Option (List ℕ)) → WhereTold (AreRead true t (picked in_payload (l ∷ []))) old mid → WhereTold (AreRead whole t (picked in_payload rest)) mid new → WhereTold (AreRead whole t (picked in_payload (l ∷ rest))) old new
reads_more whole t l rest old mid new h k = subst (λ (ns : List ℕ). WhereTold (AreRead whole t ns) old new) (sym (picked_more in_payload l rest)) (told_front whole t (picked in_payload (l ∷ [])) (picked in_payload rest) old mid new h k)

-- a line was read in part, and the rest wasn't
pub reads_part : (t : Tree) (l : Listed) (rest : List Listed) (old new : Option (List ℕ)) → WhereTold (AreRead false t (picked in_payload (l ∷ []))) old new → WhereTold (AreRead false t (picked in_payload (l ∷ rest))) old new
reads_part t l rest old new h = subst (λ (ns : List ℕ). WhereTold (AreRead false t ns) old new) (sym (picked_more in_payload l rest)) (told_part t (picked in_payload (l ∷ [])) (picked in_payload rest) old new h)

-- ---- the rest

all_front : (P : ℕ → Type 0) (fs gs : List ℕ) → All P (fs ++ gs) → All P fs × All P gs
all_front P [] gs h = (All-nil P, h)
all_front P (a ∷ fs) gs h = let t = all_front P fs gs (All-tail P a (fs ++ gs) h) in (All-cons P a fs (All-head P a (fs ++ gs) h) t.0, t.1)

none_more_at : (fs gs : List ℕ) (old mid new : List ℕ) → NoneButThese fs old mid → NoneButThese gs mid new → NoneButThese (fs ++ gs) old new
none_more_at fs gs old mid new h k = λ j other. (let t = all_front (λ n. j ≢ n) fs gs other in k j t.1 ∙ h j t.0)

pub none_more : (picks : List ℕ → Bool) (l : Listed) (rest : List Listed) (old mid new : Option (List ℕ)) → WhereTold (NoneButThese (picked picks (l ∷ []))) old mid → WhereTold (NoneButThese (picked picks rest)) mid new → WhereTold (NoneButThese (picked picks (l ∷ rest))) old new
none_more picks l rest None None None h k = tt
none_more picks l rest None None (Some c) h k = absurd k
none_more picks l rest None (Some b) new h k = absurd h
none_more picks l rest (Some a) None new h k = absurd h
none_more picks l rest (Some a) (Some b) None h k = absurd k
none_more picks l rest (Some a) (Some b) (Some c) h k = subst (λ (ns : List ℕ). NoneButThese ns a c) (sym (picked_more picks l rest)) (none_more_at (picked picks (l ∷ [])) (picked picks rest) a b c h k)

pub none_but : (ns : List ℕ) (old : Option (List ℕ)) → WhereTold (NoneButThese ns) old old
none_but ns old = told_alike (NoneButThese ns) old (λ x j other. refl)

-- ---- the line at an index

pub rows_at : (lines : List Line) (numbers : List ℕ) (i : ℕ) (line : Line) → i < length lines → length numbers ≡ length lines → line ≡ get_or lines i line → zip (drop i lines) (drop i numbers) ≡ (line, get_or numbers i 0) ∷ zip (drop (i + 1) lines) (drop (i + 1) numbers)
rows_at lines numbers i line lt same is =
    let a : drop i lines ≡ line ∷ drop (i + 1) lines = drop_more lines i line lt ∙ ap (λ (x : Line). x ∷ drop (i + 1) lines) (sym is) in
    let b : drop i numbers ≡ get_or numbers i 0 ∷ drop (i + 1) numbers = drop_more numbers i 0 (omega (arith, lt, same)) in
    ap (λ (xs : List Line). zip xs (drop i numbers)) a ∙ ap (λ (ns : List ℕ). zip (line ∷ drop (i + 1) lines) ns) b

rows_end : (lines : List Line) (numbers : List ℕ) (i : ℕ) → length lines ≤ i → zip (drop i lines) (drop i numbers) ≡ []
rows_end lines numbers i le = ap (λ (xs : List Line). zip xs (drop i numbers)) (drop_all i lines le)

-- what is left to be read, after the lines so far
abbrev pub PayloadsLeft : Content → List Line → List ℕ → ℕ → Option (List ℕ) → Option (List ℕ) → Type 0
PayloadsLeft c lines numbers i old now = When c (λ t. (whole : Bool) (new : Option (List ℕ)) → WhereTold (AreRead whole t (picked in_payload (zip (drop i lines) (drop i numbers)))) now new → WhereTold (AreRead whole t (picked in_payload (zip lines numbers))) old new)

module _ (lines : List Line) (numbers : List ℕ) (i : ℕ) (line : Line) (old now mid : Option (List ℕ)) (lt : i < length lines) (same : length numbers ≡ length lines) (is : line ≡ get_or lines i line) where
  row : Listed
  row = (line, get_or numbers i 0)

  rest : List Listed
  rest = zip (drop (i + 1) lines) (drop (i + 1) numbers)

  pub payload_step : (c : Content) → PayloadsLeft c lines numbers i old now → When c (λ t. WhereTold (AreRead true t (picked in_payload ((line, get_or numbers i 0) ∷ []))) now mid) → PayloadsLeft c lines numbers (i + 1) old mid
  unfolding row rest
  payload_step (Untold n) g k = tt
  payload_step (Told t) g k = λ whole new h. g whole new (subst (λ (l : List Listed). WhereTold (AreRead whole t (picked in_payload l)) now new) (sym (rows_at lines numbers i line lt same is)) (reads_more whole t row rest now mid new k h))

  pub payload_found : (c : Content) → PayloadsLeft c lines numbers i old now → When c (λ t. WhereTold (AreRead true t (picked in_payload ((line, get_or numbers i 0) ∷ []))) now mid) → When c (λ t. WhereTold (AreRead false t (picked in_payload (zip lines numbers))) old mid)
  unfolding row rest
  payload_found (Untold n) g k = tt
  payload_found (Told t) g k = g false mid (subst (λ (l : List Listed). WhereTold (AreRead false t (picked in_payload l)) now mid) (sym (rows_at lines numbers i line lt same is)) (reads_more false t row rest now mid mid k (none_read t (picked in_payload rest) mid)))

  pub payload_failed : (c : Content) → PayloadsLeft c lines numbers i old now → When c (λ t. WhereTold (AreRead false t (picked in_payload ((line, get_or numbers i 0) ∷ []))) now mid) → When c (λ t. WhereTold (AreRead false t (picked in_payload (zip lines numbers))) old mid)
  unfolding row rest
  payload_failed (Untold n) g k = tt
  payload_failed (Told t) g k = g false mid (subst (λ (l : List Listed). WhereTold (AreRead false t (picked in_payload l)) now mid) (sym (rows_at lines numbers i line lt same is)) (reads_part t row rest now mid k))

  pub rest_step : ((new : Option (List ℕ)) → WhereTold (NoneButThese (picked in_rest (zip (drop i lines) (drop i numbers)))) now new → WhereTold (NoneButThese (picked in_rest (zip lines numbers))) old new) → WhereTold (NoneButThese (picked in_rest ((line, get_or numbers i 0) ∷ []))) now mid
      → (new : Option (List ℕ)) → WhereTold (NoneButThese (picked in_rest (zip (drop (i + 1) lines) (drop (i + 1) numbers)))) mid new → WhereTold (NoneButThese (picked in_rest (zip lines numbers))) old new
  unfolding row rest
  rest_step g k new h = g new (subst (λ (l : List Listed). WhereTold (NoneButThese (picked in_rest l)) now new) (sym (rows_at lines numbers i line lt same is)) (none_more in_rest row rest now mid new k h))

  pub rest_found : ((new : Option (List ℕ)) → WhereTold (NoneButThese (picked in_rest (zip (drop i lines) (drop i numbers)))) now new → WhereTold (NoneButThese (picked in_rest (zip lines numbers))) old new) → WhereTold (NoneButThese (picked in_rest ((line, get_or numbers i 0) ∷ []))) now mid
      → WhereTold (NoneButThese (picked in_rest (zip lines numbers))) old mid
  unfolding row rest
  rest_found g k = rest_step g k mid (none_but (picked in_rest rest) mid)

pub payload_done : (c : Content) (lines : List Line) (numbers : List ℕ) (i : ℕ) (old now : Option (List ℕ)) → length lines ≤ i → PayloadsLeft c lines numbers i old now → When c (λ t. WhereTold (AreRead true t (picked in_payload (zip lines numbers))) old now)
payload_done (Untold n) lines numbers i old now le g = tt
payload_done (Told t) lines numbers i old now le g = g true now (subst (λ (l : List Listed). WhereTold (AreRead true t (picked in_payload l)) now now) (sym (rows_end lines numbers i le)) (told_alike (AreRead true t []) now (λ x. refl)))

-- a line beside the number of its file is among them
any_default : (ns : List ℕ) (i d : ℕ) → i < length ns → get_or ns i d ≡ get_or ns i 0
any_default [] i d lt = absurd (omega arith)
any_default (n ∷ ns) zero d lt = refl
any_default (n ∷ ns) (suc i) d lt = any_default ns i d (omega arith)

pub pair_among : (lines : List Line) (numbers : List ℕ) (i : ℕ) (line : Line) → i < length lines → length numbers ≡ length lines → line ≡ get_or lines i line → Contains (zip lines numbers) (line, get_or numbers i 0)
pair_among lines numbers i line lt same is =
    (i, omega (arith, length-zip lines numbers), get_or-zip lines numbers i (line, get_or numbers i 0) lt (omega arith) ∙ ap (λ (x : Line). (x, get_or numbers i (get_or numbers i 0))) (sym is) ∙ ap (λ (n : ℕ). (line, n)) (any_default numbers i (get_or numbers i 0) (omega arith)))

pub differs_among : (c : Content) (lines : List Line) (numbers : List ℕ) (i : ℕ) (line : Line) (d : Differs) → i < length lines → length numbers ≡ length lines → line ≡ get_or lines i line → (in_payload line.path ≡ true) × IsDiffering c (line, get_or numbers i 0) d → IsDifferingIn in_payload c (zip lines numbers) d
differs_among c lines numbers i line d lt same is h = let p = pair_among lines numbers i line lt same is in (p.0, (line, get_or numbers i 0), p.1, p.2, h)

-- ---- every payload's file, and no other

abbrev AreThere : Tree → List Line → List ℕ → Type 0
AreThere t lines numbers = AllZip (λ line n. path_at t n ≡ Some line.path) lines numbers

others : (t : Tree) (picks : List ℕ → Bool) (line : Line) (n : ℕ) (lines : List Line) (numbers : List ℕ) → All (λ (b : Line). line.path ≢ b.path) lines → path_at t n ≡ Some line.path → AreThere t lines numbers → All (λ m. n ≢ m) (picked picks (zip lines numbers))
others t picks line n [] numbers d p z = All-nil (λ m. n ≢ m)
others t picks line n (l ∷ lines) [] d p z = absurd z
others t picks line n (l ∷ lines) (m ∷ numbers) d p z =
    let more = others t picks line n lines numbers (All-tail (λ (b : Line). line.path ≢ b.path) l lines d) p z.1 in
    let here : n ≢ m = λ same. (All-head (λ (b : Line). line.path ≢ b.path) l lines d) (some_same (sym p ∙ ap (path_at t) same ∙ z.0)) in
    elim (picks l.path) as (λ b. All (λ m. n ≢ m) (cons_option (cond b (Some m) None) (picked picks (zip lines numbers)))) [ true ↦ All-cons (λ m. n ≢ m) m (picked picks (zip lines numbers)) here more | false ↦ more ]
  where
    some_same : {x y : List ℕ} → Some x ≡ Some y → x ≡ y
    some_same h = cc

pairs_head : (line : Line) (lines : List Line) → AllPairs (λ a b. a.path ≢ b.path) (line ∷ lines) → All (λ (b : Line). line.path ≢ b.path) lines
pairs_head line lines h = λ k d lt. h 0 (suc k) d (omega arith) (omega (arith, lt))

pairs_tail : (line : Line) (lines : List Line) → AllPairs (λ a b. a.path ≢ b.path) (line ∷ lines) → AllPairs (λ a b. a.path ≢ b.path) lines
pairs_tail line lines h = λ i j d lt within. h (suc i) (suc j) d (omega (arith, lt)) (omega (arith, within))

apart : (t : Tree) (picks : List ℕ → Bool) (lines : List Line) (numbers : List ℕ) → AllPairs (λ a b. a.path ≢ b.path) lines → AreThere t lines numbers → Apart (picked picks (zip lines numbers))
apart t picks [] numbers d z = tt
apart t picks (line ∷ lines) [] d z = absurd z
apart t picks (line ∷ lines) (n ∷ numbers) d z =
    let more = apart t picks lines numbers (pairs_tail line lines d) z.1 in
    let here = others t picks line n lines numbers (pairs_head line lines d) z.0 z.1 in
    elim (picks line.path) as (λ b. Apart (cons_option (cond b (Some n) None) (picked picks (zip lines numbers)))) [ true ↦ (here, more) | false ↦ more ]

place_there : (t : Tree) (line : Line) (n : ℕ) → path_at t n ≡ Some line.path → is_payload_file t n ≡ in_payload line.path
place_there t line n p = ap (λ o. is_payload (place_at o)) p

among : (t : Tree) (i : ℕ) (lines : List Line) (numbers : List ℕ) → AreThere t lines numbers → Contains numbers i → is_payload_file t i ≡ true → Contains (picked in_payload (zip lines numbers)) i
among t i [] [] z (k, lt, e) h = absurd (omega (arith, lt))
among t i [] (n ∷ numbers) z c h = absurd z
among t i (line ∷ lines) [] z c h = absurd z
among t i (line ∷ lines) (n ∷ numbers) z (zero, lt, e) h =
    let same : n ≡ i = e in
    let yes : in_payload line.path ≡ true = sym (place_there t line n z.0) ∙ ap (is_payload_file t) same ∙ h in
    subst (λ (b : Bool). Contains (cons_option (cond b (Some n) None) (picked in_payload (zip lines numbers))) i) (sym yes) (0, omega arith, same)
among t i (line ∷ lines) (n ∷ numbers) z (suc k, lt, e) h =
    let c = among t i lines numbers z.1 (k, omega (arith, lt), e) h in
    elim (in_payload line.path) as (λ b. Contains (cons_option (cond b (Some n) None) (picked in_payload (zip lines numbers))) i) [ true ↦ (suc c.0, omega (arith, c.1), c.2) | false ↦ c ]

none_among : (t : Tree) (i : ℕ) (lines : List Line) (numbers : List ℕ) → AreThere t lines numbers → is_payload_file t i ≡ false → All (λ n. i ≢ n) (picked in_payload (zip lines numbers))
none_among t i [] numbers z h = All-nil (λ n. i ≢ n)
none_among t i (line ∷ lines) [] z h = absurd z
none_among t i (line ∷ lines) (n ∷ numbers) z h =
    let more = none_among t i lines numbers z.1 h in
    elim (in_payload line.path) as (λ b. b ≡ in_payload line.path → All (λ n. i ≢ n) (cons_option (cond b (Some n) None) (picked in_payload (zip lines numbers)))) [
      | true ↦ (λ e. All-cons (λ n. i ≢ n) n (picked in_payload (zip lines numbers)) (λ same. differ (e ∙ sym (place_there t line n z.0) ∙ ap (is_payload_file t) (sym same) ∙ h)) more)
      | false ↦ (λ e. more)
    ] refl
  where
    differ : true ≡ false → ⊥
    differ e = cc

every_payload : (t : Tree) (plan : Admitted) (i : ℕ) → ((n : ℕ) → n < length t → (path_at t n ≡ Some (codes "manifest")) ⊎ (path_at t n ≡ Some (codes "manifest.sig")) ⊎ Contains plan.numbers n) → is_payload_file t i ≡ true → Contains plan.numbers i
unfolding place_of
every_payload t plan i every h = elim (cases_lt i (length t)) [
  | inl lt ↦ elim (every i lt) [
    | inl e ↦ (absurd (other (sym (ap (λ o. is_payload (place_at o)) e) ∙ h)))
    | inr (inl e) ↦ (absurd (other (sym (ap (λ o. is_payload (place_at o)) e) ∙ h)))
    | inr (inr c) ↦ c
  ]
  | inr ge ↦ (absurd (other (sym (ap (λ o. is_payload (place_at (option_and_then (λ (f : File). f.0) o))) (slice_get_past t i ge)) ∙ h)))
]
  where
    other : false ≡ true → ⊥
    other e = cc

module _ (t : Tree) (plan : Admitted) (of : IsOf (Told t) plan) where
  pub payloads_read : (whole : Bool) (old new : Option (List ℕ)) → WhereTold (AreRead whole t (picked in_payload (listed_of plan))) old new → ReadsPayloads whole t old new
  payloads_read whole None None h = tt
  payloads_read whole None (Some b) h = absurd h
  payloads_read whole (Some a) None h = absurd h
  payloads_read whole (Some a) (Some b) h = λ i payload. is_read whole t (picked in_payload (listed_of plan)) i a b (apart t in_payload plan.manifest plan.numbers of.distinct of.places) (among t i plan.manifest plan.numbers of.places (every_payload t plan i of.every payload) payload) h

  pub rest_spared : (whole : Bool) (old new : Option (List ℕ)) → WhereTold (AreRead whole t (picked in_payload (listed_of plan))) old new → SparesTheRest t old new
  rest_spared whole None None h = tt
  rest_spared whole None (Some b) h = absurd h
  rest_spared whole (Some a) None h = absurd h
  rest_spared whole (Some a) (Some b) h = λ i other. not_read whole t (picked in_payload (listed_of plan)) i a b (none_among t i plan.manifest plan.numbers of.places other) h

pub all_payloads_read : (c : Content) (plan : Admitted) → IsOf c plan → (whole : Bool) (lines : List Line) (numbers : List ℕ) → lines ≡ plan.manifest → numbers ≡ plan.numbers → (old new : Option (List ℕ)) → When c (λ t. WhereTold (AreRead whole t (picked in_payload (zip lines numbers))) old new) → When c (λ t. ReadsPayloads whole t old new)
all_payloads_read (Untold n) plan of whole lines numbers el en old new h = tt
all_payloads_read (Told t) plan of whole lines numbers el en old new h = payloads_read t plan of whole old new (rw (el, en) at h)

pub all_rest_spared : (c : Content) (plan : Admitted) → IsOf c plan → (whole : Bool) (lines : List Line) (numbers : List ℕ) → lines ≡ plan.manifest → numbers ≡ plan.numbers → (old new : Option (List ℕ)) → When c (λ t. WhereTold (AreRead whole t (picked in_payload (zip lines numbers))) old new) → When c (λ t. SparesTheRest t old new)
all_rest_spared (Untold n) plan of whole lines numbers el en old new h = tt
all_rest_spared (Told t) plan of whole lines numbers el en old new h = rest_spared t plan of whole old new (rw (el, en) at h)

pub rest_done : (lines : List Line) (numbers : List ℕ) (i : ℕ) (old now : Option (List ℕ)) → length lines ≤ i → ((new : Option (List ℕ)) → WhereTold (NoneButThese (picked in_rest (zip (drop i lines) (drop i numbers)))) now new → WhereTold (NoneButThese (picked in_rest (zip lines numbers))) old new) → WhereTold (NoneButThese (picked in_rest (zip lines numbers))) old now
rest_done lines numbers i old now le g = g now (none_but (picked in_rest (zip (drop i lines) (drop i numbers))) now)

-- the first line that differs is behind one that doesn't
pub value_step : (picks : List ℕ → Bool) (c : Content) (lines : List Line) (numbers : List ℕ) (i : ℕ) (line : Line) → i < length lines → length numbers ≡ length lines → line ≡ get_or lines i line → When c (λ t. None ≡ differing_in picks t (line, get_or numbers i 0))
    → When c (λ t. first_differing picks t (zip (drop i lines) (drop i numbers)) ≡ first_differing picks t (zip lines numbers)) → When c (λ t. first_differing picks t (zip (drop (i + 1) lines) (drop (i + 1) numbers)) ≡ first_differing picks t (zip lines numbers))
value_step picks (Untold n) lines numbers i line lt same is none so = tt
value_step picks (Told t) lines numbers i line lt same is none so =
    let rest = zip (drop (i + 1) lines) (drop (i + 1) numbers) in
    ap (λ (o : Option Differs). slice_get (cons_option o (filter_map (differing_in picks t) rest)) 0) none ∙ ap (λ (l : List Listed). first_differing picks t l) (sym (rows_at lines numbers i line lt same is)) ∙ so
