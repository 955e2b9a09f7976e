-- What reading tells of a course: its whole words and its parts.
use Rattle.std.proofs.Common.{◌≡◌, ℕ, ◌+◌, Bool, true, false, List, [], ◌∷◌, ◌++◌, length, drop, refl, sym, ap, ◌∙◌, subst, arith}
use Rattle.std.specs.Prelude.{Option, Some, None, Ok, Err, cond}
use Rattle.std.specs.List.{slice_get}
use Rattle.std.proofs.Common.{inl, inr, get_or}
use Rattle.std.proofs.lemmas.Bool.Decides.{leb_tells}
use Rattle.std.proofs.lemmas.List.{drop_more, at_drop_all}
use Rattle.std.proofs.lemmas.Option.{slice_get_within, get_or_from_slice_get, slice_get-get_or}
use Rattle.device_model.specs.declared.calls.Answer.{Answer}
use Rattle.device_model.specs.declared.calls.Event.{Event}
use Rattle.device_model.specs.declared.calls.Event.TheVariants.{Start, End, Pause, Loss}
use Rattle.flow_words.specs.Course.{Course, done, say, hear, Whole, Part}
use Rattle.trace_check.specs.declared.read.Stop.TheVariants.{Cut, Wrong}
use Rattle.trace_check.specs.Reading.{Read, read, said, heard_at, same_event}
use Rattle.trace_check.proofs.Same.{event-is, event-self}

drop-some : (all : List Event) (at : ℕ) (e : Event) → slice_get all at ≡ Some e → drop at all ≡ e ∷ drop (at + 1) all
drop-some all at e is = drop_more all at e (slice_get_within all at e is) ∙ ap (λ x. x ∷ drop (at + 1) all) (get_or_from_slice_get all at e e is)

none-empty : (all : List Event) (at : ℕ) → slice_get all at ≡ None → drop at all ≡ []
none-empty all at is = at_drop_all (λ (l : List Event). l) all at (elim (leb_tells (length all) at) [
  | inl h ↦ h.1
  | inr h ↦ absurd (let some : slice_get all at ≡ Some (get_or all at Loss) = slice_get-get_or all at Loss h.1 in cc)
])

-- no front of these events is a whole word
abbrev pub NoWhole : {A : Type 0} → Course A → List Event → Type 0
NoWhole {A} t events = (w v : List Event) (r : A) → events ≡ w ++ v → Whole t w r → ⊥

-- what the answer means
pub data Means {A : Type 0} (all : List Event) (t : Course A) (at : ℕ) : Read A → Type 0 where
  came : (r : A) (i : ℕ) (piece : List Event) → drop at all ≡ piece ++ drop i all → i ≡ at + length piece → Whole t piece r → Means all t at (Ok (r, i))
  cut : Part t (drop at all) → NoWhole t (drop at all) → Means all t at (Err Cut)
  wrong : (i : ℕ) (piece : List Event) (e : Event) (more : List Event) → drop at all ≡ piece ++ e ∷ more → i ≡ at + length piece → Part t piece → ((v : List Event) → Part t (piece ++ e ∷ v) → ⊥) → NoWhole t (drop at all) → Means all t at (Err (Wrong i))

module _ {A : Type 0} (all : List Event) (at : ℕ) where
  no-front : (t : Course A) (d : Event) (f : Event) (rest : List Event) → drop at all ≡ f ∷ rest → NoWhole t rest → NoWhole (say d t) (drop at all)
  no-front t d f rest is none [] v r eq h = absurd h
  no-front t d f rest is none (e ∷ w) v r eq h = let tails : rest ≡ w ++ v = cc in none w v r tails h.1

  said-more : (t : Course A) (d e : Event) (x : Read A) → d ≡ e → drop at all ≡ e ∷ drop (at + 1) all → Means all t (at + 1) x → Means all (say d t) at x
  said-more t d e x same is (came r i piece split count whole) = came r i (e ∷ piece) (is ∙ ap (λ l. e ∷ l) split) (omega (arith, count)) (same, whole)
  said-more t d e x same is (cut part none) = cut (subst (λ l. Part (say d t) l) (sym is) (same, part)) (no-front t d e (drop (at + 1) all) is none)
  said-more t d e x same is (wrong i piece f more split count part no_part none) =
      wrong i (e ∷ piece) f more (is ∙ ap (λ l. e ∷ l) split) (omega (arith, count)) (same, part) (λ v h. no_part v h.1) (no-front t d e (drop (at + 1) all) is none)

  said-means : (t : Course A) (d e : Event) (b : Bool) (x : Read A) → same_event d e ≡ b → drop at all ≡ e ∷ drop (at + 1) all → Means all t (at + 1) x → Means all (say d t) at (cond b x (Err (Wrong at)))
  said-means t d e true x same is rest = said-more t d e x (event-is d e same) is rest
  said-means t d e false x same is rest = wrong at [] e (drop (at + 1) all) is (omega arith) tt (λ v h. differ h.0) none where
    differ : (d ≡ e) → ⊥
    differ q = let s : same_event d e ≡ true = subst (λ y. same_event d y ≡ true) q (event-self d) in absurd cc

    none : NoWhole (say d t) (drop at all)
    none [] v r eq h = absurd h
    none (f ∷ w) v r eq h = let heads : e ≡ f = cc in differ (h.0 ∙ sym heads)

  hear-front : (f : Answer → Course A) (a : Answer) (rest : List Event) → drop at all ≡ End a ∷ rest → NoWhole (f a) rest → NoWhole (hear f) (drop at all)
  hear-front f a rest is none [] v r eq h = absurd h
  hear-front f a rest is none (End b ∷ w) v r eq h =
      let heads : a ≡ b = cc in
      let tails : rest ≡ w ++ v = cc in
      none w v r tails (subst (λ y. Whole (f y) w r) (sym heads) h)
  hear-front f a rest is none (Start c ∷ w) v r eq h = absurd h
  hear-front f a rest is none (Pause n ∷ w) v r eq h = absurd h
  hear-front f a rest is none (Loss ∷ w) v r eq h = absurd h

  heard-more : (f : Answer → Course A) (a : Answer) (x : Read A) → drop at all ≡ End a ∷ drop (at + 1) all → Means all (f a) (at + 1) x → Means all (hear f) at x
  heard-more f a x is (came r i piece split count whole) = came r i (End a ∷ piece) (is ∙ ap (λ l. End a ∷ l) split) (omega (arith, count)) whole
  heard-more f a x is (cut part none) = cut (subst (λ l. Part (hear f) l) (sym is) part) (hear-front f a (drop (at + 1) all) is none)
  heard-more f a x is (wrong i piece e more split count part no_part none) =
      wrong i (End a ∷ piece) e more (is ∙ ap (λ l. End a ∷ l) split) (omega (arith, count)) part no_part (hear-front f a (drop (at + 1) all) is none)

  heard-wrong : (f : Answer → Course A) (e : Event) → ((a : Answer) → e ≡ End a → ⊥) → drop at all ≡ e ∷ drop (at + 1) all → Means all (hear f) at (Err (Wrong at))
  heard-wrong f e differ is = wrong at [] e (drop (at + 1) all) is (omega arith) tt (no_part e differ) none where
    no_part : (x : Event) → ((a : Answer) → x ≡ End a → ⊥) → (v : List Event) → Part (hear f) (x ∷ v) → ⊥
    no_part (End a) n v h = n a refl
    no_part (Start c) n v h = h
    no_part (Pause n) m v h = h
    no_part Loss n v h = h

    none : NoWhole (hear f) (drop at all)
    none [] v r eq h = absurd h
    none (End b ∷ w) v r eq h = let heads : e ≡ End b = cc in differ b heads
    none (Start c ∷ w) v r eq h = absurd h
    none (Pause n ∷ w) v r eq h = absurd h
    none (Loss ∷ w) v r eq h = absurd h

  heard-means : (f : Answer → Course A) (o : Option Event) (x : Answer → Read A) → slice_get all at ≡ o → ((a : Answer) → Means all (f a) (at + 1) (x a)) → Means all (hear f) at (heard_at at o x)
  heard-means f None x is rest = let ended = none-empty all at is in cut (subst (λ l. Part (hear f) l) (sym ended) tt) (nothing-whole ended) where
    nothing-whole : drop at all ≡ [] → NoWhole (hear f) (drop at all)
    nothing-whole ended [] v r eq h = absurd h
    nothing-whole ended (e ∷ w) v r eq h = cc
  heard-means f (Some (End a)) x is rest = heard-more f a (x a) (drop-some all at (End a) is) (rest a)
  heard-means f (Some (Start c)) x is rest = heard-wrong f (Start c) (λ a q. cc) (drop-some all at (Start c) is)
  heard-means f (Some (Pause n)) x is rest = heard-wrong f (Pause n) (λ a q. cc) (drop-some all at (Pause n) is)
  heard-means f (Some Loss) x is rest = heard-wrong f Loss (λ a q. cc) (drop-some all at Loss is)

  saying-means : (t : Course A) (d : Event) (o : Option Event) (x : Read A) → slice_get all at ≡ o → Means all t (at + 1) x → Means all (say d t) at (said d at o x)
  saying-means t d None x is rest = let ended = none-empty all at is in cut (subst (λ l. Part (say d t) l) (sym ended) tt) (nothing-whole ended) where
    nothing-whole : drop at all ≡ [] → NoWhole (say d t) (drop at all)
    nothing-whole ended [] v r eq h = absurd h
    nothing-whole ended (e ∷ w) v r eq h = cc
  saying-means t d (Some e) x is rest = said-means t d e (same_event d e) x refl (drop-some all at e is) rest

-- reading means what its answer says
pub read-means : {A : Type 0} (all : List Event) (t : Course A) (at : ℕ) → Means all t at (read all t at)
read-means all (done r) at = came r at [] refl (omega arith) refl
read-means all (say d t) at = saying-means all at t d (slice_get all at) (read all t (at + 1)) refl (read-means all t (at + 1))
read-means all (hear f) at = heard-means all at f (slice_get all at) (λ a. read all (f a) (at + 1)) refl (λ a. read-means all (f a) (at + 1))

-- ---- by the answer

pub record Came {A : Type 0} (all : List Event) (t : Course A) (at : ℕ) (r : A) (i : ℕ) : Type 0 where
  pub piece : List Event
  pub split : drop at all ≡ piece ++ drop i all
  pub count : i ≡ at + length piece
  pub whole : Whole t piece r

pub record WasCut {A : Type 0} (all : List Event) (t : Course A) (at : ℕ) : Type 0 where
  pub part : Part t (drop at all)
  pub none : NoWhole t (drop at all)

pub record WasWrong {A : Type 0} (all : List Event) (t : Course A) (at i : ℕ) : Type 0 where
  pub piece : List Event
  pub event : Event
  pub more : List Event
  pub split : drop at all ≡ piece ++ event ∷ more
  pub count : i ≡ at + length piece
  pub part : Part t piece
  pub no_part : (v : List Event) → Part t (piece ++ event ∷ v) → ⊥
  pub none : NoWhole t (drop at all)

module _ {A : Type 0} (all : List Event) (t : Course A) (at : ℕ) where
  came-by : (x : Read A) (r : A) (i : ℕ) → x ≡ Ok (r, i) → Means all t at x → Came all t at r i
  came-by x r i is (came s j piece split count whole) =
      let q : ◌≡◌ {A = A × ℕ} (s, j) (r, i) = cc in
      let a : s ≡ r = ap (λ (y : A × ℕ). y.0) q in
      let b : j ≡ i = ap (λ (y : A × ℕ). y.1) q in
      record { piece = piece; split = subst (λ (n : ℕ). drop at all ≡ piece ++ drop n all) b split; count = sym b ∙ count; whole = subst (λ (y : A). Whole t piece y) a whole }
  came-by x r i is (cut part none) = absurd cc
  came-by x r i is (wrong j piece e more split count part no_part none) = absurd cc

  pub read-came : (r : A) (i : ℕ) → read all t at ≡ Ok (r, i) → Came all t at r i
  read-came r i is = came-by (read all t at) r i is (read-means all t at)

  cut-of : (x : Read A) → x ≡ Err Cut → Means all t at x → WasCut all t at
  cut-of x is (came s j piece split count whole) = absurd cc
  cut-of x is (cut part none) = record { part = part; none = none }
  cut-of x is (wrong j piece e more split count part no_part none) = absurd cc

  pub read-cut : read all t at ≡ Err Cut → WasCut all t at
  read-cut is = cut-of (read all t at) is (read-means all t at)

  wrong-by : (x : Read A) (i : ℕ) → x ≡ Err (Wrong i) → Means all t at x → WasWrong all t at i
  wrong-by x i is (came s j piece split count whole) = absurd cc
  wrong-by x i is (cut part none) = absurd cc
  wrong-by x i is (wrong j piece e more split count part no_part none) =
      let b : j ≡ i = cc in
      record { piece = piece; event = e; more = more; split = split; count = sym b ∙ count; part = part; no_part = no_part; none = none }

  pub read-wrong : (i : ℕ) → read all t at ≡ Err (Wrong i) → WasWrong all t at i
  read-wrong i is = wrong-by (read all t at) i is (read-means all t at)
