-- What a note may tell of.
use Rattle.std.proofs.Common.{◌≡◌, ◌≢◌, ℕ, ◌+◌, ◌≤◌, ◌<◌, Bool, true, false, IsTrue, ◌⊎◌, inl, inr, List, [], ◌∷◌, ◌++◌, length, take, drop, cond, refl, sym, ap, ◌∙◌, subst, arith, append-nil, length-append}
use Rattle.std.specs.Prelude.{Option, Some, None}
use Rattle.std.proofs.lemmas.List.{take-append-le, length-take-le, take-append-drop}
use Rattle.std.proofs.lemmas.Bool.Decides.{Decides-eqb}
use Rattle.device_model.specs.declared.calls.Event.{Event}
use Rattle.flow_table.specs.declared.position.Position.{Position}
use Rattle.flow_table.specs.declared.table.Opening.{Opening}
use Rattle.flow_table.specs.declared.table.Opening.TheVariants as opening
use Rattle.flow_words.specs.Pieces.{End, Pieces, goes_on, reboots, ends, waits, halts}
use Rattle.flow_words.specs.Pieces as end
use Rattle.flow_words.specs.Decided.{IsThrough}
use Rattle.flow_words.proofs.PieceLaws.{pieces-front}
use Rattle.trace_check.specs.declared.note.Note.{Note}
use Rattle.trace_check.specs.declared.note.NoteEnd.{NoteEnd}
use Rattle.trace_check.specs.declared.note.NoteEnd.TheVariants.{Nothing, Ended, Waits, RebootNeeded, Halted}
use Rattle.trace_check.specs.declared.note.NoteHead.{NoteHead}
use Rattle.trace_check.specs.declared.way.Way.{Way}
use Rattle.trace_check.specs.Follows.{Goes, Did, nothing, stays, runs, breaks_off, opening_of, noted, is_loss, without_loss, powered, Follows}
use Rattle.trace_check.specs.Verdicts.{MayBegin, BreaksAt, Fault}
use Rattle.trace_check.specs.Way.{IsWay, Ran, RanTo, same_position, is_stay, can_stand, stands_still, same_end, ends_as, ends_at, outcome_code}
use Rattle.trace_check.proofs.Same.{position-is, is-position, outcome-one, both-parts, and-made}

-- ---- a loss at the end

pub loss-last : (front : List Event) (e : Event) → is_loss e ≡ true → without_loss (front ++ e ∷ []) ≡ front
loss-last [] e is = ap (λ (b : Bool). cond b [] (e ∷ [])) is
loss-last (f ∷ []) e is = ap (λ (l : List Event). f ∷ l) (loss-last [] e is)
loss-last (f ∷ g ∷ front) e is = ap (λ (l : List Event). f ∷ l) (loss-last (g ∷ front) e is)

pub kept-last : (front : List Event) (e : Event) → is_loss e ≡ false → without_loss (front ++ e ∷ []) ≡ front ++ e ∷ []
kept-last [] e is = ap (λ (b : Bool). cond b [] (e ∷ [])) is
kept-last (f ∷ []) e is = ap (λ (l : List Event). f ∷ l) (kept-last [] e is)
kept-last (f ∷ g ∷ front) e is = ap (λ (l : List Event). f ∷ l) (kept-last (g ∷ front) e is)

unless-front : (b : Bool) (e : Event) → (u : List Event) × (e ∷ [] ≡ cond b [] (e ∷ []) ++ u)
unless-front true e = (e ∷ [], refl)
unless-front false e = ([], refl)

-- what is left out at the end
loss-front : (events : List Event) → (u : List Event) × (events ≡ without_loss events ++ u)
loss-front [] = ([], refl)
loss-front (e ∷ []) = unless-front (is_loss e) e
loss-front (e ∷ f ∷ events) = let r = loss-front (f ∷ events) in (r.0, ap (λ (l : List Event). e ∷ l) r.1)

pub powered-front : (e : NoteEnd) (events : List Event) → (u : List Event) × (events ≡ powered e events ++ u) × (e ≢ Halted → u ≡ [])
powered-front Halted events = let r = loss-front events in (r.0, r.1, λ n. absurd (n refl))
powered-front Nothing events = ([], sym (append-nil events), λ n. refl)
powered-front (Ended o) events = ([], sym (append-nil events), λ n. refl)
powered-front Waits events = ([], sym (append-nil events), λ n. refl)
powered-front RebootNeeded events = ([], sym (append-nil events), λ n. refl)

-- ---- ends

pub end-is : (a b : NoteEnd) → same_end a b ≡ true → a ≡ b
end-is Nothing Nothing is = refl
end-is (Ended o) (Ended q) is = ap Ended (outcome-one o q is)
end-is Waits Waits is = refl
end-is RebootNeeded RebootNeeded is = refl
end-is Halted Halted is = refl
end-is Nothing (Ended q) is = absurd cc
end-is Nothing Waits is = absurd cc
end-is Nothing RebootNeeded is = absurd cc
end-is Nothing Halted is = absurd cc
end-is (Ended o) Nothing is = absurd cc
end-is (Ended o) Waits is = absurd cc
end-is (Ended o) RebootNeeded is = absurd cc
end-is (Ended o) Halted is = absurd cc
end-is Waits Nothing is = absurd cc
end-is Waits (Ended q) is = absurd cc
end-is Waits RebootNeeded is = absurd cc
end-is Waits Halted is = absurd cc
end-is RebootNeeded Nothing is = absurd cc
end-is RebootNeeded (Ended q) is = absurd cc
end-is RebootNeeded Waits is = absurd cc
end-is RebootNeeded Halted is = absurd cc
end-is Halted Nothing is = absurd cc
end-is Halted (Ended q) is = absurd cc
end-is Halted Waits is = absurd cc
end-is Halted RebootNeeded is = absurd cc

pub end-self : (a : NoteEnd) → same_end a a ≡ true
end-self Nothing = refl
end-self (Ended o) = (Decides-eqb (outcome_code o) (outcome_code o)).1 refl
end-self Waits = refl
end-self RebootNeeded = refl
end-self Halted = refl

halted-only : (k : End) → noted k ≡ Halted → k ≡ end.Halted
halted-only (end.Ended o) is = absurd cc
halted-only end.Waits is = absurd cc
halted-only end.RebootNeeded is = absurd cc
halted-only end.Halted is = refl

through-noted : (k : End) (e : NoteEnd) → noted k ≡ e → e ≢ Halted → IsThrough k
through-noted (end.Ended o) e is n = tt
through-noted end.Waits e is n = tt
through-noted end.RebootNeeded e is n = tt
through-noted end.Halted e is n = n (sym is)

-- ---- what a boot did

module _ (head : NoteHead) where
  stay-is : (o : Opening) → is_stay o ≡ true → o ≡ opening.Stay
  stay-is opening.Stay is = refl
  stay-is (opening.Enter p) is = absurd cc
  stay-is opening.NoUpdate is = absurd cc
  stay-is (opening.MustResume s) is = absurd cc
  stay-is (opening.NoRollback s) is = absurd cc

  standing : (e : NoteEnd) → can_stand head e ≡ true → Did head [] e head.from
  standing Nothing is = nothing
  standing Halted is = breaks_off
  standing Waits is = stays (stay-is (opening_of head) is)
  standing (Ended o) is = absurd cc
  standing RebootNeeded is = absurd cc

  pub still-did : (events : List Event) (e : NoteEnd) → stands_still head events e ≡ true → Did head events e head.from
  still-did [] e is = standing e is
  still-did (x ∷ events) e is = absurd cc

  -- it put no position, or ran
  pub did-cases : (events : List Event) (e : NoteEnd) (p : Position) → Did head events e p → ((stands_still head events e ≡ true) × (p ≡ head.from)) ⊎ ((first : Position) × (opening_of head ≡ opening.Enter first) × Ran head first events e p)
  did-cases events e p nothing = inl (refl, refl)
  did-cases events e p (stays is) = inl (ap is_stay is, refl)
  did-cases events e p (runs {e = k} first is goes) = inr (first, is, record { end = k; is = refl; goes = goes })
  did-cases events e p breaks_off = inl (refl, refl)

  pub ran-did : (first : Position) (events : List Event) (e : NoteEnd) (p : Position) → opening_of head ≡ opening.Enter first → Ran head first events e p → Did head events e p
  ran-did first events e p is r = subst (λ (x : NoteEnd). Did head events x p) r.is (runs first is r.goes)

  first-one : (a b : Position) → opening_of head ≡ opening.Enter a → opening_of head ≡ opening.Enter b → a ≡ b
  first-one a b x y = let q : opening.Enter a ≡ opening.Enter b = sym x ∙ y in cc

  -- where it enters a state, it ran or stood
  pub did-from : (first : Position) (events : List Event) (e : NoteEnd) (p : Position) → opening_of head ≡ opening.Enter first → Did head events e p → ((stands_still head events e ≡ true) × (p ≡ head.from)) ⊎ Ran head first events e p
  did-from first events e p is did = by (did-cases events e p did) where
    by : ((stands_still head events e ≡ true) × (p ≡ head.from)) ⊎ ((f : Position) × (opening_of head ≡ opening.Enter f) × Ran head f events e p) → ((stands_still head events e ≡ true) × (p ≡ head.from)) ⊎ Ran head first events e p
    by (inl h) = inl h
    by (inr (f, there, r)) = inr (subst (λ (x : Position). Ran head x events e p) (first-one f first there is) r)

  -- ---- what may begin

  pub may-nothing : MayBegin head []
  may-nothing = record { more = []; end = Halted; last = head.from; did = breaks_off }

  pub may-run : (first last : Position) (w : List Event) → opening_of head ≡ opening.Enter first → Goes head first w end.Halted last → MayBegin head w
  may-run first last w is g = record { more = []; end = Halted; last = last; did = subst (λ (l : List Event). Did head l Halted last) (sym (append-nil w)) (runs first is g) }

  still-empty : (w more : List Event) (e : NoteEnd) → stands_still head (w ++ more) e ≡ true → 1 ≤ length w → ⊥
  still-empty [] more e is some = absurd (omega (arith, some))
  still-empty (x ∷ w) more e is some = cc

  pub may-goes : (first : Position) (w : List Event) → opening_of head ≡ opening.Enter first → 1 ≤ length w → MayBegin head w → (last : Position) × Goes head first w end.Halted last
  may-goes first w is some m = by (did-from first (w ++ m.more) m.end m.last is m.did) where
    by : ((stands_still head (w ++ m.more) m.end ≡ true) × (m.last ≡ head.from)) ⊎ Ran head first (w ++ m.more) m.end m.last → (last : Position) × Goes head first w end.Halted last
    by (inl h) = absurd (still-empty w m.more m.end h.0 some)
    by (inr r) = pieces-front w m.more refl r.goes

  pub may-enter : (w : List Event) → 1 ≤ length w → MayBegin head w → (first : Position) × (opening_of head ≡ opening.Enter first)
  may-enter w some m = by (did-cases (w ++ m.more) m.end m.last m.did) where
    by : ((stands_still head (w ++ m.more) m.end ≡ true) × (m.last ≡ head.from)) ⊎ ((f : Position) × (opening_of head ≡ opening.Enter f) × Ran head f (w ++ m.more) m.end m.last) → (first : Position) × (opening_of head ≡ opening.Enter first)
    by (inl h) = absurd (still-empty w m.more m.end h.0 some)
    by (inr (f, there, r)) = (f, there)

-- ---- what a walk tells of a note

module _ (head : NoteHead) (first : Position) (events : List Event) (p : Position) (way : Way) (is : IsWay head first events p way) where
  pub ran-halted : Ran head first events Halted p → IsTrue way.meets
  ran-halted r = is.is_met (subst (λ (k : End). Goes head first events k p) (halted-only r.end r.is) r.goes)

  pub halted-ran : IsTrue way.meets → Ran head first events Halted p
  halted-ran h = record { end = end.Halted; is = refl; goes = is.meets h }

  pub ran-through : (e : NoteEnd) (last : Position) → e ≢ Halted → Ran head first events e last → way.through ≡ Some (e, last)
  ran-through e last n r = is.through e last (record { end = r.end; is = r.is; through = through-noted r.end e r.is n; goes = r.goes })

  pub through-ran : (e : NoteEnd) (last : Position) → way.through ≡ Some (e, last) → Ran head first events e last
  through-ran e last h = let t = is.is_through e last h in record { end = t.end; is = t.is; goes = t.goes }

  ends-by : (o : Option (NoteEnd × Position)) (e : NoteEnd) (q : Position) → ends_at o e q ≡ true → o ≡ Some (e, q)
  ends-by None e q h = absurd cc
  ends-by (Some x) e q h =
      let parts = both-parts (same_end x.0 e) (same_position x.1 q) h in
      ap (λ (y : NoteEnd). Some (y, x.1)) (end-is x.0 e parts.0) ∙ ap (λ (y : Position). Some (e, y)) (position-is x.1 q parts.1)

  pub ends-ran : (e : NoteEnd) → ends_at way.through e p ≡ true → Ran head first events e p
  ends-ran e h = through-ran e p (ends-by way.through e p h)

  pub ran-ends : (e : NoteEnd) → e ≢ Halted → Ran head first events e p → ends_at way.through e p ≡ true
  ran-ends e n r =
      let t = ran-through e p n r in
      subst (λ (o : Option (NoteEnd × Position)). ends_at o e p ≡ true) (sym t) (and-made (same_end e e) (same_position p p) (end-self e) (is-position p p refl))

  as-by : (o : Option (NoteEnd × Position)) (e : NoteEnd) → ends_as o e ≡ true → (q : Position) × (o ≡ Some (e, q))
  as-by None e h = absurd cc
  as-by (Some x) e h = (x.1, ap (λ (y : NoteEnd). Some (y, x.1)) (end-is x.0 e h))

  pub as-ran : (e : NoteEnd) → ends_as way.through e ≡ true → (q : Position) × Ran head first events e q
  as-ran e h = let q = as-by way.through e h in (q.0, through-ran e q.0 q.1)

  pub ran-as : (e : NoteEnd) (q : Position) → e ≢ Halted → Ran head first events e q → ends_as way.through e ≡ true
  ran-as e q n r = let t = ran-through e q n r in subst (λ (o : Option (NoteEnd × Position)). ends_as o e ≡ true) (sym t) (end-self e)

-- ---- a boot by its events

module _ (head : NoteHead) (events : List Event) (e : NoteEnd) (p : Position) where
  pub did-stood : stands_still head events e ≡ true → same_position p head.from ≡ true → Did head events e p
  did-stood still same = subst (λ (x : Position). Did head events e x) (sym (position-is p head.from same)) (still-did head events e still)

  pub did-ran : RanTo head events e p → Did head events e p
  did-ran r = ran-did head r.first events e p r.opens r.ran

  pub ran-of : (stands_still head events e ≡ true → same_position p head.from ≡ true → ⊥) → Did head events e p → RanTo head events e p
  ran-of apart did = by (did-cases head events e p did) where
    by : ((stands_still head events e ≡ true) × (p ≡ head.from)) ⊎ ((f : Position) × (opening_of head ≡ opening.Enter f) × Ran head f events e p) → RanTo head events e p
    by (inl h) = absurd (apart h.0 (is-position p head.from h.1))
    by (inr (f, there, r)) = record { first = f; opens = there; ran = r }

  pub ran-from : (first : Position) → opening_of head ≡ opening.Enter first → RanTo head events e p → Ran head first events e p
  ran-from first is r = subst (λ (x : Position). Ran head x events e p) (first-one head r.first first r.opens is) r.ran

-- ---- the first event that can't come

take-some : (n : ℕ) (events : List Event) → n < length events → 1 ≤ length (take (n + 1) events)
take-some n events less = let l = length-take-le (n + 1) events (omega (arith, less)) in omega (arith, l)

pub fault-at-once : (head : NoteHead) (events : List Event) (e : NoteEnd) → stands_still head events e ≡ false → ((f : Position) → opening_of head ≡ opening.Enter f → ⊥) → Fault head events e 0
fault-at-once head events e still closed = record {
  within = omega arith;
  so_far = subst (λ (l : List Event). MayBegin head l) (sym (take-none events)) (may-nothing head);
  no_further = λ less m. let f = may-enter head (take 1 events) (take-some 0 events less) m in closed f.0 f.1;
  cut = λ is. halted-some events (subst (λ (x : NoteEnd). stands_still head events x ≡ false) is still);
  none = λ p r. closed r.first r.opens;
} where
  take-none : (l : List Event) → take 0 l ≡ []
  take-none [] = refl
  take-none (x ∷ l) = refl

  halted-some : (l : List Event) → stands_still head l Halted ≡ false → 0 < length l
  halted-some [] is = absurd cc
  halted-some (x ∷ l) is = omega arith

module _ (head : NoteHead) (first : Position) (events : List Event) (e : NoteEnd) (p : Position) (way : Way) (is : IsWay head first events p way) (opens : opening_of head ≡ opening.Enter first) where
  begun : MayBegin head (take way.good events)
  begun = let b = is.begins in may-run head first b.0 (take way.good events) opens b.1

  ended : way.good < length events → MayBegin head (take (way.good + 1) events) → ⊥
  ended less m = let g = may-goes head first (take (way.good + 1) events) opens (take-some way.good events less) m in is.no_more less g.0 g.1

  pub fault-halted : e ≡ Halted → (way.good ≡ length events → ⊥) → Fault head events e way.good
  fault-halted halted short = record {
    within = is.within;
    so_far = begun;
    no_further = ended;
    cut = λ _. less;
    none = λ q r. let g = pieces-front (take (way.good + 1) events) (drop (way.good + 1) events) (take-append-drop (way.good + 1) events) (goes-of (ran-from head events e q first opens r)) in is.no_more less g.0 g.1;
  } where
    less : way.good < length events
    less = let w = is.within in omega (arith, w, short)

    goes-of : {q : Position} → Ran head first events e q → Goes head first events end.Halted q
    goes-of {q} r = subst (λ (k : End). Goes head first events k q) (halted-only r.end (r.is ∙ halted)) r.goes

  pub fault-through : e ≢ Halted → ends_as way.through e ≡ false → Fault head events e way.good
  fault-through n differ = record {
    within = is.within;
    so_far = begun;
    no_further = ended;
    cut = λ q. absurd (n q);
    none = λ q r. let t = ran-as head first events p way is e q n (ran-from head events e q first opens r) in absurd cc;
  }

-- ---- a note that tells of no boot

halted-or : (e : NoteEnd) → (e ≡ Halted) ⊎ (e ≢ Halted)
halted-or Halted = inl refl
halted-or Nothing = inr (λ q. cc)
halted-or (Ended o) = inr (λ q. cc)
halted-or Waits = inr (λ q. cc)
halted-or RebootNeeded = inr (λ q. cc)

module _ (note : Note) (k : List Event) (at : ℕ) (is : k ≡ powered note.end note.events.events) (fault : Fault note.head k note.end at) (moves : stands_still note.head k note.end ≡ false) where
  abbrev whole : List Event
  whole = note.events.events

  left : (u : List Event) × (whole ≡ powered note.end whole ++ u) × (note.end ≢ Halted → u ≡ [])
  left = powered-front note.end whole

  parts : whole ≡ k ++ left.0
  parts = left.1 ∙ ap (λ (l : List Event). l ++ left.0) (sym is)

  same-front : (n : ℕ) → n ≤ length k → take n whole ≡ take n k
  same-front n few = ap (λ (l : List Event). take n l) parts ∙ take-append-le n k left.0 few

  longer : length whole ≡ length k + length left.0
  longer = ap length parts ∙ length-append k left.0

  inside : at < length whole → (note.end ≡ Halted) ⊎ (note.end ≢ Halted) → at < length k
  inside less (inl halted) = fault.cut halted
  inside less (inr n) = let z : length left.0 ≡ 0 = ap length (left.2 n) in let l = longer in omega (arith, z, l, less)

  pub fault-breaks : BreaksAt note at
  fault-breaks = let l = longer in let w = fault.within in record {
    within = omega (arith, l, w);
    so_far = subst (λ (x : List Event). MayBegin note.head x) (sym (same-front at fault.within)) fault.so_far;
    no_further = λ less m. let i = inside less (halted-or note.end) in fault.no_further i (subst (λ (x : List Event). MayBegin note.head x) (same-front (at + 1) (omega (arith, i))) m);
  }

  pub fault-none : (p : Position) → Follows note p → ⊥
  fault-none p follows = by (did-cases note.head k note.end p (subst (λ (l : List Event). Did note.head l note.end p) (sym is) follows)) where
    by : ((stands_still note.head k note.end ≡ true) × (p ≡ note.head.from)) ⊎ ((f : Position) × (opening_of note.head ≡ opening.Enter f) × Ran note.head f k note.end p) → ⊥
    by (inl h) = let b = h.0 in cc
    by (inr (f, there, r)) = fault.none p (record { first = f; opens = there; ran = r })

pub powered-short : (note : Note) (k : List Event) → k ≡ powered note.end note.events.events → length k ≤ length note.events.events
powered-short note k is =
    let r = powered-front note.end note.events.events in
    let l : length note.events.events ≡ length k + length r.0 = ap length (r.1 ∙ ap (λ (x : List Event). x ++ r.0) (sym is)) ∙ length-append k r.0 in
    omega (arith, l)
