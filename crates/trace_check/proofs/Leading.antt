-- A walk through the states of a boot, as far as it has come, and how it ends.
use Rattle.std.proofs.Common.{◌≡◌, ℕ, ◌+◌, ◌≤◌, ◌<◌, Bool, true, false, IsTrue, ◌⊎◌, inl, inr, List, [], ◌∷◌, ◌++◌, length, take, drop, refl, sym, ap, ◌∙◌, subst, arith, append_assoc, length-append}
use Rattle.std.specs.Prelude.{Option, Some, ◌||◌, ◌&&◌, ◌==◌}
use Rattle.std.proofs.lemmas.List.{take-append-drop}
use Rattle.std.proofs.lemmas.Bool.Decides.{Decides-eqb}
use Rattle.std.proofs.Math.Seq.{take-length}
use Rattle.device_model.specs.declared.calls.Event.{Event}
use Rattle.flow_table.specs.declared.position.Position.{Position}
use Rattle.flow_table.specs.declared.table.Heard.{Heard}
use Rattle.flow_table.specs.declared.table.Step.TheVariants.{Enter}
use Rattle.flow_table.specs.Table.{IsRunning, next_of}
use Rattle.flow_words.specs.Course.{Whole}
use Rattle.flow_words.specs.Words.{word_at}
use Rattle.flow_words.specs.Pieces.{End, Pieces, goes_on, reboots, ends, waits, halts}
use Rattle.flow_words.specs.Pieces as end
use Rattle.flow_words.specs.Decided.{IsThrough}
use Rattle.flow_words.proofs.Courses.{Part-whole}
use Rattle.trace_check.specs.declared.note.NoteEnd.{NoteEnd}
use Rattle.trace_check.specs.declared.note.NoteHead.{NoteHead}
use Rattle.trace_check.specs.declared.way.Way.{Way}
use Rattle.trace_check.specs.Follows.{Goes, callees, is_stop, noted}
use Rattle.trace_check.specs.Way.{Through, IsWay, same_position}
use Rattle.trace_check.proofs.Same.{position-is, is-position}
use Rattle.trace_check.proofs.Walking.{split-take, split-length, left-by}

or-left : (a b : Bool) → IsTrue a → IsTrue (a || b)
or-left true b h = refl
or-left false b h = absurd cc

or-right : (a b : Bool) → IsTrue b → IsTrue (a || b)
or-right true b h = refl
or-right false b h = h

or-parts : (a b : Bool) → IsTrue (a || b) → IsTrue a ⊎ IsTrue b
or-parts true b h = inl refl
or-parts false b h = inr h

and-parts : (a b : Bool) → IsTrue (a && b) → IsTrue a × IsTrue b
and-parts true b h = (refl, h)
and-parts false b h = absurd cc

and-made : (a b : Bool) → IsTrue a → IsTrue b → IsTrue (a && b)
and-made true b g h = h
and-made false b g h = absurd cc

module _ (head : NoteHead) (first : Position) (all : List Event) (target : Position) where
  -- the events up to `at` lead from the first position to p
  pub record Led (p : Position) (at : ℕ) (meets : Bool) : Type 0 where
    pub within : at ≤ length all
    pub on : (w : List Event) (e : End) (last : Position) → Goes head p w e last → Goes head first (take at all ++ w) e last
    pub back : (w : List Event) (e : End) (last : Position) → Goes head first (take at all ++ w) e last → IsThrough e ⊎ (1 ≤ length w) → Goes head p w e last
    pub met : IsTrue meets → Goes head first all end.Halted target
    pub is_met : Goes head first all end.Halted target → IsTrue meets ⊎ Goes head p (drop at all) end.Halted target

  -- what is left of the events leads from p no further than to this
  pub record Here (p : Position) (at good : ℕ) (by : Option (NoteEnd × Position)) (here : Bool) : Type 0 where
    pub front : List Event
    pub behind : List Event
    pub split : drop at all ≡ front ++ behind
    pub count : good ≡ at + length front
    pub begins : Goes head p front end.Halted p
    pub no_more : (x : Event) (more : List Event) → behind ≡ x ∷ more → (last : Position) → Goes head p (front ++ x ∷ []) end.Halted last → ⊥
    pub through : (k : End) (last : Position) → IsThrough k → Goes head p (drop at all) k last → by ≡ Some (noted k, last)
    pub is_through : (e : NoteEnd) (last : Position) → by ≡ Some (e, last) → (k : End) × (noted k ≡ e) × IsThrough k × Goes head p (drop at all) k last
    pub halted : (last : Position) → Goes head p (drop at all) end.Halted last → IsTrue here × (last ≡ p)
    pub is_halted : IsTrue here → Goes head p (drop at all) end.Halted p

  pub led-start : Led first 0 false
  led-start = record {
    within = omega arith;
    on = λ w e last g. g;
    back = λ w e last g h. g;
    met = λ h. absurd cc;
    is_met = λ g. inr g;
  }

  -- one state further
  module _ (p q : Position) (at i : ℕ) (meets : Bool) (piece : List Event) (h : Heard) (led : Led p at meets) (split : drop at all ≡ piece ++ drop i all) (count : i ≡ at + length piece) (whole : Whole (word_at (callees head) p) piece h) (run : IsRunning p.state) (nxt : next_of p h (is_stop head.deed) ≡ Enter q) where
    counted : length all ≡ i + length (drop i all)
    counted = let l = split-length all at piece (drop i all) led.within split in omega (arith, l, count)

    taken : take i all ≡ take at all ++ piece
    taken = split-take all at i piece (drop i all) led.within split count

    joined : (w : List Event) → take i all ++ w ≡ take at all ++ (piece ++ w)
    joined w = ap (λ (l : List Event). l ++ w) taken ∙ append_assoc (take at all) piece w

    all-there : i ≡ length all → take i all ≡ all
    all-there is = ap (λ (n : ℕ). take n all) is ∙ take-length all

    more-left : (w : List Event) (e : End) → IsThrough e ⊎ (1 ≤ length w) → IsThrough e ⊎ (1 ≤ length (piece ++ w))
    more-left w e (inl t) = inl t
    more-left w e (inr some) = let l = length-append piece w in inr (omega (arith, l, some))

    not-cut : (w : List Event) (e : End) → IsThrough e ⊎ (1 ≤ length w) → w ≡ [] → e ≡ end.Halted → ⊥
    not-cut w e (inl t) none halted = subst IsThrough halted t
    not-cut w e (inr some) none halted = let l : length w ≡ 0 = ap length none in absurd (omega (arith, l, some))

    back-by : (w : List Event) (e : End) (last : Position) → IsThrough e ⊎ (1 ≤ length w) → Goes head q w e last ⊎ ((w ≡ []) × (e ≡ end.Halted) × (last ≡ p)) → Goes head q w e last
    back-by w e last x (inl g) = g
    back-by w e last x (inr h) = absurd (not-cut w e x h.0 h.1)

    met-by : IsTrue meets ⊎ IsTrue ((i == length all) && same_position p target) → Goes head first all end.Halted target
    met-by (inl m) = led.met m
    met-by (inr m) =
        let parts = and-parts (i == length all) (same_position p target) m in
        let is : i ≡ length all = (Decides-eqb i (length all)).0 parts.0 in
        let there : p ≡ target = position-is p target parts.1 in
        let g = led.on piece end.Halted p (halts (Part-whole (word_at (callees head) p) piece h whole)) in
        subst (λ (x : Position). Goes head first all end.Halted x) there (subst (λ (l : List Event). Goes head first l end.Halted p) (sym taken ∙ all-there is) g)

    is-met-last : Goes head q (drop i all) end.Halted target ⊎ ((drop i all ≡ []) × (end.Halted ≡ end.Halted) × (target ≡ p)) → IsTrue (meets || ((i == length all) && same_position p target)) ⊎ Goes head q (drop i all) end.Halted target
    is-met-last (inl g) = inr g
    is-met-last (inr x) =
        let none : length (drop i all) ≡ 0 = ap length x.0 in
        let is : i ≡ length all = omega (arith, none, counted) in
        inl (or-right meets ((i == length all) && same_position p target) (and-made (i == length all) (same_position p target) ((Decides-eqb i (length all)).1 is) (is-position p target (sym x.2))))

    is-met-by : IsTrue meets ⊎ Goes head p (drop at all) end.Halted target → IsTrue (meets || ((i == length all) && same_position p target)) ⊎ Goes head q (drop i all) end.Halted target
    is-met-by (inl m) = inl (or-left meets ((i == length all) && same_position p target) m)
    is-met-by (inr g) = is-met-last (left-by piece (drop i all) h run whole nxt split g)

    pub led-on : Led q i (meets || ((i == length all) && same_position p target))
    led-on = record {
      within = omega (arith, counted);
      on = λ w e last g. subst (λ (l : List Event). Goes head first l e last) (sym (joined w)) (led.on (piece ++ w) e last (goes_on piece w h run whole nxt g refl));
      back = λ w e last g x. back-by w e last x (left-by piece w h run whole nxt refl (led.back (piece ++ w) e last (subst (λ (l : List Event). Goes head first l e last) (joined w) g) (more-left w e x)));
      met = λ x. met-by (or-parts meets ((i == length all) && same_position p target) x);
      is_met = λ g. is-met-by (led.is_met g);
    }

  -- ---- the end of a walk

  module _ (p : Position) (at good : ℕ) (meets here : Bool) (by : Option (NoteEnd × Position)) (way : Way) (led : Led p at meets) (there : Here p at good by here) (is_good : way.good ≡ good) (is_by : way.through ≡ by) (is_meets : way.meets ≡ (meets || (here && same_position p target))) where
    counts : length all ≡ good + length there.behind
    counts = let l = split-length all at there.front there.behind led.within there.split in omega (arith, l, there.count)

    whole-is : take at all ++ drop at all ≡ all
    whole-is = take-append-drop at all

    no-more : (behind : List Event) → there.behind ≡ behind → good < length all → (last : Position) → Goes head first (take (good + 1) all) end.Halted last → ⊥
    no-more [] is less last g = let none : length there.behind ≡ 0 = ap length is in absurd (omega (arith, none, counts, less))
    no-more (x ∷ more) is less last g =
        let front = there.front in
        let split : drop at all ≡ (front ++ x ∷ []) ++ more = there.split ∙ ap (λ (l : List Event). front ++ l) is ∙ sym (append_assoc front (x ∷ []) more) in
        let one : length (front ++ x ∷ []) ≡ length front + 1 = length-append front (x ∷ []) in
        let count : good + 1 ≡ at + length (front ++ x ∷ []) = let c = there.count in omega (arith, one, c) in
        let taken = split-take all at (good + 1) (front ++ x ∷ []) more led.within split count in
        there.no_more x more is last (led.back (front ++ x ∷ []) end.Halted last (subst (λ (l : List Event). Goes head first l end.Halted last) taken g) (inr (omega (arith, one))))

    through-by : (e : NoteEnd) (last : Position) → Through head first all e last → way.through ≡ Some (e, last)
    through-by e last h =
        is_by ∙ there.through h.end last h.through (led.back (drop at all) h.end last (subst (λ (l : List Event). Goes head first l h.end last) (sym whole-is) h.goes) (inl h.through))
        ∙ ap (λ (x : NoteEnd). Some (x, last)) h.is

    is-through-by : (e : NoteEnd) (last : Position) → way.through ≡ Some (e, last) → Through head first all e last
    is-through-by e last h =
        let k = there.is_through e last (sym is_by ∙ h) in
        record { end = k.0; is = k.1; through = k.2; goes = subst (λ (l : List Event). Goes head first l k.0 last) whole-is (led.on (drop at all) k.0 last k.3) }

    meets-by : IsTrue meets ⊎ IsTrue (here && same_position p target) → Goes head first all end.Halted target
    meets-by (inl m) = led.met m
    meets-by (inr m) =
        let parts = and-parts here (same_position p target) m in
        let g = led.on (drop at all) end.Halted p (there.is_halted parts.0) in
        subst (λ (x : Position). Goes head first all end.Halted x) (position-is p target parts.1) (subst (λ (l : List Event). Goes head first l end.Halted p) whole-is g)

    is-met-by-here : IsTrue meets ⊎ Goes head p (drop at all) end.Halted target → IsTrue (meets || (here && same_position p target))
    is-met-by-here (inl m) = or-left meets (here && same_position p target) m
    is-met-by-here (inr g) =
        let h = there.halted target g in
        or-right meets (here && same_position p target) (and-made here (same_position p target) h.0 (is-position p target (sym h.1)))

    pub finish : IsWay head first all target way
    finish = record {
      within = omega (arith, is_good, counts);
      begins = (p, subst (λ (l : List Event). Goes head first l end.Halted p) (sym (ap (λ (n : ℕ). take n all) is_good ∙ split-take all at good there.front there.behind led.within there.split there.count)) (led.on there.front end.Halted p there.begins));
      no_more = λ less last g. no-more there.behind refl (omega (arith, is_good, less)) last (subst (λ (n : ℕ). Goes head first (take (n + 1) all) end.Halted last) is_good g);
      through = through-by;
      is_through = is-through-by;
      meets = λ h. meets-by (or-parts meets (here && same_position p target) (sym is_meets ∙ h));
      is_met = λ g. is_meets ∙ is-met-by-here (led.is_met g);
    }
