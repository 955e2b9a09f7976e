-- The ends of a walk.
use Rattle.std.proofs.Common.{◌≡◌, ℕ, ◌+◌, ◌≤◌, Bool, true, false, ◌⊎◌, inl, inr, List, [], ◌∷◌, ◌++◌, length, drop, cond, refl, sym, ap, ◌∙◌, subst, arith, append-nil, append_assoc}
use Rattle.std.specs.Prelude.{Option, Some, None, ◌||◌, ◌&&◌, ◌==◌, Err, Ok}
use Rattle.std.proofs.lemmas.List.{at_drop_all}
use Rattle.std.proofs.lemmas.Bool.Decides.{Decides-eqb}
use Rattle.device_model.specs.declared.calls.Event.{Event}
use Rattle.flow_table.specs.declared.position.Position.{Position}
use Rattle.flow_table.specs.declared.position.State.TheVariants.{Idle, Wait}
use Rattle.flow_table.specs.declared.table.Heard.{Heard}
use Rattle.flow_table.specs.declared.table.Step.TheVariants.{Stop}
use Rattle.flow_table.specs.Table.{IsRunning, next_of}
use Rattle.flow_words.specs.Course.{Part}
use Rattle.flow_words.specs.Words.{word_at}
use Rattle.flow_words.specs.Pieces.{End, Pieces, goes_on, reboots, ends, waits, halts}
use Rattle.flow_words.specs.Pieces as end
use Rattle.flow_words.specs.Decided.{IsThrough}
use Rattle.flow_words.proofs.Courses.{Part-whole}
use Rattle.trace_check.specs.declared.note.NoteEnd.{NoteEnd}
use Rattle.trace_check.specs.declared.note.NoteHead.{NoteHead}
use Rattle.trace_check.specs.declared.way.Way.{Way}
use Rattle.trace_check.specs.declared.read.Stop.TheVariants.{Cut, Wrong}
use Rattle.trace_check.specs.Follows.{Goes, callees, is_stop, noted}
use Rattle.trace_check.specs.Reading.{read}
use Rattle.trace_check.specs.Way.{IsWay, same_position}
use Rattle.trace_check.proofs.Meaning.{read-came, read-cut, read-wrong}
use Rattle.trace_check.proofs.Walking.{split-length, stopped-by, cut-by, idle-by, wait-by}
use Rattle.trace_check.proofs.Leading.{Led, Here, finish}

module _ (head : NoteHead) (first : Position) (all : List Event) (target : Position) where
  abbrev Walked : Position → ℕ → Bool → Type 0
  Walked = Led head first all target

  abbrev Left : Position → ℕ → ℕ → Option (NoteEnd × Position) → Bool → Type 0
  Left = Here head first all target

  -- ---- nothing follows the state

  module _ (p : Position) (at i : ℕ) (piece : List Event) (k : End) (within : at ≤ length all) (split : drop at all ≡ piece ++ drop i all) (count : i ≡ at + length piece) (whole : Goes head p piece end.Halted p) (made : Goes head p piece k p) (through : IsThrough k)
      (only : (v : List Event) (e : End) (last : Position) → Goes head p (piece ++ v) e last → (v ≡ []) × ((e ≡ k) ⊎ (e ≡ end.Halted)) × (last ≡ p)) where
    abbrev is_all : Bool
    is_all = i == length all

    abbrev by : Option (NoteEnd × Position)
    by = cond is_all (Some (noted k, p)) None

    at-end : drop i all ≡ [] → is_all ≡ true
    at-end none =
        let l = split-length all at piece (drop i all) within split in
        let z : length (drop i all) ≡ 0 = ap length none in
        (Decides-eqb i (length all)).1 (omega (arith, l, z, count))

    ended : is_all ≡ true → drop i all ≡ []
    ended is = let e = (Decides-eqb i (length all)).0 is in at_drop_all (λ (l : List Event). l) all i (omega (arith, e))

    rest-is : is_all ≡ true → drop at all ≡ piece
    rest-is is = split ∙ ap (λ (l : List Event). piece ++ l) (ended is) ∙ append-nil piece

    through-by : (e : End) (last : Position) → IsThrough e → (drop i all ≡ []) × ((e ≡ k) ⊎ (e ≡ end.Halted)) × (last ≡ p) → by ≡ Some (noted e, last)
    through-by e last t (none, inl is, there) = ap (λ (b : Bool). cond b (Some (noted k, p)) None) (at-end none) ∙ ap (λ (x : End). Some (noted x, p)) (sym is) ∙ ap (λ (x : Position). Some (noted e, x)) (sym there)
    through-by e last t (none, inr is, there) = absurd (subst IsThrough is t)

    is-through-by : (b : Bool) (e : NoteEnd) (last : Position) → is_all ≡ b → cond {A = Option (NoteEnd × Position)} b (Some (noted k, p)) None ≡ Some (e, last) → (x : End) × (noted x ≡ e) × IsThrough x × Goes head p (drop at all) x last
    is-through-by true e last b is =
        let q : ◌≡◌ {A = NoteEnd × Position} (noted k, p) (e, last) = cc in
        let e-is : noted k ≡ e = ap (λ (y : NoteEnd × Position). y.0) q in
        let last-is : p ≡ last = ap (λ (y : NoteEnd × Position). y.1) q in
        (k, e-is, through, subst (λ (x : Position). Goes head p (drop at all) k x) last-is (subst (λ (l : List Event). Goes head p l k p) (sym (rest-is b)) made))
    is-through-by false e last b is = absurd cc

    pub rests : Left p at i by is_all
    rests = record {
      front = piece;
      behind = drop i all;
      split = split;
      count = count;
      begins = whole;
      no_more = λ x more is last g. let none = only (x ∷ []) end.Halted last g in absurd (let n = none.0 in cc);
      through = λ e last t g. through-by e last t (only (drop i all) e last (subst (λ (l : List Event). Goes head p l e last) split g));
      is_through = λ e last h. is-through-by is_all e last refl h;
      halted = λ last g. let o = only (drop i all) end.Halted last (subst (λ (l : List Event). Goes head p l end.Halted last) split g) in (at-end o.0, o.2);
      is_halted = λ h. subst (λ (l : List Event). Goes head p l end.Halted p) (sym (rest-is h)) whole;
    }

  module _ (p : Position) (at : ℕ) (meets : Bool) (way : Way) (led : Walked p at meets) where
    pub way-idle : p.state ≡ Idle → way.good ≡ at → way.through ≡ cond (at == length all) (Some (noted (end.Ended p.outcome), p)) None → way.meets ≡ (meets || ((at == length all) && same_position p target)) → IsWay head first all target way
    way-idle idle a b d =
        finish head first all target p at at meets (at == length all) (cond (at == length all) (Some (noted (end.Ended p.outcome), p)) None) way led
        (rests p at at [] (end.Ended p.outcome) led.within refl (omega arith) (halts tt) (ends idle refl) tt (λ v e last g. idle-by (callees head) idle g)) a b d

    pub way-wait : p.state ≡ Wait → way.good ≡ at → way.through ≡ cond (at == length all) (Some (noted end.Waits, p)) None → way.meets ≡ (meets || ((at == length all) && same_position p target)) → IsWay head first all target way
    way-wait wait a b d =
        finish head first all target p at at meets (at == length all) (cond (at == length all) (Some (noted end.Waits, p)) None) way led
        (rests p at at [] end.Waits led.within refl (omega arith) (halts tt) (waits wait) tt (λ v e last g. wait-by (callees head) wait g)) a b d

    pub way-stop : (h : Heard) (i : ℕ) → IsRunning p.state → read all (word_at (callees head) p) at ≡ Ok (h, i) → next_of p h (is_stop head.deed) ≡ Stop → way.good ≡ i → way.through ≡ cond (i == length all) (Some (noted end.RebootNeeded, p)) None → way.meets ≡ (meets || ((i == length all) && same_position p target)) → IsWay head first all target way
    way-stop h i run is nxt a b d =
        let c = read-came all (word_at (callees head) p) at h i is in
        finish head first all target p at i meets (i == length all) (cond (i == length all) (Some (noted end.RebootNeeded, p)) None) way led
        (rests p at i c.piece end.RebootNeeded led.within c.split c.count (halts (Part-whole (word_at (callees head) p) c.piece h c.whole)) (reboots h run c.whole nxt) tt (λ v e last g. stopped-by c.piece v h run c.whole nxt refl g)) a b d

    pub way-cut : IsRunning p.state → read all (word_at (callees head) p) at ≡ Err Cut → way.good ≡ length all → way.through ≡ None → way.meets ≡ (meets || same_position p target) → IsWay head first all target way
    way-cut run is a b d =
        let c = read-cut all (word_at (callees head) p) at is in
        let rest = drop at all in
        let l = split-length all at rest [] led.within (sym (append-nil rest)) in
        let only : (e : End) (last : Position) → Goes head p rest e last → (e ≡ end.Halted) × (last ≡ p) × Part (word_at (callees head) p) rest = λ e last g. cut-by rest [] run c.none (sym (append-nil rest)) g in
        finish head first all target p at (length all) meets true None way led
        (record {
          front = rest;
          behind = [];
          split = sym (append-nil rest);
          count = omega (arith, l);
          begins = halts c.part;
          no_more = λ x more is last g. cc;
          through = λ e last t g. absurd (subst IsThrough (only e last g).0 t);
          is_through = λ e last h. absurd cc;
          halted = λ last g. (refl, (only end.Halted last g).1);
          is_halted = λ h. halts c.part;
        }) a b d

    pub way-wrong : (i : ℕ) → IsRunning p.state → read all (word_at (callees head) p) at ≡ Err (Wrong i) → way.good ≡ i → way.through ≡ None → way.meets ≡ meets → IsWay head first all target way
    way-wrong i run is a b d =
        let c = read-wrong all (word_at (callees head) p) at i is in
        let rest = drop at all in
        let only : (e : End) (last : Position) → Goes head p rest e last → (e ≡ end.Halted) × (last ≡ p) × Part (word_at (callees head) p) rest = λ e last g. cut-by rest [] run c.none (sym (append-nil rest)) g in
        let front : (x : Event) (more : List Event) (last : Position) → c.event ∷ c.more ≡ x ∷ more → Goes head p (c.piece ++ x ∷ []) end.Halted last → ⊥ = λ x more last same g.
        let heads : c.event ≡ x = cc in
        let part = (cut-by rest more run c.none (c.split ∙ ap (λ (l : List Event). c.piece ++ l) same ∙ sym (append_assoc c.piece (x ∷ []) more)) g).2 in
        c.no_part [] (subst (λ (y : Event). Part (word_at (callees head) p) (c.piece ++ y ∷ [])) (sym heads) part) in
        finish head first all target p at i meets false None way led
        (record {
          front = c.piece;
          behind = c.event ∷ c.more;
          split = c.split;
          count = c.count;
          begins = halts c.part;
          no_more = λ x more same last g. front x more last same g;
          through = λ e last t g. absurd (subst IsThrough (only e last g).0 t);
          is_through = λ e last h. absurd cc;
          halted = λ last g. absurd (c.no_part c.more (subst (λ (l : List Event). Part (word_at (callees head) p) l) c.split (only end.Halted last g).2));
          is_halted = λ h. absurd cc;
        }) a b (d ∙ or-false meets) where
          or-false : (b : Bool) → b ≡ (b || false)
          or-false true = refl
          or-false false = refl
