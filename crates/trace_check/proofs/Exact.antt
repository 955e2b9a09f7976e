-- A verdict is one.
use Rattle.std.proofs.Common.{◌≡◌, ℕ, ◌+◌, ◌≤◌, ◌<◌, inl, inr, List, ◌++◌, length, take, drop, refl, sym, ap, ◌∙◌, subst, arith, append_assoc}
use Rattle.std.specs.Prelude.{Option, Some, None}
use Rattle.std.specs.List.{slice_get}
use Rattle.std.proofs.lemmas.Bool.Decides.{leb_tells}
use Rattle.std.proofs.lemmas.List.{take-append-drop, take-take}
use Rattle.std.proofs.Math.Seq.{take-append_seam}
use Rattle.device_model.specs.declared.calls.Event.{Event}
use Rattle.flow_table.specs.declared.position.Position.{Position}
use Rattle.flow_words.specs.Power.{ArePowered}
use Rattle.flow_words.proofs.Powered.{pieces-powered}
use Rattle.trace_check.specs.declared.note.Note.{Note}
use Rattle.trace_check.specs.declared.note.NoteEnd.{NoteEnd}
use Rattle.trace_check.specs.declared.note.NoteHead.{NoteHead}
use Rattle.trace_check.specs.declared.verdict.Verdict.{Verdict}
use Rattle.trace_check.specs.declared.verdict.Verdict.TheVariants.{Broken}
use Rattle.trace_check.specs.Follows.{Did, nothing, stays, runs, breaks_off, Linked, Chain, callees}
use Rattle.trace_check.specs.Verdicts.{MayBegin, BreaksAt, FailsAt, apart, inside, before, Judged, path, broken}
use Rattle.trace_check.proofs.Chains.{get-take, take-within, take-past}

pub may-less : (head : NoteHead) (u v : List Event) → MayBegin head (u ++ v) → MayBegin head u
may-less head u v m = record { more = v ++ m.more; end = m.end; last = m.last; did = subst (λ (l : List Event). Did head l m.end m.last) (append_assoc u v m.more) m.did }

pub did-powered : (head : NoteHead) (events : List Event) (e : NoteEnd) (p : Position) → Did head events e p → ArePowered events
did-powered head events e p nothing = tt
did-powered head events e p (stays is) = tt
did-powered head events e p (runs first is goes) = pieces-powered (callees head) goes
did-powered head events e p breaks_off = tt

-- what begins a chain is one
pub chain-front : (notes : List Note) (n : ℕ) → Chain notes → Chain (take n notes)
chain-front notes n chain j x is = elim (leb_tells (j + 2) n) [
  | inl h ↦ within h.1
  | inr h ↦ at-end h.1
] where
  less : j < n
  less = take-within notes n j x is

  link : Linked x (slice_get notes (j + 1))
  link = chain j x (sym (get-take notes n j less) ∙ is)

  within : j + 2 ≤ n → Linked x (slice_get (take n notes) (j + 1))
  within h = subst (λ (o : Option Note). Linked x o) (sym (get-take notes n (j + 1) (omega (arith, h)))) link

  at-end : n < j + 2 → Linked x (slice_get (take n notes) (j + 1))
  at-end h =
      let same : j + 1 ≡ n = omega (arith, h, less) in
      let past : slice_get (take n notes) (j + 1) ≡ None = ap (λ k. slice_get (take n notes) k) same ∙ take-past notes n in
      subst (λ (o : Option Note). Linked x o) (sym past) (record { position = link.position; follows = link.follows; goes_on = tt })

-- the front that a chain has is no shorter than one that is none
no-shorter : (notes : List Note) (i k : ℕ) → Chain (take k notes) → (Chain (take (i + 1) notes) → ⊥) → k ≤ i
no-shorter notes i k chain none = elim (leb_tells k i) [
  | inl h ↦ h.1
  | inr h ↦ absurd (none (subst (λ (l : List Note). Chain l) (take-take (i + 1) k notes (omega (arith, h.1))) (chain-front (take k notes) (i + 1) chain)))
]

pub broken-none : (notes : List Note) (i e : ℕ) → Judged notes (Broken i e) → Chain notes → ⊥
broken-none notes i e j chain = by (Broken i e) i e refl j where
  by : (v : Verdict) (i e : ℕ) → v ≡ Broken i e → Judged notes v → ⊥
  by v i e is (path c) = absurd cc
  by v i e is (broken note k f there front none fails) = none (chain-front notes (k + 1) chain)

front-of : (events : List Event) (e f : ℕ) → e < f → take f events ≡ take (e + 1) events ++ drop (e + 1) (take f events)
front-of events e f less = sym (take-append-drop (e + 1) (take f events)) ∙ ap (λ (l : List Event). l ++ drop (e + 1) (take f events)) (take-take (e + 1) f events (omega (arith, less)))

no-less : (note : Note) (e f : ℕ) → BreaksAt note e → BreaksAt note f → f ≤ e
no-less note e f a b = elim (leb_tells f e) [
  | inl h ↦ h.1
  | inr h ↦
      let events = note.events.events in
      absurd (a.no_further (let w = b.within in omega (arith, h.1, w))
      (may-less note.head (take (e + 1) events) (drop (e + 1) (take f events)) (subst (λ (l : List Event). MayBegin note.head l) (front-of events e f h.1) b.so_far)))
]

fails-one : (prev : Option Note) (note : Note) (e f : ℕ) → FailsAt prev note e → FailsAt prev note f → e ≡ f
fails-one prev note e f (apart x) (apart y) = refl
fails-one prev note e f (apart x) (inside g none b) = absurd (x g)
fails-one prev note e f (inside g none b) (apart x) = absurd (x g)
fails-one prev note e f (inside g none a) (inside h none' b) = let p = no-less note e f a b in let q = no-less note f e b a in omega (arith, p, q)

pub judged-one : (notes : List Note) (v w : Verdict) → Judged notes v → Judged notes w → v ≡ w
judged-one notes v w (path c) (path d) = refl
judged-one notes v w (path c) (broken note i e there front none fails) = absurd (none (chain-front notes (i + 1) c))
judged-one notes v w (broken note i e there front none fails) (path c) = absurd (none (chain-front notes (i + 1) c))
judged-one notes v w (broken note i e there front none fails) (broken other k f there' front' none' fails') =
    let p = no-shorter notes i k front' none in
    let q = no-shorter notes k i front none' in
    let same : k ≡ i = omega (arith, p, q) in
    let found : Some other ≡ Some note = sym there' ∙ ap (λ (n : ℕ). slice_get notes n) same ∙ there in
    let it : other ≡ note = cc in
    let moved = subst (λ (n : ℕ). FailsAt (before notes n) other f) same fails' in
    let at = fails-one (before notes i) note e f fails (subst (λ (x : Note). FailsAt (before notes i) x f) it moved) in
    ap (λ (n : ℕ). Broken n e) (sym same) ∙ ap (λ (n : ℕ). Broken k n) at

pub chain-begins : (notes more : List Note) → Chain (notes ++ more) → Chain notes
chain-begins notes more chain = subst (λ (l : List Note). Chain l) (take-append_seam notes more) (chain-front (notes ++ more) (length notes) chain)
