-- What passes in one call, and in two stretches of calls in a row.
use Rattle.std.proofs.Common.{◌≡◌, ℕ, ◌+◌, ◌-◌, Bool, true, false, List, [], ◌∷◌, ◌++◌, length, refl, sym, ◌∙◌, ap, subst, append_assoc, append-nil, length-append, arith}
use Rattle.std.specs.Prelude.{◌||◌, Option, Some, None, option_map}
use Rattle.upd_text.specs.Counts.{counted}
use Rattle.device_model.specs.declared.calls.Event.{Event}
use Rattle.device_model.specs.declared.calls.Event.TheVariants.{Start, End, Pause, Loss}
use Rattle.device_model.specs.declared.calls.Answer.{Answer}
use Rattle.device_model.specs.declared.calls.Call.{Call}
use Rattle.device_model.specs.Disk.{WhereTold}
use Rattle.device_model.specs.Work.{Folder, Work, given_at_start, child_given, work_lost, ChildChanges}
use Rattle.device_model.specs.State.{State, AfterChild, LosesPower, LosesStarted, with_events}
use Rattle.device_model.specs.How.{How, Through, PowerLost, DiskFailed, EndsAs, Passed, has_start, KeepsGiven, WorksOn, loss_at, work_after}

-- ---- one call

-- a call that left journal, room and work folder of a device that is still on
pub passed-still : (how : How) (old new : State) → EndsAs how old new → new.on ≡ true → new.journal ≡ old.journal → new.room ≡ old.room → new.work ≡ old.work → Passed [] how old new
passed-still how old new ends on journal room work = record {
  ends = ends;
  journal = journal ∙ sym (ap (λ (b : Bool). old.journal ++ loss_at b) on ∙ append-nil old.journal);
  room = room ∙ left old.room ∙ sym (ap (λ (b : Bool). old.room - length (loss_at b)) on);
  work = work ∙ sym (ap (λ (b : Bool). work_after b old.work) on);
}
  where
    left : (n : ℕ) → n ≡ n - 0
    left n = omega arith

-- nothing happened
pub passed-none : (state : State) → state.on ≡ true → Passed [] Through state state
passed-none state on = passed-still Through state state (record { on = on; losses = refl; faults = refl }) on refl refl refl

-- power was lost before a call
pub passed-lost : (old new : State) → LosesPower 0 0 old new → Passed [] PowerLost old new
passed-lost old new l = record {
  ends = record { on = off; losses = ap (λ (s : State). s.losses) l.rest; faults = ap (λ (s : State). s.faults) l.rest };
  journal = ap (λ (s : State). s.journal) l.rest ∙ sym (ap (λ (on : Bool). old.journal ++ loss_at on) off);
  room = ap (λ (s : State). s.room) l.rest ∙ sym (ap (λ (on : Bool). old.room - length (loss_at on)) off);
  work = ap (λ (s : State). s.work) l.rest ∙ sym (ap (λ (on : Bool). work_after on old.work) off);
}
  where
    off : new.on ≡ false
    off = ap (λ (s : State). s.on) l.rest

given-lost : (old new : Option Work) → WhereTold KeepsGiven old new → WhereTold KeepsGiven old (option_map work_lost new)
given-lost None None h = h
given-lost None (Some n) h = absurd h
given-lost (Some o) None h = absurd h
given-lost (Some o) (Some n) h = h

given-started : (old new : Option Work) → WhereTold ChildChanges (option_map child_given old) new → WhereTold KeepsGiven old new
given-started None None h = tt
given-started None (Some n) h = absurd h
given-started (Some o) None h = absurd h
given-started (Some o) (Some n) h = h.given

-- power was lost once a child was started
pub passed-started : (c : Call) (old new : State) → LosesStarted c old new → Passed (Start c ∷ []) PowerLost old new
passed-started c old new l = record {
  ends = record { on = off; losses = ap (λ (s : State). s.losses) l.rest; faults = ap (λ (s : State). s.faults) l.rest };
  journal = ap (λ (s : State). s.journal) l.rest ∙ sym (ap (λ (on : Bool). old.journal ++ ((Start c ∷ []) ++ loss_at on)) off);
  room = ap (λ (s : State). s.room) l.rest ∙ sym (ap (λ (on : Bool). old.room - length ((Start c ∷ []) ++ loss_at on)) off);
  work = subst (λ (w : Option Work). WhereTold KeepsGiven old.work w) (sym (ap (λ (s : State). s.work) l.rest)) (given-lost old.work l.left (given-started old.work l.left l.work));
}
  where
    off : new.on ≡ false
    off = ap (λ (s : State). s.on) l.rest

-- a child ended
pub passed-child : (c : Call) (a : Answer) (old new : State) → old.on ≡ true → AfterChild (Start c ∷ End a ∷ []) old new → Passed (Start c ∷ End a ∷ []) Through old new
passed-child c a old new on h = record {
  ends = record { on = still; losses = ap (λ (s : State). s.losses) h.rest; faults = ap (λ (s : State). s.faults) h.rest };
  journal = ap (λ (s : State). s.journal) h.rest ∙ sym (ap (λ (b : Bool). old.journal ++ ((Start c ∷ End a ∷ []) ++ loss_at b)) still);
  room = ap (λ (s : State). s.room) h.rest ∙ sym (ap (λ (b : Bool). old.room - length ((Start c ∷ End a ∷ []) ++ loss_at b)) still);
  work = given-started old.work new.work h.work;
}
  where
    still : new.on ≡ true
    still = ap (λ (s : State). s.on) h.rest ∙ on

-- an event that starts nothing was added
pub passed-quiet : (e : Event) (old new : State) → has_start (e ∷ []) ≡ false → old.on ≡ true → new ≡ with_events (e ∷ []) old → Passed (e ∷ []) Through old new
passed-quiet e old new quiet on h = record {
  ends = record { on = still; losses = ap (λ (s : State). s.losses) h; faults = ap (λ (s : State). s.faults) h };
  journal = ap (λ (s : State). s.journal) h ∙ sym (ap (λ (b : Bool). old.journal ++ ((e ∷ []) ++ loss_at b)) still);
  room = ap (λ (s : State). s.room) h ∙ sym (ap (λ (b : Bool). old.room - length ((e ∷ []) ++ loss_at b)) still);
  work = subst (λ (s : Bool). WorksOn s new.on old.work new.work) (sym quiet) (ap (λ (s : State). s.work) h ∙ sym (ap (λ (b : Bool). work_after b old.work) still));
}
  where
    still : new.on ≡ true
    still = ap (λ (s : State). s.on) h ∙ on

-- ---- two stretches, of which the first went through

pub ends-then : (how : How) (old mid new : State) → EndsAs Through old mid → EndsAs how mid new → EndsAs how old new
ends-then Through old mid new a b = record { on = b.on; losses = b.losses ∙ a.losses; faults = b.faults ∙ a.faults }
ends-then PowerLost old mid new a b = record { on = b.on; losses = b.losses ∙ ap counted a.losses; faults = b.faults ∙ a.faults }
ends-then DiskFailed old mid new a b = record { on = b.on; losses = b.losses ∙ a.losses; faults = b.faults ∙ ap counted a.faults }

pub started-append : (u v : List Event) → has_start (u ++ v) ≡ (has_start u || has_start v)
started-append [] v = refl
started-append (Start c ∷ u) v = refl
started-append (End a ∷ u) v = started-append u v
started-append (Pause n ∷ u) v = started-append u v
started-append (Loss ∷ u) v = started-append u v

-- what was given first stays given
given-twice : (f g : Folder) (given : Option Folder) → given_at_start g (given_at_start f given) ≡ given_at_start f given
given-twice f g None = refl
given-twice f g (Some x) = refl

given-after : (on : Bool) (old new : Option Work) → WhereTold KeepsGiven old new → WhereTold KeepsGiven old (work_after on new)
given-after true old new h = h
given-after false old new h = given-lost old new h

given-then : (old mid new : Option Work) → WhereTold KeepsGiven old mid → WhereTold KeepsGiven mid new → WhereTold KeepsGiven old new
given-then None None None h k = tt
given-then None None (Some n) h k = absurd k
given-then None (Some m) new h k = absurd h
given-then (Some o) None new h k = absurd h
given-then (Some o) (Some m) None h k = absurd k
given-then (Some o) (Some m) (Some n) h k = k ∙ ap (λ (x : Option Folder). given_at_start m.folder x) h ∙ given-twice o.folder m.folder o.given

works-then : (a b on : Bool) (old mid new : Option Work) → WorksOn a true old mid → WorksOn b on mid new → WorksOn (a || b) on old new
works-then true true on old mid new h k = given-then old mid new h k
works-then true false on old mid new h k = subst (λ (w : Option Work). WhereTold KeepsGiven old w) (sym k) (given-after on old mid h)
works-then false true on old mid new h k = subst (λ (w : Option Work). WhereTold KeepsGiven w new) h k
works-then false false on old mid new h k = k ∙ ap (λ (w : Option Work). work_after on w) h

-- the journal and the room of a device that is still on
pub journal-through : (u : List Event) (old mid : State) → Passed u Through old mid → mid.journal ≡ old.journal ++ u
journal-through u old mid a = a.journal ∙ ap (λ (on : Bool). old.journal ++ (u ++ loss_at on)) a.ends.on ∙ ap (λ (l : List Event). old.journal ++ l) (append-nil u)

pub room-through : (u : List Event) (old mid : State) → Passed u Through old mid → mid.room ≡ old.room - length u
room-through u old mid a = a.room ∙ ap (λ (on : Bool). old.room - length (u ++ loss_at on)) a.ends.on ∙ ap (λ (l : List Event). old.room - length l) (append-nil u)

pub passed-then : (u v : List Event) (how : How) (old mid new : State) → Passed u Through old mid → Passed v how mid new → Passed (u ++ v) how old new
passed-then u v how old mid new a b = record {
  ends = ends-then how old mid new a.ends b.ends;
  journal = b.journal ∙ ap (λ (j : List Event). j ++ (v ++ loss_at new.on)) (journal-through u old mid a) ∙ append_assoc old.journal u (v ++ loss_at new.on)
      ∙ ap (λ (l : List Event). old.journal ++ l) (sym (append_assoc u v (loss_at new.on)));
  room = b.room ∙ ap (λ (n : ℕ). n - length (v ++ loss_at new.on)) (room-through u old mid a) ∙ rooms;
  work = subst (λ (s : Bool). WorksOn s new.on old.work new.work) (sym (started-append u v))
      (works-then (has_start u) (has_start v) new.on old.work mid.work new.work (subst (λ (on : Bool). WorksOn (has_start u) on old.work mid.work) a.ends.on a.work) b.work);
}
  where
    rooms : old.room - length u - length (v ++ loss_at new.on) ≡ old.room - length ((u ++ v) ++ loss_at new.on)
    rooms = omega (arith, length-append v (loss_at new.on), length-append (u ++ v) (loss_at new.on), length-append u v)

-- a device that is on and to which nothing happened
pub same-journal : (old mid : State) → Passed [] Through old mid → mid.journal ≡ old.journal
same-journal old mid a = journal-through [] old mid a ∙ append-nil old.journal

pub same-room : (old mid : State) → Passed [] Through old mid → mid.room ≡ old.room
same-room old mid a = room-through [] old mid a ∙ none old.room
  where
    none : (n : ℕ) → n - 0 ≡ n
    none n = omega arith
