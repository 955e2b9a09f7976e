-- A place in memory, and what each of its calls answers and leaves, exactly.
use Rattle.std.specs.Prelude.{◌≡◌, ◌≢◌, ⊤, ℕ, ◌+◌, nat_le, Bool, true, false, List, [], length, if◌then◌else◌, Option, Some, None, Result, IsOk, IsErrOf, MatchBool}
use Rattle.std.specs.Option.{option_map_or}
use Rattle.upd_text.specs.Counts.{counted}
use Rattle.device_model.specs.declared.calls.Down.{Down}
use Rattle.device_model.specs.declared.calls.Down.TheVariants.{Off, Fault}
use Rattle.device_mem.specs.declared.script.LossAt.{LossAt}
use Rattle.device_mem.specs.declared.script.Tear.{Tear}
use Rattle.device_mem.specs.declared.script.Tear.TheVariants.{Old, New, Byte}
use Rattle.device_mem.specs.declared.moment.Moment.{Moment}
use Rattle.device_mem.specs.declared.moment.Moment.TheVariants.{Fine, Fails, Loses}
use Rattle.device_mem.specs.Moment.{moment_at}
use Rattle.file_module.specs.declared.mem_place.Effect.{Effect}
use Rattle.file_module.specs.declared.mem_place.Effect.TheVariants.{Nothing, Start, Settle, Move, Remove}
use Rattle.file_module.specs.declared.place.Slot.TheVariants as Slot
use Rattle.file_module.specs.Contents.{Contents, with_append, with_start, with_settle, with_move, with_remove}
use Rattle.file_module.specs.Calls.{failed}

pub record MemShelf : Type 0 where
  pub place : Contents  -- what each place means
  pub room : ℕ  -- how many bytes each content may have
  pub losses : List LossAt
  pub failing : List ℕ
  pub calls : ℕ  -- that were made while it was on

-- a new place: it is on, and all is absent
abbrev pub empty_shelf : ℕ → List LossAt → List ℕ → MemShelf
empty_shelf room losses failing = record {
  place = record { on = true; told = true; regular = true; target = None; saved = None; fresh = None; settled = true; faults = 0; losses = 0 };
  room = room;
  losses = losses;
  failing = failing;
  calls = 0;
}

-- what the next call meets
abbrev pub next_moment : MemShelf → Moment
next_moment m = moment_at m.losses m.failing m.calls

abbrev pub called : MemShelf → MemShelf
called m = record m { calls = counted m.calls }

-- this is done to the place
abbrev pub with_place : (Contents → Contents) → MemShelf → MemShelf
with_place change m = record m { place = change m.place }

-- what a call does, where it is done
abbrev pub with_effect : Effect → Contents → Contents
with_effect Nothing m = m
with_effect Start m = with_start m
with_effect Settle m = with_settle m
with_effect (Move slot) m = with_move slot m
with_effect (Remove slot) m = with_remove slot m

-- the fresh content moves into another slot
abbrev pub CanHappen : Effect → Type 0
CanHappen (Move slot) = slot ≢ Slot.Fresh
CanHappen _ = ⊤

-- what a loss makes of a fresh content that isn't settled
abbrev pub torn_fresh : Tear → Bool → Option (List ℕ) → Option (List ℕ)
torn_fresh tear true fresh = fresh
torn_fresh Old false fresh = None
torn_fresh New false fresh = fresh
torn_fresh (Byte byte) false fresh = Some []

-- what stands after a loss is settled
abbrev pub torn : Tear → Contents → Contents
torn tear m = record m { fresh = torn_fresh tear m.settled m.fresh; settled = true }

abbrev pub without_power : Contents → Contents
without_power m = record m { on = false; losses = counted m.losses }

abbrev pub lost : Tear → MemShelf → MemShelf
lost tear m = with_place (λ p. torn tear (without_power p)) m

abbrev pub ActsAt : {T : Type 0} → Moment → (MemShelf → MemShelf) → MemShelf → Result T Down → MemShelf → Type 0
ActsAt Fine done m result new = IsOk result × (new ≡ done m)
ActsAt Fails done m result new = IsErrOf result Fault × (new ≡ with_place failed m)
ActsAt (Loses loss) done m result new = IsErrOf result Off × (new ≡ lost loss.tear (if loss.before then m else done m))

-- While the place is on each call is counted, and meets what is planned for its number. One that is off stays as it is.
abbrev pub Acts : {T : Type 0} → (MemShelf → MemShelf) → MemShelf → Result T Down → MemShelf → Type 0
Acts done old result new =
    MatchBool old.place.on
    (ActsAt (next_moment old) done (called old) result new)
    (IsErrOf result Off × (new ≡ old))

-- whether so many more bytes fit into the fresh content
abbrev pub fits : ℕ → MemShelf → Bool
fits count m = nat_le (option_map_or (λ bytes. length bytes) m.place.fresh 0 + count) m.room

-- bytes past the room aren't added
abbrev pub with_append_if : List ℕ → MemShelf → MemShelf
with_append_if bytes m = if fits (length bytes) m then with_place (with_append bytes) m else m

abbrev pub AppendsAt : {T : Type 0} → Moment → List ℕ → MemShelf → Result T Down → MemShelf → Type 0
AppendsAt Fine bytes m result new = MatchBool (fits (length bytes) m) (IsOk result × (new ≡ with_place (with_append bytes) m)) (IsErrOf result Fault × (new ≡ with_place failed m))
AppendsAt Fails bytes m result new = IsErrOf result Fault × (new ≡ with_place failed m)
AppendsAt (Loses loss) bytes m result new = IsErrOf result Off × (new ≡ lost loss.tear (if loss.before then m else with_append_if bytes m))

-- The same of an append, which fails too where the bytes don't fit.
abbrev pub Appends : {T : Type 0} → List ℕ → MemShelf → Result T Down → MemShelf → Type 0
Appends bytes old result new =
    MatchBool old.place.on
    (AppendsAt (next_moment old) bytes (called old) result new)
    (IsErrOf result Off × (new ≡ old))
