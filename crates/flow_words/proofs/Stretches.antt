-- Stretches in a row.
use Rattle.std.proofs.Common.{◌≡◌, Bool, true, false, List, [], ◌∷◌, ◌++◌, refl, sym, ◌∙◌, subst}
use Rattle.std.specs.Prelude.{Option, MatchBool}
use Rattle.device_model.specs.declared.calls.Event.{Event}
use Rattle.device_model.specs.declared.calls.Event.TheVariants.{Start, End}
use Rattle.device_model.specs.declared.calls.Answer.{Answer}
use Rattle.device_model.specs.declared.calls.Call.{Call}
use Rattle.device_model.specs.Disk.{Disk, KeepsDisk, IsSettled}
use Rattle.device_model.specs.State.{State, AfterChild, LosesPower, LosesStarted, with_events}
use Rattle.device_model.specs.How.{How, Through, PowerLost, has_start}
use Rattle.device_model.proofs.Passes.{passed-none, passed-then, passed-lost, passed-started, passed-child, passed-quiet}
use Rattle.flow_words.specs.Stretch.{Stretch}

pub keeps-then : (old mid new : Option Disk) → KeepsDisk old mid → KeepsDisk mid new → KeepsDisk old new
keeps-then old mid new a b = record {
  adds = λ area h. a.adds area (b.adds area h);
  settled = λ s. let e : mid ≡ old = a.settled s in b.settled (subst IsSettled (sym e) s) ∙ e;
}

keeps-same : (disk : Option Disk) → KeepsDisk disk disk
keeps-same disk = record { adds = λ area h. h; settled = λ s. refl }

-- nothing happened
pub stretch-none : (state : State) → state.on ≡ true → Stretch [] Through state state
stretch-none state on = record { passed = passed-none state on; disk = keeps-same state.disk }

-- one stretch that went through, and another
pub stretch-then : (u v : List Event) (how : How) (old mid new : State) → Stretch u Through old mid → Stretch v how mid new → Stretch (u ++ v) how old new
stretch-then u v how old mid new a b = record { passed = passed-then u v how old mid new a.passed b.passed; disk = keeps-then old.disk mid.disk new.disk a.disk b.disk }

-- ---- one call

pub off-lost : (L E : Type 0) (on : Bool) → on ≡ true → MatchBool on L E → L
off-lost L E true e h = h
off-lost L E false e h = absurd cc

-- power was lost before a call
pub stretch-lost : (old new : State) → LosesPower 0 0 old new → KeepsDisk old.disk new.disk → Stretch [] PowerLost old new
stretch-lost old new l k = record { passed = passed-lost old new l; disk = k }

-- power was lost once a child was started
pub stretch-started : (c : Call) (old new : State) → LosesStarted c old new → KeepsDisk old.disk new.disk → Stretch (Start c ∷ []) PowerLost old new
stretch-started c old new l k = record { passed = passed-started c old new l; disk = k }

-- a child ended
pub stretch-child : (c : Call) (a : Answer) (old new : State) → old.on ≡ true → AfterChild (Start c ∷ End a ∷ []) old new → KeepsDisk old.disk new.disk → Stretch (Start c ∷ End a ∷ []) Through old new
stretch-child c a old new on h k = record { passed = passed-child c a old new on h; disk = k }

-- an event that starts nothing was added
pub stretch-quiet : (e : Event) (old new : State) → has_start (e ∷ []) ≡ false → old.on ≡ true → new ≡ with_events (e ∷ []) old → KeepsDisk old.disk new.disk → Stretch (e ∷ []) Through old new
stretch-quiet e old new quiet on h k = record { passed = passed-quiet e old new quiet on h; disk = k }
