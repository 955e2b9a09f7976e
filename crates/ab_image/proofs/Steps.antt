-- What each call of blocks leaves, in the words of the steps.
use Rattle.std.proofs.Common.{◌≡◌, ℕ, ◌+◌, ◌≤◌, true, false, List, length, replicate, refl, sym, ◌∙◌, ap, subst}
use Rattle.std.specs.Prelude.{Option, Some, None, option_map, Result, Ok, Err, OnOk, MatchBool}
use Rattle.std.proofs.lemmas.List.{length-replicate}
use Rattle.upd_text.specs.Counts.{counted}
use Rattle.device_model.specs.declared.calls.Down.{Down}
use Rattle.device_model.specs.declared.calls.Down.TheVariants.{Off, Fault}
use Rattle.device_model.specs.Disk.{Disk, IsApart, WhereTold, IsSettled, IsWhole, MayHold, KeepsDisk, synced, written, overwritten, area_of}
use Rattle.device_model.specs.How.{How, Through, PowerLost, DiskFailed, how_of}
use Rattle.device_model.proofs.Writes.{done, lost, spoiled, went-off}
use Rattle.ab_image.specs.Blocks.{Medium, EndsRead, EndsWrite, EndsSync, LosesPower, Fails, EndsAs, after_write}
use Rattle.ab_image.specs.Parts.{Touches, BothTold, Calm, ReadsAsBefore, Sets}

-- ---- a disk that is told

pub told-any : (R : Disk → Disk → Type 0) (a b : Option Disk) → WhereTold R a b → BothTold a b
told-any R None None h = tt
told-any R None (Some n) h = absurd h
told-any R (Some o) None h = absurd h
told-any R (Some o) (Some n) h = tt

pub told-refl : (a : Option Disk) → BothTold a a
told-refl None = tt
told-refl (Some d) = tt

pub told-same : (a b : Option Disk) → b ≡ a → BothTold a b
told-same a b e = subst (λ (d : Option Disk). BothTold a d) (sym e) (told-refl a)

pub told-map : (f : Disk → Disk) (a b : Option Disk) → b ≡ option_map f a → BothTold a b
told-map f None b e = subst (λ (d : Option Disk). BothTold None d) (sym e) tt
told-map f (Some d) b e = subst (λ (x : Option Disk). BothTold (Some d) x) (sym e) tt

pub told-then : (a b c : Option Disk) → BothTold a b → BothTold b c → BothTold a c
told-then None None c h k = k
told-then None (Some n) c h k = absurd h
told-then (Some o) None c h k = absurd h
told-then (Some o) (Some n) c h k = k

-- ---- how calls end

same-ends : (old new : Medium) → old.on ≡ true → new ≡ old → EndsAs Through old new
same-ends old new on e = record { size = ap (λ (m : Medium). m.size) e; on = ap (λ (m : Medium). m.on) e ∙ on; losses = ap (λ (m : Medium). m.losses) e; faults = ap (λ (m : Medium). m.faults) e }

failed-ends : (old new : Medium) → old.on ≡ true → Fails old new → EndsAs DiskFailed old new
failed-ends old new on e = record { size = ap (λ (m : Medium). m.size) e; on = ap (λ (m : Medium). m.on) e ∙ on; losses = ap (λ (m : Medium). m.losses) e; faults = ap (λ (m : Medium). m.faults) e }

lost-ends : (at count : ℕ) (old new : Medium) → LosesPower at count old new → EndsAs PowerLost old new
lost-ends at count old new l = record { size = ap (λ (m : Medium). m.size) l.rest; on = ap (λ (m : Medium). m.on) l.rest; losses = ap (λ (m : Medium). m.losses) l.rest; faults = ap (λ (m : Medium). m.faults) l.rest }

pub ends-then : (how : How) (old mid new : Medium) → EndsAs Through old mid → EndsAs how mid new → EndsAs how old new
ends-then Through old mid new a b = record { size = b.size ∙ a.size; on = b.on; losses = b.losses ∙ a.losses; faults = b.faults ∙ a.faults }
ends-then PowerLost old mid new a b = record { size = b.size ∙ a.size; on = b.on; losses = b.losses ∙ ap counted a.losses; faults = b.faults ∙ a.faults }
ends-then DiskFailed old mid new a b = record { size = b.size ∙ a.size; on = b.on; losses = b.losses ∙ a.losses; faults = b.faults ∙ ap counted a.faults }

off-loses : (at count : ℕ) (old new : Medium) → old.on ≡ true → MatchBool old.on (LosesPower at count old new) (new ≡ old) → LosesPower at count old new
off-loses at count old new on h = went-off old.on (LosesPower at count old new) (new ≡ old) on h

pub write-ends : {T : Type 0} (at : ℕ) (bytes : List ℕ) (old : Medium) (r : Result T Down) (new : Medium) → old.on ≡ true → EndsWrite at bytes old r new → EndsAs (how_of r) old new
write-ends at bytes old (Ok x) new on h = record { size = ap (λ (m : Medium). m.size) h.1; on = ap (λ (m : Medium). m.on) h.1 ∙ on; losses = ap (λ (m : Medium). m.losses) h.1; faults = ap (λ (m : Medium). m.faults) h.1 }
write-ends at bytes old (Err Fault) new on h = record { size = ap (λ (m : Medium). m.size) h.1.rest; on = ap (λ (m : Medium). m.on) h.1.rest ∙ on; losses = ap (λ (m : Medium). m.losses) h.1.rest; faults = ap (λ (m : Medium). m.faults) h.1.rest }
write-ends at bytes old (Err Off) new on h = lost-ends at (length bytes) old new (off-loses at (length bytes) old new on h)

pub write-told : {T : Type 0} (at : ℕ) (bytes : List ℕ) (old : Medium) (r : Result T Down) (new : Medium) → old.on ≡ true → EndsWrite at bytes old r new → BothTold old.disk new.disk
write-told at bytes old (Ok x) new on h = told-map (written at bytes) old.disk new.disk (ap (λ (m : Medium). m.disk) h.1)
write-told at bytes old (Err Fault) new on h = told-any _ old.disk new.disk h.1.disk
write-told at bytes old (Err Off) new on h = told-any _ old.disk new.disk (off-loses at (length bytes) old new on h).disk

-- a write to blocks that are on changes only its range
pub write-touches : {T : Type 0} (at : ℕ) (bytes : List ℕ) (old : Medium) (r : Result T Down) (new : Medium) → at + length bytes ≤ old.size → IsWhole old.size old.disk → old.on ≡ true → EndsWrite at bytes old r new → Touches (IsApart at (length bytes)) old.disk new.disk
write-touches at bytes old (Ok x) new fits w on h area held = done old.size at bytes fits old.disk w area (subst (λ (d : Option Disk). MayHold d area) (ap (λ (m : Medium). m.disk) h.1) held)
write-touches at bytes old (Err Fault) new fits w on h area held = spoiled old.size at (length bytes) fits old.disk new.disk w h.1.disk area held
write-touches at bytes old (Err Off) new fits w on h area held = lost old.size at (length bytes) fits old.disk new.disk w (off-loses at (length bytes) old new on h).disk area held

-- ---- calls that write nothing

pub calm-read : {T : Type 0} (old : Medium) (r : Result T Down) (new : Medium) → old.on ≡ true → EndsRead old r new → KeepsDisk old.disk new.disk → Calm old r new
calm-read old (Ok x) new on h k = record { ends = same-ends old new on h.1; keeps = k; told = told-same old.disk new.disk (ap (λ (m : Medium). m.disk) h.1); area = ap (λ (m : Medium). area_of m.disk) h.1 }
calm-read old (Err Fault) new on h k = record { ends = failed-ends old new on h.1; keeps = k; told = told-same old.disk new.disk (ap (λ (m : Medium). m.disk) h.1); area = ap (λ (m : Medium). area_of m.disk) h.1 }
calm-read old (Err Off) new on h k = let l = off-loses 0 0 old new on h in record { ends = lost-ends 0 0 old new l; keeps = k; told = told-any _ old.disk new.disk l.disk; area = tt }

area-synced : (d : Option Disk) → area_of (option_map synced d) ≡ area_of d
area-synced None = refl
area-synced (Some d) = refl

pub calm-sync : {T : Type 0} (old : Medium) (r : Result T Down) (new : Medium) → old.on ≡ true → EndsSync old r new → KeepsDisk old.disk new.disk → Calm old r new
calm-sync old (Ok x) new on h k = record {
  ends = record { size = ap (λ (m : Medium). m.size) h.1; on = ap (λ (m : Medium). m.on) h.1 ∙ on; losses = ap (λ (m : Medium). m.losses) h.1; faults = ap (λ (m : Medium). m.faults) h.1 };
  keeps = k;
  told = told-map synced old.disk new.disk (ap (λ (m : Medium). m.disk) h.1);
  area = ap (λ (m : Medium). area_of m.disk) h.1 ∙ area-synced old.disk;
}
calm-sync old (Err Fault) new on h k = record { ends = failed-ends old new on h.1; keeps = k; told = told-same old.disk new.disk (ap (λ (m : Medium). m.disk) h.1); area = ap (λ (m : Medium). area_of m.disk) h.1 }
calm-sync old (Err Off) new on h k = let l = off-loses 0 0 old new on h in record { ends = lost-ends 0 0 old new l; keeps = k; told = told-any _ old.disk new.disk l.disk; area = tt }

settled-synced : (d : Option Disk) → IsSettled (option_map synced d)
settled-synced None = tt
settled-synced (Some d) = sym (ap (λ (n : ℕ). replicate n false) (length-replicate (length d.unsynced) false))

pub sync-settles : {T : Type 0} (old : Medium) (r : Result T Down) (new : Medium) → EndsSync old r new → OnOk r (IsSettled new.disk)
sync-settles old (Ok x) new h = subst IsSettled (sym (ap (λ (m : Medium). m.disk) h.1)) (settled-synced old.disk)
sync-settles old (Err e) new h = tt

abbrev pub failed : (T : Type 0) → Down → Result T Down
failed T e = Err e

abbrev pub went : (T : Type 0) → T → Result T Down
went T x = Ok x

-- an answer of another type
pub ends-err : (S T : Type 0) (e : Down) (old new : Medium) → EndsAs (how_of (failed S e)) old new → EndsAs (how_of (failed T e)) old new
ends-err S T Off old new h = h
ends-err S T Fault old new h = h

reads-err : (S T : Type 0) (e : Down) (old new : Medium) → ReadsAsBefore {T = S} (Err e) old new → ReadsAsBefore {T = T} (Err e) old new
reads-err S T Off old new h = tt
reads-err S T Fault old new h = h

-- an answer of another type
pub calm-err : (S T : Type 0) (old : Medium) (e : Down) (new : Medium) → Calm {T = S} old (Err e) new → Calm {T = T} old (Err e) new
calm-err S T old e new c = record { ends = ends-err S T e old new c.ends; keeps = c.keeps; told = c.told; area = reads-err S T e old new c.area }

pub calm-ok : {S T : Type 0} (old : Medium) (x : S) (y : T) (new : Medium) → Calm old (Ok x) new → Calm {T = T} old (Ok y) new
calm-ok old x y new c = record { ends = c.ends; keeps = c.keeps; told = c.told; area = c.area }

reads-then : {T : Type 0} (old mid : Medium) (r : Result T Down) (new : Medium) → area_of mid.disk ≡ area_of old.disk → ReadsAsBefore r mid new → ReadsAsBefore r old new
reads-then old mid (Ok x) new first second = second ∙ first
reads-then old mid (Err Off) new first second = tt
reads-then old mid (Err Fault) new first second = second ∙ first

pub calm-then : {S T : Type 0} (old : Medium) (x : S) (mid : Medium) (r : Result T Down) (new : Medium) → Calm old (Ok x) mid → Calm mid r new → Calm old r new
calm-then old x mid r new first second = record {
  ends = ends-then (how_of r) old mid new first.ends second.ends;
  keeps = record {
    adds = λ area held. first.keeps.adds area (second.keeps.adds area held);
    settled = λ s. let same = first.keeps.settled s in second.keeps.settled (subst IsSettled (sym same) s) ∙ same;
  };
  told = told-then old.disk mid.disk new.disk first.told second.told;
  area = reads-then old mid r new first.area second.area;
}

area-written : (at : ℕ) (bytes : List ℕ) (a b : Option Disk) → b ≡ option_map synced (option_map (written at bytes) a) → WhereTold (λ d e. e.area ≡ overwritten at bytes d.area) a b
area-written at bytes None b e = subst (λ (x : Option Disk). WhereTold (λ d e. e.area ≡ overwritten at bytes d.area) None x) (sym e) tt
area-written at bytes (Some d) b e = subst (λ (x : Option Disk). WhereTold (λ d e. e.area ≡ overwritten at bytes d.area) (Some d) x) (sym e) refl

-- ---- bytes that are to stand

pub sets-failed : (S : Type 0) (at : ℕ) (bytes : List ℕ) (old : Medium) (e : Down) (new : Medium) → at + length bytes ≤ old.size → IsWhole old.size old.disk → old.on ≡ true → EndsWrite at bytes old (failed S e) new → Sets at bytes old (Err e) new
sets-failed S at bytes old e new fits w on h = record {
  ends = ends-err S (Unit {0}) e old new (write-ends at bytes old (failed S e) new on h);
  touches = write-touches at bytes old (failed S e) new fits w on h;
  told = write-told at bytes old (failed S e) new on h;
  settled = tt;
  area = tt;
}

sets-area : {T : Type 0} (at : ℕ) (bytes : List ℕ) (old mid : Medium) (r : Result T Down) (new : Medium) → mid ≡ after_write at bytes old → EndsSync mid r new → OnOk r (WhereTold (λ d e. e.area ≡ overwritten at bytes d.area) old.disk new.disk)
sets-area at bytes old mid (Ok x) new e h = area-written at bytes old.disk new.disk (ap (λ (m : Medium). m.disk) h.1 ∙ ap (λ (m : Medium). option_map synced m.disk) e)
sets-area at bytes old mid (Err d) new e h = tt

pub sets-then : (S : Type 0) (at : ℕ) (bytes : List ℕ) (x : S) (old mid : Medium) (r : Result (Unit {0}) Down) (new : Medium) → at + length bytes ≤ old.size → IsWhole old.size old.disk
    → old.on ≡ true → EndsWrite at bytes old (went S x) mid → EndsSync mid r new → KeepsDisk mid.disk new.disk → Sets at bytes old r new
sets-then S at bytes x old mid r new fits w on h s k =
    let first = write-ends at bytes old (went S x) mid on h in
    let calm = calm-sync mid r new first.on s k in
    record {
      ends = ends-then (how_of r) old mid new first calm.ends;
      touches = λ area held. write-touches at bytes old (went S x) mid fits w on h area (k.adds area held);
      told = told-then old.disk mid.disk new.disk (write-told at bytes old (went S x) mid on h) calm.told;
      settled = sync-settles mid r new s;
      area = sets-area at bytes old mid r new h.1 s;
    }
