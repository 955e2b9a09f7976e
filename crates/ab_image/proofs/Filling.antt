-- Writing a range of the disk, piece by piece.
use Rattle.std.proofs.Common.{◌≡◌, inl, inr, ⊎_elim, ℕ, ◌+◌, ◌-◌, ◌<◌, ◌≤◌, true, List, ◌++◌, length, take, drop, get_or, refl, sym, ◌∙◌, ap, subst, take-add, arith, rules}
use Rattle.std.specs.Prelude.{Option, Some, None, option_map, Result}
use Rattle.std.proofs.lemmas.Bool.{cases_lt}
use Rattle.std.proofs.lemmas.List.{ext_get_or, places, length-take, length-drop, length-take-le}
use Rattle.io_model.specs.Source.{Tree, Content, When, bytes_at, IsLength, IsPart}
use Rattle.io_model.specs.Source.Content.{Told, Untold}
use Rattle.manifest_sums.specs.Message.{Has}
use Rattle.manifest_sums.specs.declared.sum.Summing.{Summing}
use Rattle.device_model.specs.declared.calls.Down.{Down}
use Rattle.device_model.specs.declared.calls.Down.TheVariants.{Off, Fault}
use Rattle.device_model.specs.Disk.{Disk, IsApart, WhereTold, IsWhole, overwritten, written}
use Rattle.device_model.specs.How.{how_of as down_how}
use Rattle.device_model.proofs.Refilled.{refilled_trans, refilled_wider, length-overwritten, overwritten_before, overwritten_inside}
use Rattle.ab_image.specs.declared.report.AbAct.{AbAct}
use Rattle.ab_image.specs.declared.report.AbAct.TheVariants as answer
use Rattle.ab_image.specs.Blocks.{Medium, IsMedium, EndsWrite, EndsAs}
use Rattle.ab_image.specs.Parts.{Touches}
use Rattle.ab_image.specs.Answers.{how_of, stopped_by}
use Rattle.ab_image.specs.Taking.{Spares, HasFront}
use Rattle.ab_image.proofs.Steps.{failed, went, write-ends, write-told, write-touches, ends-then, told-then}

-- ---- what is touched

pub touches-then : (kept : ℕ → Type 0) (a b c : Option Disk) → Touches kept a b → Touches kept b c → Touches kept a c
touches-then kept a b c h k area held =
    let last = k area held in
    let first = h last.0 last.1 in
    (first.0, first.1, refilled_trans kept first.0 last.0 area first.2 last.2)

pub touches-wider : (kept less : ℕ → Type 0) (a b : Option Disk) → ((i : ℕ) → less i → kept i) → Touches kept a b → Touches less a b
touches-wider kept less a b wider h area held =
    let last = h area held in
    (last.0, last.1, refilled_wider kept less last.0 area wider last.2)

-- apart from a range is apart from each part of it
pub apart-within : (at count from some : ℕ) → at ≤ from → from + some ≤ at + count → (i : ℕ) → IsApart at count i → IsApart from some i
apart-within at count from some le fits i out = ⊎_elim (λ (lt : i < at). inl (omega arith)) (λ (ge : at + count ≤ i). inr (omega arith)) out

-- ---- one part after another

pub spares-wider : (kept less : ℕ → Type 0) (r : AbAct) (old new : Medium) → ((i : ℕ) → less i → kept i) → Spares kept r old new → Spares less r old new
spares-wider kept less r old new wider s = record { ends = s.ends; touches = touches-wider kept less old.disk new.disk wider s.touches; told = s.told }

pub spares-then : (kept : ℕ → Type 0) (r : AbAct) (old mid new : Medium) → Spares kept answer.Done old mid → Spares kept r mid new → Spares kept r old new
spares-then kept r old mid new s t = record {
  ends = ends-then (how_of r) old mid new s.ends t.ends;
  touches = touches-then kept old.disk mid.disk new.disk s.touches t.touches;
  told = told-then old.disk mid.disk new.disk s.told t.told;
}

-- a part of a range after what was written in it
pub range-then : (at count from some : ℕ) (r : AbAct) (old mid new : Medium) → at ≤ from → from + some ≤ at + count → Spares (IsApart at count) answer.Done old mid → Spares (IsApart from some) r mid new → Spares (IsApart at count) r old new
range-then at count from some r old mid new le fits s t = spares-then (IsApart at count) r old mid new s (spares-wider (IsApart from some) (IsApart at count) r mid new (apart-within at count from some le fits) t)

pub stop-ends : (T : Type 0) (e : Down) (old new : Medium) → EndsAs (down_how (failed T e)) old new → EndsAs (how_of (stopped_by e)) old new
stop-ends T Off old new h = h
stop-ends T Fault old new h = h

module _ (at count : ℕ) (bytes : List ℕ) (old new : Medium) (medium : IsMedium old) (on : old.on ≡ true) (fits : at + count ≤ old.size) (short : length bytes ≤ count) where
  touched : {T : Type 0} (r : Result T Down) → EndsWrite at bytes old r new → Touches (IsApart at count) old.disk new.disk
  touched r h = touches-wider (IsApart at (length bytes)) (IsApart at count) old.disk new.disk (apart-within at count at (length bytes) (omega arith) (omega arith)) (write-touches at bytes old r new (omega arith) medium.disk on h)

  pub range-written : (T : Type 0) (x : T) → EndsWrite at bytes old (went T x) new → Spares (IsApart at count) answer.Done old new
  range-written T x h = record {
    ends = write-ends at bytes old (went T x) new on h;
    touches = touched (went T x) h;
    told = write-told at bytes old (went T x) new on h;
  }

  pub range-stopped : (T : Type 0) (e : Down) → EndsWrite at bytes old (failed T e) new → Spares (IsApart at count) (stopped_by e) old new
  range-stopped T e h = record {
    ends = stop-ends T e old new (write-ends at bytes old (failed T e) new on h);
    touches = touched (failed T e) h;
    told = write-told at bytes old (failed T e) new on h;
  }

-- ---- the bytes of a file

-- so many bytes of the file, where it is told
pub piece-part : (c : Content) (i at n : ℕ) (into piece : List ℕ) → n ≤ length into → piece ≡ take n into → IsPart c i at (take n into) → When c (λ t. piece ≡ take n (drop at (bytes_at t i)))
piece-part (Untold m) i at n into piece fits e part = tt
piece-part (Told t) i at n into piece fits e part = e ∙ part ∙ ap (λ (k : ℕ). take k (drop at (bytes_at t i))) (length-take-le n into fits)

written-told : (at : ℕ) (bytes : List ℕ) (a b : Option Disk) → b ≡ option_map (written at bytes) a → WhereTold (λ d e. e.area ≡ overwritten at bytes d.area) a b
written-told at bytes None b e = subst (λ (x : Option Disk). WhereTold (λ d e. e.area ≡ overwritten at bytes d.area) None x) (sym e) tt
written-told at bytes (Some d) b e = subst (λ (x : Option Disk). WhereTold (λ d e. e.area ≡ overwritten at bytes d.area) (Some d) x) (sym e) refl

pub part-written : (T : Type 0) (x : T) (c : Content) (i at n to : ℕ) (piece : List ℕ) (old new : Medium) → EndsWrite to piece old (went T x) new
    → When c (λ t. piece ≡ take n (drop at (bytes_at t i))) → When c (λ t. WhereTold (λ d e. e.area ≡ overwritten to (take n (drop at (bytes_at t i))) d.area) old.disk new.disk)
part-written T x (Untold m) i at n to piece old new h e = tt
part-written T x (Told t) i at n to piece old new h e =
    subst (λ (bytes : List ℕ). WhereTold (λ d e. e.area ≡ overwritten to bytes d.area) old.disk new.disk) e (written-told to piece old.disk new.disk (ap (λ (m : Medium). m.disk) h.1))

-- the front of a range after its next piece
module _ (start at n : ℕ) (bytes d e : List ℕ) (room : start + (at + n) ≤ length d) (short : at + n ≤ length bytes) (h : take at (drop start d) ≡ take at bytes) (is : e ≡ overwritten (start + at) (take n (drop at bytes)) d) where
  abbrev piece : List ℕ
  piece = take n (drop at bytes)

  length-piece : length piece ≡ n
  length-piece = omega (arith, length-take n (drop at bytes), length-drop at bytes)

  fits : start + at + length piece ≤ length d
  fits = omega (arith, length-piece)

  front-at : (i : ℕ) → i < at → get_or e (start + i) 0 ≡ get_or bytes i 0
  front-at i lt =
      let left : get_or (take at (drop start d)) i 0 ≡ get_or d (start + i) 0 = search (rules, places) in
      let right : get_or (take at bytes) i 0 ≡ get_or bytes i 0 = search (rules, places) in
      ap (λ (l : List ℕ). get_or l (start + i) 0) is ∙ overwritten_before 0 (start + at) piece d fits (start + i) (omega arith) ∙ sym left ∙ ap (λ (l : List ℕ). get_or l i 0) h ∙ right

  piece-at : (k : ℕ) → k < n → get_or e (start + at + k) 0 ≡ get_or bytes (at + k) 0
  piece-at k lt =
      let right : get_or piece k 0 ≡ get_or bytes (at + k) 0 = search (rules, places) in
      ap (λ (l : List ℕ). get_or l (start + at + k) 0) is ∙ overwritten_inside 0 (start + at) piece d fits k (omega (arith, length-piece)) ∙ right

  area-then : take (at + n) (drop start e) ≡ take (at + n) bytes
  area-then =
      let same : length e ≡ length d = ap length is ∙ length-overwritten 0 (start + at) piece d fits in
      ext_get_or 0 _ _ (omega (arith, length-take (at + n) (drop start e), length-take (at + n) bytes, length-drop start e))
      (λ i lt.
      let inside : i < at + n = omega (arith, length-take (at + n) (drop start e), lt) in
      let left : get_or (take (at + n) (drop start e)) i 0 ≡ get_or e (start + i) 0 = search (rules, places) in
      let right : get_or (take (at + n) bytes) i 0 ≡ get_or bytes i 0 = search (rules, places) in
      left ∙ ⊎_elim
      (λ (before : i < at). front-at i before)
      (λ (ge : at ≤ i). ap (λ (k : ℕ). get_or e k 0) (omega arith) ∙ piece-at (i - at) (omega arith) ∙ ap (λ (k : ℕ). get_or bytes k 0) (omega arith))
      (cases_lt i at) ∙ sym right)

disk-then : (start at n size : ℕ) (bytes : List ℕ) (a b : Option Disk) → IsWhole size a → start + (at + n) ≤ size → at + n ≤ length bytes → HasFront a start at bytes → WhereTold (λ d e. e.area ≡ overwritten (start + at) (take n (drop at bytes)) d.area) a b → HasFront b start (at + n) bytes
disk-then start at n size bytes None None w room short h is = tt
disk-then start at n size bytes None (Some e) w room short h is = absurd is
disk-then start at n size bytes (Some d) None w room short h is = absurd is
disk-then start at n size bytes (Some d) (Some e) w room short h is = area-then start at n bytes d.area e.area (omega (arith, w.size)) short h is

pub front-then : (c : Content) (i start at n size : ℕ) (a b : Option Disk) → IsWhole size a → start + (at + n) ≤ size → When c (λ t. at + n ≤ length (bytes_at t i))
    → When c (λ t. HasFront a start at (bytes_at t i)) → When c (λ t. WhereTold (λ d e. e.area ≡ overwritten (start + at) (take n (drop at (bytes_at t i))) d.area) a b) → When c (λ t. HasFront b start (at + n) (bytes_at t i))
front-then (Untold m) i start at n size a b w room short h is = tt
front-then (Told t) i start at n size a b w room short h is = disk-then start at n size (bytes_at t i) a b w room short h is

-- a sum of the file's first bytes, after the next bytes
pub sum-next : (c : Content) (i at n : ℕ) (bytes : List ℕ) (old new : Summing) → When c (λ t. bytes ≡ take n (drop at (bytes_at t i))) → ((message : List ℕ) → Has old message → Has new (message ++ bytes)) → When c (λ t. Has old (take at (bytes_at t i)) → Has new (take (at + n) (bytes_at t i)))
sum-next (Untold m) i at n bytes old new e step = tt
sum-next (Told t) i at n bytes old new e step = λ h.
    subst (λ (m : List ℕ). Has new m) (ap (λ (ys : List ℕ). take at (bytes_at t i) ++ ys) e ∙ sym (take-add at n (bytes_at t i))) (step (take at (bytes_at t i)) h)

pub when-next : (c : Content) (P Q : Tree → Type 0) → When c (λ t. P t → Q t) → When c P → When c Q
when-next (Untold m) P Q f h = tt
when-next (Told t) P Q f h = f h

pub when-map : (c : Content) (P Q : Tree → Type 0) → ((t : Tree) → P t → Q t) → When c P → When c Q
when-map (Untold m) P Q f h = tt
when-map (Told t) P Q f h = f t h

-- a length, where the files are told
pub length-told : (c : Content) (i n : ℕ) → IsLength c i n → When c (λ t. n ≡ length (bytes_at t i))
length-told (Untold m) i n h = tt
length-told (Told t) i n h = h
