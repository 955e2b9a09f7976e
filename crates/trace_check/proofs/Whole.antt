-- Texts that are read to their end, or up to a line that no note goes on with.
use Rattle.std.proofs.Common.{◌≡◌, ℕ, zero, suc, ◌+◌, ◌<◌, ◌≤◌, Bool, true, false, List, [], ◌∷◌, ◌++◌, length, map, get_or, refl, sym, ap, ◌∙◌, subst, arith, append_assoc, append-nil, length-append}
use Rattle.std.specs.Prelude.{◌==◌, ◌&&◌, ◌||◌, not, nat_le, Option, Some, None, Result, Ok, Err}
use Rattle.std.specs.List.{flat_map, list_all, All, AllByRecursion}
use Rattle.std.specs.Option.{option_and_then}
use Rattle.std.specs.Result.{IsErrAnd}
use Rattle.std.proofs.lemmas.Bool.{le-leb}
use Rattle.std.proofs.lemmas.Bool.Decides.{Decides-eqb}
use Rattle.std.proofs.lemmas.Grind.{flat_map-append}
use Rattle.upd_text.proofs.OrderLemmas.{all_push}
use Rattle.flow_table.specs.Valid.{is_valid}
use Rattle.flow_table.specs.declared.table.TheConstants.{MOST_KINDS}
use Rattle.event_text.specs.Lines.{line}
use Rattle.trace_check.specs.declared.note.Note.{Note}
use Rattle.trace_check.specs.declared.note.NoteEnd.{NoteEnd}
use Rattle.trace_check.specs.declared.note.NoteEnd.TheVariants as noted_end
use Rattle.trace_check.specs.declared.note.NoteHead.{NoteHead}
use Rattle.trace_check.specs.declared.notes.ReadFault.{ReadFault}
use Rattle.trace_check.specs.declared.notes.ReadFault.TheVariants.{BadLine, NoMemory}
use Rattle.trace_check.specs.declared.stage.Stage.{Stage}
use Rattle.trace_check.specs.declared.stage.Stage.TheVariants.{Between, Booted, Open}
use Rattle.trace_check.specs.Form.{is_empty, nowhere, is_place, is_noted, lists_fit}
use Rattle.trace_check.specs.Texts.{boot_line, from_line, end_line, start_text, lists_text, text_of, texts_of}
use Rattle.trace_check.specs.Lines.{lacks}
use Rattle.trace_check.specs.Stages.{Reading, step, run}
use Rattle.trace_check.specs.Reads.{IsRight, IsFront, AreRead, IsBadLine, wrong, unfinished, newlines, Reads}
use Rattle.trace_check.proofs.Same.{both-parts, and-made}
use Rattle.trace_check.proofs.Sounds.{then-is}
use Rattle.trace_check.proofs.Lined.{ended, unlines, AreLineTexts, cut-lines, newlines-none, newlines-lines, are-lines}
use Rattle.trace_check.proofs.Retold.{Lists, lists-are, plain, note_lines, then-run, notes-run}
use Rattle.trace_check.proofs.Cutting.{notes-text, notes-lines, both-lines}
use Rattle.trace_check.proofs.Onward.{IsStage, stage_text, one-more, no-scripts}
use Rattle.trace_check.proofs.Standing.{ends-right, end-joins, steps-are}

-- ---- line after line

pub record Ran (r : Reading) (lines : List (List ℕ)) (new : Reading) : Type 0 where
  pub stage : IsStage new.0
  pub notes : AllByRecursion IsRight new.1
  pub is : texts_of r.1 ++ (stage_text r.0 ++ unlines lines) ≡ texts_of new.1 ++ stage_text new.0

regroup : (t s l u : List ℕ) → t ++ (s ++ (l ++ u)) ≡ (t ++ (s ++ l)) ++ u
regroup t s l u = ap (λ (a : List ℕ). t ++ a) (sym (append_assoc s l u)) ∙ sym (append_assoc t (s ++ l) u)

some-same : {A : Type 0} (x y : A) → ◌≡◌ {A = Option A} (Some x) (Some y) → x ≡ y
some-same x y is = cc

run-is : (r : Reading) (lines : List (List ℕ)) (new : Reading) → IsStage r.0 → AllByRecursion IsRight r.1 → run r lines ≡ Some new → Ran r lines new
run-is r [] new stands right is =
    subst (Ran r []) (some-same r new is) (record { stage = stands; notes = right; is = ap (λ (l : List ℕ). texts_of r.1 ++ l) (append-nil (stage_text r.0)) })
run-is r (text ∷ lines) new stands right is =
    let s = then-is {A = Reading} _ (step r.0 r.1 text) new is in
    let one = steps-are r.0 r.1 text s.0 stands right s.1 in
    let rest = run-is s.0 lines new one.stage one.notes_right s.2 in
    record {
      stage = rest.stage;
      notes = rest.notes;
      is =
          regroup (texts_of r.1) (stage_text r.0) (ended text) (unlines lines) ∙ ap (λ (l : List ℕ). l ++ unlines lines) one.is
          ∙ append_assoc (texts_of s.0.1) (stage_text s.0.0) (unlines lines) ∙ rest.is;
    }

-- ---- what was read is a front of notes

or-right : (a b : Bool) → b ≡ true → (a || b) ≡ true
or-right true b h = refl
or-right false b h = h

place-nowhere : is_place nowhere ≡ true
place-nowhere = or-right (is_valid nowhere) true refl

empty-is : {A : Type 0} (xs : List A) → length xs ≡ 0 → is_empty xs ≡ true
empty-is [] h = refl
empty-is (x ∷ xs) h = absurd (omega (arith, h))

none-behind : (m n : ℕ) → (0 < m → 0 < n) → n ≡ 0 → m ≡ 0
none-behind zero n h none = refl
none-behind (suc m) n h none = let any = h (omega arith) in absurd (omega (arith, any, none))

some-end : (head : NoteHead) → Lists head → (e : NoteEnd) × (lists_fit head e ≡ true)
some-end head lists = by (length head.kinds == 0) refl where
  by : (t : Bool) → (length head.kinds == 0) ≡ t → (e : NoteEnd) × (lists_fit head e ≡ true)
  by true none =
      let k : length head.kinds ≡ 0 = (Decides-eqb (length head.kinds) 0).0 none in
      let s = lists.scripts in
      let o = lists.site in (
        noted_end.Nothing,
        and-made (is_empty head.kinds) (is_empty head.scripts && is_empty head.site) (empty-is head.kinds k)
            (and-made (is_empty head.scripts) (is_empty head.site) (empty-is head.scripts (none-behind (length head.scripts) (length head.kinds) s k)) (empty-is head.site (none-behind (length head.site) (length head.kinds) o k))),
      )
  by false some =
      let k : length head.kinds ≡ 0 → ⊥ = (λ h. let t = (Decides-eqb (length head.kinds) 0).1 h in cc) in
      (noted_end.Halted, and-made (nat_le 1 (length head.kinds)) (nat_le (length head.kinds) 8) (le-leb 1 (length head.kinds) (omega (arith, k))) (le-leb (length head.kinds) 8 lists.few))

front : (s : Stage) (notes : List Note) → IsStage s → AllByRecursion IsRight notes → IsFront (texts_of notes ++ stage_text s)
front Between notes stands right = record { notes = notes; are_notes = right; more = []; is = sym (append-nil (texts_of notes ++ []) ∙ append-nil (texts_of notes)) }
front (Booted d) notes stands right =
    let n : Note = record { head = record { deed = d; from = nowhere; kinds = []; scripts = []; site = [] }; events = record { events = []; room = 0 }; end = noted_end.Nothing } in
    record {
      notes = notes ++ n ∷ [];
      are_notes = all_push IsRight notes n right (record { count = omega arith; kinds = tt; scripts = no-scripts; site = no-scripts; events = tt; is_note = and-made (is_place nowhere) true place-nowhere refl });
      more = from_line nowhere ++ end_line noted_end.Nothing;
      is =
          one-more text_of notes n ∙ ap (λ (l : List ℕ). texts_of notes ++ l) (append_assoc (boot_line d) (from_line nowhere) (end_line noted_end.Nothing))
          ∙ sym (append_assoc (texts_of notes) (boot_line d) (from_line nowhere ++ end_line noted_end.Nothing));
    }
front (Open head events) notes stands right =
    let e = some-end head stands.lists in
    let n : Note = record { head = head; events = events; end = e.0 } in
    record {
      notes = notes ++ n ∷ [];
      are_notes = all_push IsRight notes n right (ends-right head events e.0 stands e.1);
      more = end_line e.0;
      is =
          one-more text_of notes n ∙ sym (end-joins (texts_of notes) (start_text head) (lists_text head) (flat_map line events.events) (end_line e.0))
          ∙ sym (append_assoc (texts_of notes) (stage_text (Open head events)) (end_line e.0));
    }

-- ---- so far

pub record SoFar (text : List ℕ) (r : Reading) (rest : List ℕ) (k : ℕ) : Type 0 where
  pub lines : List (List ℕ)
  pub are : AreLineTexts lines
  pub is : text ≡ unlines lines ++ rest
  pub number : length lines + 1 ≡ k
  pub ran : run (Between, []) lines ≡ Some r

pub begins : (text : List ℕ) → SoFar text (Between, []) text 1
begins text = record { lines = []; are = tt; is = refl; number = refl; ran = refl }

last-line : (lines : List (List ℕ)) (l : List ℕ) → unlines (lines ++ l ∷ []) ≡ unlines lines ++ (l ++ 10 ∷ [])
last-line lines l = flat_map-append ended lines (l ∷ []) ∙ ap (λ (a : List ℕ). unlines lines ++ a) (append-nil (ended l))

pub goes-on : (text : List ℕ) (r : Reading) (rest l more : List ℕ) (k : ℕ) (new : Reading) → SoFar text r rest k → rest ≡ l ++ 10 ∷ more → lacks 10 l ≡ true → step r.0 r.1 l ≡ Some new → SoFar text new more (k + 1)
goes-on text r rest l more k new so cut lack is = record {
  lines = so.lines ++ l ∷ [];
  are = both-lines so.lines (l ∷ []) so.are (lack, tt);
  is =
      so.is ∙ ap (λ (a : List ℕ). unlines so.lines ++ a) (cut ∙ sym (append_assoc l (10 ∷ []) more)) ∙ sym (append_assoc (unlines so.lines) (ended l) more)
      ∙ ap (λ (a : List ℕ). a ++ more) (sym (last-line so.lines l));
  number = let n = so.number in let long = length-append so.lines (l ∷ []) in omega (arith, n, long);
  ran = then-run (Between, []) r so.lines (l ∷ []) so.ran ∙ ap (option_and_then (λ (s : Reading). run s [])) is;
}

pub lines-are : (text : List ℕ) (r : Reading) (rest : List ℕ) (k : ℕ) (so : SoFar text r rest k) → Ran (Between, []) so.lines r
lines-are text r rest k so = run-is (Between, []) so.lines r tt tt so.ran

pub reads-all : (text : List ℕ) (notes : List Note) (rest : List ℕ) (k : ℕ) → SoFar text (Between, notes) rest k → rest ≡ [] → AreRead text notes
reads-all text notes rest k so none =
    let ran = lines-are text (Between, notes) rest k so in
    record { are_notes = ran.notes; is = so.is ∙ ap (λ (l : List ℕ). unlines so.lines ++ l) none ∙ append-nil (unlines so.lines) ∙ ran.is ∙ append-nil (texts_of notes) }

front-so : (text : List ℕ) (r : Reading) (rest : List ℕ) (k : ℕ) (so : SoFar text r rest k) → IsFront (unlines so.lines)
front-so text r rest k so = let ran = lines-are text r rest k so in subst IsFront (sym ran.is) (front r.0 r.1 ran.stage ran.notes)

counted : (text : List ℕ) (r : Reading) (rest : List ℕ) (k : ℕ) (so : SoFar text r rest k) → newlines (unlines so.lines) + 1 ≡ k
counted text r rest k so = let n = newlines-lines so.lines so.are in let m = so.number in omega (arith, n, m)

none-some : {A : Type 0} (x : A) → ◌≡◌ {A = Option A} None (Some x) → ⊥
none-some x e = cc

not-front : (text : List ℕ) (r : Reading) (rest l : List ℕ) (k : ℕ) (so : SoFar text r rest k) → lacks 10 l ≡ true → step r.0 r.1 l ≡ None → IsFront (unlines so.lines ++ (l ++ 10 ∷ [])) → ⊥
not-front text r rest l k so lack none f =
    let ms = flat_map note_lines f.notes in
    let same : unlines ms ≡ unlines (so.lines ++ l ∷ []) ++ f.more = notes-text f.notes ∙ f.is ∙ ap (λ (a : List ℕ). a ++ f.more) (sym (last-line so.lines l)) in
    let c = cut-lines ms (so.lines ++ l ∷ []) f.more (notes-lines f.notes f.are_notes) (both-lines so.lines (l ∷ []) so.are (lack, tt)) same in
    let whole : run (Between, []) ms ≡ Some (Between, [] ++ map plain f.notes) = notes-run f.notes [] f.are_notes in
    let cut : run (Between, []) ms ≡ None =
    ap (run (Between, [])) (c.is ∙ append_assoc so.lines (l ∷ []) c.more) ∙ then-run (Between, []) r so.lines (l ∷ c.more) so.ran ∙ ap (option_and_then (λ (s : Reading). run s c.more)) none in
    none-some (Between, [] ++ map plain f.notes) (sym cut ∙ whole)

pub reads-wrong : (text : List ℕ) (r : Reading) (rest l more : List ℕ) (k : ℕ) → SoFar text r rest k → rest ≡ l ++ 10 ∷ more → lacks 10 l ≡ true → step r.0 r.1 l ≡ None → IsBadLine text k
reads-wrong text r rest l more k so cut lack none =
    wrong (unlines so.lines) l more (so.is ∙ ap (λ (a : List ℕ). unlines so.lines ++ a) cut) (newlines-none l lack) (counted text r rest k so) (are-lines so.lines) (front-so text r rest k so) (not-front text r rest l k so lack none)

marked : (l : List ℕ) (rest : List ℕ) → lacks 10 (ended l ++ rest) ≡ true → ⊥
marked [] rest h = cc
marked (b ∷ l) rest h = marked l rest (both-parts (not (b == 10)) (lacks 10 (ended l ++ rest)) h).1

no-lines : (lines : List (List ℕ)) (rest : List ℕ) → rest ≡ unlines lines → lacks 10 rest ≡ true → lines ≡ []
no-lines [] rest is lack = refl
no-lines (l ∷ lines) rest is lack = absurd (marked l (unlines lines) (ap (lacks 10) (sym is) ∙ lack))

not-read : (text : List ℕ) (r : Reading) (rest : List ℕ) (k : ℕ) (so : SoFar text r rest k) → lacks 10 rest ≡ true → (r.0 ≡ Between → rest ≡ [] → ⊥) → (notes : List Note) → AreRead text notes → ⊥
not-read text r rest k so lack other notes read =
    let ms = flat_map note_lines notes in
    let same : unlines ms ≡ unlines so.lines ++ rest = notes-text notes ∙ sym read.is ∙ so.is in
    let c = cut-lines ms so.lines rest (notes-lines notes read.are_notes) so.are same in
    let none = no-lines c.more rest c.tail_is lack in
    let whole : run (Between, []) ms ≡ Some (Between, [] ++ map plain notes) = notes-run notes [] read.are_notes in
    let all : run (Between, []) ms ≡ Some r = ap (run (Between, [])) (c.is ∙ ap (λ (m : List (List ℕ)). so.lines ++ m) none ∙ append-nil so.lines) ∙ so.ran in
    let end : r ≡ (Between, [] ++ map plain notes) = some-same r (Between, [] ++ map plain notes) (sym all ∙ whole) in
    other (ap (λ (s : Reading). s.0) end) (c.tail_is ∙ ap unlines none)

pub reads-cut : (text : List ℕ) (r : Reading) (rest : List ℕ) (k : ℕ) → SoFar text r rest k → lacks 10 rest ≡ true → (r.0 ≡ Between → rest ≡ [] → ⊥) → IsBadLine text k
reads-cut text r rest k so lack other =
    unfinished (unlines so.lines) rest so.is (newlines-none rest lack) (counted text r rest k so) (are-lines so.lines) (front-so text r rest k so) (not-read text r rest k so lack other)

-- what `?` hands on of a line
pub err-reads : (text : List ℕ) (result : Result (List Note) ReadFault) (fault : ReadFault) → IsErrAnd result (λ e. e ≡ fault) → ((k : ℕ) → fault ≡ BadLine k → IsBadLine text k) → Reads text result
err-reads text (Ok notes) fault is bad = absurd is
err-reads text (Err (BadLine k)) fault is bad = bad k (sym is)
err-reads text (Err NoMemory) fault is bad = tt

pub fault-reads : (text : List ℕ) (fault : ReadFault) → ((k : ℕ) → fault ≡ BadLine k → IsBadLine text k) → Reads text (Err fault)
fault-reads text (BadLine k) bad = bad k refl
fault-reads text NoMemory bad = tt

-- a note that is right has no more payload types than a deployment may
few-of : (n : Note) → IsRight n → length n.head.kinds ≤ 8
few-of n right =
    let parts = both-parts (is_place n.head.from) (lists_fit n.head n.end && list_all (is_noted n.head.kinds) n.events.events) right.is_note in
    let more = both-parts (lists_fit n.head n.end) (list_all (is_noted n.head.kinds) n.events.events) parts.1 in
    (lists-are n.head n.end more.0).few

pub few-kinds : (notes : List Note) → AllByRecursion IsRight notes → All (λ (n : Note). length n.head.kinds ≤ MOST_KINDS) notes
few-kinds [] right = λ k d lt. absurd (omega arith)
few-kinds (n ∷ notes) right = by (few-kinds notes right.1) where
  by : All (λ (m : Note). length m.head.kinds ≤ MOST_KINDS) notes → (k : ℕ) (d : Note) → k < length (n ∷ notes) → length (get_or (n ∷ notes) k d).head.kinds ≤ MOST_KINDS
  by rest zero d lt = few-of n right.0
  by rest (suc k) d lt = rest k d (omega arith)
