use Rattle.std.proofs.Common.{◌≡◌, ◌∙◌, ◌+◌, ◌<◌, ◌++◌, List, [], ℕ, Some, None, length, take, sym, ap, subst, Bor, append-nil}
use Rattle.std.specs.Prelude.{Option, MatchOption, codes}
use Rattle.std.specs.List.{cons_option}
use Rattle.std.proofs.lemmas.List.{take_all}
use Rattle.manifest_sums.specs.declared.manifest.Line.{Line}
use Rattle.admit.specs.Places.{place_of, payload_at}
use Rattle.work_folder.specs.Rows.{name_in, payload_names}
use Rattle.work_folder.specs.Adding.{IsLast, IsNext}
use Rattle.work_folder.proofs.Above.{payload_names-more}
use Rattle.work_folder.proofs.names.next_name.Goals as goal
use Rattle.work_folder.proofs.names.next_name.Goals.{in-Some, in_default}

abbrev Holds : List ℕ → Option (Bor (List ℕ)) → List (List ℕ) → Type 0
Holds last best names = MatchOption best (IsLast names last) (λ next. IsNext names last next.now)

pub loop-line-preserved : goal.loop-line-preserved
loop-line-preserved c =
    let k = c.args.k in
    let last = c.args.last.now in
    let lines = c.args.lines.now in
    let line = c.line-item.result in
    let i = c.loop-line.line-index in
    let before = payload_names k (take i lines) in
    let lt : i < length lines = c.loop-line-test.true in
    let more : payload_names k (take (i + 1) lines) ≡ before ++ cons_option (name_in k (payload_at (place_of line.path))) [] = payload_names-more k lines i line lt c.line-item.is in
    elim c.match-name_in.branch [
      | in-Some w ↦
          let is : name_in k (payload_at (place_of line.path)) ≡ Some w.in-Some.name.now = w.in-Some.ensures in
          let same : name_in k (payload_at (place_of line.path)) ≡ Some w.in-Some.name.now = is in
          subst (λ (o : Option (Bor (List ℕ))). Holds last o (payload_names k (take (i + 1) lines))) (sym w.best-is)
          (subst (λ (l : List (List ℕ)). Holds last w.nearer-best.result l) (sym (more ∙ ap (λ (o : Option (List ℕ)). before ++ cons_option o []) same)) (w.nearer-best.ensures before c.loop-line.invariant))
      | in_default w ↦
          let is : name_in k (payload_at (place_of line.path)) ≡ None = w.in_default.ensures in
          let same : name_in k (payload_at (place_of line.path)) ≡ None = is in
          subst (λ (o : Option (Bor (List ℕ))). Holds last o (payload_names k (take (i + 1) lines))) (sym w.best-is)
          (subst (λ (l : List (List ℕ)). Holds last c.loop-line.best l) (sym (more ∙ ap (λ (o : Option (List ℕ)). before ++ cons_option o []) same ∙ append-nil before)) c.loop-line.invariant)
    ]

pub returns : goal.returns
returns c =
    let lines = c.args.lines.now in
    subst (λ (l : List Line). Holds c.args.last.now c.loop-line.best (payload_names c.args.k l)) (take_all c.loop-line.line-index lines c.loop-line-test.false) c.loop-line.invariant
