use Rattle.std.proofs.Common.{◌≡◌, ◌∙◌, List, Some, true, false, get_or, sym, ap, arith}
use Rattle.std.specs.Prelude.{find}
use Rattle.std.specs.List.{zip}
use Rattle.std.specs.Str.{bytes_eq}
use Rattle.std.proofs.lemmas.List.{drop_all}
use Rattle.std.proofs.lemmas.Slice.Zip.{length-zip}
use Rattle.admit.specs.Differing.{Listed}
use Rattle.work_folder.proofs.Lines.{find_here, find_later, pair_at, pair_within}
use Rattle.work_folder.proofs.header.find_line.Goals as goal

pub returns-then-eq : goal.returns-then-eq
returns-then-eq c =
    let lines = c.args.lines.now in
    let numbers = c.args.numbers.now in
    let path = c.args.path.now in
    let i = c.loop-i.i in
    let line = c.index-lines-i.result in
    let at : get_or (zip lines numbers) i (line, 0) ≡ (line, get_or numbers i 0) = pair_at lines numbers i line c.loop-i-test.true c.requires c.index-lines-i.is in
    let test : bytes_eq line.path path ≡ true = ap (λ b. bytes_eq b path) (sym c.bytes.ensures.bytes) ∙ sym c.if-eq.ensures in
    record { found = find_here (λ (r : Listed). bytes_eq r.0.path path) (zip lines numbers) i (line, 0) (pair_within lines numbers i c.loop-i-test.true c.requires) (ap (λ (r : Listed). bytes_eq r.0.path path) at ∙ test) c.loop-i.invariant ∙ ap (λ (r : Listed). Some r) at }

pub loop-i-preserved : goal.loop-i-preserved
loop-i-preserved c =
    let lines = c.args.lines.now in
    let numbers = c.args.numbers.now in
    let path = c.args.path.now in
    let i = c.loop-i.i in
    let line = c.index-lines-i.result in
    let at : get_or (zip lines numbers) i (line, 0) ≡ (line, get_or numbers i 0) = pair_at lines numbers i line c.loop-i-test.true c.requires c.index-lines-i.is in
    let test : bytes_eq line.path path ≡ false = ap (λ b. bytes_eq b path) (sym c.bytes.ensures.bytes) ∙ sym c.if-eq.ensures in
    find_later (λ (r : Listed). bytes_eq r.0.path path) (zip lines numbers) i (line, 0) (pair_within lines numbers i c.loop-i-test.true c.requires) (ap (λ (r : Listed). bytes_eq r.0.path path) at ∙ test) c.loop-i.invariant

pub returns : goal.returns
returns c =
    let lines = c.args.lines.now in
    let numbers = c.args.numbers.now in
    record { found = sym c.loop-i.invariant ∙ ap (λ (l : List Listed). find (λ r. bytes_eq r.0.path c.args.path.now) l) (drop_all c.loop-i.i (zip lines numbers) (omega (arith, length-zip lines numbers, c.loop-i-test.false))) }
