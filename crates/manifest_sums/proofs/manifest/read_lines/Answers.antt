use Rattle.std.proofs.Common.{◌≡◌, ◌-◌, ◌+◌, ◌<◌, ◌∙◌, ◌++◌, ◌∷◌, [], Ok, Err, length, length-append, sym, ap, refl, arith, inr}
use Rattle.std.proofs.lemmas.Bool.Decides.{nat_tests}
use Rattle.manifest_sums.specs.Manifest.{manifest_of, most_lines, line_at, lines_after}
use Rattle.manifest_sums.proofs.Rows.{no_bytes, too_many, one_line, one_fault}
use Rattle.manifest_sums.proofs.manifest.read_lines.Goals as goal

pub loop-init : goal.loop-init
loop-init c = rw c.new-lines.ensures (record { count = refl; same = refl })

pub returns-then-is_empty : goal.returns-then-is_empty
unfolding manifest_of most_lines
returns-then-is_empty c = sym c.loop.invariant.same ∙ no_bytes (256 - c.loop.counter) c.loop.lines c.loop.rest.now (grind (arith, nat_tests, c.is_empty.ensures, c.if-is_empty.true))

pub loop-preserved : goal.loop-preserved
loop-preserved c =
    let some : 0 < length c.loop.rest.now = grind (arith, nat_tests, c.is_empty.ensures, c.if-is_empty.false) in
    let e : 256 - c.loop.counter ≡ 256 - (c.loop.counter + 1) + 1 = omega arith in
    let r : line_at c.loop.lines c.loop.rest.now ≡ Ok (c.in-Ok.line, c.in-Ok.more.now) = cc (c.in-Ok.ensures, c.as_slice.ensures.items) in
    let pushed : c.push.new.self ≡ c.loop.lines ++ c.in-Ok.line ∷ [] = c.in_ok-push-in-Ok.ensures.ok in
    rw pushed (record {
      count = omega (arith, length-append c.loop.lines (c.in-Ok.line ∷ []));
      same = sym (one_line (256 - c.loop.counter) (256 - (c.loop.counter + 1)) c.loop.lines c.loop.rest.now c.in-Ok.line c.in-Ok.more.now some e r) ∙ c.loop.invariant.same;
    })

pub returns-then-not-is_empty : goal.returns-then-not-is_empty
unfolding manifest_of most_lines
returns-then-not-is_empty c =
    let some : 0 < length c.loop.rest.now = grind (arith, nat_tests, c.is_empty-2.ensures, c.if-not-is_empty.true) in
    let e : 256 - c.loop.counter ≡ 0 = omega arith in
    inr (sym c.loop.invariant.same ∙ ap (λ n. lines_after n c.loop.lines c.loop.rest.now) e ∙ too_many c.loop.lines c.loop.rest.now some)

pub returns-in-Err : goal.returns-in-Err
unfolding manifest_of most_lines
returns-in-Err c =
    let some : 0 < length c.loop.rest.now = grind (arith, nat_tests, c.is_empty.ensures, c.if-is_empty.false) in
    let more : 0 < 256 - c.loop.counter = omega arith in
    let r : line_at c.loop.lines c.loop.rest.now ≡ Err c.in-Err.fault = cc (c.in-Err.ensures, c.as_slice.ensures.items) in
    inr (sym c.loop.invariant.same ∙ one_fault (256 - c.loop.counter) c.loop.lines c.loop.rest.now c.in-Err.fault some more r)

pub returns : goal.returns
unfolding manifest_of most_lines
returns c = sym c.loop.invariant.same ∙ no_bytes (256 - c.loop.counter) c.loop.lines c.loop.rest.now (grind (arith, nat_tests, c.is_empty-2.ensures, c.if-not-is_empty.false))
