use Rattle.std.proofs.Common.{◌≡◌, ◌+◌, ◌≤◌, ℕ, drop, get_or, [], cond, ltb, Some, None, sym, ap, ◌∙◌, arith, inl, inr}
use Rattle.std.proofs.lemmas.List.{drop_more, drop_all}
use Rattle.std.proofs.lemmas.Bool.{cases_lt, lt-ltb}
use Rattle.upd_text.specs.Text.{is_digit, number_after}
use Rattle.std.proofs.lemmas.Bool.Decides.{nat_tests}
use Rattle.std.specs.List.{list_all}
use Rattle.upd_text.proofs.TextLemmas.{decimal_too_large, decimal_read}
use Rattle.upd_text.proofs.number.read_decimal.Goals as goal

too_large : (m n : ℕ) → cond (ltb m n) (Some m) None ≡ None → n ≤ m
too_large m n h = elim (cases_lt m n) [ inl lt ↦ absurd (let e = lt-ltb m n lt in cc (rw e at h)) | inr le ↦ le ]

pub returns-in_default : goal.returns-in_default
returns-in_default c =
    let bytes = c.args.bytes.now in
    let i = c.loop-byte.byte-index in
    let e = drop_more bytes i 0 c.loop-byte-test.true in
    decimal_too_large bytes (drop (i + 1) bytes) c.loop-byte.number (get_or bytes i 0) (ap (number_after c.loop-byte.number) (sym e) ∙ c.loop-byte.invariant.number) (too_large _ _ (sym c.append_digit.ensures.sum ∙ c.in_default.is))

pub returns : goal.returns
returns c =
    let bytes = c.args.bytes.now in
    let e : drop c.loop-byte.byte-index bytes ≡ [] = drop_all c.loop-byte.byte-index bytes c.loop-byte-test.false in
    decimal_read bytes c.loop-byte.number (sym c.loop-byte.invariant.digits ∙ ap (list_all is_digit) e) (sym c.loop-byte.invariant.number ∙ ap (number_after c.loop-byte.number) e) (grind (arith, nat_tests, c.is_empty.ensures, c.if-is_empty.false)) (omega arith) (omega arith)
