use Rattle.std.proofs.Common.{◌≡◌, inr, length, sym, ◌∙◌, [], ◌∷◌, ◌++◌, ap}
use Rattle.std.proofs.lemmas.Bool.{eqb-true, eqb-false}
use Rattle.std.proofs.lemmas.List.{nil_from_length}
use Rattle.key_text.proofs.KeysLemmas.{pushed, all_read, one_read}
use Rattle.key_text.proofs.key.read_keys.Goals as goal

pub returns-then-is_empty-clause-read : goal.returns-then-is_empty-clause-read
returns-then-is_empty-clause-read c =
    let more = pushed c.push.result c.is_err.result c.push.new.self.items (c.keys.keys.items ++ c.in_ok-key.key ∷ []) c.keys.keys.items c.is_err.ensures.value c.if-is_err.false c.push.ensures.items in
    let end : c.in_ok-key.behind.now ≡ [] = nil_from_length c.in_ok-key.behind.now (eqb-true (length c.in_ok-key.behind.now) 0 (sym c.is_empty.ensures ∙ c.if-is_empty.true)) in
    all_read c.args.text.now c.keys.keys.items c.push.new.self.items c.keys.rest.now c.in_ok-key.key c.in_ok-key.behind.now c.keys.invariant.0 c.in_ok-key.ensures.read more end

pub keys-preserved : goal.keys-preserved
keys-preserved c =
    let more = pushed c.push.result c.is_err.result c.push.new.self.items (c.keys.keys.items ++ c.in_ok-key.key ∷ []) c.keys.keys.items c.is_err.ensures.value c.if-is_err.false c.push.ensures.items in (
      one_read c.args.text.now c.keys.keys.items c.push.new.self.items c.keys.rest.now c.in_ok-key.key c.in_ok-key.behind.now c.keys.invariant.0 c.in_ok-key.ensures.read more,
      inr (λ none. eqb-false (length c.in_ok-key.behind.now) 0 (sym c.is_empty.ensures ∙ c.if-is_empty.false) (ap length none)),
    )
