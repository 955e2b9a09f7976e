use Rattle.std.proofs.Common.{◌≡◌, drop, length, Bool, List, ℕ, Option}
use Rattle.std.specs.List.{zip}
use Rattle.upd_text.specs.Told.{WhereTold}
use Rattle.io_model.specs.Reading.{AreRead}
use Rattle.io_model.specs.Source.{When}
use Rattle.admit.specs.Differing.{in_payload, first_differing, picked}
use Rattle.admit.proofs.sums.first_of_payloads.Given as goal

abbrev pub invariant-loop-i : goal.invariant-loop-i
invariant-loop-i g l = record {
  same : g.S.Source.content l.source ≡ g.S.Source.content l.fn.source;
  plan : g.S.Source.plan l.source ≡ g.S.Source.plan l.fn.source;
  faults : g.S.Source.faults l.source ≡ g.S.Source.faults l.fn.source;
  room : length l.buffer ≡ length l.fn.buffer;
  given : When (g.S.Source.content l.fn.source) (λ t. (whole : Bool) (new : Option (List ℕ)) → WhereTold (AreRead whole t (picked in_payload (zip (drop l.i l.lines) (drop l.i l.numbers)))) (g.S.Source.given l.source) new → WhereTold (AreRead whole t (picked in_payload (zip l.lines l.numbers))) (g.S.Source.given l.fn.source) new);
  value : When (g.S.Source.content l.fn.source) (λ t. first_differing in_payload t (zip (drop l.i l.lines) (drop l.i l.numbers)) ≡ first_differing in_payload t (zip l.lines l.numbers));
}
