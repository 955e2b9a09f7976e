-- The numbers that a seed gives, and the rounds that are drawn from them.
use Rattle.std.specs.Prelude.{ℕ, zero, suc, ◌+◌, ◌*◌, ◌/◌, ◌%◌, ◌^◌, ◌==◌, false, if◌then◌else◌, List, [], ◌∷◌, ◌++◌, map, codes}
use Rattle.device_model.specs.declared.calls.Answer.{Answer}
use Rattle.device_model.specs.declared.calls.Answer.TheVariants.{Exit, Reply}
use Rattle.lab.specs.declared.draws.Round.{Round}

-- ---- numbers

-- the state of the generator after a draw
unfoldable pub stepped : ℕ → ℕ
stepped x = (x * 6364136223846793005 + 1442695040888963407) % 2 ^ 64

-- the number below k that is drawn at a state
unfoldable pub drawn : ℕ → ℕ → ℕ
drawn k x = stepped x / 2 ^ 33 % k

-- the state after so many draws
abbrev pub after : ℕ → ℕ → ℕ
after zero x = x
after (suc count) x = stepped (after count x)

-- so many numbers below k, one after the other
abbrev pub draws : ℕ → ℕ → ℕ → List ℕ
draws k zero x = []
draws k (suc count) x = draws k count x ++ drawn k (after count x) ∷ []

-- ---- what they mean

-- a child fails where 0 is drawn for it
abbrev pub answer_of : ℕ → Answer
answer_of n = if n == 0 then Exit 1 else Exit 0

-- whether a rollback is supported
abbrev pub supports_reply : ℕ → Answer
supports_reply n = if n == 0 then Reply 0 (codes "No") else Reply 0 (codes "Yes")

-- whether a reboot is needed, and who makes it
abbrev pub needs_reply : ℕ → Answer
needs_reply n = if n == 0 then Reply 0 (codes "No") else (if n == 1 then Reply 0 (codes "Yes") else Reply 0 (codes "Automatic"))

-- ---- a round, in the order in which it is drawn

abbrev pub files_at : ℕ → ℕ
files_at x = drawn 4 x + 1

abbrev pub before_supports : ℕ → ℕ
before_supports x = after (files_at x) (stepped x)

abbrev pub before_needs : ℕ → ℕ
before_needs x = stepped (before_supports x)

abbrev pub before_answers : ℕ → ℕ
before_answers x = stepped (before_needs x)

abbrev pub before_cuts : ℕ → ℕ
before_cuts x = after 12 (before_answers x)

abbrev pub cuts_at : ℕ → ℕ
cuts_at x = drawn 4 (before_cuts x)

-- the round that is drawn at the state x
abbrev pub round_of : ℕ → Round
round_of x = record {
  lengths = draws 2000 (files_at x) (stepped x);
  script = record {
    answers = map answer_of (draws 8 12 (before_answers x));
    supports = supports_reply (drawn 2 (before_supports x));
    needs = needs_reply (drawn 3 (before_needs x));
    others = [];
    losses = [];
    cuts = draws 12 (cuts_at x) (stepped (before_cuts x));
    faults = [];
    meddle = false;
  };
}

-- the state for the round behind it
abbrev pub next_round : ℕ → ℕ
next_round x = after (cuts_at x) (stepped (before_cuts x))
