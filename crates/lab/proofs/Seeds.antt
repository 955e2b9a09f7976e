-- The rounds of a seed, one after another.
use Rattle.std.proofs.Common.{◌≡◌, ℕ, suc, ◌+◌, ◌<◌, ◌≤◌, refl, sym, ap, ◌∙◌, subst, arith}
use Rattle.flow_table.specs.declared.position.Outcome.{Outcome}
use Rattle.client_words.specs.declared.command.TheConstants.{MOST_ROUNDS}
use Rattle.lab.specs.declared.counts.Counts.{Counts}
use Rattle.lab.specs.declared.draws.Round.{Round}
use Rattle.lab.specs.Draws.{round_of, next_round}
use Rattle.lab.specs.Simulation.{Simulated, Simulates, none, more, no_round, one_more, state_after, Played, AddsUp}
use Rattle.lab.proofs.AddingUp.{adds-up}
use Rattle.lab.proofs.Deciding.{played-one}

-- the rounds so far, and the state of the generator behind them
pub record Drawn (seed i : ℕ) (counts : Counts) (state : ℕ) : Type 0 where
  simulated : Simulated seed i counts
  state_is : state ≡ state_after seed i

pub drawn-none : (seed : ℕ) → Drawn seed 0 no_round seed
drawn-none seed = record { simulated = none; state_is = refl }

after-one : (seed i : ℕ) → next_round (state_after seed i) ≡ state_after seed (i + 1)
after-one seed i = let same : suc i ≡ i + 1 = omega arith in ap (state_after seed) same

module _ (seed i : ℕ) (counts next : Counts) (before after : ℕ) (round : Round) (outcome : Outcome) (d : Drawn seed i counts before) where
  pub drawn-more : round ≡ round_of before → after ≡ next_round before → Played round outcome → next ≡ one_more outcome counts → Drawn seed (i + 1) next after
  drawn-more is state played counted = record {
    simulated = subst (λ (c : Counts). Simulated seed (i + 1) c) (sym counted)
        (more outcome d.simulated (subst (λ (r : Round). Played r outcome) (is ∙ ap round_of d.state_is) played));
    state_is = state ∙ ap next_round d.state_is ∙ after-one seed i;
  }

-- ---- no other counts are simulated

one-round : (seed i j : ℕ) (a b : Outcome) → i ≡ j → Played (round_of (state_after seed i)) a → Played (round_of (state_after seed j)) b → a ≡ b
one-round seed i j a b same p q = played-one (state_after seed i) a b p (subst (λ (n : ℕ). Played (round_of (state_after seed n)) b) (sym same) q)

one-count : (seed n m : ℕ) (a b : Counts) → n ≡ m → Simulated seed n a → Simulated seed m b → a ≡ b
one-count seed n m a b same none none = refl
one-count seed n m a b same none (more {rounds = k} outcome rest played) = absurd (omega (arith, same))
one-count seed n m a b same (more {rounds = k} outcome rest played) none = absurd (omega (arith, same))
one-count seed n m a b same (more {rounds = i} {counts = before} o rest p) (more {rounds = j} {counts = other} u more_rest q) =
    let i_is : i ≡ j = omega (arith, same) in
    ap (λ (x : Outcome). one_more x before) (one-round seed i j o u i_is p q) ∙ ap (one_more u) (one-count seed i j before other i_is rest more_rest)

pub drawn-rounds : {seed i : ℕ} {counts : Counts} {state : ℕ} → Drawn seed i counts state → counts.rounds ≡ i
drawn-rounds {seed} {i} {counts} d = (adds-up seed i counts d.simulated).1

pub drawn-sum : {seed i : ℕ} {counts : Counts} {state : ℕ} → Drawn seed i counts state → AddsUp counts
drawn-sum {seed} {i} {counts} d = (adds-up seed i counts d.simulated).0

pub drawn-few : {seed i : ℕ} {counts : Counts} {state : ℕ} (rounds : ℕ) → Drawn seed i counts state → i < rounds → rounds ≤ MOST_ROUNDS → counts.rounds < MOST_ROUNDS
drawn-few rounds d less few = let r = drawn-rounds d in omega (arith, r, less, few)

pub drawn-all : {seed i : ℕ} {counts : Counts} {state : ℕ} (rounds : ℕ) → Drawn seed i counts state → i ≡ rounds → Simulates seed rounds counts
drawn-all {seed} {i} {counts} rounds d is = record {
  simulated = subst (λ (n : ℕ). Simulated seed n counts) is d.simulated;
  all = drawn-rounds d ∙ is;
  adds_up = drawn-sum d;
  alone = λ others s. one-count seed rounds i others counts (sym is) s d.simulated;
}
