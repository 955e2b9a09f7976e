-- Steps that may fail, one after another, and the one answer that is free.
use Rattle.std.specs.Prelude.{◌≡◌, ◌⊎◌, Result, Ok, Err}

-- the next step from what the last one gave, or the first fault
infixl 10 ◌>>=◌
abbrev pub ◌>>=◌ : {A B E : Type 0} → Result A E → (A → Result B E) → Result B E
(Ok x) >>= f = f x
(Err fault) >>= f = Err fault

-- The answer, seen by `view`, is what the definition gives. Want of memory, `free`, may come in place of any.
abbrev pub Gives : {X A E : Type 0} → E → (X → A) → Result X E → Result A E → Type 0
Gives free view (Ok x) meant = meant ≡ Ok (view x)
Gives free view (Err fault) meant = (fault ≡ free) ⊎ (meant ≡ Err fault)
