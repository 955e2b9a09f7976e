-- What holds of something before and after, where it is told.
use Rattle.std.specs.Prelude.{Option, Some, None, ⊤}

-- told before exactly where it is told after, and then so related
abbrev pub WhereTold : {T : Type 0} → (T → T → Type 0) → Option T → Option T → Type 0
WhereTold R (Some old) (Some new) = R old new
WhereTold R None None = ⊤
WhereTold R (Some old) None = ⊥
WhereTold R None (Some new) = ⊥
