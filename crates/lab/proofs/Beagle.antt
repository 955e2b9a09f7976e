-- The type of the device that rounds are played on.
use Rattle.std.proofs.Common.{◌≡◌, List, [], ℕ, refl, ap, ◌∙◌}
use Rattle.std.specs.Prelude.{codes, Result, Ok}
use Rattle.upd_text.specs.Text.{name_of}
use Rattle.lab.specs.Simulation.{the_site}

ok-one : {E : Type 0} {a b : List ℕ} → ◌≡◌ {A = Result (List ℕ) E} (Ok a) (Ok b) → a ≡ b
ok-one h = cc

known : name_of (codes "beaglebone") ≡ Ok (codes "beaglebone")
unfolding name_of
known = refl

pub type-is : (name : List ℕ) → Ok name ≡ name_of (codes "beaglebone") → name ≡ codes "beaglebone"
type-is name h = ok-one (h ∙ known)

pub site-is : (name : List ℕ) (scripts : List (List ℕ)) → name ≡ codes "beaglebone" → scripts ≡ [] → record { device_type = name; scripts = scripts } ≡ the_site
site-is name scripts h k = ap (λ (n : List ℕ). record { device_type = n; scripts = scripts }) h ∙ ap (λ (l : List (List ℕ)). record { device_type = codes "beaglebone"; scripts = l }) k
