-- What a tree answers, told or not.
use Rattle.std.proofs.Common.{◌≡◌, inl, inr, ℕ, refl, sym, ap, ◌∙◌, subst}
use Rattle.std.proofs.lemmas.Bool.{ltb-true, ltb-false, lt-ltb, le-ltb}
use Rattle.std.specs.Prelude.{◌<◌, ◌≤◌, Bool, true, false, nat_lt, if◌then◌else◌, Option, Result, Ok, Err}
use Rattle.std.specs.Option.{option_map}
use Rattle.io_model.specs.Source.{Content, Tree, count_of, When}
use Rattle.io_model.specs.Source.Content.{Told, Untold}
use Rattle.script_names.specs.declared.site.Site.{Site}
use Rattle.admit.specs.Admit.{plan_of, head_plan_of}
use Rattle.admit.specs.Answers.{IsProper}
use Rattle.admit.specs.IsOf.{IsOf}
use Rattle.admit.specs.Differing.{listed_of, in_payload, first_differing}
use Rattle.admit.specs.declared.admitted.Admitted.{Admitted}
use Rattle.admit.specs.declared.refusal.Refusal.{Refusal}
use Rattle.admit.specs.declared.refusal.Refusal.TheVariants.{PayloadDiffers}
use Rattle.admit.specs.declared.refusal.Differs.{Differs}
use Rattle.record_codec.specs.declared.length.TheConstants.{LARGEST_RECORD}
use Rattle.record_codec.specs.declared.entry.Db.{Db}
use Rattle.record_codec.specs.Spelling.{record_length}
use Rattle.record_codec.specs.Held.{held}
use Rattle.upd_text.specs.Results.{◌>>=◌}
use Rattle.client_top.specs.declared.status.Status.TheVariants.{Done, Refused, TooLarge}
use Rattle.client_top.specs.declared.status.Good.TheVariants.{Admitted as Admissible}
use Rattle.client_top.specs.Finds.{Found, Answers, Unsaid, begun, unless_refused, unless_large, unless_damaged, none_refused, starting, weighing, install_found, check_found}
use Rattle.client_top.specs.Steps.{WeighsTree, fitting}

-- ---- a check

pub check-refused : (site : Site) (content : Content) (c : Db) (r : Refusal) → When content (λ t. plan_of t site.device_type (held c) ≡ Err r) → IsProper (count_of content) r → WeighsTree (check_found site content c) site content c (Refused r)
check-refused site (Told t) c r h proper = inl (ap (λ (x : Result Admitted Refusal). weighing (unless_refused x >>= λ plan. unless_large (begun c plan))) h)
check-refused site (Untold n) c r h proper = inr (refl, proper)

-- a plan, by the length of its record
fits-by : (site : Site) (t : Tree) (c : Db) (plan : Admitted) (b : Bool) → nat_lt LARGEST_RECORD (record_length (begun c plan)) ≡ b → check_found site (Told t) c ≡ weighing (unless_large (begun c plan)) →
    WeighsTree (check_found site (Told t) c) site (Told t) c (if b then TooLarge (record_length (begun c plan)) else Done Admissible)
fits-by site t c plan true is h = inl (h ∙ ap (λ (b : Bool). weighing (if b then Err (TooLarge (record_length (begun c plan))) else Ok (begun c plan))) is)
fits-by site t c plan false is h = inl (h ∙ ap (λ (b : Bool). weighing (if b then Err (TooLarge (record_length (begun c plan))) else Ok (begun c plan))) is)

above : (n : ℕ) → nat_lt LARGEST_RECORD n ≡ true → LARGEST_RECORD < n
above n h = ltb-true LARGEST_RECORD n h

within : (n : ℕ) → nat_lt LARGEST_RECORD n ≡ false → n ≤ LARGEST_RECORD
within n h = ltb-false LARGEST_RECORD n h

likely-by : (site : Site) (n : ℕ) (c : Db) (plan : Admitted) (b : Bool) → nat_lt LARGEST_RECORD (record_length (begun c plan)) ≡ b → IsOf (Untold n) plan →
    WeighsTree Unsaid site (Untold n) c (if b then TooLarge (record_length (begun c plan)) else Done Admissible)
likely-by site n c plan true is of = inr (refl, (plan, of, refl, above (record_length (begun c plan)) is))
likely-by site n c plan false is of = inr (refl, (plan, of, within (record_length (begun c plan)) is))

pub check-planned : (site : Site) (content : Content) (c : Db) (plan : Admitted) → When content (λ t. plan_of t site.device_type (held c) ≡ Ok plan) → IsOf content plan → WeighsTree (check_found site content c) site content c (fitting (begun c plan))
check-planned site (Told t) c plan h of = fits-by site t c plan (nat_lt LARGEST_RECORD (record_length (begun c plan))) refl (ap (λ (x : Result Admitted Refusal). weighing (unless_refused x >>= λ p. unless_large (begun c p))) h)
check-planned site (Untold n) c plan h of = likely-by site n c plan (nat_lt LARGEST_RECORD (record_length (begun c plan))) refl of

-- ---- an install, but for the sums of the payloads

-- what is found by the plan of the head
abbrev head-found : (site : Site) (t : Tree) (c : Db) → Result Admitted Refusal → Found
head-found site t c r = starting (unless_refused r >>= λ plan. unless_large (begun c plan) >>= unless_damaged t plan)

pub head-refused : (site : Site) (content : Content) (c : Db) (r : Refusal) → When content (λ t. head_plan_of t site.device_type (held c) ≡ Err r) → IsProper (count_of content) r → WeighsTree (install_found site content c) site content c (Refused r)
head-refused site (Told t) c r h proper = inl (ap (head-found site t c) h)
head-refused site (Untold n) c r h proper = inr (refl, proper)

large-found : (b : Bool) (site : Site) (t : Tree) (c : Db) (plan : Admitted) → b ≡ true → starting ((if b then Err (TooLarge (record_length (begun c plan))) else Ok (begun c plan)) >>= unless_damaged t plan) ≡ Answers (TooLarge (record_length (begun c plan)))
large-found true site t c plan h = refl
large-found false site t c plan h = absurd cc

pub head-large : (site : Site) (content : Content) (c : Db) (plan : Admitted) (bytes : ℕ) → When content (λ t. head_plan_of t site.device_type (held c) ≡ Ok plan) → IsOf content plan → bytes ≡ record_length (begun c plan) → LARGEST_RECORD < bytes →
    WeighsTree (install_found site content c) site content c (TooLarge bytes)
head-large site (Told t) c plan bytes h of is large =
    inl (ap (head-found site t c) h ∙ (large-found (nat_lt LARGEST_RECORD (record_length (begun c plan))) site t c plan (lt-ltb LARGEST_RECORD (record_length (begun c plan)) (subst (λ (n : ℕ). LARGEST_RECORD < n) is large)) ∙ ap (λ (n : ℕ). Answers (TooLarge n)) (sym is)))
head-large site (Untold n) c plan bytes h of is large = inr (refl, (plan, of, is, large))

-- ---- an install of a plan that fits

small-found : (b : Bool) (site : Site) (t : Tree) (c : Db) (plan : Admitted) (r : Option Refusal) → b ≡ false → option_map PayloadDiffers (first_differing in_payload t (listed_of plan)) ≡ r →
    starting ((if b then Err (TooLarge (record_length (begun c plan))) else Ok (begun c plan)) >>= unless_damaged t plan) ≡ starting (none_refused (begun c plan) r)
small-found true site t c plan r h d = absurd cc
small-found false site t c plan r h d = ap (λ (x : Option Refusal). starting (none_refused (begun c plan) x)) d

pub payload-found : (site : Site) (t : Tree) (c : Db) (plan : Admitted) (d : Option Differs) → head_plan_of t site.device_type (held c) ≡ Ok plan → record_length (begun c plan) ≤ LARGEST_RECORD → first_differing in_payload t (listed_of plan) ≡ d →
    install_found site (Told t) c ≡ starting (none_refused (begun c plan) (option_map PayloadDiffers d))
payload-found site t c plan d head small is =
    ap (head-found site t c) head ∙ small-found (nat_lt LARGEST_RECORD (record_length (begun c plan))) site t c plan (option_map PayloadDiffers d) (le-ltb LARGEST_RECORD (record_length (begun c plan)) small) (ap (option_map PayloadDiffers) is)
