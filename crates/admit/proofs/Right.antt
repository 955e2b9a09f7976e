-- The sums of a tree that is taken.
use Rattle.std.proofs.Common.{◌≡◌, ◌∙◌, ℕ, List, None, Ok, sym, ap}
use Rattle.std.specs.List.{zip}
use Rattle.std.specs.Option.{option_map}
use Rattle.io_model.specs.Source.{Tree, bytes_at}
use Rattle.provides_map.specs.Pairs.{Pairs}
use Rattle.provides_map.specs.After.{first_unmet}
use Rattle.admit.specs.Table.{unless, heads_of, too_many, table_of}
use Rattle.admit.specs.Admit.{lines_of, info_texts, fields_of, wants_of, scripts_of, head_plan_of, plan_of}
use Rattle.admit.specs.Differing.{listed_of, in_payload, in_rest, first_differing}
use Rattle.admit.specs.declared.admitted.Admitted.{Admitted}
use Rattle.admit.specs.declared.refusal.Refusal.TheVariants.{SumDiffers, Unmet, PayloadDiffers}
use Rattle.admit.proofs.TableLemmas.{bind_ok, unless_ok, map_none}

pub rest_right : (t : Tree) (type : List ℕ) (held : Pairs) (plan : Admitted) → head_plan_of t type held ≡ Ok plan → first_differing in_rest t (listed_of plan) ≡ None
unfolding head_plan_of
rest_right t type held plan h =
    let many = bind_ok (unless (too_many (heads_of t))) _ plan h in
    let table = bind_ok (table_of (heads_of t)) _ plan many.2 in
    let listing = bind_ok (lines_of (heads_of t) (bytes_at t table.0.manifest)) _ plan table.2 in
    let sums = bind_ok (unless (option_map SumDiffers (first_differing in_rest t (zip listing.0.manifest listing.0.numbers)))) _ plan listing.2 in
    let fields = bind_ok (fields_of (heads_of t) (bytes_at t table.0.version) (bytes_at t table.0.header_info) (info_texts t)) _ plan sums.2 in
    let scripts = bind_ok (scripts_of (heads_of t)) _ plan fields.2 in
    let wants = bind_ok (unless (option_map Unmet (first_unmet (wants_of fields.0) type held))) _ plan scripts.2 in
    let made : Admitted = record { manifest = listing.0.manifest; numbers = listing.0.numbers; header = fields.0.header; infos = fields.0.infos; scripts = scripts.0 } in
    let same : made ≡ plan = cc (wants.2) in
    let none = map_none SumDiffers (first_differing in_rest t (zip listing.0.manifest listing.0.numbers)) (unless_ok _ sums.0 sums.1) in
    ap (λ (p : Admitted). first_differing in_rest t (listed_of p)) (sym same) ∙ none

pub head_right : (t : Tree) (type : List ℕ) (held : Pairs) (plan : Admitted) → plan_of t type held ≡ Ok plan → head_plan_of t type held ≡ Ok plan
unfolding plan_of
head_right t type held plan h =
    let head = bind_ok (head_plan_of t type held) _ plan h in
    let sums = bind_ok (unless (option_map PayloadDiffers (first_differing in_payload t (listed_of head.0)))) _ plan head.2 in
    let same : head.0 ≡ plan = cc (sums.2) in
    head.1 ∙ ap (λ (p : Admitted). Ok p) same

pub payloads_right : (t : Tree) (type : List ℕ) (held : Pairs) (plan : Admitted) → plan_of t type held ≡ Ok plan → first_differing in_payload t (listed_of plan) ≡ None
unfolding plan_of
payloads_right t type held plan h =
    let head = bind_ok (head_plan_of t type held) _ plan h in
    let sums = bind_ok (unless (option_map PayloadDiffers (first_differing in_payload t (listed_of head.0)))) _ plan head.2 in
    let same : head.0 ≡ plan = cc (sums.2) in
    ap (λ (p : Admitted). first_differing in_payload t (listed_of p)) (sym same) ∙ map_none PayloadDiffers _ (unless_ok _ sums.0 sums.1)

pub ruleset right_sums = (rest_right, head_right, payloads_right)
