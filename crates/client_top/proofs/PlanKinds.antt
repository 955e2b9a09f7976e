-- The plan of a tree has a payload: the file `header/headers/0000/type-info` is there, and belongs to one.
use Rattle.std.proofs.Common.{◌≡◌, ◌≢◌, ℕ, List, [], length, get_or, None, Ok, Some, sym, ap, ◌∙◌, subst}
use Rattle.std.specs.Prelude.{codes}
use Rattle.std.specs.List.{zip}
use Rattle.std.specs.Option.{option_map}
use Rattle.io_model.specs.Source.{Tree, bytes_at}
use Rattle.provides_map.specs.Pairs.{Pairs}
use Rattle.provides_map.specs.After.{first_unmet}
use Rattle.artifact_meta.specs.Header.{header_info_of}
use Rattle.admit.specs.Places.{place_of}
use Rattle.admit.specs.Table.{FileHead, unless, heads_of, too_many, table_of}
use Rattle.admit.specs.Admit.{lines_of, refuse_meta, bad_version, no_type_info, stray_path, no_such_payload, infos_after, info_texts, fields_of, wants_of, scripts_of, head_plan_of}
use Rattle.admit.specs.Differing.{in_rest, first_differing}
use Rattle.admit.specs.declared.admitted.Admitted.{Admitted}
use Rattle.admit.specs.declared.refusal.Refusal.TheVariants.{SumDiffers, Unmet, NoSuchPayload}
use Rattle.admit.proofs.TableLemmas.{bind_ok, unless_ok, map_none, all_none, accepted}

-- the file is a stray one where there is no payload
some-payload : (heads : List FileHead) (places : _) → table_of heads ≡ Ok places → no_such_payload heads 0 ≡ None → ⊥
unfolding no_such_payload place_of
some-payload heads places table h =
    let none : FileHead = record { path = None; length = 0 } in
    let info = (accepted heads places table).type_info in
    let stays : stray_path 0 (get_or heads info.0 none).path ≡ None = all_none (λ (head : FileHead). stray_path 0 head.path) heads (map_none NoSuchPayload _ h) info.0 none info.1.within in
    let stray : stray_path 0 (Some (codes "header/headers/0000/type-info")) ≡ None = ap (λ path. stray_path 0 path) (sym (info.1.here none)) ∙ stays in
    cc (stray)

fields-kinds : (heads : List FileHead) (places : _) (version header_info : List ℕ) (texts : List (ℕ × List ℕ)) (fields : _) → table_of heads ≡ Ok places → fields_of heads version header_info texts ≡ Ok fields → fields.header.kinds ≢ []
unfolding fields_of
fields-kinds heads places version header_info texts fields table h =
    let right = bind_ok (unless (bad_version version)) _ fields h in
    let header = bind_ok (refuse_meta 0 (header_info_of header_info)) _ fields right.2 in
    let typed = bind_ok (unless (no_type_info heads (length header.0.kinds))) _ fields header.2 in
    let placed = bind_ok (unless (no_such_payload heads (length header.0.kinds))) _ fields typed.2 in
    let infos = bind_ok (infos_after [] header.0.kinds texts) _ fields placed.2 in
    let same : header.0.kinds ≡ fields.header.kinds = cc (infos.2) in
    λ none. some-payload heads places table (ap (λ (kinds : List (List ℕ)). no_such_payload heads (length kinds)) (sym (same ∙ none)) ∙ unless_ok (no_such_payload heads (length header.0.kinds)) placed.0 placed.1)

pub plan-kinds : (t : Tree) (type : List ℕ) (held : Pairs) (plan : Admitted) → head_plan_of t type held ≡ Ok plan → plan.header.kinds ≢ []
unfolding head_plan_of
plan-kinds t type held plan h =
    let many = bind_ok (unless (too_many (heads_of t))) _ plan h in
    let table = bind_ok (table_of (heads_of t)) _ plan many.2 in
    let listing = bind_ok (lines_of (heads_of t) (bytes_at t table.0.manifest)) _ plan table.2 in
    let sums = bind_ok (unless (option_map SumDiffers (first_differing in_rest t (zip listing.0.manifest listing.0.numbers)))) _ plan listing.2 in
    let fields = bind_ok (fields_of (heads_of t) (bytes_at t table.0.version) (bytes_at t table.0.header_info) (info_texts t)) _ plan sums.2 in
    let scripts = bind_ok (scripts_of (heads_of t)) _ plan fields.2 in
    let wants = bind_ok (unless (option_map Unmet (first_unmet (wants_of fields.0) type held))) _ plan scripts.2 in
    let made : Admitted = record { manifest = listing.0.manifest; numbers = listing.0.numbers; header = fields.0.header; infos = fields.0.infos; scripts = scripts.0 } in
    let same : made ≡ plan = cc (wants.2) in
    subst (λ (p : Admitted). p.header.kinds ≢ []) same (fields-kinds (heads_of t) table.0 (bytes_at t table.0.version) (bytes_at t table.0.header_info) (info_texts t) fields.0 table.1 fields.1)
