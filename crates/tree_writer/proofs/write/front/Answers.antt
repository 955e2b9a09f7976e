use Rattle.std.proofs.Common.{◌≡◌, List, ◌++◌, map, ap, ◌∙◌}
use Rattle.io_model.specs.Source.{Tree}
use Rattle.tree_writer.specs.declared.spec.PayloadSpec.{PayloadSpec}
use Rattle.tree_writer.specs.Files.{as_file, data_entries, info_entries}
use Rattle.tree_writer.proofs.Pushes.{front_made}
use Rattle.tree_writer.proofs.write.front.Goals as goal

pub returns : goal.returns
returns c =
    let same : c.as_slice-payloads.result.now ≡ c.args.spec.now.payloads = c.as_slice-payloads.ensures.items in
    let first = c.in_ok-push_payloads.ensures ∙ ap (λ (t : Tree). t ++ map as_file (data_entries 0 c.as_slice-payloads.result.now)) c.new-tree.ensures ∙ ap (λ (ps : List PayloadSpec). map as_file (data_entries 0 ps)) same in
    let third = c.in_ok-push_infos.ensures ∙ ap (λ (ps : List PayloadSpec). c.push.new.self ++ map as_file (info_entries 0 ps)) same in
    front_made c.args.spec.now c.push_payloads.new.tree c.push.new.self c.push_infos.new.tree c.push_scripts.new.tree c.as_slice.result.now
    first (c.as_slice.ensures.value ∙ c.in_ok-text.ensures.text) c.in_ok-push.ensures.ok third c.in_ok-push_scripts.ensures
