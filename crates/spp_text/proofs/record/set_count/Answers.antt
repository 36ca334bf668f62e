use Rattle.std.proofs.Common.{ℕ, List, ◌++◌, take, drop, ap, ◌∙◌}
use Rattle.std.proofs.lemmas.List.{drop-drop}
use Rattle.spp_event.specs.Records.{word}
use Rattle.spp_text.proofs.record.set_count.Goals as goal

pub returns : goal.returns
returns c =
    let bytes = c.args.bytes.now in
    ap (λ (t : List ℕ). take 20 bytes ++ (t ++ drop 4 (drop 20 bytes))) (c.copy_from_slice.ensures.after ∙ c.as_slice.ensures ∙ c.to_be_bytes.ensures)
    ∙ ap (λ (t : List ℕ). take 20 bytes ++ (word c.args.count ++ t)) (drop-drop 4 20 bytes)
