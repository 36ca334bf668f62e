use Rattle.std.proofs.Common.{◌∙◌, ap, cond, true}
use Rattle.std.proofs.lemmas.Map.Text.{is_eq-slice_cmp}
use Rattle.spp_event.specs.NameSets.{has}
use Rattle.spp_text.proofs.draft.note.Goals as goal

pub returns-clause-has : goal.returns-clause-has
returns-clause-has c = λ q. c.in_ok-insert.ensures.updates.0 (record { ref_ptr = (0, 0); now = q }) ∙ ap (λ b. cond b true (has c.args.seen.now q)) (is_eq-slice_cmp c.args.name.now q)
