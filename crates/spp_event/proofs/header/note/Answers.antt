use Rattle.std.proofs.Common.{◌∙◌, ap, cond, true}
use Rattle.spp_event.specs.NameKeys.{name_key, has_by_key}
use Rattle.spp_event.proofs.KeyedNames.{same_by_key}
use Rattle.spp_event.proofs.header.note.Goals as goal

pub returns-clause-has : goal.returns-clause-has
returns-clause-has c = λ q.
    c.in_ok-insert.ensures.updates.0 (name_key q, record { ref_ptr = (0, 0); now = q })
    ∙ ap (λ b. cond b true (has_by_key c.args.seen.now q)) (same_by_key c.key_of.result c.args.name.now q (c.key_of.ensures ∙ ap name_key c.as_bytes.ensures.value))
