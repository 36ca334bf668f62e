use Rattle.std.proofs.Common.{◌∙◌, ◌++◌, [], ◌∷◌, ap, ap₂, sym, map}
use Rattle.std.proofs.lemmas.List.{map_more, map_push}
use Rattle.spp_command_line.proofs.reading.texts.Goals as goal

pub loop-word-preserved : goal.loop-word-preserved
loop-word-preserved g c =
    ap (map (λ w. w.now)) c.in_ok-push.ensures.items
    ∙ map_push (λ w. w.now) c.loop-word.texts.items c.as_str.result
    ∙ ap₂ (λ texts text. texts ++ text ∷ []) c.loop-word.invariant (c.as_str.ensures ∙ ap g.S.AsStr.text c.word-item.is)
    ∙ sym (map_more g.S.AsStr.text c.args.words.now c.loop-word.word-index c.word-item.result c.loop-word-test.true)
