use Rattle.std.proofs.Common.{◌≡◌, ◌-◌, length, take, drop, arith, take_all, take-append-drop, sym}
use Rattle.std.proofs.lemmas.List.{length-drop}
use Rattle.spp_text.proofs.PlainLines.{front_behind_in}
use Rattle.spp_text.proofs.usual.indented_front.Goals as goal

pub returns-else-start-eq0 : goal.returns-else-start-eq0
returns-else-start-eq0 c =
    let text = c.args.text.now in
    let start = c.loop-start.start in
    let all : take (length text - start) (drop start text) ≡ drop start text = take_all _ _ (omega (arith, length-drop start text)) in
    front_behind_in text (take start text) (drop start text) c.event_front.result (sym (take-append-drop start text)) c.loop-start.invariant (rw all at c.event_front.ensures)
