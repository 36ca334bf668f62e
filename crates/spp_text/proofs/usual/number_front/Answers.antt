use Rattle.std.proofs.Common.{◌≡◌, ℕ, List, ◌-◌, ◌<◌, length, take, drop, get_or, refl, ap, ◌∙◌, arith, take_all, lit<}
use Rattle.std.proofs.lemmas.List.{length-drop, get_or-take}
use Rattle.spp_text.proofs.UsualNumbers.{digit_more, room_for_digit, number_read}
use Rattle.spp_text.proofs.usual.number_front.Goals as goal

-- a byte of the front is that of the text
in_front : (text front : List ℕ) (i : ℕ) → front ≡ take 19 text → i < 19 → get_or front i 0 ≡ get_or text i 0
in_front text front i same lt = ap (λ (l : List ℕ). get_or l i 0) same ∙ get_or-take 19 text i 0 lt

pub loop-i-init : goal.loop-i-init
loop-i-init c = record { value = refl; each = refl; small = lit< tt }

pub returns-else-i-eq0 : goal.returns-else-i-eq0
returns-else-i-eq0 c =
    let text = c.args.text.now in
    let i = c.loop-i.i in
    let long = c.in_ok-front.ensures.cases.enough in
    let some : 0 < i = omega (arith, c.if-i-eq0.false) in
    let all : take (length text - i) (drop i text) ≡ drop i text = take_all _ _ (omega (arith, length-drop i text)) in
    rw all (number_read text i c.loop-i.n c.loop-i.invariant (omega (arith, c.loop-i.auto.n-fits)) some (omega arith))

pub overflow_mul-n : goal.overflow_mul-n
overflow_mul-n c =
    let below = room_for_digit c.args.text.now c.loop-i.i c.loop-i.n c.loop-i.invariant (omega arith) in
    omega arith

pub overflow_add-n : goal.overflow_add-n
overflow_add-n c =
    let below = room_for_digit c.args.text.now c.loop-i.i c.loop-i.n c.loop-i.invariant (omega arith) in
    omega arith

pub loop-i-preserved : goal.loop-i-preserved
loop-i-preserved c =
    let text = c.args.text.now in
    let i = c.loop-i.i in
    let long = c.in_ok-front.ensures.cases.enough in
    let read = in_front text c.in_ok-front.front.now i c.in_ok-front.ensures.cases.same (omega arith) in
    digit_more text i c.loop-i.n (get_or text i 0) c.from.result c.loop-i.invariant (omega arith) refl (omega (arith, c.type_inv.text i)) (omega (arith, read, c.from.ensures)) (omega (arith, read, c.from.ensures))
