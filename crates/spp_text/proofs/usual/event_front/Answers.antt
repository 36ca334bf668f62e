use Rattle.std.proofs.Common.{◌≡◌, ℕ, ◌-◌, List, ◌∷◌, inl, inr, refl, length, take, drop, arith, take_all}
use Rattle.std.proofs.lemmas.List.{length-drop}
use Rattle.spp_text.proofs.UsualWords.{is_head, begins_with_seven, begins_with_six, begins_with_five, begins_with_eight}
use Rattle.spp_text.proofs.UsualLines.{strand_line, call_line, spawn_line, ret_line, sync_line}
use Rattle.spp_text.proofs.usual.event_front.Goals as goal

-- a slice to the end
to_end : (text : List ℕ) (k : ℕ) → take (length text - k) (drop k text) ≡ drop k text
to_end text k = take_all _ _ (omega (arith, length-drop k text))

pub returns-then-head-eq-STRAND : goal.returns-then-head-eq-STRAND
returns-then-head-eq-STRAND c =
    let text = c.args.text.now in
    let n = c.from_be_bytes-head.result in
    let same = c.in_ok-first_chunk.ensures.cases.same in
    let head = is_head text n (λ i. omega (arith, c.type_inv.text i)) c.in_ok-first_chunk.ensures.cases.enough (rw (← same) c.from_be_bytes-head.ensures) in
    strand_line text (drop 7 text) c.in_ok-count.rest.now c.in_ok-count.count (begins_with_seven text n _ head c.if-head-eq-STRAND.true) (rw (to_end text 7) at c.in_ok-count.ensures)

pub returns-then-head-eq-RETURN : goal.returns-then-head-eq-RETURN
returns-then-head-eq-RETURN c =
    let text = c.args.text.now in
    let n = c.from_be_bytes-head.result in
    let same = c.in_ok-first_chunk.ensures.cases.same in
    let head = is_head text n (λ i. omega (arith, c.type_inv.text i)) c.in_ok-first_chunk.ensures.cases.enough (rw (← same) c.from_be_bytes-head.ensures) in
    rw (to_end text 7) (ret_line text (10 ∷ drop 7 text) (drop 7 text) (begins_with_seven text n _ head c.if-head-eq-RETURN.true) (inl refl))

pub returns-then-head-eq-SPAWN : goal.returns-then-head-eq-SPAWN
returns-then-head-eq-SPAWN c =
    let text = c.args.text.now in
    let n = c.from_be_bytes-head.result in
    let same = c.in_ok-first_chunk.ensures.cases.same in
    let head = is_head text n (λ i. omega (arith, c.type_inv.text i)) c.in_ok-first_chunk.ensures.cases.enough (rw (← same) c.from_be_bytes-head.ensures) in
    spawn_line text (drop 6 text) c.in_ok-site.rest.now c.in_ok-site.site c.in_ok-site.func (begins_with_six text n _ head c.if-head-eq-SPAWN.true) (rw (to_end text 6) at c.in_ok-site.ensures)

pub returns-then-head-eq-CALL : goal.returns-then-head-eq-CALL
returns-then-head-eq-CALL c =
    let text = c.args.text.now in
    let n = c.from_be_bytes-head.result in
    let same = c.in_ok-first_chunk.ensures.cases.same in
    let head = is_head text n (λ i. omega (arith, c.type_inv.text i)) c.in_ok-first_chunk.ensures.cases.enough (rw (← same) c.from_be_bytes-head.ensures) in
    call_line text (drop 5 text) c.in_ok-site-2.rest.now c.in_ok-site-2.site c.in_ok-site-2.func (begins_with_five text n _ head c.if-head-eq-CALL.true) (rw (to_end text 5) at c.in_ok-site-2.ensures)

pub returns-then-head-eq-SYNC : goal.returns-then-head-eq-SYNC
returns-then-head-eq-SYNC c =
    let text = c.args.text.now in
    let n = c.from_be_bytes-head.result in
    let same = c.in_ok-first_chunk.ensures.cases.same in
    let head = is_head text n (λ i. omega (arith, c.type_inv.text i)) c.in_ok-first_chunk.ensures.cases.enough (rw (← same) c.from_be_bytes-head.ensures) in
    rw (to_end text 5) (sync_line text (10 ∷ drop 5 text) (drop 5 text) (begins_with_five text n _ head c.if-head-eq-SYNC.true) (inl refl))

pub returns-then-head-eq-RETURN_CRLF : goal.returns-then-head-eq-RETURN_CRLF
returns-then-head-eq-RETURN_CRLF c =
    let text = c.args.text.now in
    let n = c.from_be_bytes-head.result in
    let same = c.in_ok-first_chunk.ensures.cases.same in
    let head = is_head text n (λ i. omega (arith, c.type_inv.text i)) c.in_ok-first_chunk.ensures.cases.enough (rw (← same) c.from_be_bytes-head.ensures) in
    rw (to_end text 8) (ret_line text (13 ∷ 10 ∷ drop 8 text) (drop 8 text) (begins_with_eight text n _ head c.if-head-eq-RETURN_CRLF.true) (inr refl))

pub returns-then-head-eq-SYNC_CRLF : goal.returns-then-head-eq-SYNC_CRLF
returns-then-head-eq-SYNC_CRLF c =
    let text = c.args.text.now in
    let n = c.from_be_bytes-head.result in
    let same = c.in_ok-first_chunk.ensures.cases.same in
    let head = is_head text n (λ i. omega (arith, c.type_inv.text i)) c.in_ok-first_chunk.ensures.cases.enough (rw (← same) c.from_be_bytes-head.ensures) in
    rw (to_end text 6) (sync_line text (13 ∷ 10 ∷ drop 6 text) (drop 6 text) (begins_with_six text n _ head c.if-head-eq-SYNC_CRLF.true) (inr refl))
