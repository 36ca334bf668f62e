use Rattle.std.proofs.Common.{◌≡◌, ℕ, ◌<◌, length, Ok, refl, sym, ap, subst, ◌∙◌, arith, inl, inr}
use Rattle.spp_event.specs.declared.records.Event.TheVariants.{Strand, Call, Spawn, Ret, Sync}
use Rattle.spp_event.specs.Recordings.{record_at}
use Rattle.spp_frame.proofs.Far.{Far, far_more, far_all, far_open, returns_right}
use Rattle.spp_frame.proofs.check_by.Goals as goal
use Rattle.spp_frame.proofs.check_by.Goals.{in-Strand, in-Call, in-Ret+else-depth-eq0, in-Sync}

pub loop-at-preserved : goal.loop-at-preserved
loop-at-preserved g c =
    let rs = c.args.trace.now.records in
    let i = c.loop-at.at in
    let inv = c.loop-at.invariant in
    let far : Far rs i c.loop-at.depth c.loop-at.work = record { good = inv.good; depth = inv.depth; work = inv.work } in
    let lt : i < length rs = omega (arith, c.count-at-end.ensures.count) in
    let said : record_at rs i ≡ Ok c.in-Ok.event = sym c.read.ensures.said ∙ c.in-Ok.is in
    elim c.match-event.branch [
      | in-Strand w ↦
          let is : record_at rs i ≡ Ok (Strand w.in-Strand.count) = said ∙ ap (λ e. Ok e) w.in-Strand.is in
          let n = w.from-work.ensures in
          let f = far_more rs i c.loop-at.depth c.loop-at.work c.match-event.depth c.match-event.work (Ok (Strand w.in-Strand.count)) lt is far refl (omega arith) (omega arith) in
          record { good = f.good; depth = f.depth; work = f.work; small = omega arith; shallow = omega arith; next = c.read.ensures.next }
      | in-Call w ↦
          elim w.in-Call.is [
            | inl h ↦
                let is : record_at rs i ≡ Ok (Call h.0 h.1) = said ∙ ap (λ e. Ok e) h.2 in
                let f = far_more rs i c.loop-at.depth c.loop-at.work c.match-event.depth c.match-event.work (Ok (Call h.0 h.1)) lt is far refl (omega arith) (omega arith) in
                record { good = f.good; depth = f.depth; work = f.work; small = omega arith; shallow = omega arith; next = c.read.ensures.next }
            | inr h ↦
                let is : record_at rs i ≡ Ok (Spawn h.0 h.1) = said ∙ ap (λ e. Ok e) h.2 in
                let f = far_more rs i c.loop-at.depth c.loop-at.work c.match-event.depth c.match-event.work (Ok (Spawn h.0 h.1)) lt is far refl (omega arith) (omega arith) in
                record { good = f.good; depth = f.depth; work = f.work; small = omega arith; shallow = omega arith; next = c.read.ensures.next }
          ]
      | in-Ret+else-depth-eq0 w ↦
          let is : record_at rs i ≡ Ok Ret = said ∙ ap (λ e. Ok e) w.in-Ret.is in
          let f = far_more rs i c.loop-at.depth c.loop-at.work c.match-event.depth c.match-event.work (Ok Ret) lt is far (returns_right c.loop-at.depth (omega arith)) (omega arith) (omega arith) in
          record { good = f.good; depth = f.depth; work = f.work; small = omega arith; shallow = omega arith; next = c.read.ensures.next }
      | in-Sync w ↦
          let is : record_at rs i ≡ Ok Sync = said ∙ ap (λ e. Ok e) w.in-Sync.is in
          let f = far_more rs i c.loop-at.depth c.loop-at.work c.match-event.depth c.match-event.work (Ok Sync) lt is far refl (omega arith) (omega arith) in
          record { good = f.good; depth = f.depth; work = f.work; small = omega arith; shallow = omega arith; next = c.read.ensures.next }
    ]

pub returns-then-depth-gt0-clause-fault : goal.returns-then-depth-gt0-clause-fault
returns-then-depth-gt0-clause-fault g c =
    let rs = c.args.trace.now.records in
    let inv = c.loop-at.invariant in
    let end : c.loop-at.at ≡ length rs = omega (arith, c.count-at-end.ensures.count) in
    let far : Far rs c.loop-at.at c.loop-at.depth c.loop-at.work = record { good = inv.good; depth = inv.depth; work = inv.work } in
    far_open rs c.loop-at.depth c.loop-at.work c.count.result c.count.ensures.count (omega arith) (subst (λ (n : ℕ). Far rs n c.loop-at.depth c.loop-at.work) end far)

pub returns-clause-work : goal.returns-clause-work
returns-clause-work g c =
    let rs = c.args.trace.now.records in
    let inv = c.loop-at.invariant in
    let end : c.loop-at.at ≡ length rs = omega (arith, c.count-at-end.ensures.count) in
    let none : c.loop-at.depth ≡ 0 = omega arith in
    let far : Far rs c.loop-at.at c.loop-at.depth c.loop-at.work = record { good = inv.good; depth = inv.depth; work = inv.work } in
    far_all rs c.loop-at.work (subst (λ (d : ℕ). Far rs (length rs) d c.loop-at.work) none (subst (λ (n : ℕ). Far rs n c.loop-at.depth c.loop-at.work) end far))
