use Rattle.std.proofs.Common.{ℕ, OnOk, ap, ◌∙◌, arith}
use Rattle.std.proofs.lemmas.Result.{on_ok_weaker}
use Rattle.spp_site.specs.Marks.{is_marked, with_mark}
use Rattle.spp_ways.specs.declared.log.LogRow.{LogRow}
use Rattle.spp_ways.proofs.Marking.{FourMarked, four_marked}
use Rattle.spp_ways.proofs.log.LogRow.mark_links.Goals.{After-add-4}
use Rattle.spp_ways.proofs.log.LogRow.mark_links.Goals as goal

marked : (c : After-add-4) → OnOk c.add-4.result (FourMarked c.args.self.now.before c.args.self.now.within c.args.self.now.burdened_before c.args.self.now.burdened_within (is_marked c.args.marks.now) (is_marked c.add-4.new.self))
marked c =
    let r : LogRow = c.args.self.now in
    on_ok_weaker c.add-4.result (λ last. four_marked r.before r.within r.burdened_before r.burdened_within (is_marked c.args.marks.now)
    (is_marked c.add.new.self) (is_marked c.add-2.new.self) (is_marked c.add-3.new.self) (is_marked c.add-4.new.self)
    (λ y. c.in_ok-add.ensures.added y ∙ ap (λ (x : ℕ). with_mark x (is_marked c.args.marks.now) y) c.before-2.ensures)
    (λ y. c.in_ok-add-2.ensures.added y ∙ ap (λ (x : ℕ). with_mark x (is_marked c.add.new.self) y) c.within.ensures)
    (λ y. c.in_ok-add-3.ensures.added y ∙ ap (λ (x : ℕ). with_mark x (is_marked c.add-2.new.self) y) c.before-3.ensures)
    (λ y. last y ∙ ap (λ (x : ℕ). with_mark x (is_marked c.add-3.new.self) y) c.within-2.ensures)) c.add-4.ensures.added

pub returns-clause-kept : goal.returns-clause-kept
returns-clause-kept c = on_ok_weaker c.add-4.result (λ h. record { before = h.first; within = h.second; burdened_before = h.third; burdened_within = h.fourth }) (marked c)

pub returns-clause-more : goal.returns-clause-more
returns-clause-more c = on_ok_weaker c.add-4.result (λ h. h.more) (marked c)

pub returns-clause-others : goal.returns-clause-others
returns-clause-others c =
    on_ok_weaker c.add-4.result (λ h n k link lt. h.others k (omega (arith, link.before, lt)) (omega (arith, link.within, lt)) (omega (arith, link.burdened_before, lt)) (omega (arith, link.burdened_within, lt))) (marked c)
