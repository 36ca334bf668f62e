use Rattle.std.proofs.Common.{ℕ, ◌+◌, refl, sym, subst, ◌∙◌}
use Rattle.spp_site.specs.Table.{Sums}
use Rattle.spp_path.specs.Parts.{IsPathShare}
use Rattle.spp_path.specs.Settled.{entered_in}
use Rattle.spp_path.proofs.AlongPath.{Reads, known, some_event}
use Rattle.spp_path.proofs.PartPass.{ok_more}
use Rattle.spp_path.proofs.Placed.{placed_goes}
use Rattle.spp_path.proofs.Staying.{beside_share}
use Rattle.spp_path.proofs.both.both_part_rows.Goals as goal
use Rattle.spp_path.proofs.both.both_part_rows.Goals.{After-keeps_limits}

-- what is known of the part
reads : (c : After-keeps_limits) → Reads c.args.part.now c.args.entry
reads c = record { stands = c.requires.stands; limits = c.keeps_limits.ensures.limits; events = c.keeps_limits.ensures.events; within = c.keeps_limits.ensures.within }

pub stays_beside-requires : goal.stays_beside-requires
stays_beside-requires c = λ (k : ℕ) lt. some_event (reads (goal.at.stays_beside-requires c).After-keeps_limits) k lt

pub stays_beside-requires-2 : goal.stays_beside-requires-2
stays_beside-requires-2 c = λ (k : ℕ) lt. some_event (reads (goal.at.stays_beside-requires-2 c).After-keeps_limits) k lt

pub returns-then-stays_beside-clause-share : goal.returns-then-stays_beside-clause-share
returns-then-stays_beside-clause-share c = λ bd settled es are.
    let part = c.args.part.now in
    let live = c.live-live.result in
    let goes =
    placed_goes part c.args.entry c.args.one.now c.requires.placed c.number-number.result c.number-number.ensures live c.live-live.ensures _ refl (entered_in c.args.one.now c.number-number.result) refl bd settled in
    subst (λ (t : Sums). IsPathShare es bd part.trace.root part.first (part.first + part.count) t) (sym (c.into_share-none.ensures ∙ c.new.ensures))
    (beside_share part (known (reads (goal.at.returns-then-stays_beside-clause-share c).After-keeps_limits)) c.keeps_limits.ensures.within c.requires.stands.0 c.args.entry c.requires.stands.1 live.entry
    (record { skipped = live.skipped; running = live.running }) (entered_in c.args.one.now c.number-number.result) bd goes (c.stays_beside.ensures.0 c.if-stays_beside.true) es are)

pub returns-then-stays_beside-2-clause-other_share : goal.returns-then-stays_beside-2-clause-other_share
returns-then-stays_beside-2-clause-other_share c = λ bd settled es are.
    let part = c.args.part.now in
    let live = c.live-other_live.result in
    let goes =
    placed_goes part c.args.entry c.args.other.now c.requires.other_placed c.number-number.result c.number-number.ensures live c.live-other_live.ensures _ refl (entered_in c.args.other.now c.number-number.result) refl bd settled in
    subst (λ (t : Sums). IsPathShare es bd part.trace.root part.first (part.first + part.count) t) (sym (c.into_share-none-then-stays_beside-2.ensures ∙ c.new-then-stays_beside-2.ensures))
    (beside_share part (known (reads (goal.at.returns-then-stays_beside-2-clause-other_share c).After-keeps_limits)) c.keeps_limits.ensures.within c.requires.stands.0 c.args.entry c.requires.stands.1 live.entry
    (record { skipped = live.skipped; running = live.running }) (entered_in c.args.other.now c.number-number.result) bd goes (c.stays_beside-2.ensures.0 c.if-stays_beside-2.true) es are)

pub both_rows_within-requires-clause-goes : goal.both_rows_within-requires-clause-goes
both_rows_within-requires-clause-goes c = (
  c.requires.settled.0,
  placed_goes c.args.part.now c.args.entry c.args.one.now c.requires.placed c.number-number.result c.number-number.ensures c.live-live.result c.live-live.ensures _ refl c.entered.result.now c.entered.ensures
      c.requires.settled.0 c.requires.settled.1,
)

pub both_rows_within-requires-clause-other_goes : goal.both_rows_within-requires-clause-other_goes
both_rows_within-requires-clause-other_goes c = (
  c.requires.other_settled.0,
  placed_goes c.args.part.now c.args.entry c.args.other.now c.requires.other_placed c.number-number.result c.number-number.ensures c.live-other_live.result c.live-other_live.ensures _ refl c.entered-2.result.now
      c.entered-2.ensures c.requires.other_settled.0 c.requires.other_settled.1,
)

pub returns-clause-share : goal.returns-clause-share
returns-clause-share c =
    ok_more _ _ c.both_rows_within.result
    (λ (t : Sums × Sums) h bd settled. h bd
    (placed_goes c.args.part.now c.args.entry c.args.one.now c.requires.placed c.number-number.result c.number-number.ensures c.live-live.result c.live-live.ensures _ refl c.entered.result.now c.entered.ensures
    bd settled))
    c.both_rows_within.ensures.share

pub returns-clause-other_share : goal.returns-clause-other_share
returns-clause-other_share c =
    ok_more _ _ c.both_rows_within.result
    (λ (t : Sums × Sums) h bd settled. h bd
    (placed_goes c.args.part.now c.args.entry c.args.other.now c.requires.other_placed c.number-number.result c.number-number.ensures c.live-other_live.result c.live-other_live.ensures _ refl c.entered-2.result.now
    c.entered-2.ensures bd settled))
    c.both_rows_within.ensures.other_share
