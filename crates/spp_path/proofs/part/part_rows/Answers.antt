use Rattle.std.proofs.Common.{ℕ, ◌+◌, sym, subst, refl, ◌∙◌, List, arith}
use Rattle.spp_event.specs.declared.records.Event.{Event}
use Rattle.spp_frame.specs.Nesting.{AreEvents}
use Rattle.spp_maxplus.specs.declared.state.Burdens.{Burdens}
use Rattle.spp_site.specs.Table.{Sums}
use Rattle.spp_path.specs.Parts.{GoesOn, IsPathShare}
use Rattle.spp_path.specs.Settled.{entered_in}
use Rattle.spp_path.proofs.Alike.{alike_goes}
use Rattle.spp_path.proofs.PartPass.{known_in, some_read, ok_more}
use Rattle.spp_path.proofs.Placed.{placed_goes}
use Rattle.spp_path.proofs.Staying.{beside_share}
use Rattle.spp_path.proofs.part.part_rows.Goals as goal

pub rows_within-requires-clause-goes : goal.rows_within-requires-clause-goes
rows_within-requires-clause-goes c = (
  c.requires.settled.0,
  placed_goes c.args.part.now c.args.entry c.args.settled.now c.requires.placed c.number-number.result c.number-number.ensures c.live-live.result c.live-live.ensures
      c.new-trail.result c.new-trail.ensures c.entered.result.now c.entered.ensures c.requires.settled.0 c.requires.settled.1,
)

pub returns-clause-share : goal.returns-clause-share
returns-clause-share c =
    ok_more _ _ c.rows_within.result
    (λ (t : Sums) h bd settled. h bd
    (placed_goes c.args.part.now c.args.entry c.args.settled.now c.requires.placed c.number-number.result c.number-number.ensures c.live-live.result c.live-live.ensures
    c.new-trail.result c.new-trail.ensures c.entered.result.now c.entered.ensures bd settled))
    c.rows_within.ensures

pub returns-clause-alike : goal.returns-clause-alike
returns-clause-alike c =
    ok_more _ _ c.rows_within.result
    (λ (t : Sums) h bd other alike settled. h bd
    (alike_goes c.args.part.now c.args.entry c.args.settled.now other alike c.requires.placed c.number-number.result c.number-number.ensures c.live-live.result c.live-live.ensures
    c.new-trail.result c.new-trail.ensures c.entered.result.now c.entered.ensures bd settled))
    c.rows_within.ensures

pub stays_beside-requires : goal.stays_beside-requires
stays_beside-requires c = λ (k : ℕ) lt.
    let part = c.args.part.now in
    let known = known_in part.trace c.requires.stands.0 part.first c.args.entry c.requires.stands.1 c.keeps_limits.ensures.limits c.keeps_limits.ensures.events in
    some_read part.trace known (part.first + k) (omega (arith, lt, c.keeps_limits.ensures.within))

-- the share of a part that the path stays away from, under burdens under which it goes so
none : (c : goal.After-into_share) → (bd : Burdens) (spawns : List ℕ)
    → GoesOn c.args.part.now bd c.args.entry c.live-live.result.entry (record { skipped = c.live-live.result.skipped; running = c.live-live.result.running }) spawns
    → (es : List Event) → AreEvents c.args.part.now.trace.records es → IsPathShare es bd c.args.part.now.trace.root c.args.part.now.first (c.args.part.now.first + c.args.part.now.count) c.into_share.result
none c bd spawns goes es are =
    let part = c.args.part.now in
    let live = c.live-live.result in
    let known = known_in part.trace c.requires.stands.0 part.first c.args.entry c.requires.stands.1 c.keeps_limits.ensures.limits c.keeps_limits.ensures.events in
    subst (λ (t : Sums). IsPathShare es bd part.trace.root part.first (part.first + part.count) t) (sym (c.into_share.ensures ∙ c.new.ensures))
    (beside_share part known c.keeps_limits.ensures.within c.requires.stands.0 c.args.entry c.requires.stands.1 live.entry
    (record { skipped = live.skipped; running = live.running }) spawns bd goes (c.stays_beside.ensures.0 c.if-stays_beside.true) es are)

pub returns-then-stays_beside-clause-share : goal.returns-then-stays_beside-clause-share
returns-then-stays_beside-clause-share c = λ bd settled.
    none c bd (entered_in c.args.settled.now c.number-number.result)
    (placed_goes c.args.part.now c.args.entry c.args.settled.now c.requires.placed c.number-number.result c.number-number.ensures c.live-live.result c.live-live.ensures _ refl _ refl bd settled)

pub returns-then-stays_beside-clause-alike : goal.returns-then-stays_beside-clause-alike
returns-then-stays_beside-clause-alike c = λ bd other alike settled.
    none c bd (entered_in c.args.settled.now c.number-number.result)
    (alike_goes c.args.part.now c.args.entry c.args.settled.now other alike c.requires.placed c.number-number.result c.number-number.ensures c.live-live.result c.live-live.ensures _ refl _ refl bd settled)
