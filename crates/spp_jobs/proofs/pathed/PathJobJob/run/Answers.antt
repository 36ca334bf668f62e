use Rattle.std.proofs.Common.{◌≡◌, ℕ, ◌+◌, ◌<◌, List, length, get_or, refl, sym, ap, subst, ◌∙◌, arith}
use Rattle.spp_event.specs.declared.records.Event.{Event}
use Rattle.spp_event.specs.Recordings.{Recording}
use Rattle.spp_frame.specs.Nesting.{AreEvents}
use Rattle.spp_cut.specs.Parts.{PartOf}
use Rattle.spp_maxplus.specs.declared.state.Burdens.{Burdens}
use Rattle.spp_maxplus.specs.State.{unburdened}
use Rattle.spp_site.specs.Table.{Sums}
use Rattle.spp_path.specs.Alike.{GoAlike}
use Rattle.spp_path.specs.Outside.{HasEntry}
use Rattle.spp_path.specs.Parts.{IsPathShare, IsPlaced, IsSettledIn}
use Rattle.spp_jobs.specs.Names.{paths, JobOf, spell}
use Rattle.spp_jobs.specs.Paths.{PathTask, IsPathed}
use Rattle.spp_jobs.proofs.Begins.{part_read, part_got}
use Rattle.spp_jobs.proofs.Entries.{entry_stands}
use Rattle.spp_jobs.proofs.Paths.{of_part}
use Rattle.spp_jobs.proofs.Runs.{number_at, placed}
use Rattle.spp_jobs.proofs.Spelling.{parts_told}
use Rattle.spp_jobs.proofs.pathed.PathJobJob.run.Goals as goal
use Rattle.spp_jobs.proofs.pathed.PathJobJob.run.Goals.{After-entry-entry}

-- the part, the stack where it begins, and the two paths there
module _ (c : After-entry-entry) where
  abbrev ps : List PartOf
  ps = c.self.inside.cut.now.parts

  abbrev p : PartOf
  p = c.index-parts-at.result

  within : c.args.number < length ps
  within =
      subst (λ (v : PathTask). c.args.number < length v.cut.parts) (sym c.self.view_is)
      (omega (arith, parts_told (record { kind = paths; cut = c.args.self.now.cut; burdens = c.args.self.now.burdens }), c.requires))

  lt : c.args.number < length c.parts.result.now
  lt = subst (λ (l : List PartOf). c.args.number < length l) (sym c.parts.ensures.parts) within

  trace_is : p.trace ≡ c.self.inside.cut.now.trace
  trace_is = (part_read c.self.inside.cut.now.trace ps c.parts.result.now c.args.number p c.parts.ensures.cut c.parts.ensures.parts c.index-parts-at.is lt).trace

  number_is : p.number ≡ c.args.number
  number_is =
      let got = part_got ps c.parts.result.now c.args.number p c.parts.ensures.parts c.index-parts-at.is lt in
      omega (arith, number_at c.self.inside.cut.now.trace 0 0 (length c.self.inside.cut.now.trace.records) ps c.parts.ensures.cut c.args.number p got)

  stands : (burdens : Burdens) × HasEntry p.trace burdens p.first c.entry-entry.result
  stands =
      let got = part_got ps c.parts.result.now c.args.number p c.parts.ensures.parts c.index-parts-at.is lt in
      let e = c.self.invariant.over.entries in
      (e.0, entry_stands c.self.inside.cut.now e.0 c.self.inside.stacks.now e.1 c.args.number p got c.entry-entry.result c.entry-entry.ensures.entry c.parts.ensures.cut)

  path_placed : IsPlaced p c.entry-entry.result c.self.inside.path.now
  path_placed =
      let got = part_got ps c.parts.result.now c.args.number p c.parts.ensures.parts c.index-parts-at.is lt in
      let s = c.self.invariant.over in
      placed c.self.inside.cut.now c.parts.ensures.cut s.entries.0 c.self.inside.stacks.now s.entries.1 c.args.number p got c.entry-entry.result c.entry-entry.ensures.entry
      c.self.inside.path.now s.stacks s.count

  burdened_placed : IsPlaced p c.entry-entry.result c.self.inside.burdened.now
  burdened_placed =
      let got = part_got ps c.parts.result.now c.args.number p c.parts.ensures.parts c.index-parts-at.is lt in
      let s = c.self.invariant.burdened_over in
      placed c.self.inside.cut.now c.parts.ensures.cut s.entries.0 c.self.inside.stacks.now s.entries.1 c.args.number p got c.entry-entry.result c.entry-entry.ensures.entry
      c.self.inside.burdened.now s.stacks s.count

  path_settled : IsSettledIn p.trace unburdened c.self.inside.path.now
  path_settled = subst (λ (x : Recording). IsSettledIn x unburdened c.self.inside.path.now) (sym trace_is) c.self.invariant.path

  burdened_settled : IsSettledIn p.trace c.self.inside.burdens c.self.inside.burdened.now
  burdened_settled = subst (λ (x : Recording). IsSettledIn x c.self.inside.burdens c.self.inside.burdened.now) (sym trace_is) c.self.invariant.burdened

  -- the shares are those of the part
  abbrev IsShare : Burdens → Sums → Type 0
  IsShare bd t = (es : List Event) → AreEvents p.trace.records es → IsPathShare es bd p.trace.root p.first (p.first + p.count) t

  pathed : (path burdened_path : Sums) → IsShare unburdened path → IsShare c.self.inside.burdens burdened_path
      → IsPathed (spell (record { kind = paths; cut = c.args.self.now.cut; burdens = c.args.self.now.burdens })) c.args.number (c.args.number + 1) (record { path = path; burdened_path = burdened_path })
  pathed path burdened_path one other =
      let cut = c.self.inside.cut.now in
      let j : JobOf = record { kind = paths; cut = cut; burdens = c.self.inside.burdens } in
      let p_is = c.index-parts-at.is ∙ ap (λ (l : List PartOf). get_or l c.args.number p) c.parts.ensures.parts in
      subst (λ (v : PathTask). IsPathed (spell (record { kind = paths; cut = v.cut; burdens = v.burdens })) c.args.number (c.args.number + 1) (record { path = path; burdened_path = burdened_path }))
      c.self.view_is (
        j,
        record { kind_is = refl; named = refl; cut = c.parts.ensures.cut; few = c.parts.ensures.few },
        record {
          run = c.self.invariant.run;
          path = of_part cut c.parts.ensures.cut c.self.invariant.run unburdened c.args.number p within p_is trace_is path one;
          burdened = of_part cut c.parts.ensures.cut c.self.invariant.run c.self.inside.burdens c.args.number p within p_is trace_is burdened_path other;
        },
      )

pub part_rows-requires-clause-stands : goal.part_rows-requires-clause-stands
part_rows-requires-clause-stands c = stands (goal.at.part_rows-requires-clause-stands c).After-entry-entry

pub part_rows-requires-clause-placed : goal.part_rows-requires-clause-placed
part_rows-requires-clause-placed c = path_placed (goal.at.part_rows-requires-clause-placed c).After-entry-entry

pub part_rows-requires-clause-settled : goal.part_rows-requires-clause-settled
part_rows-requires-clause-settled c = (unburdened, path_settled (goal.at.part_rows-requires-clause-settled c).After-entry-entry)

pub both_part_rows-requires-clause-stands : goal.both_part_rows-requires-clause-stands
both_part_rows-requires-clause-stands c = stands (goal.at.both_part_rows-requires-clause-stands c).After-entry-entry

pub both_part_rows-requires-clause-placed : goal.both_part_rows-requires-clause-placed
both_part_rows-requires-clause-placed c = path_placed (goal.at.both_part_rows-requires-clause-placed c).After-entry-entry

pub both_part_rows-requires-clause-settled : goal.both_part_rows-requires-clause-settled
both_part_rows-requires-clause-settled c = (unburdened, path_settled (goal.at.both_part_rows-requires-clause-settled c).After-entry-entry)

pub both_part_rows-requires-clause-other_placed : goal.both_part_rows-requires-clause-other_placed
both_part_rows-requires-clause-other_placed c = burdened_placed (goal.at.both_part_rows-requires-clause-other_placed c).After-entry-entry

pub both_part_rows-requires-clause-other_settled : goal.both_part_rows-requires-clause-other_settled
both_part_rows-requires-clause-other_settled c = (c.self.inside.burdens, burdened_settled (goal.at.both_part_rows-requires-clause-other_settled c).After-entry-entry)

pub returns-then-goes_alike : goal.returns-then-goes_alike
returns-then-goes_alike c =
    let h = (goal.at.returns-then-goes_alike c).After-entry-entry in
    let alike = subst (λ (k : ℕ). GoAlike k c.self.inside.path.now c.self.inside.burdened.now) (sym (number_is h)) (c.goes_alike.ensures.0 c.if-goes_alike.true) in
    pathed h c.in_ok-path.path c.in_ok-burdened_path.burdened_path (c.in_ok-path.ensures.share unburdened (path_settled h))
    (subst (λ (t : Sums). IsShare h c.self.inside.burdens t) (sym c.in_ok-burdened_path.ensures.same)
    (c.in_ok-path.ensures.alike c.self.inside.burdens c.self.inside.burdened.now alike (burdened_settled h)))

pub returns : goal.returns
returns c =
    let h = (goal.at.returns c).After-entry-entry in
    pathed h c.in_ok-path-2.path c.in_ok-path-2.burdened_path (c.in_ok-path-2.ensures.share unburdened (path_settled h))
    (c.in_ok-path-2.ensures.other_share c.self.inside.burdens (burdened_settled h))
