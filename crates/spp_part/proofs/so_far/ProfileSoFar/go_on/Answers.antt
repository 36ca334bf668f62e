use Rattle.std.proofs.Common.{◌∙◌}
use Rattle.spp_ways.specs.Enclosures.{enclosure_of}
use Rattle.spp_pass.specs.Passes.{no_notes, seen_with}
use Rattle.spp_part.specs.Parts.{stretch_of}
use Rattle.spp_part.proofs.Standing.{same_enclosure}
use Rattle.spp_part.proofs.GoingOn.{onto, fits, can, can_ways, wins_of_outer, stands}
use Rattle.spp_part.proofs.so_far.ProfileSoFar.go_on.Goals as goal

pub wins_by-wins-requires : goal.wins_by-wins-requires
wins_by-wins-requires c = let q = c.requires in fits q.1 q.2 c.args.first q.3 q.4 q.5 c.args.self.now.counting c.args.self.now.ways c.args.stretch.now q.6 q.7

pub join-requires-clause-can : goal.join-requires-clause-can
join-requires-clause-can c on =
    let q = c.requires in
    let o = onto q.1 q.2 c.args.first q.3 q.4 q.5 c.args.self.now.counting c.args.self.now.ways (stretch_of c.args.stretch.now) q.6 q.7 in
    can_ways q.1 q.2 c.args.first q.3 q.4 q.5 c.args.self.now.counting c.args.self.now.ways c.args.stretch.now q.6 q.7 c.wins_by-wins.result (enclosure_of c.enclosing.result)
    (c.wins_by-wins.ensures o.top o.below o.is) (c.enclosing.ensures o.top o.below o.is ∙ same_enclosure o.top (seen_with c.args.self.now.counting no_notes) q.6.state q.6.counted) on

pub join_stretch-requires : goal.join_stretch-requires
join_stretch-requires c = let q = c.requires in can q.1 q.2 c.args.first q.3 q.4 q.5 c.args.self.now.counting c.args.self.now.ways c.args.stretch.now q.6 q.7

pub returns-clause-stands : goal.returns-clause-stands
returns-clause-stands c rest trace burdens i j settled st go =
    let o = onto trace burdens c.args.first i j settled c.args.self.now.counting c.args.self.now.ways (stretch_of c.args.stretch.now) st go in
    let encloses = c.enclosing.ensures o.top o.below o.is ∙ same_enclosure o.top (seen_with c.args.self.now.counting no_notes) st.state st.counted in
    stands trace burdens c.args.first i j settled c.args.self.now.counting c.args.self.now.ways (stretch_of c.args.stretch.now) st go c.wins_by-wins.result (enclosure_of c.enclosing.result)
    (wins_of_outer trace burdens c.args.first i j settled c.args.self.now.counting c.args.self.now.ways c.args.stretch.now st go c.wins_by-wins.result (enclosure_of c.enclosing.result) (c.wins_by-wins.ensures o.top o.below o.is) encloses)
    encloses
    c.join_stretch.new.self c.join.new.self
    (c.in_ok-join_stretch.ensures o.top o.below o.is no_notes no_notes)
    c.in_ok-join.ensures.laid (λ on base w ws us a b d. c.in_ok-join.ensures.ways on base w ws us a b d) c.in_ok-join.ensures.rows
