use Rattle.std.proofs.Common.{ap, sym, ◌∙◌}
use Rattle.spp_dag.specs.Shares.{plus}
use Rattle.spp_ways.specs.Enclosures.{enclosure_of}
use Rattle.spp_pass.specs.CallFrames.{stretch_calls}
use Rattle.spp_pass.specs.declared.aside.RowsAside.{RowsAside}
use Rattle.spp_pass.specs.Passes.{Seen, no_notes, seen_with}
use Rattle.spp_pass.specs.CallRows.{calls_row}
use Rattle.spp_pass.specs.AsideRows.{aside_row}
use Rattle.spp_pass.specs.Stretches.{enclosure}
use Rattle.spp_part.specs.Parts.{stretch_of}
use Rattle.spp_part.proofs.Standing.{same_enclosure}
use Rattle.spp_part.proofs.GoingOn.{onto, fits, can_ways, wins_of_outer, stands_owing, can_without, aside_fits, swapped}
use Rattle.spp_part.proofs.so_far.ProfileSoFar.go_on_aside.Goals as goal

pub wins_by-wins-requires : goal.wins_by-wins-requires
wins_by-wins-requires c = let q = c.requires in fits q.1 q.2 c.args.first q.3 q.4 q.5 c.args.self.now.counting c.args.self.now.ways c.args.stretch q.6 q.7

pub join-requires-clause-can : goal.join-requires-clause-can
join-requires-clause-can c on =
    let q = c.requires in
    let o = onto q.1 q.2 c.args.first q.3 q.4 q.5 c.args.self.now.counting c.args.self.now.ways (stretch_of c.args.stretch) q.6 q.7 in
    can_ways q.1 q.2 c.args.first q.3 q.4 q.5 c.args.self.now.counting c.args.self.now.ways c.args.stretch q.6 q.7 c.wins_by-wins.result (enclosure_of c.enclosing.result)
    (c.wins_by-wins.ensures o.top o.below o.is) (c.enclosing.ensures o.top o.below o.is ∙ same_enclosure o.top (seen_with c.args.self.now.counting no_notes) q.6.state q.6.counted) on

pub put_stretch_aside-requires-clause-fits : goal.put_stretch_aside-requires-clause-fits
put_stretch_aside-requires-clause-fits c =
    let q = c.requires in
    aside_fits q.1 q.2 c.args.first q.3 q.4 q.5 c.args.self.now.counting c.args.self.now.ways c.args.stretch q.6 q.7 (aside_row c.replace-aside.result) q.0
    (λ key. ap (λ (a : RowsAside). plus (aside_row a key) (q.0 key)) (sym c.replace-aside.ensures.value))

pub join-requires-2 : goal.join-requires-2
join-requires-2 c =
    let q = c.requires in
    can_without q.1 q.2 c.args.first q.3 q.4 q.5 c.args.self.now.counting c.args.self.now.ways c.args.stretch q.6 q.7

pub returns-clause-stands : goal.returns-clause-stands
returns-clause-stands c lent trace burdens i j settled st go =
    let now : Seen = seen_with c.args.self.now.counting no_notes in
    let o = onto trace burdens c.args.first i j settled c.args.self.now.counting c.args.self.now.ways (stretch_of c.args.stretch) st go in
    let encloses = c.enclosing.ensures o.top o.below o.is ∙ same_enclosure o.top now st.state st.counted in
    stands_owing trace burdens c.args.first i j settled c.args.self.now.counting c.args.self.now.ways (stretch_of c.args.stretch) st go c.wins_by-wins.result (enclosure_of c.enclosing.result)
    (wins_of_outer trace burdens c.args.first i j settled c.args.self.now.counting c.args.self.now.ways c.args.stretch st go c.wins_by-wins.result (enclosure_of c.enclosing.result) (c.wins_by-wins.ensures o.top o.below o.is) encloses)
    encloses
    _
    (λ key. swapped (aside_row c.in_ok-self.field-0 key) (aside_row c.args.self.now.aside key) (lent key) (calls_row (enclosure o.top now) (stretch_calls c.args.stretch.calls) key)
    (c.in_ok-self.ensures o.top o.below o.is key ∙ ap (λ (a : RowsAside). plus (aside_row a key) (calls_row (enclosure o.top now) (stretch_calls c.args.stretch.calls) key)) c.replace-aside.ensures.value))
    c.join-2.new.self c.join.new.self
    (c.in_ok-join-2.ensures o.top o.below o.is no_notes no_notes)
    c.in_ok-join.ensures.laid (λ on base w ws us a b d. c.in_ok-join.ensures.ways on base w ws us a b d) c.in_ok-join.ensures.rows
