use Rattle.std.proofs.Common.{suc, false, refl, sym, ap, subst, ◌∙◌}
use Rattle.spp_dag.specs.declared.row.Row.{Row}
use Rattle.spp_dag.specs.Shares.{plus}
use Rattle.spp_site.specs.Rows.{frame_row}
use Rattle.spp_site.specs.Profiles.{key_row}
use Rattle.spp_site.proofs.Rows.{plus-swap, first_fits}
use Rattle.spp_ways.specs.declared.open_ways.OpenWays.{OpenWays}
use Rattle.spp_pass.specs.declared.counting.Counting.{Counting}
use Rattle.spp_pass.specs.AsideRows.{aside_row}
use Rattle.spp_site.specs.NarrowRows.{at_site}
use Rattle.spp_pass.specs.Passes.{Seen, no_notes, seen_with, noted_return}
use Rattle.spp_site.proofs.Keys.{row_fits}
use Rattle.spp_part.specs.declared.so_far.ProfileSoFar.{ProfileSoFar}
use Rattle.spp_part.specs.Parts.{Rows, Stands, rest_of}
use Rattle.spp_part.proofs.Ends.{can_pop, closing_in, popped_still, root_returns, two, site, fits, returns_aside}
use Rattle.spp_part.proofs.GoingOn.{plus_turn}
use Rattle.spp_part.proofs.Standing.{all_fit}
use Rattle.spp_part.proofs.so_far.ProfileSoFar.ret_aside.Goals as goal

pub pop-requires : goal.pop-requires
pop-requires c = let q = c.requires in can_pop q.1 c.args.burdens q.2 c.args.self.now.counting c.args.self.now.ways q.3 q.5

pub returns-in_default-clause-fault : goal.returns-in_default-clause-fault
returns-in_default-clause-fault c _ lent trace at st e lt =
    root_returns trace c.args.burdens at c.args.self.now.counting c.args.self.now.ways st lt e c.pop.new.self
    (λ n.
    let old : Seen = seen_with c.args.self.now.counting n in
    let new : Seen = seen_with c.pop.new.self (noted_return at old.frames n) in
    popped_still c.args.burdens at old new old.frames (c.in_default.ensures.pops at n))

pub ret-requires-clause-two : goal.ret-requires-clause-two
ret-requires-clause-two c =
    let q = c.requires in
    let now : Seen = seen_with c.args.self.now.counting no_notes in
    let is = closing_in c.args.burdens now.work now.frames c.in-Some.popped c.in-Some.ensures.popped in
    two q.1 c.args.burdens q.2 c.args.self.now.counting c.args.self.now.ways q.3 q.5 c.in-Some.popped.closing is

pub ret-requires-clause-site : goal.ret-requires-clause-site
ret-requires-clause-site c =
    let q = c.requires in
    let now : Seen = seen_with c.args.self.now.counting no_notes in
    let is = closing_in c.args.burdens now.work now.frames c.in-Some.popped c.in-Some.ensures.popped in
    site q.1 c.args.burdens q.2 c.args.self.now.counting c.args.self.now.ways q.3 q.5 c.in-Some.popped.closing is

pub ret-requires-clause-fits : goal.ret-requires-clause-fits
ret-requires-clause-fits c on =
    let q = c.requires in
    let now : Seen = seen_with c.args.self.now.counting no_notes in
    let is = closing_in c.args.burdens now.work now.frames c.in-Some.popped c.in-Some.ensures.popped in
    fits q.1 c.args.burdens q.2 c.args.self.now.counting c.args.self.now.ways q.3 q.5 c.in-Some.popped.closing is on

pub close-requires-clause-limit : goal.close-requires-clause-limit
close-requires-clause-limit c =
    let q = c.requires in
    let now : Seen = seen_with c.args.self.now.counting no_notes in
    let is = closing_in c.args.burdens now.work now.frames c.in-Some.popped c.in-Some.ensures.popped in
    site q.1 c.args.burdens q.2 c.args.self.now.counting c.args.self.now.ways q.3 q.5 c.in-Some.popped.closing is

pub close-requires-clause-fits : goal.close-requires-clause-fits
close-requires-clause-fits c key =
    let q = c.requires in
    let now : Seen = seen_with c.args.self.now.counting no_notes in
    let rest : Rows = rest_of c.args.self.now q.0 in
    let added : Rows = at_site c.in-Some.popped.closing.site (frame_row c.in-Some.popped.closing.closed) in
    let all : Rows = λ key. plus (rest key) (added key) in
    let is = closing_in c.args.burdens now.work now.frames c.in-Some.popped c.in-Some.ensures.popped in
    let st = returns_aside q.1 c.args.burdens q.2 c.args.self.now.counting c.args.self.now.ways q.3 q.5 c.in-Some.popped.closing is q.4 c.pop.new.self
    (λ n. c.in-Some.ensures.pops q.2 n)
    all (λ key. refl) c.ret.new.self c.in_ok-ret.ensures.laid c.in_ok-ret.ensures.ways c.in_ok-ret.ensures.rows in
    let table : Row = key_row c.pop.new.self.table key in
    first_fits (aside_row c.args.self.now.aside key) (q.0 key) (added key)
    (row_fits (all key) table (plus table (all key)) (plus_turn (all key) table) (all_fit q.1 c.args.burdens (suc q.2) false c.pop.new.self c.ret.new.self st key))

pub returns-clause-stands : goal.returns-clause-stands
returns-clause-stands c _ lent trace at st e lt =
    let now : Seen = seen_with c.args.self.now.counting no_notes in
    let added : Rows = at_site c.in-Some.popped.closing.site (frame_row c.in-Some.popped.closing.closed) in
    let is = closing_in c.args.burdens now.work now.frames c.in-Some.popped c.in-Some.ensures.popped in
    let new : ProfileSoFar = c.add_many_up.new.self in
    let here = returns_aside trace c.args.burdens at c.args.self.now.counting c.args.self.now.ways st lt c.in-Some.popped.closing is e c.pop.new.self (λ n. c.in-Some.ensures.pops at n)
    (rest_of new lent)
    (λ key. ap (λ r. plus r (lent key)) (c.in_ok-add_many_up.ensures.rows key ∙ c.in_ok-close.ensures.kept key) ∙ plus-swap (aside_row c.args.self.now.aside key) (added key) (lent key))
    c.ret.new.self c.in_ok-ret.ensures.laid c.in_ok-ret.ensures.ways c.in_ok-ret.ensures.rows in
    subst (λ (d : Counting). Stands (rest_of new lent) trace c.args.burdens (suc at) false d new.ways) (sym c.add_many_up.ensures.counting)
    (subst (λ (w : OpenWays). Stands (rest_of new lent) trace c.args.burdens (suc at) false c.pop.new.self w) (sym c.add_many_up.ensures.ways) here)
