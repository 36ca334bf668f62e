use Rattle.std.proofs.Common.{◌≡◌, ℕ, ◌-◌, Bool, cond, List, length, reverse, get_or, Option, None, sym, ap, ap₂, subst, ◌∙◌, arith}
use Rattle.spp_dag.specs.declared.row.Row.{Row}
use Rattle.spp_dag.specs.Shares.{plus, zero_row}
use Rattle.spp_dag.specs.Steps.{same_key}
use Rattle.spp_site.specs.Rows.{Fits, frame_row}
use Rattle.spp_site.specs.declared.closed_frame.ClosedFrame.{ClosedFrame}
use Rattle.spp_site.proofs.LastFirst.{topped}
use Rattle.spp_ways.specs.declared.open_ways.OnPaths.{OnPaths}
use Rattle.spp_ways.specs.declared.frame_ways.LoggedWay.{LoggedWay}
use Rattle.spp_ways.specs.declared.frame_ways.FrameWays.{FrameWays}
use Rattle.spp_ways.specs.declared.open_ways.OpenWays.{OpenWays}
use Rattle.spp_ways.specs.Ways.{Ways}
use Rattle.spp_ways.specs.Logs.{way_row}
use Rattle.spp_ways.specs.OpenWays.{AreWays, on_path, path_of, chosen}
use Rattle.spp_ways.proofs.Steps.{some_frame}
use Rattle.spp_site.proofs.Keys.{row_fits}
use Rattle.spp_site.proofs.Rows.{zero-plus}
use Rattle.spp_ways.proofs.Ending.{root_way, new_key, root_key}
use Rattle.spp_ways.proofs.open_ways.OpenWays.path_table.Goals as goal

pub summed-requires-clause-fits : goal.summed-requires-clause-fits
summed-requires-clause-fits c key =
    let o : OpenWays = c.args.self.now in
    let on : Bool = c.args.burdened in
    let takes : OnPaths = c.args.takes in
    let closed : ClosedFrame = c.args.closed.now in
    let fs : List FrameWays = o.frames.items in
    let some = some_frame on o c.requires.fits.0 c.requires.fits.1 c.requires.fits.2 in
    let t = topped fs some in
    let at : c.len.result - 1 ≡ length fs - 1 = omega (arith, c.len.ensures, o.frames.ok.0) in
    let old : FrameWays = c.index.result.now in
    let top : old ≡ t.top = c.index.ensures ∙ ap (λ k. get_or fs k old) at ∙ t.get old in
    let way : c.chosen_on-way.result ≡ chosen (on_path on takes) (path_of on t.top) = c.chosen_on-way.ensures ∙ ap (λ (f : FrameWays). chosen (on_path on takes) (path_of on f)) top in
    let r = root_way o on takes closed c.requires.laid some in
    let rows = λ (w : LoggedWay) (key : Option ℕ). let x : Row = way_row on (reverse o.log.rows.items) w.rows key in x in
    let own = λ (w : LoggedWay) (key : Option ℕ). let x : Row = cond (same_key None key) (frame_row (record closed { local = w.own })) zero_row in x in
    let both = λ (ws : List Ways) (is : AreWays on o ws) (key : Option ℕ). r.rows ws is key ∙ ap (λ (w : LoggedWay). plus (rows w key) (own w key)) (sym way) in
    row_fits (rows c.chosen_on-way.result key) (own c.chosen_on-way.result key) _ (sym (both c.requires.fits.0 c.requires.fits.1 key)) (c.requires.fits.3 key)

pub add_to-requires : goal.add_to-requires
add_to-requires c key =
    let o : OpenWays = c.args.self.now in
    let on : Bool = c.args.burdened in
    let takes : OnPaths = c.args.takes in
    let closed : ClosedFrame = c.args.closed.now in
    let fs : List FrameWays = o.frames.items in
    let some = some_frame on o c.requires.fits.0 c.requires.fits.1 c.requires.fits.2 in
    let t = topped fs some in
    let at : c.len.result - 1 ≡ length fs - 1 = omega (arith, c.len.ensures, o.frames.ok.0) in
    let old : FrameWays = c.index.result.now in
    let top : old ≡ t.top = c.index.ensures ∙ ap (λ k. get_or fs k old) at ∙ t.get old in
    let way : c.chosen_on-way.result ≡ chosen (on_path on takes) (path_of on t.top) = c.chosen_on-way.ensures ∙ ap (λ (f : FrameWays). chosen (on_path on takes) (path_of on f)) top in
    let r = root_way o on takes closed c.requires.laid some in
    let rows = λ (w : LoggedWay) (key : Option ℕ). let x : Row = way_row on (reverse o.log.rows.items) w.rows key in x in
    let own = λ (w : LoggedWay) (key : Option ℕ). let x : Row = cond (same_key None key) (frame_row (record closed { local = w.own })) zero_row in x in
    let both = λ (ws : List Ways) (is : AreWays on o ws) (key : Option ℕ). r.rows ws is key ∙ ap (λ (w : LoggedWay). plus (rows w key) (own w key)) (sym way) in
    let added = λ (key : Option ℕ). ap₂ plus (new_key c.new-table.result c.new-table.ensures key) (c.in_ok-rows.ensures key) ∙ zero-plus (rows c.chosen_on-way.result key) in
    subst Fits (sym (added key)) (row_fits (rows c.chosen_on-way.result key) (own c.chosen_on-way.result key) _ (sym (both c.requires.fits.0 c.requires.fits.1 key)) (c.requires.fits.3 key))

pub add_root-requires : goal.add_root-requires
add_root-requires c =
    let o : OpenWays = c.args.self.now in
    let on : Bool = c.args.burdened in
    let takes : OnPaths = c.args.takes in
    let closed : ClosedFrame = c.args.closed.now in
    let fs : List FrameWays = o.frames.items in
    let some = some_frame on o c.requires.fits.0 c.requires.fits.1 c.requires.fits.2 in
    let t = topped fs some in
    let at : c.len.result - 1 ≡ length fs - 1 = omega (arith, c.len.ensures, o.frames.ok.0) in
    let old : FrameWays = c.index.result.now in
    let top : old ≡ t.top = c.index.ensures ∙ ap (λ k. get_or fs k old) at ∙ t.get old in
    let way : c.chosen_on-way.result ≡ chosen (on_path on takes) (path_of on t.top) = c.chosen_on-way.ensures ∙ ap (λ (f : FrameWays). chosen (on_path on takes) (path_of on f)) top in
    let r = root_way o on takes closed c.requires.laid some in
    let rows = λ (w : LoggedWay) (key : Option ℕ). let x : Row = way_row on (reverse o.log.rows.items) w.rows key in x in
    let own = λ (w : LoggedWay) (key : Option ℕ). let x : Row = cond (same_key None key) (frame_row (record closed { local = w.own })) zero_row in x in
    let both = λ (ws : List Ways) (is : AreWays on o ws) (key : Option ℕ). r.rows ws is key ∙ ap (λ (w : LoggedWay). plus (rows w key) (own w key)) (sym way) in
    let added = λ (key : Option ℕ). ap₂ plus (new_key c.new-table.result c.new-table.ensures key) (c.in_ok-rows.ensures key) ∙ zero-plus (rows c.chosen_on-way.result key) in
    let has : c.add_to.new.table.root ≡ rows c.chosen_on-way.result None = c.in_ok-add_to.ensures None ∙ added None in
    subst Fits (both c.requires.fits.0 c.requires.fits.1 None ∙ ap₂ plus (sym has) (sym c.row.ensures)) (c.requires.fits.3 None)

pub returns : goal.returns
returns c ws is key =
    let o : OpenWays = c.args.self.now in
    let on : Bool = c.args.burdened in
    let takes : OnPaths = c.args.takes in
    let closed : ClosedFrame = c.args.closed.now in
    let fs : List FrameWays = o.frames.items in
    let some = some_frame on o c.requires.fits.0 c.requires.fits.1 c.requires.fits.2 in
    let t = topped fs some in
    let at : c.len.result - 1 ≡ length fs - 1 = omega (arith, c.len.ensures, o.frames.ok.0) in
    let old : FrameWays = c.index.result.now in
    let top : old ≡ t.top = c.index.ensures ∙ ap (λ k. get_or fs k old) at ∙ t.get old in
    let way : c.chosen_on-way.result ≡ chosen (on_path on takes) (path_of on t.top) = c.chosen_on-way.ensures ∙ ap (λ (f : FrameWays). chosen (on_path on takes) (path_of on f)) top in
    let r = root_way o on takes closed c.requires.laid some in
    let rows = λ (w : LoggedWay) (key : Option ℕ). let x : Row = way_row on (reverse o.log.rows.items) w.rows key in x in
    let own = λ (w : LoggedWay) (key : Option ℕ). let x : Row = cond (same_key None key) (frame_row (record closed { local = w.own })) zero_row in x in
    let both = λ (ws : List Ways) (is : AreWays on o ws) (key : Option ℕ). r.rows ws is key ∙ ap (λ (w : LoggedWay). plus (rows w key) (own w key)) (sym way) in
    let added = λ (key : Option ℕ). ap₂ plus (new_key c.new-table.result c.new-table.ensures key) (c.in_ok-rows.ensures key) ∙ zero-plus (rows c.chosen_on-way.result key) in
    root_key c.add_to.new.table c.add_root.new.self c.row.result c.add_root.ensures key
    ∙ ap₂ plus (c.in_ok-add_to.ensures key ∙ added key) (ap (λ (x : Row). cond (same_key None key) x zero_row) c.row.ensures)
    ∙ sym (both ws is key)
