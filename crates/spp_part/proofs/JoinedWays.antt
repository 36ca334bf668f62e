-- What events make of the ways of a stretch, they make of the ways onto which it is joined.
use Rattle.std.proofs.Common.{◌≡◌, ℕ, ◌+◌, ◌<◌, Bool, true, false, cond, ◌&&◌, List, [], ◌∷◌, ◌++◌, length, Option, Some, None, is_some, refl, sym, ap, ◌∙◌, arith}
use Rattle.std.specs.Global.{Box}
use Rattle.spp_maxplus.specs.declared.state.Burdens.{Burdens}
use Rattle.spp_maxplus.specs.declared.weights.Weights.{Weights}
use Rattle.spp_dag.specs.declared.row.Row.{Row}
use Rattle.spp_dag.specs.Shares.{plus, zero_row}
use Rattle.spp_dag.specs.declared.stack.FrameKind.{FrameKind}
use Rattle.spp_dag.specs.declared.stack.FrameKind.TheVariants.{Root, Called, Spawned}
use Rattle.spp_site.proofs.Rows.{zero-plus}
use Rattle.spp_ways.specs.declared.log.Merged.{Merged}
use Rattle.spp_ways.specs.Ways.{Leaf, Way, Ways, no_way, no_ways, way_on, way_through, closed_rows, strand_ways, returned_ways, rows_at, takes, outruns}
use Rattle.spp_ways.specs.OpenWays.{on_path, strand_list, waited_list, returned_list}
use Rattle.spp_ways.specs.Enclosures.{Enclosure}
use Rattle.spp_ways.specs.Logs.{merged_on}
use Rattle.spp_ways.specs.Stretches.{IsBase, AreEnclosed, enclosed_row, outer_row, outer_frame, joined_way, joined_list}
use Rattle.spp_ways.proofs.Steps.{no_way_is}
use Rattle.spp_pass.specs.declared.counted_frame.CountedFrame.{CountedFrame}
use Rattle.spp_pass.specs.Passes.{child_of, standing, takes_of, wins_of, returned_frame}
use Rattle.spp_pass.specs.Stretches.{child_wins, placed, joined}
use Rattle.spp_pass.proofs.Projected.{IsNeat}
use Rattle.spp_pass.proofs.ChildWins.{joined_wins, called_wins, no_wins}

-- ---- the start

-- the ways of a stretch before its first event, where that is the way into the frame before
abbrev pub begun_ways : Way → Ways
begun_ways w = record { along = record { rows = w.rows; own = 0 }; through = no_way }

pub begun_enclosed : (on : Bool) (e : Enclosure) (base : Box Merged) (w : Way) → IsBase on base w → AreEnclosed on e base (outer_row ∷ []) (outer_frame ∷ []) (begun_ways w ∷ [])
begun_enclosed on e base w is = by on is
  where
    from : (on : Bool) → IsBase on base w → (key : Option ℕ) → plus zero_row (plus zero_row (merged_on on base.value key)) ≡ rows_at w.rows key
    from on is key = zero-plus _ ∙ zero-plus (merged_on on base.value key) ∙ is key

    by : (on : Bool) → IsBase on base w → AreEnclosed on e base (outer_row ∷ []) (outer_frame ∷ []) (begun_ways w ∷ [])
    by false is = (((refl, λ key. from false is key), no_way_is false (enclosed_row e base outer_row ∷ [])), tt)
    by true is = (((refl, λ key. from true is key), no_way_is true (enclosed_row e base outer_row ∷ [])), tt)

same_own : (w : Way) (o : ℕ) → o ≡ w.own → record { rows = w.rows; own = o } ≡ w
same_own w o e = λ j. record { rows = w.rows; own = e j }

pub begun_joined : (on : Bool) (w : Ways) (ws : List Ways) → w ∷ ws ≡ joined_list (on_path on no_wins) (begun_ways w.along ∷ []) w ws
begun_joined on w ws = by on
  where
    own : w.along.own ≡ w.along.own + 0
    own = omega arith

    by : (on : Bool) → w ∷ ws ≡ joined_list (on_path on no_wins) (begun_ways w.along ∷ []) w ws
    by false = λ j. record { along = record { rows = w.along.rows; own = own j }; through = w.through } ∷ ws
    by true = λ j. record { along = record { rows = w.along.rows; own = own j }; through = w.through } ∷ ws

-- ---- a strand

strand_joined_way : (t : Bool) (n : ℕ) (u w : Ways) → strand_ways n (joined_way t u w) ≡ joined_way t (strand_ways n u) w
strand_joined_way t n u w =
    let e : w.along.own + u.along.own + n ≡ w.along.own + (u.along.own + n) = omega arith in
    λ j. record { along = record { rows = u.along.rows; own = e j }; through = cond t (record { rows = u.through.rows; own = w.along.own + u.through.own }) w.through }

pub strand_joined : (t : Bool) (n : ℕ) (us : List Ways) (w : Ways) (ws : List Ways) → 0 < length us → strand_list n (joined_list t us w ws) ≡ joined_list t (strand_list n us) w ws
strand_joined t n [] w ws some = absurd (omega arith)
strand_joined t n (u ∷ []) w ws some = ap (λ (x : Ways). x ∷ ws) (strand_joined_way t n u w)
strand_joined t n (u ∷ v ∷ us) w ws some = refl

-- ---- a call or a spawn

pub open_joined : (t : Bool) (us : List Ways) (w : Ways) (ws : List Ways) → 0 < length us → no_ways ∷ joined_list t us w ws ≡ joined_list t (no_ways ∷ us) w ws
open_joined t [] w ws some = absurd (omega arith)
open_joined t (u ∷ us) w ws some = refl

-- ---- a sync

-- of a frame that was opened in the stretch
pub sync_joined : (t takes : Bool) (us : List Ways) (w : Ways) (ws : List Ways) → 1 < length us → waited_list takes (joined_list t us w ws) ≡ joined_list t (waited_list takes us) w ws
sync_joined t takes [] w ws two = absurd (omega arith)
sync_joined t takes (u ∷ []) w ws two = absurd (omega arith)
sync_joined t takes (u ∷ v ∷ us) w ws two = refl

-- of the outer one, where no child waits before
pub outer_sync_joined : (t takes : Bool) (us : List Ways) (w : Ways) (ws : List Ways) → length us ≡ 1 → w.through ≡ no_way → (takes ≡ true → t ≡ true)
    → waited_list takes (joined_list t us w ws) ≡ joined_list false (waited_list takes us) w ws
outer_sync_joined t takes [] w ws one none wins = absurd (omega arith)
outer_sync_joined t takes (u ∷ v ∷ us) w ws one none wins = absurd (omega arith)
outer_sync_joined t false (u ∷ []) w ws one none wins =
    λ j. record { along = record { rows = u.along.rows; own = w.along.own + u.along.own }; through = sym none j } ∷ ws
outer_sync_joined t true (u ∷ []) w ws one none wins =
    let through : Way = record { rows = u.through.rows; own = w.along.own + u.through.own } in
    let p : cond t through w.through ≡ through = ap (λ (b : Bool). cond b through w.through) (wins refl) in
    λ j. record { along = p j; through = sym none j } ∷ ws

-- where a frame takes the child that waits in it, that is greater than one before, where none waits
takes_wins : (w g : Weights) (c d : Option ℕ) → d ≡ None → takes (standing w c) ≡ true → (is_some c && outruns (child_of g.child d) (g.spine + w.child)) ≡ true
takes_wins w g None d none h = absurd (let z : false ≡ true = h in cc)
takes_wins w g (Some at) d none h = ap (λ (x : Option ℕ). outruns (child_of g.child x) (g.spine + w.child)) none

pub taken_wins : (on : Bool) (r g : CountedFrame) → g.child ≡ None → g.burdened_child ≡ None → on_path on (takes_of r) ≡ true → on_path on (child_wins r g) ≡ true
taken_wins false r g none burdened_none h = takes_wins r.plain g.plain r.child g.child none h
taken_wins true r g none burdened_none h = takes_wins r.burdened g.burdened r.burdened_child g.burdened_child burdened_none h

-- ---- a return

-- to a frame that was opened in the stretch
pub return_joined : (t : Bool) (kind : FrameKind) (takes wins : Bool) (site : ℕ) (row : Row) (us : List Ways) (w : Ways) (ws : List Ways) → 2 < length us
    → returned_list kind takes wins site row (joined_list t us w ws) ≡ joined_list t (returned_list kind takes wins site row us) w ws
return_joined t kind takes wins site row [] w ws three = absurd (omega arith)
return_joined t kind takes wins site row (u ∷ []) w ws three = absurd (omega arith)
return_joined t kind takes wins site row (u ∷ v ∷ []) w ws three = absurd (omega arith)
return_joined t kind takes wins site row (u ∷ v ∷ x ∷ us) w ws three = refl

-- the ways through the frame, through the one that waits in the stretch, and through that before
came_way : (t wins : Bool) (rows : List Leaf) (u w : Ways)
    → (joined_way t (record { along = u.along; through = cond wins (way_through rows u.along) u.through }) w).through
    ≡ cond t (cond wins (record { rows = u.along.rows ++ rows; own = w.along.own + u.along.own }) (record { rows = u.through.rows; own = w.along.own + u.through.own })) w.through
came_way t true rows u w = refl
came_way t false rows u w = refl

-- to the outer one
outer_way_joined : (on : Bool) (burdens : Burdens) (e : Enclosure) (before first caller : ℕ) (f r g : CountedFrame) (kind : FrameKind) → f.kind ≡ kind → (kind ≡ Root → ⊥) → IsNeat r → IsNeat g
    → (rows : List Leaf) (u w : Ways)
    → returned_ways kind (on_path on (wins_of burdens (placed e before first caller f) (joined first r g))) rows (joined_way (on_path on (child_wins r g)) u w)
    ≡ joined_way (on_path on (child_wins (returned_frame burdens f r) g)) (returned_ways kind (on_path on (wins_of burdens f r)) rows u) w
outer_way_joined on burdens e before first caller f r g Root is inner nr ng rows u w = absurd (inner refl)
outer_way_joined on burdens e before first caller f r g Called is inner nr ng rows u w =
    let wins = called_wins burdens f r g is in
    λ j. record {
      along = record { rows = u.along.rows ++ rows; own = w.along.own + u.along.own };
      through = cond (on_path on (sym wins j)) (record { rows = u.through.rows; own = w.along.own + u.through.own }) w.through;
    }
outer_way_joined on burdens e before first caller f r g Spawned is inner nr ng rows u w =
    let x : Way = record { rows = u.along.rows ++ rows; own = w.along.own + u.along.own } in
    let y : Way = record { rows = u.through.rows; own = w.along.own + u.through.own } in
    let through = sym (joined_wins on burdens e before first caller f r g x y w.through is nr ng) ∙ sym (came_way (on_path on (child_wins (returned_frame burdens f r) g)) (on_path on (wins_of burdens f r)) rows u w) in
    λ j. record { along = record { rows = u.along.rows; own = w.along.own + u.along.own }; through = through j }

pub outer_return_joined : (on : Bool) (burdens : Burdens) (e : Enclosure) (before first caller : ℕ) (f r g : CountedFrame) → (f.kind ≡ Root → ⊥) → IsNeat r → IsNeat g
    → (takes : Bool) (site : ℕ) (row : Row) (us : List Ways) (w : Ways) (ws : List Ways) → length us ≡ 2
    → returned_list f.kind takes (on_path on (wins_of burdens (placed e before first caller f) (joined first r g))) site row (joined_list (on_path on (child_wins r g)) us w ws)
    ≡ joined_list (on_path on (child_wins (returned_frame burdens f r) g)) (returned_list f.kind takes (on_path on (wins_of burdens f r)) site row us) w ws
outer_return_joined on burdens e before first caller f r g inner nr ng takes site row [] w ws two = absurd (omega arith)
outer_return_joined on burdens e before first caller f r g inner nr ng takes site row (u ∷ []) w ws two = absurd (omega arith)
outer_return_joined on burdens e before first caller f r g inner nr ng takes site row (u ∷ v ∷ x ∷ us) w ws two = absurd (omega arith)
outer_return_joined on burdens e before first caller f r g inner nr ng takes site row (u ∷ v ∷ []) w ws two =
    ap (λ (x : Ways). x ∷ ws) (outer_way_joined on burdens e before first caller f r g f.kind refl inner nr ng (closed_rows (Some site) row (way_on takes u)) v w)
