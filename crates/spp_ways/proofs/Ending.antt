-- The way into the root frame, where it closes.
use Rattle.std.proofs.Common.{◌≡◌, ℕ, ◌≤◌, ◌<◌, Bool, cond, List, [], ◌∷◌, length, reverse, Option, Some, None, refl, sym, ap, ap₂, subst, ◌∙◌}
use Rattle.spp_dag.specs.declared.row.Row.{Row}
use Rattle.spp_dag.specs.Shares.{plus, zero_row}
use Rattle.spp_dag.specs.Steps.{same_key, strand_row}
use Rattle.spp_site.specs.Rows.{frame_row}
use Rattle.spp_site.specs.Table.{Sums, row_at, empty}
use Rattle.spp_site.specs.Profiles.{key_row}
use Rattle.spp_site.specs.declared.closed_frame.ClosedFrame.{ClosedFrame}
use Rattle.spp_site.proofs.LastFirst.{topped}
use Rattle.spp_site.proofs.Rows.{plus-zero}
use Rattle.spp_site.proofs.Small.{empty_row}
use Rattle.spp_ways.specs.declared.log.LogRow.{LogRow}
use Rattle.spp_ways.specs.declared.open_ways.OnPaths.{OnPaths}
use Rattle.spp_ways.specs.declared.frame_ways.FrameWays.{FrameWays}
use Rattle.spp_ways.specs.declared.open_ways.OpenWays.{OpenWays}
use Rattle.spp_ways.specs.declared.frame_ways.LoggedWays.{LoggedWays}
use Rattle.spp_ways.specs.Ways.{Ways, rows_at, way_on}
use Rattle.spp_ways.specs.Logs.{way_row}
use Rattle.spp_ways.specs.OpenWays.{IsWay, AreBoth, AllWays, AreWays, Laid, IsLaid, on_path, path_of, bare_row, root_rows, chosen}
use Rattle.spp_ways.proofs.Staying.{in_path}
use Rattle.spp_ways.proofs.Returning.{leaf_row, chosen_on, chosen_in}
use Rattle.spp_ways.proofs.Parts.{rows_at-append}

-- the way of the innermost frame f on one path, and the rows with which it closes as the root
pub record RootWay (o : OpenWays) (on : Bool) (takes : OnPaths) (closed : ClosedFrame) (f : FrameWays) : Type 0 where
  pub within : (chosen (on_path on takes) (path_of on f)).rows ≤ length o.log.rows.items
  pub rows : (ws : List Ways) → AreWays on o ws → (key : Option ℕ) → rows_at (root_rows (on_path on takes) (bare_row closed) ws) key
      ≡ plus (way_row on (reverse o.log.rows.items) (chosen (on_path on takes) (path_of on f)).rows key)
      (cond (same_key None key) (frame_row (record closed { local = (chosen (on_path on takes) (path_of on f)).own })) zero_row)

root_sum : (on : Bool) (log : List LogRow) (takes : Bool) (closed : ClosedFrame) (u : LoggedWays) (fs : List FrameWays) (f : FrameWays) → path_of on f ≡ u → (ws : List Ways) → AllWays on log (f ∷ fs) ws
    → (key : Option ℕ) → rows_at (root_rows takes (bare_row closed) ws) key
    ≡ plus (way_row on log (chosen takes u).rows key) (cond (same_key None key) (frame_row (record closed { local = (chosen takes u).own })) zero_row)
root_sum on log takes closed u fs f is [] h key = absurd h
root_sum on log takes closed u fs f is (w ∷ ws) h key =
    let way : IsWay on log (chosen takes u) (way_on takes w) = chosen_on on log takes u w (subst (λ (x : LoggedWays). AreBoth on log x w) is h.0) in
    rows_at-append (way_on takes w).rows (record { key = None; row = plus (strand_row (way_on takes w).own) (bare_row closed) } ∷ []) key
    ∙ ap₂ plus (sym (way.1 key))
    (plus-zero (cond (same_key None key) (plus (strand_row (way_on takes w).own) (bare_row closed)) zero_row)
    ∙ ap (λ (r : Row). cond (same_key None key) r zero_row) (ap (λ k. plus (strand_row k) (bare_row closed)) (sym way.0) ∙ sym (leaf_row closed (chosen takes u).own)))

pub root_way : (o : OpenWays) (on : Bool) (takes : OnPaths) (closed : ClosedFrame) → IsLaid o → (some : 0 < length o.frames.items)
    → RootWay o on takes closed (topped o.frames.items some).top
root_way o on takes closed laid some =
    let t = topped o.frames.items some in
    let log : List LogRow = reverse o.log.rows.items in
    let f : FrameWays = t.top in
    let at : Laid (length o.log.rows.items) (f ∷ t.below) = subst (Laid (length o.log.rows.items)) t.is laid.frames in
    record {
      within = chosen_in (length o.log.rows.items) (on_path on takes) (path_of on f) (in_path on (length o.log.rows.items) f at.1 at.2);
      rows = λ ws h key. root_sum on log (on_path on takes) closed (path_of on f) t.below f refl ws (subst (λ (l : List FrameWays). AllWays on log l ws) t.is h) key;
    }

-- a table that was just made
pub new_key : (t : Sums) → t ≡ empty → (key : Option ℕ) → key_row t key ≡ zero_row
new_key t e key = ap (λ (s : Sums). key_row s key) e ∙ by key
  where
    by : (key : Option ℕ) → key_row empty key ≡ zero_row
    by None = refl
    by (Some s) = empty_row s

-- and one to whose root a row was added
pub root_key : (old new : Sums) (r : Row) → new ≡ record old { root = plus old.root r } → (key : Option ℕ)
    → key_row new key ≡ plus (key_row old key) (cond (same_key None key) r zero_row)
root_key old new r e key = ap (λ (s : Sums). key_row s key) e ∙ by key
  where
    by : (key : Option ℕ) → key_row (record old { root = plus old.root r }) key ≡ plus (key_row old key) (cond (same_key None key) r zero_row)
    by None = refl
    by (Some s) = sym (plus-zero (row_at old s))
