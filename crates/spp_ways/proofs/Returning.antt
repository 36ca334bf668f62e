-- What a wait and a return do to the ways into open frames.
use Rattle.std.proofs.Common.{◌≡◌, ℕ, suc, ◌+◌, ◌≤◌, Bool, true, false, cond, List, [], ◌∷◌, length, reverse, take, Option, Some, None, refl, sym, ap, ap₂, subst, ◌∙◌, arith}
use Rattle.std.proofs.lemmas.List.{length-take-le}
use Rattle.spp_dag.specs.declared.row.Row.{Row}
use Rattle.spp_dag.specs.declared.stack.FrameKind.{FrameKind}
use Rattle.spp_dag.specs.declared.stack.FrameKind.TheVariants.{Root, Called, Spawned}
use Rattle.spp_dag.specs.Shares.{plus, zero_row}
use Rattle.spp_dag.specs.Steps.{same_key, strand_row}
use Rattle.spp_site.specs.Rows.{frame_row}
use Rattle.spp_site.specs.declared.closed_frame.ClosedFrame.{ClosedFrame}
use Rattle.spp_ways.specs.declared.log.LogRow.{LogRow}
use Rattle.spp_ways.specs.declared.open_ways.OnPaths.{OnPaths}
use Rattle.spp_ways.specs.declared.frame_ways.LoggedWays.{LoggedWays}
use Rattle.spp_ways.specs.declared.frame_ways.FrameWays.{FrameWays}
use Rattle.spp_site.proofs.Rows.{plus-zero}
use Rattle.spp_ways.specs.Ways.{Leaf, Way, Ways, rows_at, way_on, way_through, waited_ways, closed_rows, returned_ways}
use Rattle.spp_ways.specs.Logs.{way_row, row_on, merged_row, before_on, within_on, closed_on, AreLinked}
use Rattle.spp_ways.specs.OpenWays.{IsWay, AreBoth, AllWays, on_path, plain_of, burdened_of, path_of, AreIn, Laid, waited_list, bare_row, chosen, nothing, waited_frame, come, StayIn}
use Rattle.spp_ways.proofs.Parts.{rows_at-append}
use Rattle.spp_ways.proofs.Staying.{AreAlike, rows_last, rows_older, way_moves, both_move, all_move, in_more, Cut, cut, cut_alike, linked_less}
use Rattle.spp_ways.proofs.Steps.{no_way_is}

-- the row of a closed frame with these strands of its own
pub leaf_row : (c : ClosedFrame) (own : ℕ) → frame_row (record c { local = own }) ≡ plus (strand_row own) (bare_row c)
leaf_row c own =
    let local : own ≡ own + 0 = omega arith in
    let same : (n : ℕ) → n ≡ 0 + n = λ n. omega arith in
    λ j. record {
      count = 1;
      local = local j;
      site_count = same (cond c.top_site 1 0) j;
      site_work = same (cond c.top_site c.work 0) j;
      site_span = same (cond c.top_site c.span 0) j;
      caller_count = same (cond c.top_caller 1 0) j;
      caller_work = same (cond c.top_caller c.work 0) j;
      caller_span = same (cond c.top_caller c.span 0) j;
    }

-- the way on which a frame goes on
pub chosen_on : (on : Bool) (log : List LogRow) (takes : Bool) (w : LoggedWays) (v : Ways) → AreBoth on log w v → IsWay on log (chosen takes w) (way_on takes v)
chosen_on on log false w v h = h.0
chosen_on on log true w v h = h.1

pub chosen_in : (n : ℕ) (takes : Bool) (w : LoggedWays) → AreIn n w → (chosen takes w).rows ≤ n
chosen_in n false w h = h.0
chosen_in n true w h = h.1

-- ---- a wait

-- on one path, in a log that is as it was up to its way
waited_on : (on : Bool) (n : ℕ) (log new : List LogRow) → AreAlike on n log new → (takes : Bool) (w : LoggedWays) (v : Ways) → (chosen takes w).rows ≤ n → AreBoth on log w v
    → AreBoth on new (record { along = chosen takes w; through = nothing }) (waited_ways takes v)
waited_on on n log new same takes w v l h =
    (way_moves on log new (chosen takes w) (way_on takes v) (same (chosen takes w).rows l) (chosen_on on log takes w v h), no_way_is on new)

waited_path : (on : Bool) (n : ℕ) (log new : List LogRow) → AreAlike on n log new → (takes : OnPaths) (f : FrameWays) (v : Ways)
    → (chosen takes.plain (plain_of f)).rows ≤ n → (chosen takes.burdened (burdened_of f)).rows ≤ n → AreBoth on log (path_of on f) v
    → AreBoth on new (path_of on (waited_frame takes f)) (waited_ways (on_path on takes) v)
waited_path false n log new same takes f v p b h = waited_on false n log new same takes.plain (plain_of f) v p h
waited_path true n log new same takes f v p b h = waited_on true n log new same takes.burdened (burdened_of f) v b h

-- the log is cut to t rows
module _ (items : List LogRow) (takes : OnPaths) (f : FrameWays) (below : List FrameWays) (linked : AreLinked (reverse items)) (laid : Laid (length items) (f ∷ below))
    (t : ℕ) (start : f.start ≤ t) (plain : (chosen takes.plain (plain_of f)).rows ≤ t) (burdened : (chosen takes.burdened (burdened_of f)).rows ≤ t) (short : t ≤ length items) where
  c : Cut items t
  c = cut items t short

  pub wait_linked : AreLinked (reverse (take t items))
  wait_linked = linked_less c.off (reverse (take t items)) (subst AreLinked c.is linked)

  pub wait_laid : Laid (length (take t items)) (waited_frame takes f ∷ below)
  wait_laid =
      let n : length (take t items) ≡ t = length-take-le t items short in
      subst (λ k. Laid k (waited_frame takes f ∷ below)) (sym n) (start, (plain, omega arith), (burdened, omega arith), laid.3)

  pub wait_ways : (on : Bool) (ws : List Ways) → AllWays on (reverse items) (f ∷ below) ws → AllWays on (reverse (take t items)) (waited_frame takes f ∷ below) (waited_list (on_path on takes) ws)
  wait_ways on [] h = absurd h
  wait_ways on (w ∷ ws) h =
      let same : AreAlike on t (reverse items) (reverse (take t items)) = cut_alike on items t t short (omega arith) in
      (waited_path on t (reverse items) (reverse (take t items)) same takes f w plain burdened h.0, all_move on t f.start (reverse items) (reverse (take t items)) same start below ws laid.3 h.1)

-- ---- a return

pub stay_more : (n m : ℕ) → n ≤ m → (kind : FrameKind) (wins : Bool) (w : LoggedWays) → StayIn n kind wins w → StayIn m kind wins w
stay_more n m l Root wins w h = in_more n m l w h
stay_more n m l Called wins w h = in_more n m l w h
stay_more n m l Spawned false w h = in_more n m l w h
stay_more n m l Spawned true w h = (let a = h.0 in omega arith, tt)

-- a way that goes on through closed frames
through_rows : (w : Way) (rows : List Leaf) (key : Option ℕ) → rows_at (way_through rows w).rows key ≡ plus (rows_at w.rows key) (rows_at rows key)
through_rows w rows key = rows_at-append w.rows rows key

-- the rows of a frame that has closed
closed_sum : (key : Option ℕ) (own : Option ℕ) (row : Row) (w : Way) → rows_at (closed_rows own row w) key ≡ plus (rows_at w.rows key) (cond (same_key own key) (plus (strand_row w.own) row) zero_row)
closed_sum key own row w =
    rows_at-append w.rows (record { key = own; row = plus (strand_row w.own) row } ∷ []) key
    ∙ ap (plus (rows_at w.rows key)) (plus-zero (cond (same_key own key) (plus (strand_row w.own) row) zero_row))

-- The ways into the parent u, which are w, on one path, where its child v has returned with the row r, the last of the
-- log. The rows below it are those of the log before up to n.
module _ (on : Bool) (log rest : List LogRow) (same : AreAlike on (length rest) log rest) (r : LogRow) (kind : FrameKind) (takes wins : Bool) (site : ℕ) (closed : ClosedFrame)
    (u v : LoggedWays) (x w : Ways) (child : AreBoth on log v x) (parent : AreBoth on log u w)
    (stays : StayIn (length rest) kind wins u) (within : (chosen takes v).rows ≤ length rest)
    (is_before : before_on on r ≡ u.along.rows) (is_within : within_on on r ≡ (chosen takes v).rows)
    (is_closed : closed_on on r ≡ record closed { local = (chosen takes v).own }) (is_site : r.site ≡ site) (is_frame : r.merged ≡ None) where
  abbrev pub rows : List Leaf
  rows = closed_rows (Some site) (bare_row closed) (way_on takes x)

  -- the rows of the way that ends with r
  last_rows : u.along.rows ≤ length rest → (key : Option ℕ) → way_row on (r ∷ rest) (suc (length rest)) key ≡ rows_at (way_through rows w.along).rows key
  last_rows l key =
      let way = chosen_on on log takes v x child in
      let b : way_row on rest (before_on on r) key ≡ rows_at w.along.rows key = ap (λ k. way_row on rest k key) is_before ∙ same u.along.rows l key ∙ parent.0.1 key in
      let i : way_row on rest (within_on on r) key ≡ rows_at (way_on takes x).rows key = ap (λ k. way_row on rest k key) is_within ∙ same (chosen takes v).rows within key ∙ way.1 key in
      let row : frame_row (closed_on on r) ≡ plus (strand_row (way_on takes x).own) (bare_row closed) =
      ap frame_row is_closed ∙ leaf_row closed (chosen takes v).own ∙ ap (λ k. plus (strand_row k) (bare_row closed)) way.0 in
      let own : row_on on r key ≡ cond (same_key (Some site) key) (plus (strand_row (way_on takes x).own) (bare_row closed)) zero_row =
      ap (λ (m : _). merged_row on r m key) is_frame ∙ ap₂ (λ (s : ℕ) (q : Row). cond (same_key (Some s) key) q zero_row) is_site row in
      rows_last on r rest key ∙ ap₂ plus b (ap₂ plus i own ∙ sym (closed_sum key (Some site) (bare_row closed) (way_on takes x))) ∙ sym (through_rows w.along rows key)

  older : (k : ℕ) → k ≤ length rest → (key : Option ℕ) → way_row on (r ∷ rest) k key ≡ way_row on log k key
  older k l key = rows_older on r rest k l key ∙ same k l key

  both_stay : AreIn (length rest) u → AreBoth on (r ∷ rest) u w
  both_stay h = both_move on (length rest) log (r ∷ rest) older u w h parent

  pub come_ways : AreBoth on (r ∷ rest) (come kind wins (suc (length rest)) u) (returned_ways kind wins rows w)
  come_ways = by kind wins stays
    where
      by : (kind : FrameKind) (wins : Bool) → StayIn (length rest) kind wins u → AreBoth on (r ∷ rest) (come kind wins (suc (length rest)) u) (returned_ways kind wins rows w)
      by Root wins h = both_stay h
      by Called wins h = ((parent.0.0, last_rows h.0), way_moves on log (r ∷ rest) u.through w.through (older u.through.rows h.1) parent.1)
      by Spawned false h = both_stay h
      by Spawned true h = (way_moves on log (r ∷ rest) u.along w.along (older u.along.rows h.0) parent.0, (parent.0.0, last_rows h.0))

pub come_in : (n : ℕ) (kind : FrameKind) (wins : Bool) (w : LoggedWays) → StayIn n kind wins w → AreIn (suc n) (come kind wins (suc n) w)
come_in n Root wins w h = in_more n (suc n) (omega arith) w h
come_in n Called wins w h = (omega arith, let b = h.1 in omega arith)
come_in n Spawned false w h = in_more n (suc n) (omega arith) w h
come_in n Spawned true w h = (let a = h.0 in omega arith, omega arith)

-- where the way through the child is kept on neither path
pub gone_in : (n : ℕ) (kind : FrameKind) (wins : Bool) (w : LoggedWays) → (kind ≡ Called → ⊥) → (kind ≡ Spawned → wins ≡ false) → StayIn n kind wins w → AreIn n w
gone_in n Root wins w a b h = h
gone_in n Called wins w a b h = absurd (a refl)
gone_in n Spawned false w a b h = h
gone_in n Spawned true w a b h = let z : true ≡ false = b refl in cc

pub gone_ways : (on : Bool) (new : List LogRow) (kind : FrameKind) (wins : Bool) (rows : List Leaf) (u : LoggedWays) (w : Ways) → (kind ≡ Called → ⊥) → (kind ≡ Spawned → wins ≡ false)
    → AreBoth on new u w → AreBoth on new u (returned_ways kind wins rows w)
gone_ways on new Root wins rows u w a b h = h
gone_ways on new Called wins rows u w a b h = absurd (a refl)
gone_ways on new Spawned false rows u w a b h = h
gone_ways on new Spawned true rows u w a b h = let z : true ≡ false = b refl in cc
