-- What a return does to all open frames.
use Rattle.std.proofs.Common.{◌≡◌, ℕ, suc, ◌≤◌, ◌<◌, Bool, true, false, ◌||◌, List, [], ◌∷◌, ◌++◌, length, reverse, take, Some, refl, sym, subst, ◌∙◌, arith}
use Rattle.std.proofs.lemmas.List.{length-take-le, length-append, reverse-append}
use Rattle.spp_dag.specs.declared.stack.FrameKind.{FrameKind}
use Rattle.spp_dag.specs.declared.stack.FrameKind.TheVariants.{Root, Called, Spawned}
use Rattle.spp_site.specs.declared.closed_frame.ClosedFrame.{ClosedFrame}
use Rattle.spp_ways.specs.declared.log.LogRow.{LogRow}
use Rattle.spp_ways.specs.declared.open_ways.OnPaths.{OnPaths}
use Rattle.spp_ways.specs.declared.frame_ways.LoggedWays.{LoggedWays}
use Rattle.spp_ways.specs.declared.frame_ways.FrameWays.{FrameWays}
use Rattle.spp_ways.specs.Ways.{Ways, way_on, closed_rows, returned_ways}
use Rattle.spp_ways.specs.Logs.{IsLinked, AreLinked}
use Rattle.spp_ways.specs.OpenWays.{AreBoth, AllWays, on_path, plain_of, burdened_of, path_of, AreIn, Laid, returned_list, bare_row, chosen, entered, StayIn, returned_row, come_frame}
use Rattle.spp_ways.proofs.Staying.{AreAlike, rows_older, all_move, Cut, cut, cut_alike, linked_less}
use Rattle.spp_ways.proofs.Returning.{come_ways, come_in, gone_in, gone_ways}

stay_along : (n : ℕ) (kind : FrameKind) (wins : Bool) (w : LoggedWays) → StayIn n kind wins w → w.along.rows ≤ n
stay_along n Root wins w h = h.0
stay_along n Called wins w h = h.0
stay_along n Spawned wins w h = h.0

stays_on : (on : Bool) (n : ℕ) (kind : FrameKind) (wins : OnPaths) (g : FrameWays) → StayIn n kind wins.plain (plain_of g) → StayIn n kind wins.burdened (burdened_of g)
    → StayIn n kind (on_path on wins) (path_of on g)
stays_on false n kind wins g p b = p
stays_on true n kind wins g p b = b

-- the child's ways and the parent's on one path, with what the row says of them
pub path_come : (on : Bool) (log rest : List LogRow) → AreAlike on (length rest) log rest → (kind : FrameKind) (takes wins : OnPaths) (site caller stored limit : ℕ) (closed : ClosedFrame) (v g : FrameWays) (x w : Ways)
    → AreBoth on log (path_of on v) x → AreBoth on log (path_of on g) w
    → StayIn (length rest) kind wins.plain (plain_of g) → StayIn (length rest) kind wins.burdened (burdened_of g)
    → (chosen takes.plain (plain_of v)).rows ≤ length rest → (chosen takes.burdened (burdened_of v)).rows ≤ length rest
    → AreBoth on (returned_row takes site caller closed v g ∷ rest) (path_of on (come_frame kind wins (suc (length rest)) stored limit g))
    (returned_ways kind (on_path on wins) (closed_rows (Some site) (bare_row closed) (way_on (on_path on takes) x)) w)
path_come false log rest same kind takes wins site caller stored limit closed v g x w c h p b vp vb =
    come_ways false log rest same (returned_row takes site caller closed v g) kind takes.plain wins.plain site closed (plain_of g) (plain_of v) x w c h p vp refl refl refl refl refl
path_come true log rest same kind takes wins site caller stored limit closed v g x w c h p b vp vb =
    come_ways true log rest same (returned_row takes site caller closed v g) kind takes.burdened wins.burdened site closed (burdened_of g) (burdened_of v) x w c h b vb refl refl refl refl refl

is_gone : (kind : FrameKind) (wins : OnPaths) → entered kind wins ≡ false → (kind ≡ Called → ⊥) × (kind ≡ Spawned → wins.plain ≡ false) × (kind ≡ Spawned → wins.burdened ≡ false)
is_gone Root wins e = (λ q. cc, λ q. cc, λ q. cc)
is_gone Called wins e = cc
is_gone Spawned wins e = by wins.plain wins.burdened e
  where
    by : (p b : Bool) → (p || b) ≡ false → (Spawned ≡ Called → ⊥) × (Spawned ≡ Spawned → p ≡ false) × (Spawned ≡ Spawned → b ≡ false)
    by false false e = (λ q. cc, λ q. refl, λ q. refl)
    by false true e = cc
    by true b e = cc

-- the log is cut to t rows
module _ (items : List LogRow) (v g : FrameWays) (below : List FrameWays) (linked : AreLinked (reverse items)) (laid : Laid (length items) (v ∷ g ∷ below))
    (kind : FrameKind) (takes wins : OnPaths) (site caller : ℕ) (closed : ClosedFrame) (t : ℕ) (start : g.start ≤ t)
    (plain : StayIn t kind wins.plain (plain_of g)) (burdened : StayIn t kind wins.burdened (burdened_of g)) (short : t ≤ length items) where
  c : Cut items t
  c = cut items t short

  abbrev rest : List LogRow
  rest = reverse (take t items)

  left : length rest ≡ t
  left = c.count

  pub return_linked : AreLinked (reverse (take t items))
  return_linked = linked_less c.off rest (subst AreLinked c.is linked)

  alike : (on : Bool) → AreAlike on (length rest) (reverse items) rest
  alike on = cut_alike on items t (length rest) short (omega (arith, left))

  here_plain : StayIn (length rest) kind wins.plain (plain_of g)
  here_plain = subst (λ n. StayIn n kind wins.plain (plain_of g)) (sym left) plain

  here_burdened : StayIn (length rest) kind wins.burdened (burdened_of g)
  here_burdened = subst (λ n. StayIn n kind wins.burdened (burdened_of g)) (sym left) burdened

  -- the way through the child is kept on neither path
  module _ (gone : entered kind wins ≡ false) where
    in_both : AreIn (length rest) (plain_of g) × AreIn (length rest) (burdened_of g)
    in_both = let h = is_gone kind wins gone in (gone_in (length rest) kind wins.plain (plain_of g) h.0 h.1 here_plain, gone_in (length rest) kind wins.burdened (burdened_of g) h.0 h.2 here_burdened)

    pub gone_laid : Laid (length (take t items)) (g ∷ below)
    gone_laid =
        let n : length (take t items) ≡ t = length-take-le t items short in
        subst (λ k. Laid k (g ∷ below)) (left ∙ sym n) ((let z : g.start ≤ length rest = omega (arith, left) in z), in_both.0, in_both.1, laid.3.3)

    path_wins : (on : Bool) → kind ≡ Spawned → on_path on wins ≡ false
    path_wins false = (is_gone kind wins gone).1
    path_wins true = (is_gone kind wins gone).2

    pub gone_all : (on : Bool) (ws : List Ways) → AllWays on (reverse items) (v ∷ g ∷ below) ws
        → AllWays on (reverse (take t items)) (g ∷ below) (returned_list kind (on_path on takes) (on_path on wins) site (bare_row closed) ws)
    gone_all on [] h = absurd h
    gone_all on (x ∷ []) h = absurd h.1
    gone_all on (x ∷ w ∷ ws) h =
        let same = alike on in
        let moved = all_move on (length rest) (length rest) (reverse items) rest same (omega arith) (g ∷ below) (w ∷ ws) ((let z : g.start ≤ length rest = omega (arith, left) in z), in_both.0, in_both.1, laid.3.3) h.1 in
        (gone_ways on rest kind (on_path on wins) (closed_rows (Some site) (bare_row closed) (way_on (on_path on takes) x)) (path_of on g) w (is_gone kind wins gone).0 (path_wins on) moved.0, moved.1)

  -- it is kept on one of them
  module _ (in_plain : (chosen takes.plain (plain_of v)).rows ≤ t) (in_burdened : (chosen takes.burdened (burdened_of v)).rows ≤ t) (few : site < 65536) (stored limit : ℕ) where
    abbrev row : LogRow
    row = returned_row takes site caller closed v g

    last : reverse (take t items ++ (row ∷ [])) ≡ row ∷ rest
    last = reverse-append (take t items) (row ∷ [])

    more : length (take t items ++ (row ∷ [])) ≡ suc (length rest)
    more =
        let n : length (take t items) ≡ t = length-take-le t items short in
        let m = length-append (take t items) (row ∷ []) in
        omega (arith, left)

    pub kept_linked : AreLinked (reverse (take t items ++ (row ∷ [])))
    kept_linked =
        let link : IsLinked (length rest) row = record {
          before = stay_along (length rest) kind wins.plain (plain_of g) here_plain;
          within = (let z : (chosen takes.plain (plain_of v)).rows ≤ length rest = omega (arith, left) in z);
          burdened_before = stay_along (length rest) kind wins.burdened (burdened_of g) here_burdened;
          burdened_within = (let z : (chosen takes.burdened (burdened_of v)).rows ≤ length rest = omega (arith, left) in z);
          site = few;
        } in
        subst AreLinked (sym last) (link, return_linked)

    pub kept_laid : Laid (length (take t items ++ (row ∷ []))) (come_frame kind wins (suc (length rest)) stored limit g ∷ below)
    kept_laid = subst (λ k. Laid k (come_frame kind wins (suc (length rest)) stored limit g ∷ below)) (sym more) (
      (let z : g.start ≤ suc (length rest) = omega (arith, left) in z),
      come_in (length rest) kind wins.plain (plain_of g) here_plain,
      come_in (length rest) kind wins.burdened (burdened_of g) here_burdened,
      laid.3.3,
    )

    pub kept_all : (on : Bool) (ws : List Ways) → AllWays on (reverse items) (v ∷ g ∷ below) ws
        → AllWays on (reverse (take t items ++ (row ∷ []))) (come_frame kind wins (suc (length rest)) stored limit g ∷ below) (returned_list kind (on_path on takes) (on_path on wins) site (bare_row closed) ws)
    kept_all on [] h = absurd h
    kept_all on (x ∷ []) h = absurd h.1
    kept_all on (x ∷ w ∷ ws) h =
        let same = alike on in
        let z1 : (chosen takes.plain (plain_of v)).rows ≤ length rest = omega (arith, left) in
        let z2 : (chosen takes.burdened (burdened_of v)).rows ≤ length rest = omega (arith, left) in
        let begin : g.start ≤ length rest = omega (arith, left) in
        let more : AreAlike on (length rest) (reverse items) (row ∷ rest) = λ k l key. rows_older on row rest k l key ∙ same k l key in
        subst (λ (l : List LogRow). AllWays on l (come_frame kind wins (suc (length rest)) stored limit g ∷ below) (returned_list kind (on_path on takes) (on_path on wins) site (bare_row closed) (x ∷ w ∷ ws))) (sym last)
        (path_come on (reverse items) rest same kind takes wins site caller stored limit closed v g x w h.0 h.1.0 here_plain here_burdened z1 z2, all_move on (length rest) g.start (reverse items) (row ∷ rest) more begin below ws laid.3.3 h.1.1)
