use Rattle.std.proofs.Common.{◌≡◌, ℕ, ◌+◌, ◌-◌, ◌≤◌, ◌<◌, Bool, true, false, List, [], ◌∷◌, ◌++◌, length, map, reverse, drop, get_or, set, sym, ap, subst, ◌∙◌, arith}
use Rattle.std.proofs.lemmas.List.{length-append, length-set}
use Rattle.std.proofs.lemmas.List.Elements.{All-head, All-tail}
use Rattle.spp_site.proofs.LastFirst.{topped}
use Rattle.spp_ways.specs.declared.place.Links.{Links}
use Rattle.spp_ways.specs.declared.log.LogRow.{LogRow}
use Rattle.spp_ways.specs.declared.log.Log.{Log}
use Rattle.spp_ways.specs.declared.open_ways.OnPaths.{OnPaths}
use Rattle.spp_ways.specs.declared.frame_ways.FrameWays.{FrameWays}
use Rattle.spp_ways.specs.declared.open_ways.LoggedStretch.{LoggedStretch}
use Rattle.spp_ways.specs.declared.open_ways.OpenWays.{OpenWays}
use Rattle.spp_ways.specs.OpenWays.{AllWays, HasRowsOf, on_path, plain_of, burdened_of}
use Rattle.spp_ways.specs.Enclosures.{Enclosure, enclosure_of}
use Rattle.spp_ways.specs.Stretches.{FitFrame, FitOwn, CanJoin, enclosed_row, joined_row, joined_frame, joined_list, gone_on, stretch_rows}
use Rattle.spp_ways.proofs.Steps.{some_frame}
use Rattle.spp_ways.proofs.Joining.{rows_fit, frames_fit, fit_last, join_laid, join_ways, Setup, setup, put_gone, none_behind, Done}
use Rattle.spp_ways.proofs.open_ways.OpenWays.join.Goals.{After-len, In_ok-open_inner}
use Rattle.spp_ways.proofs.open_ways.OpenWays.join.Goals as goal

open_frame : (wins : OnPaths) (e : Enclosure) (o : OpenWays) (s : LoggedStretch) → ((on : Bool) → CanJoin on wins e o s) → 0 < length o.frames.items
open_frame wins e o s can = let r = can false in some_frame false o (r.way ∷ r.below) r.are tt

pub overflow_sub-last : goal.overflow_sub-last
overflow_sub-last c =
    let some = open_frame c.args.wins (enclosure_of c.args.enclosing.now) c.args.self.now c.args.stretch.now c.requires.can in
    omega (arith, c.len-last.ensures, c.args.self.now.frames.ok.0)

pub index-requires : goal.index-requires
index-requires c =
    let some = open_frame c.args.wins (enclosure_of c.args.enclosing.now) c.args.self.now c.args.stretch.now c.requires.can in
    omega (arith, c.len-last.ensures, c.args.self.now.frames.ok.0)

pub index-requires-2 : goal.index-requires-2
index-requires-2 c =
    let some = open_frame c.args.wins (enclosure_of c.args.enclosing.now) c.args.self.now c.args.stretch.now c.requires.can in
    omega (arith, c.len-last.ensures, c.args.self.now.frames.ok.0)

pub index_mut-requires : goal.index_mut-requires
index_mut-requires c =
    let some = open_frame c.args.wins (enclosure_of c.args.enclosing.now) c.args.self.now c.args.stretch.now c.requires.can in
    omega (arith, c.len-last.ensures, c.args.self.now.frames.ok.0)

-- the innermost frame, and the links that the code makes of it
begun : (c : After-len) → Setup c.args.self.now c.len-last.result (record { plain = c.index.result.now.plain_rows; burdened = c.index-2.result.now.burdened_rows; rows = c.len.result })
begun c =
    let o : OpenWays = c.args.self.now in
    let some = open_frame c.args.wins (enclosure_of c.args.enclosing.now) o c.args.stretch.now c.requires.can in
    setup o some c.len-last.result (omega (arith, c.len-last.ensures, o.frames.ok.0)) c.index.result.now c.index-2.result.now c.index.ensures c.index-2.ensures c.len.result c.len.ensures

pub join-requires : goal.join-requires
join-requires c =
    let b = begun (goal.at.join-requires c).After-len in
    let links : Links = record { plain = c.index.result.now.plain_rows; burdened = c.index-2.result.now.burdened_rows; rows = c.len.result } in
    record {
      few = rows_fit c.args.self.now c.args.stretch.now (enclosure_of c.args.enclosing.now) c.args.wins links b.top b.below b.is c.requires.laid c.requires.stretch b.plain b.burdened b.count
          (omega (arith, c.requires.few, c.len.ensures));
    }

pub join-requires-2-clause-few : goal.join-requires-2-clause-few
join-requires-2-clause-few c =
    let b = begun (goal.at.join-requires-2-clause-few c).After-len in
    let s : LoggedStretch = c.args.stretch.now in
    let links : Links = record { plain = c.index.result.now.plain_rows; burdened = c.index-2.result.now.burdened_rows; rows = c.len.result } in
    All-head (FitFrame links) s.outer (drop 1 s.frames.items)
    (frames_fit c.args.self.now s (enclosure_of c.args.enclosing.now) c.args.wins links b.top b.below b.is c.requires.laid c.requires.stretch b.plain b.burdened b.count (omega (arith, c.requires.few, c.len.ensures)))

pub open_inner-requires : goal.open_inner-requires
open_inner-requires c =
    let b = begun (goal.at.open_inner-requires c).After-len in
    let s : LoggedStretch = c.args.stretch.now in
    let links : Links = record { plain = c.index.result.now.plain_rows; burdened = c.index-2.result.now.burdened_rows; rows = c.len.result } in
    record {
      few = All-tail (FitFrame links) s.outer (drop 1 s.frames.items)
          (frames_fit c.args.self.now s (enclosure_of c.args.enclosing.now) c.args.wins links b.top b.below b.is c.requires.laid c.requires.stretch b.plain b.burdened b.count (omega (arith, c.requires.few, c.len.ensures)));
    }

pub join-requires-2-clause-plain : goal.join-requires-2-clause-plain
join-requires-2-clause-plain c =
    let b = begun (goal.at.join-requires-2-clause-plain c).After-len in
    subst (λ (f : FrameWays). FitOwn c.args.wins.plain (plain_of c.args.stretch.now.outer) (plain_of f)) (sym (c.index_mut.ensures.value ∙ b.get c.index_mut.result.now)) ((c.requires.can false).own b.top b.below b.is)

pub join-requires-2-clause-burdened : goal.join-requires-2-clause-burdened
join-requires-2-clause-burdened c =
    let b = begun (goal.at.join-requires-2-clause-burdened c).After-len in
    subst (λ (f : FrameWays). FitOwn c.args.wins.burdened (burdened_of c.args.stretch.now.outer) (burdened_of f)) (sym (c.index_mut.ensures.value ∙ b.get c.index_mut.result.now)) ((c.requires.can true).own b.top b.below b.is)

-- what the join comes to
done : (c : In_ok-open_inner) → Done c.args.self.now c.open_inner.new.self c.args.stretch.now (enclosure_of c.args.enclosing.now) c.args.wins
done c =
    let o : OpenWays = c.args.self.now in
    let s : LoggedStretch = c.args.stretch.now in
    let e : Enclosure = enclosure_of c.args.enclosing.now in
    let wins : OnPaths = c.args.wins in
    let n : ℕ = c.len-last.result in
    let links : Links = record { plain = c.index.result.now.plain_rows; burdened = c.index-2.result.now.burdened_rows; rows = c.len.result } in
    let b : Setup o n links =
    setup o (open_frame wins e o s c.requires.can) n (omega (arith, c.len-last.ensures, o.frames.ok.0)) c.index.result.now c.index-2.result.now c.index.ensures c.index-2.ensures c.len.result c.len.ensures in
    let new : OpenWays = c.open_inner.new.self in
    let outer : List FrameWays = set o.frames.items (n - 1) c.join-2.new.self in
    let is_outer : reverse outer ≡ gone_on links wins s.outer b.top ∷ b.below = put_gone o n links b wins s.outer c.index_mut.result.now c.join-2.new.self c.join-2.ensures c.index_mut.ensures.value in
    let is_log : new.log.rows.items ≡ o.log.rows.items ++ map (joined_row links e) (drop 1 s.log.rows.items) = ap (λ (l : Log). l.rows.items) c.open_inner.ensures.log ∙ c.in_ok-join.ensures in
    let is_frames : new.frames.items ≡ outer ++ map (joined_frame links o.limit) (drop 1 s.frames.items) = c.in_ok-open_inner.ensures.frames in
    record {
      laid = join_laid o s e wins links b.top b.below b.is c.requires.laid c.requires.stretch b.plain b.burdened b.count new o.limit outer is_outer is_log is_frames;
      ways = join_ways o s e wins links b.top b.below b.is c.requires.laid c.requires.stretch b.plain b.burdened b.count new o.limit outer is_outer is_log is_frames;
    }

pub index-requires-then-alone : goal.index-requires-then-alone
index-requires-then-alone c =
    let some = open_frame c.args.wins (enclosure_of c.args.enclosing.now) c.args.self.now c.args.stretch.now c.requires.can in
    let outer : List FrameWays = set c.args.self.now.frames.items (c.len-last.result - 1) c.join-2.new.self in
    let links : Links = record { plain = c.index.result.now.plain_rows; burdened = c.index-2.result.now.burdened_rows; rows = c.len.result } in
    let inner : List FrameWays = map (joined_frame links c.args.self.now.limit) (drop 1 c.args.stretch.now.frames.items) in
    let n : length c.open_inner.new.self.frames.items ≡ length (outer ++ inner) = ap (λ (l : List FrameWays). length l) c.in_ok-open_inner.ensures.frames in
    omega (arith, c.len-last.ensures, c.args.self.now.frames.ok.0, c.open_inner.new.self.frames.ok.0, length-append outer inner, length-set c.args.self.now.frames.items (c.len-last.result - 1) c.join-2.new.self)

pub merge-requires-clause-laid : goal.merge-requires-clause-laid
merge-requires-clause-laid c = (done (goal.at.merge-requires-clause-laid c).In_ok-open_inner).laid

pub merge-requires-clause-fits : goal.merge-requires-clause-fits
merge-requires-clause-fits c on =
    let s : LoggedStretch = c.args.stretch.now in
    let e : Enclosure = enclosure_of c.args.enclosing.now in
    let r : CanJoin on c.args.wins e c.args.self.now s = c.requires.can on in
    let d = done (goal.at.merge-requires-clause-fits c).In_ok-open_inner in
    let none : drop 1 s.frames.items ≡ [] = none_behind s.frames.items (omega (arith, c.if-alone.true, c.len-alone.ensures, s.frames.ok.0)) in
    let log : List LogRow = reverse (map (enclosed_row e r.base) (stretch_rows s)) in
    let alone : AllWays on log (s.outer ∷ []) r.ways = subst (λ (l : List FrameWays). AllWays on log (reverse (s.outer ∷ l)) r.ways) none r.enclosed in (
      joined_list (on_path on c.args.wins) r.ways r.way r.below,
      d.ways on r.base r.way r.below r.ways r.are r.is_base r.enclosed,
      fit_last on log s.outer r.ways r.way r.below (on_path on c.args.wins) alone r.fits,
    )

pub merge-requires-clause-many : goal.merge-requires-clause-many
merge-requires-clause-many c =
    let o : OpenWays = c.args.self.now in
    let s : LoggedStretch = c.args.stretch.now in
    let some = open_frame c.args.wins (enclosure_of c.args.enclosing.now) o s c.requires.can in
    let none : drop 1 s.frames.items ≡ [] = none_behind s.frames.items (omega (arith, c.if-alone.true, c.len-alone.ensures, s.frames.ok.0)) in
    let links : Links = record { plain = c.index.result.now.plain_rows; burdened = c.index-2.result.now.burdened_rows; rows = c.len.result } in
    let f = λ (g : FrameWays). joined_frame links o.limit g in
    let new : List FrameWays = c.open_inner.new.self.frames.items in
    let outer : List FrameWays = set o.frames.items (c.len-last.result - 1) c.join-2.new.self in
    let same : length new ≡ length (outer ++ []) = ap (λ (l : List FrameWays). length l) (c.in_ok-open_inner.ensures.frames ∙ ap (λ (l : List FrameWays). outer ++ map f l) none) in
    let n : length new ≡ length o.frames.items = omega (arith, same, length-append outer [], length-set o.frames.items (c.len-last.result - 1) c.join-2.new.self) in
    let t = topped new (omega arith) in
    let x : FrameWays = c.index-then-alone.result.now in
    let at : c.len-last.result - 1 ≡ length new - 1 = omega (arith, c.len-last.ensures, o.frames.ok.0) in
    let top : x ≡ t.top = c.index-then-alone.ensures ∙ ap (λ (k : ℕ). get_or new k x) at ∙ t.get x in
    let start : x.start ≡ t.top.start = ap (λ (g : FrameWays). g.start) top in
    let three : x.start + 3 ≤ c.len-then-alone.result = c.is_full.ensures.three c.if-is_full.true in
    subst (HasRowsOf (length c.open_inner.new.self.log.rows.items)) (sym t.is) (let z : t.top.start + 3 ≤ length c.open_inner.new.self.log.rows.items = omega (arith, c.len-then-alone.ensures) in z)

pub returns-in_ok-merge-clause-ways : goal.returns-in_ok-merge-clause-ways
returns-in_ok-merge-clause-ways c on base w ws us are is_base enclosed =
    c.in_ok-merge.ensures.ways on (joined_list (on_path on c.args.wins) us w ws) ((done (goal.at.returns-in_ok-merge-clause-ways c).In_ok-open_inner).ways on base w ws us are is_base enclosed)

pub returns-else-alone-clause-laid : goal.returns-else-alone-clause-laid
returns-else-alone-clause-laid c = (done (goal.at.returns-else-alone-clause-laid c).In_ok-open_inner).laid

pub returns-else-alone-clause-ways : goal.returns-else-alone-clause-ways
returns-else-alone-clause-ways c = (done (goal.at.returns-else-alone-clause-ways c).In_ok-open_inner).ways
