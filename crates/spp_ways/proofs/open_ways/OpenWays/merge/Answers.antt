use Rattle.std.proofs.Common.{◌≡◌, ◌+◌, ◌≤◌, ◌<◌, List, [], ◌∷◌, ◌++◌, length, reverse, take, ap, subst, sym, arith}
use Rattle.std.proofs.lemmas.List.{length-take-le, length-append}
use Rattle.spp_ways.specs.declared.log.LogRow.{LogRow}
use Rattle.spp_ways.specs.declared.frame_ways.FrameWays.{FrameWays}
use Rattle.spp_ways.specs.declared.open_ways.OpenWays.{OpenWays}
use Rattle.spp_ways.specs.OpenWays.{AllWays, HasRowsOf, Laid}
use Rattle.spp_ways.proofs.Merging.{top_in, top_fits, top_parts, Innermost, innermost, Redone, redone}
use Rattle.spp_ways.proofs.open_ways.OpenWays.merge.Goals.{After-index-frame, After-cut, After-merged}
use Rattle.spp_ways.proofs.open_ways.OpenWays.merge.Goals as goal

-- the innermost frame
begun : (c : After-index-frame) → Innermost c.args.self.now c.len-last.result c.index-frame.result.now
begun c =
    let o : OpenWays = c.args.self.now in
    innermost o c.requires.many c.len-last.result (omega (arith, c.len-last.ensures, o.frames.ok.0)) c.index-frame.result.now c.index-frame.ensures

laid : (c : After-index-frame) → Laid (length c.args.self.now.log.rows.items) (c.index-frame.result.now ∷ (begun c).below)
laid c = subst (Laid (length c.args.self.now.log.rows.items)) (begun c).is c.requires.laid.frames

pub merge-requires-clause-along : goal.merge-requires-clause-along
merge-requires-clause-along c on =
    let a = (goal.at.merge-requires-clause-along c).After-index-frame in
    (top_in on (length c.args.self.now.log.rows.items) c.index-frame.result.now (begun a).below (laid a)).0

pub merge-requires-clause-through : goal.merge-requires-clause-through
merge-requires-clause-through c on =
    let a = (goal.at.merge-requires-clause-through c).After-index-frame in
    (top_in on (length c.args.self.now.log.rows.items) c.index-frame.result.now (begun a).below (laid a)).1

pub merge-requires-clause-along_fits : goal.merge-requires-clause-along_fits
merge-requires-clause-along_fits c on =
    let log : List LogRow = reverse c.args.self.now.log.rows.items in
    let b = begun (goal.at.merge-requires-clause-along_fits c).After-index-frame in
    let f = c.requires.fits on in
    (top_fits on log c.index-frame.result.now b.below f.0 (subst (λ (l : List FrameWays). AllWays on log l f.0) b.is f.1) f.2).0

pub merge-requires-clause-through_fits : goal.merge-requires-clause-through_fits
merge-requires-clause-through_fits c on =
    let log : List LogRow = reverse c.args.self.now.log.rows.items in
    let b = begun (goal.at.merge-requires-clause-through_fits c).After-index-frame in
    let f = c.requires.fits on in
    (top_fits on log c.index-frame.result.now b.below f.0 (subst (λ (l : List FrameWays). AllWays on log l f.0) b.is f.1) f.2).1

-- there is room for the three rows
kept : (c : After-cut) → length c.cut.new.self.rows.items + 3 ≤ length c.args.self.now.log.rows.items
kept c =
    let items : List LogRow = c.args.self.now.log.rows.items in
    let f : FrameWays = c.index-frame.result.now in
    let b = begun (goal.at.After-cut c).After-index-frame in
    let many : f.start + 3 ≤ length items = subst (HasRowsOf (length items)) b.is c.requires.many in
    let cut : length c.cut.new.self.rows.items ≡ length (take f.start items) = ap (λ (l : List LogRow). length l) c.cut.ensures in
    let n = length-take-le f.start items (omega arith) in
    omega arith

pub push_merged-requires : goal.push_merged-requires
push_merged-requires c =
    let k = kept (goal.at.push_merged-requires c).After-cut in
    let z : length c.args.self.now.log.rows.items < 4294967296 = c.requires.few in
    omega arith

pub push_merged-requires-2 : goal.push_merged-requires-2
push_merged-requires-2 c =
    let k = kept (goal.at.push_merged-requires-2 c).After-cut in
    let z : length c.args.self.now.log.rows.items < 4294967296 = c.requires.few in
    let x = c.in_ok-shared.ensures.row in
    let w : length c.push_merged.new.self.rows.items ≡ length (c.cut.new.self.rows.items ++ (x.0 ∷ [])) = ap (λ (l : List LogRow). length l) x.2 in
    let l = length-append c.cut.new.self.rows.items (x.0 ∷ []) in
    omega arith

pub push_merged-requires-3 : goal.push_merged-requires-3
push_merged-requires-3 c =
    let k = kept (goal.at.push_merged-requires-3 c).After-cut in
    let z : length c.args.self.now.log.rows.items < 4294967296 = c.requires.few in
    let x = c.in_ok-shared.ensures.row in
    let w : length c.push_merged.new.self.rows.items ≡ length (c.cut.new.self.rows.items ++ (x.0 ∷ [])) = ap (λ (l : List LogRow). length l) x.2 in
    let l = length-append c.cut.new.self.rows.items (x.0 ∷ []) in
    let y = c.in_ok-along.ensures.row in
    let v : length c.push_merged-2.new.self.rows.items ≡ length (c.push_merged.new.self.rows.items ++ (y.0 ∷ [])) = ap (λ (l : List LogRow). length l) y.2 in
    let m = length-append c.push_merged.new.self.rows.items (y.0 ∷ []) in
    omega arith

-- what merging comes to
done : (c : After-merged) → Redone c.args.self.now c.push_merged-3.new.self.rows.items c.merged.result (begun (goal.at.After-merged c).After-index-frame).below
done c =
    let o : OpenWays = c.args.self.now in
    let f : FrameWays = c.index-frame.result.now in
    let b = begun (goal.at.After-merged c).After-index-frame in
    redone o c.requires.laid f b.below b.is c.requires.many c.in_ok-ways.ways.0
    (top_parts (reverse o.log.rows.items) f c.in_ok-ways.ways.0 c.in_ok-ways.ensures.along c.in_ok-ways.ensures.through)
    c.cut.new.self.rows.items c.push_merged.new.self.rows.items c.push_merged-2.new.self.rows.items c.push_merged-3.new.self.rows.items
    c.in_ok-shared.shared c.in_ok-along.along c.in_ok-through.through c.cut.ensures
    c.in_ok-shared.ensures.row c.in_ok-shared.ensures.count c.in_ok-along.ensures.row c.in_ok-along.ensures.count c.in_ok-through.ensures.row c.in_ok-through.ensures.count
    c.merged.result c.merged.ensures.ways

pub returns-clause-laid : goal.returns-clause-laid
returns-clause-laid c =
    let a = (goal.at.returns-clause-laid c).After-merged in
    let b = begun (goal.at.returns-clause-laid c).After-index-frame in
    let d = done a in
    record {
      linked = d.linked;
      frames = subst (λ (l : List FrameWays). Laid (length c.push_merged-3.new.self.rows.items) l) (sym (b.put c.merged.result)) d.laid;
    }

pub returns-clause-ways : goal.returns-clause-ways
returns-clause-ways c on ws h =
    let a = (goal.at.returns-clause-ways c).After-merged in
    let b = begun (goal.at.returns-clause-ways c).After-index-frame in
    subst (λ (l : List FrameWays). AllWays on (reverse c.push_merged-3.new.self.rows.items) l ws) (sym (b.put c.merged.result)) ((done a).ways on ws h)

pub returns-clause-rows : goal.returns-clause-rows
returns-clause-rows c = (done (goal.at.returns-clause-rows c).After-merged).count
