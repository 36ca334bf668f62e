use Rattle.std.proofs.Common.{◌≡◌, ℕ, suc, ◌≤◌, Bool, true, List, ◌∷◌, length, map, drop, get_or, All, sym, ap, ap₂, subst, ◌∙◌, arith}
use Rattle.spp_site.specs.Marks.{is_marked}
use Rattle.spp_ways.specs.declared.log.LogRow.{LogRow}
use Rattle.spp_ways.specs.declared.frame_ways.FrameWays.{FrameWays}
use Rattle.spp_ways.specs.declared.open_ways.LoggedStretch.{LoggedStretch}
use Rattle.spp_ways.specs.Stretches.{AreEnclosed, IsStretch, outer_row, stretch_rows, stretch_frames}
use Rattle.spp_ways.specs.Pruning.{AreKeptBehind, AreWaysKept, ReachesFrame, pruned_frame, pruned_rows, marks_of}
use Rattle.spp_ways.proofs.Marking.{rows_many}
use Rattle.spp_ways.proofs.Pruned.{pruned_stretch, pruned_same, pruned_few, pruned_first, frames_below}
use Rattle.spp_ways.proofs.open_ways.LoggedStretch.pruned.Goals.{After-drop-self-3}
use Rattle.spp_ways.proofs.open_ways.LoggedStretch.pruned.Goals as goal

pub pruned_frames-requires-clause-within : goal.pruned_frames-requires-clause-within
pruned_frames-requires-clause-within c =
    let items : List LogRow = c.args.self.log.rows.items in
    let rows : List LogRow = stretch_rows c.args.self in
    let many : length rows ≡ length items = rows_many items (omega (arith, c.count.ensures, c.if-count-lt-FEW_ROWS.false)) in
    let ends : suc (length rows) ≡ length c.in_ok-kept.kept.counts.items = ap (λ n. suc n) (many ∙ sym c.count-2.ensures) ∙ sym c.in_ok-kept.ensures.many in
    subst (λ n. All (ReachesFrame n) (stretch_frames c.args.self)) ends (frames_below rows (stretch_frames c.args.self) c.requires.stretch)

-- what is kept
record Kept (s old : LoggedStretch) (m : ℕ → Bool) : Type 0 where
  rows : stretch_rows s ≡ pruned_rows m (stretch_rows old) (length (stretch_rows old))
  frames : stretch_frames s ≡ map (pruned_frame m) (stretch_frames old)
  outer : m 1 ≡ true
  links : AreKeptBehind m (stretch_rows old) 0
  entered : All (AreWaysKept m) (stretch_frames old)

first_of : (f : FrameWays) (fs gs : List FrameWays) (g : FrameWays) → fs ≡ g ∷ gs → f ≡ get_or fs 0 f → f ∷ drop 1 fs ≡ g ∷ gs
first_of f fs gs g is first = ap₂ (λ (x : FrameWays) (xs : List FrameWays). x ∷ drop 1 xs) (first ∙ ap (λ (xs : List FrameWays). get_or xs 0 f) is) is

kept : (c : After-drop-self-3) → Kept (record { outer = c.index.result.now; frames = c.in_ok-frames.frames; log = c.in_ok-log.log }) c.args.self (marks_of c.in_ok-kept.kept)
kept c =
    let old : LoggedStretch = c.args.self in
    let items : List LogRow = old.log.rows.items in
    let rows : List LogRow = stretch_rows old in
    let m : ℕ → Bool = marks_of c.in_ok-kept.kept in
    let marks : is_marked c.in_ok-marks.marks ≡ m = ap is_marked (sym c.in_ok-kept.ensures.marks) in
    let many : length rows ≡ length items = rows_many items (omega (arith, c.count.ensures, c.if-count-lt-FEW_ROWS.false)) in
    let outer : m 1 ≡ true = ap (λ (f : ℕ → Bool). f 1) (sym marks) ∙ c.in_ok-marks.ensures.outer in
    let links : AreKeptBehind m rows 0 = subst (λ (f : ℕ → Bool). AreKeptBehind f rows 0) marks c.in_ok-marks.ensures.rows in
    let entered : All (AreWaysKept m) (stretch_frames old) = subst (λ (f : ℕ → Bool). All (AreWaysKept f) (stretch_frames old)) marks c.in_ok-marks.ensures.frames in
    let log : c.in_ok-log.log.rows.items ≡ pruned_rows m rows (length rows) = c.in_ok-log.ensures ∙ ap (pruned_rows m rows) (sym many) in
    record {
      rows = ap (λ (l : List LogRow). outer_row ∷ drop 1 l) log ∙ sym (pruned_first m rows (stretch_frames old) c.requires.stretch outer links entered);
      frames = first_of c.index.result.now c.in_ok-frames.frames.items (map (pruned_frame m) (drop 1 old.frames.items)) (pruned_frame m old.outer) c.in_ok-frames.ensures c.index.ensures;
      outer = outer;
      links = links;
      entered = entered;
    }

pub returns-clause-stretch : goal.returns-clause-stretch
returns-clause-stretch c =
    let k = kept c in
    let rows : List LogRow = stretch_rows c.args.self in
    let frames : List FrameWays = stretch_frames c.args.self in
    let m : ℕ → Bool = marks_of c.in_ok-kept.kept in
    subst (λ (l : List LogRow). IsStretch l (stretch_frames (record { outer = c.index.result.now; frames = c.in_ok-frames.frames; log = c.in_ok-log.log }))) (sym k.rows)
    (subst (λ (l : List FrameWays). IsStretch (pruned_rows m rows (length rows)) l) (sym k.frames) (pruned_stretch m rows frames c.requires.stretch k.outer k.links k.entered))

pub returns-clause-ways : goal.returns-clause-ways
returns-clause-ways c on e base ways h =
    let k = kept c in
    let rows : List LogRow = stretch_rows c.args.self in
    let frames : List FrameWays = stretch_frames c.args.self in
    let m : ℕ → Bool = marks_of c.in_ok-kept.kept in
    subst (λ (l : List LogRow). AreEnclosed on e base l (stretch_frames (record { outer = c.index.result.now; frames = c.in_ok-frames.frames; log = c.in_ok-log.log })) ways) (sym k.rows)
    (subst (λ (l : List FrameWays). AreEnclosed on e base (pruned_rows m rows (length rows)) l ways) (sym k.frames) (pruned_same m rows frames c.requires.stretch k.outer k.links k.entered on e base ways h))

pub returns-clause-rows : goal.returns-clause-rows
returns-clause-rows c =
    let k = kept c in
    let rows : List LogRow = stretch_rows c.args.self in
    let frames : List FrameWays = stretch_frames c.args.self in
    let m : ℕ → Bool = marks_of c.in_ok-kept.kept in
    subst (λ (l : List LogRow). length l ≤ length rows) (sym k.rows) (pruned_few m rows frames c.requires.stretch k.outer k.links k.entered)
