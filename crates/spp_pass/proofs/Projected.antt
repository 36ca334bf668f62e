-- What a pass has, seen by its parts: as the frames of the figures, and as what the table's part of a pass has.
use Rattle.std.proofs.Common.{◌≡◌, ℕ, ◌+◌, max, cond, Bool, true, false, List, [], ◌∷◌, map, Option, Some, None, refl, sym, ap, ap₂, subst, ◌∙◌, arith}
use Rattle.std.specs.Prelude.{nat_lt}
use Rattle.spp_maxplus.specs.declared.state.Burdens.{Burdens}
use Rattle.spp_maxplus.specs.declared.state.State.{State}
use Rattle.spp_maxplus.specs.Candidate.{better}
use Rattle.spp_maxplus.specs.State as state
use Rattle.spp_dag.specs.declared.row.Row.{Row}
use Rattle.spp_dag.specs.declared.stack.FrameKind.{FrameKind}
use Rattle.spp_dag.specs.declared.stack.FrameKind.TheVariants.{Root, Called, Spawned}
use Rattle.spp_dag.specs.Stack as machine
use Rattle.spp_site.specs.Table.{IsAdded}
use Rattle.spp_pass.specs.declared.counted_frame.CountedFrame.{CountedFrame}
use Rattle.spp_pass.specs.LeanFrames.{LeanFrame}
use Rattle.spp_maxplus.specs.declared.weights.Weights.{Weights}
use Rattle.spp_maxplus.specs.Weights.{close}
use Rattle.spp_pass.specs.LeanFrames.{after_child}
use Rattle.spp_pass.specs.Passes as pass
use Rattle.spp_pass.specs.Passes.{Seen, child_of, standing, state_of, burdened_state_of, row_of, greater_child, child_after, returned_frame, sync_seen}
use Rattle.spp_pass.proofs.TablePart.{Counted, Told, full_row, sync_told, IsReturned}

-- a frame as those of the figures
abbrev pub lean : CountedFrame → LeanFrame
lean f = record { kind = f.kind; plain = f.plain; burdened = f.burdened }

-- and as those of the table
abbrev pub counted : CountedFrame → Counted
counted f = record {
  entry = record {
    kind = f.kind;
    at = f.at;
    site = f.site;
    func = f.func;
    before = f.before;
    state = state_of f;
    burdened = burdened_state_of f;
    top_site = f.top_site;
    top_caller = f.top_caller;
  };
  local = f.local;
  top_func = f.top_func;
}

abbrev pub told : Seen → Told
told s = record { frames = map counted s.frames; open_sites = s.open_sites; open_funcs = s.open_funcs; work = s.work; table = s.table }

-- where no child waits there is no weight of one
abbrev pub IsNeatIn : Weights → Option ℕ → Type 0
IsNeatIn w c = c ≡ None → w.child ≡ 0

abbrev pub IsNeat : CountedFrame → Type 0
IsNeat f = IsNeatIn f.plain f.child × IsNeatIn f.burdened f.burdened_child

abbrev pub AllNeat : List CountedFrame → Type 0
AllNeat [] = Unit {0}
AllNeat (f ∷ fs) = IsNeat f × AllNeat fs

-- ---- one frame

close_of : (w : Weights) (c : Option ℕ) → IsNeatIn w c → close w ≡ state.close (standing w c)
close_of w None h = let z : w.child ≡ 0 = h refl in let m : max w.spine w.child ≡ w.spine = omega arith in m
close_of w (Some s) h = refl

pub close_is : (f : CountedFrame) → IsNeat f → close f.plain ≡ state.close (state_of f)
close_is f h = close_of f.plain f.child h.0

pub burdened_is : (f : CountedFrame) → IsNeat f → close f.burdened ≡ state.close (burdened_state_of f)
burdened_is f h = close_of f.burdened f.burdened_child h.1

pub row_is : (f : CountedFrame) (w : ℕ) → IsNeat f → row_of f w ≡ full_row (counted f) w
row_is f w h =
    ap (λ (c : ℕ). let r : Row = record (row_of f w) { site_span = cond f.top_site c 0; caller_span = cond f.top_caller c 0 } in r) (close_is f h)

-- a weight through a child beside another, if there is one
greater_is : (w x y at : ℕ) (c : Option ℕ) → (c ≡ None → w ≡ 0) → x ≡ y → child_of (max w x) (greater_child w c at y) ≡ better (child_of w c) (Some (x, at))
greater_is w x y at None h e = let z : w ≡ 0 = h refl in ap (λ (k : ℕ). let r : Option (ℕ × ℕ) = Some (k, at) in r) (let m : max w x ≡ x = omega arith in m)
greater_is w x y at (Some s) h e =
    ap (λ k. child_of (max w x) (cond (nat_lt w k) (Some at) (Some s))) (sym e) ∙ by (nat_lt w x) refl
  where
    by : (b : Bool) → nat_lt w x ≡ b → child_of (max w x) (cond b (Some at) (Some s)) ≡ cond b (Some (x, at)) (Some (w, s))
    by true q = ap (λ (k : ℕ). let r : Option (ℕ × ℕ) = Some (k, at) in r) (let m : max w x ≡ x = grind (arith, q) in m)
    by false q = ap (λ (k : ℕ). let r : Option (ℕ × ℕ) = Some (k, s) in r) (let m : max w x ≡ w = grind (arith, q) in m)

-- the state of a frame where another has returned to it that closed with that weight
returned_by : (burdens : Burdens) (kind : FrameKind) (at weight through : ℕ) (w : Weights) (c : Option ℕ) → IsNeatIn w c → through ≡ weight + burdens.join
    → standing (after_child burdens kind weight w) (child_after kind at through w c) ≡ machine.after_child burdens kind at weight (standing w c)
returned_by burdens Root at weight through w c h e = refl
returned_by burdens Called at weight through w c h e = refl
returned_by burdens Spawned at weight through w c h e =
    ap (λ k. let s : State = record { spine = w.spine + burdens.continuation; child = k } in s)
    (greater_is w.child (w.spine + (weight + burdens.join)) (w.spine + through) at c h (ap (λ n. w.spine + n) (sym e)))

pub returned_state : (burdens : Burdens) (f g : CountedFrame) → IsNeat f → IsNeat g
    → state_of (returned_frame burdens f g) ≡ machine.after_child state.unburdened f.kind f.at (state.close (state_of f)) (state_of g)
returned_state burdens f g nf ng =
    returned_by state.unburdened f.kind f.at (close f.plain) (close f.plain) g.plain g.child ng.0 (let z : close f.plain ≡ close f.plain + 0 = omega arith in z)
    ∙ ap (λ v. machine.after_child state.unburdened f.kind f.at v (state_of g)) (close_is f nf)

pub returned_burdened : (burdens : Burdens) (f g : CountedFrame) → IsNeat f → IsNeat g
    → burdened_state_of (returned_frame burdens f g) ≡ machine.after_child burdens f.kind f.at (state.close (burdened_state_of f)) (burdened_state_of g)
returned_burdened burdens f g nf ng =
    returned_by burdens f.kind f.at (close f.burdened) (close f.burdened + burdens.join) g.burdened g.burdened_child ng.1 refl
    ∙ ap (λ v. machine.after_child burdens f.kind f.at v (burdened_state_of g)) (burdened_is f nf)

-- some child waits after the return of a spawned one
greater_some : (w : ℕ) (c : Option ℕ) (at y : ℕ) → greater_child w c at y ≡ None → ⊥
greater_some w None at y e = absurd cc
greater_some w (Some s) at y e = by (nat_lt w y) e
  where
    by : (b : Bool) → cond {A = Option ℕ} b (Some at) (Some s) ≡ None → ⊥
    by true q = absurd cc
    by false q = absurd cc

neat_by : (burdens : Burdens) (kind : FrameKind) (at weight through : ℕ) (w : Weights) (c : Option ℕ) → IsNeatIn w c
    → IsNeatIn (after_child burdens kind weight w) (child_after kind at through w c)
neat_by burdens Root at weight through w c h = h
neat_by burdens Called at weight through w c h = h
neat_by burdens Spawned at weight through w c h = λ e. absurd (greater_some w.child c at (w.spine + through) e)

pub neat_returned : (burdens : Burdens) (f g : CountedFrame) → IsNeat g → IsNeat (returned_frame burdens f g)
neat_returned burdens f g h = (
  neat_by state.unburdened f.kind f.at (close f.plain) (close f.plain) g.plain g.child h.0,
  neat_by burdens f.kind f.at (close f.burdened) (close f.burdened + burdens.join) g.burdened g.burdened_child h.1,
)

-- ---- one event

-- what a sync does, told
pub told_sync : (at : ℕ) (s : Seen) (f : CountedFrame) (fs : List CountedFrame) → IsNeat f
    → told (sync_seen at (record s { frames = f ∷ fs })) ≡ sync_told (told (record s { frames = f ∷ fs }))
told_sync at s f fs h =
    ap₂ (λ (c d : ℕ). let t : Told = record (told s) {
      frames = record (counted f) { entry = record (counted f).entry { state = record { spine = c; child = None }; burdened = record { spine = d; child = None } } } ∷ map counted fs;
    } in t) (close_is f h) (burdened_is f h)

-- what a return does, told
pub told_return : (burdens : Burdens) (at : ℕ) (old new : Seen) (f g : CountedFrame) (fs : List CountedFrame) → IsNeat f → IsNeat g
    → pass.IsReturned burdens at f g fs (record old { frames = f ∷ g ∷ fs }) new → IsReturned burdens (counted f) (told (record old { frames = f ∷ g ∷ fs })) (told new)
told_return burdens at old new f g fs nf ng h = record {
  frames = ap (map counted) h.frames
      ∙ ap₂ (λ (s t : State). let c : Counted = record (counted g) { entry = record (counted g).entry { state = s; burdened = t } } in c ∷ map counted fs)
      (returned_state burdens f g nf ng) (returned_burdened burdens f g nf ng);
  open_sites = h.open_sites;
  open_funcs = h.open_funcs;
  work = h.work;
  table = subst (λ r. IsAdded old.table new.table f.site r) (row_is f old.work nf) h.table;
}
