-- What encloses events that are read where it isn't known which frames are open before them.
use Rattle.std.specs.Prelude.{ℕ, Bool, cond, not, ◌&&◌, nat_eq}
use Rattle.spp_site.specs.Marks.{is_marked}
use Rattle.spp_site.specs.declared.closed_frame.ClosedFrame.{ClosedFrame}
use Rattle.spp_ways.specs.declared.enclosing.Enclosing.{Enclosing}

-- the frames that are open before the events: the sites by which they were entered, the functions that they run, and
-- whether the innermost of them is enclosed by no frame of its function
pub record Enclosure : Type 0 where
  pub sites : ℕ → Bool
  pub funcs : ℕ → Bool
  pub direct : Bool

-- The function of a frame's caller is told by its number; this, which is no number of a function, tells that the caller is
-- the innermost of the frames that enclose the events.
abbrev pub outer_caller : ℕ
outer_caller = 65536

-- whether a frame's caller is enclosed by no frame of its function, where that holds among the frames of the events
abbrev pub is_top_caller : Enclosure → ℕ → Bool
is_top_caller e caller = cond (nat_eq caller outer_caller) e.direct (not (e.funcs caller))

-- a frame that closes among the events, as a table counts it
abbrev pub enclosed : Enclosure → ℕ → ℕ → ClosedFrame → ClosedFrame
enclosed e site caller c = record {
  local = c.local;
  work = c.work;
  span = c.span;
  top_site = c.top_site && not (e.sites site);
  top_caller = c.top_caller && is_top_caller e caller;
}

-- what is told of them
abbrev pub enclosure_of : Enclosing → Enclosure
enclosure_of e = record { sites = is_marked e.sites.now; funcs = is_marked e.funcs.now; direct = e.direct }
