-- What each call site adds to a run, on the whole dag and on a path.
use Rattle.std.specs.Prelude.{◌≡◌, ℕ, zero, suc, Bool, true, false, ◌&&◌, ◌||◌, nat_eq, nat_le, nat_lt, List, [], ◌∷◌, length, Option, Some, None}
use Rattle.spp_event.specs.declared.records.Event.{Event}
use Rattle.spp_event.specs.declared.records.Event.TheVariants.{Call, Spawn}
use Rattle.spp_maxplus.specs.State.{unburdened}
use Rattle.spp_dag.specs.declared.row.Row.{Row}
use Rattle.spp_dag.specs.Ranges.{sum_where, none_below}
use Rattle.spp_dag.specs.Trace.{event_at, weight, is_frame, closing, owner}
use Rattle.spp_dag.specs.Dag.{IsGreatest}

abbrev pub site_of : Option Event → Option ℕ
site_of (Some (Call site func)) = Some site
site_of (Some (Spawn site func)) = Some site
site_of _ = None

abbrev pub func_of : Option Event → ℕ
func_of (Some (Call site func)) = func
func_of (Some (Spawn site func)) = func
func_of _ = 0

-- the site by which a frame was entered; none for the root
abbrev pub entered_by : List Event → ℕ → Option ℕ
entered_by es zero = None
entered_by es (suc o) = site_of (event_at es o)

-- the function that runs in a frame; in the root it is `root`
abbrev pub function_of : List Event → ℕ → ℕ → ℕ
function_of es root zero = root
function_of es root (suc o) = func_of (event_at es o)

abbrev pub same_site : Option ℕ → Option ℕ → Bool
same_site (Some a) (Some b) = nat_eq a b
same_site _ _ = false

-- the frame f is not g, and g begins within it
abbrev pub encloses : List Event → ℕ → ℕ → Bool
encloses es f g = is_frame es f && (nat_lt f g && nat_le g (closing es f))

-- no frame that encloses g was entered by g's site
abbrev pub is_top_site : List Event → ℕ → Bool
is_top_site es g = none_below (λ f. encloses es f g && same_site (entered_by es f) (entered_by es g)) g

-- no frame that encloses g runs g's function
abbrev pub is_outermost : List Event → ℕ → ℕ → Bool
is_outermost es root g =
    none_below (λ f. encloses es f g && nat_eq (function_of es root f) (function_of es root g)) g

-- The caller of the frame, which owns the event that opened it, is outermost of its function; the root has no
-- caller, and is marked too.
abbrev pub is_top_caller : List Event → ℕ → ℕ → Bool
is_top_caller es root zero = true
is_top_caller es root (suc o) = is_outermost es root (owner es o)

-- the work of a frame: the weights from its first position to its last
abbrev pub work : List Event → ℕ → ℕ
work es f = sum_where (nat_le f) (weight es) (suc (closing es f))

-- `span` gives for each frame its span: the greatest weight of a walk from its first position to its last, without
-- burdens.
abbrev pub AreSpans : List Event → (ℕ → ℕ) → Type 0
AreSpans es span = (f : ℕ) → is_frame es f ≡ true → IsGreatest es unburdened f (closing es f) (span f)

-- What these frames and these positions add up to: frames, weights of positions, and the number, work and span of
-- the top frames.
abbrev pub row_over : List Event → ℕ → (ℕ → ℕ) → (ℕ → Bool) → (ℕ → Bool) → Row
row_over es root span frames places = record {
  count = sum_where frames (λ _. 1) (suc (length es));
  local = sum_where places (weight es) (suc (length es));
  site_count = sum_where (λ f. frames f && is_top_site es f) (λ _. 1) (suc (length es));
  site_work = sum_where (λ f. frames f && is_top_site es f) (work es) (suc (length es));
  site_span = sum_where (λ f. frames f && is_top_site es f) span (suc (length es));
  caller_count = sum_where (λ f. frames f && is_top_caller es root f) (λ _. 1) (suc (length es));
  caller_work = sum_where (λ f. frames f && is_top_caller es root f) (work es) (suc (length es));
  caller_span = sum_where (λ f. frames f && is_top_caller es root f) span (suc (length es));
}

-- the frames of a row: those that were entered by the site, or the root alone where no site is given
abbrev pub is_of : List Event → Option ℕ → ℕ → Bool
is_of es None f = nat_eq f 0
is_of es (Some site) f = same_site (entered_by es f) (Some site)

-- the row of a site, or of the root: of its frames those whose first position passes, and of the positions that its
-- frames directly own those that pass
abbrev pub row : List Event → ℕ → (ℕ → ℕ) → (ℕ → Bool) → Option ℕ → Row
row es root span on key =
    row_over es root span (λ f. on f && is_of es key f) (λ k. on k && is_of es key (owner es k))

-- every position passes: the whole dag
abbrev pub everywhere : ℕ → Bool
everywhere k = true

-- the positions of a walk
abbrev pub contains : List ℕ → ℕ → Bool
contains [] i = false
contains (p ∷ ps) i = nat_eq p i || contains ps i
