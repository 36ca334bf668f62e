-- A run with one change, record by record.
use Rattle.std.specs.Prelude.{ℕ, Bool, false, cond, nat_eq, List, [], ◌∷◌, Option, Some, None, Ok, Err}
use Rattle.std.specs.Int.{div_ceil}
use Rattle.spp_event.specs.declared.records.Event.{Event}
use Rattle.spp_event.specs.declared.records.Event.TheVariants.{Strand, Call, Spawn, Ret}
use Rattle.spp_event.specs.Recordings.{Record}
use Rattle.spp_change.specs.declared.change.Change.{Change}
use Rattle.spp_change.specs.declared.change.Change.TheVariants.{Faster, Called, Spawned}

-- What a record makes of the sites by which the open frames were entered, the innermost first and without the root. A bad
-- record opens and closes nothing, nor does a return of the root.
abbrev pub sites_after : Record → List ℕ → List ℕ
sites_after (Ok (Call site func)) sites = site ∷ sites
sites_after (Ok (Spawn site func)) sites = site ∷ sites
sites_after (Ok Ret) [] = []
sites_after (Ok Ret) (s ∷ sites) = sites
sites_after _ sites = sites

-- the site by which the innermost frame was entered, which directly holds what comes next; none entered the root
abbrev pub innermost : List ℕ → Option ℕ
innermost [] = None
innermost (s ∷ sites) = Some s

abbrev pub is_by : Option ℕ → ℕ → Bool
is_by None site = false
is_by (Some s) site = nat_eq s site

-- what becomes of an event in a frame that was entered by that site
abbrev pub changed_event : Change → Option ℕ → Event → Event
changed_event (Faster site factor) by (Strand count) = Strand (cond (is_by by site) (div_ceil count factor) count)
changed_event (Called site) by (Spawn s func) = cond (nat_eq s site) (Call s func) (Spawn s func)
changed_event (Spawned site) by (Call s func) = cond (nat_eq s site) (Spawn s func) (Call s func)
changed_event _ by event = event

-- a bad record stays as it is
abbrev pub changed_record : Change → Option ℕ → Record → Record
changed_record change by (Ok event) = Ok (changed_event change by event)
changed_record change by (Err fault) = Err fault

-- the records of the changed run from a place on where frames are open that these sites entered
abbrev pub changed_from : Change → List ℕ → List Record → List Record
changed_from change sites [] = []
changed_from change sites (r ∷ rs) = changed_record change (innermost sites) r ∷ changed_from change (sites_after r sites) rs

-- the records of the changed run; only the root is open before the first
abbrev pub changed : Change → List Record → List Record
changed change rs = changed_from change [] rs
