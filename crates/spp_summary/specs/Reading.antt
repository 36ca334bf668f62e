-- A summary while its events are read.
use Rattle.std.specs.Prelude.{ℕ, List, map, reverse, ◌∷◌}
use Rattle.spp_summary.specs.declared.opens.Open.{Open}
use Rattle.spp_summary.specs.declared.reading.Reading.{Reading}
use Rattle.spp_piece.specs.declared.pieces.Frame.{Frame}
use Rattle.spp_piece.specs.Summary.{Sum}
use Rattle.spp_summary.specs.KeptFrames.{told, AreLaid}

abbrev pub so_far : Reading → Sum
so_far p = told p.returns.items p.middle p.since (reverse p.opens.items) (reverse p.states.items) p.run p.before p.fault

-- with one frame more, the innermost
abbrev pub so_far_with : Open → Reading → Sum
so_far_with o p =
    told p.returns.items p.middle p.since (o ∷ reverse p.opens.items) (reverse p.states.items) p.run p.before p.fault

abbrev pub IsLaid : Reading → Type 0
IsLaid p = AreLaid p.run p.before (reverse p.opens.items) (reverse p.states.items) p.since

-- the sites by which frames were entered
abbrev pub sites_in : List Frame → List ℕ
sites_in fs = map (λ f. f.site) fs
