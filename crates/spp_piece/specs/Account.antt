-- A summary as its callers see it.
use Rattle.std.specs.Prelude.{ℕ, ◌+◌, ◌≤◌, ◌<◌, ◌^◌, List, [], length, Result}
use Rattle.spp_maxplus.specs.declared.state.Burdens.{Burdens}
use Rattle.spp_event.specs.declared.records.Event.{Event}
use Rattle.spp_event.specs.declared.records.EventFault.{EventFault}
use Rattle.spp_piece.specs.Pair.{start}
use Rattle.spp_piece.specs.Stack.{Stack}
use Rattle.spp_piece.specs.Summary.{Sum, summary_of, joined}
use Rattle.spp_piece.specs.Bound.{IsSmall, worst}

-- the burden; the range, from its first position on; and what its events do
pub record Account : Type 0 where
  pub burdens : Burdens
  pub first : ℕ
  pub events : ℕ
  pub sum : Sum

pub record IsSound (a : Account) : Type 0 where
  pub range : a.first + a.events ≤ 2 ^ 28
  pub burdens : worst a.burdens < 2 ^ 32
  pub small : IsSmall a.burdens a.events a.sum

-- the account of a list of events
abbrev pub account_of : Burdens → ℕ → List (Result Event EventFault) → Account
account_of burdens first items =
    record { burdens = burdens; first = first; events = length items; sum = summary_of burdens first items }

-- of two neighbours together
abbrev pub together : Account → Account → Account
together a b =
    record { burdens = a.burdens; first = a.first; events = a.events + b.events; sum = joined a.burdens a.sum b.sum }

-- the root frame alone
abbrev pub at_start : Stack
at_start = record { frames = []; root = start; work = 0 }
