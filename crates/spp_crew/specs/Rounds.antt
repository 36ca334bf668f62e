-- What the workers of a round leave.
use Rattle.std.specs.Prelude.{◌≡◌, ℕ, ◌<◌, true, nat_lt, count_by}
use Rattle.spp_book.specs.Counters.{has_past}
use Rattle.spp_book.specs.Desks.{PassView}

-- how many parts were drawn with the pass
abbrev pub parts_drawn : PassView → ℕ
parts_drawn pass = count_by (λ x. nat_lt x pass.parts) pass.drawn

-- No number is left to draw, and as many pieces of the pass were accepted as parts were drawn with it.
pub record IsDrained (pass : PassView) : Type 0 where
  pub finished : has_past pass.parts pass.drawn ≡ true
  pub put : pass.share ≡ parts_drawn pass

-- fewer pieces of the pass were accepted than parts were drawn with it
abbrev pub IsBehind : PassView → Type 0
IsBehind pass = pass.share < parts_drawn pass
