use Rattle.std.proofs.Common.{◌≡◌, replicate, None}
use Rattle.spp_book.proofs.book.places.Given as goal

abbrev pub invariant-loop-place : goal.invariant-loop-place
invariant-loop-place g l = l.places.items ≡ replicate l._place None
