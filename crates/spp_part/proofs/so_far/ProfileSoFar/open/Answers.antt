use Rattle.std.proofs.Common.{◌≡◌, subst}
use Rattle.spp_pass.specs.Passes.{Notes, seen_with, open_seen}
use Rattle.spp_part.proofs.Ends.{opens}
use Rattle.spp_part.proofs.Nexts.{open_next}
use Rattle.spp_part.proofs.so_far.ProfileSoFar.open.Goals as goal

pub open-requires : goal.open-requires
open-requires c = let q = c.requires in opens q.0 q.1 q.2 c.args.self.now.counting c.args.self.now.ways q.5.0 q.7

pub returns-clause-stands : goal.returns-clause-stands
returns-clause-stands c trace burdens i event is so at lt =
    let w = c.in_ok-open-2.ensures in
    open_next trace burdens i c.args.self.now.counting c.args.self.now.ways so.0 lt c.args.kind c.args.site c.args.func event is at c.open.new.self
    (subst (λ k. (n : Notes) → seen_with c.open.new.self n ≡ open_seen c.args.kind k c.args.site c.args.func (seen_with c.args.self.now.counting n)) so.1 c.in_ok-open.ensures)
    c.open-2.new.self w.laid w.ways w.rows
