use Rattle.spp_site.proofs.Hinted.{roomy_hinted, stored_fit}
use Rattle.spp_site.proofs.share.Share.merge.Goals as goal

pub invariant_of-self : goal.invariant_of-self
invariant_of-self c =
    roomy_hinted c.self.inside.hints.items c.make_room.new.hints.items c.self.inside.rows.items c.make_room.new.rows.items c.self.invariant c.make_room.ensures.grown c.make_room.ensures.small c.make_room.ensures.rows

pub put_all-requires-clause-hinted : goal.put_all-requires-clause-hinted
put_all-requires-clause-hinted c =
    roomy_hinted c.self.inside.hints.items c.make_room.new.hints.items c.self.inside.rows.items c.make_room.new.rows.items c.self.invariant c.make_room.ensures.grown c.make_room.ensures.small c.make_room.ensures.rows

pub put_all-requires-clause-fits : goal.put_all-requires-clause-fits
put_all-requires-clause-fits c =
    stored_fit c.args.self.now c.args.other.now c.self.inside.root c.other.inside.root c.self.inside.rows.items c.make_room.new.rows.items c.other.inside.rows.items c.deref-2.result.now
    c.self.view_is c.other.view_is c.make_room.ensures.rows c.deref-2.ensures.value c.requires.sites_fit
