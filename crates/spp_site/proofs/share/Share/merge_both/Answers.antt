use Rattle.spp_site.proofs.Hinted.{roomy_hinted, stored_fit}
use Rattle.spp_site.proofs.share.Share.merge_both.Goals as goal

pub invariant_of-second : goal.invariant_of-second
invariant_of-second c =
    roomy_hinted c.second.inside.hints.items c.make_room.new.hints.items c.second.inside.rows.items c.make_room.new.rows.items c.second.invariant c.make_room.ensures.grown c.make_room.ensures.small c.make_room.ensures.rows

pub invariant_of-second-in_err-merge : goal.invariant_of-second-in_err-merge
invariant_of-second-in_err-merge c =
    roomy_hinted c.second.inside.hints.items c.make_room.new.hints.items c.second.inside.rows.items c.make_room.new.rows.items c.second.invariant c.make_room.ensures.grown c.make_room.ensures.small c.make_room.ensures.rows

pub put_all-requires-clause-hinted : goal.put_all-requires-clause-hinted
put_all-requires-clause-hinted c =
    roomy_hinted c.second.inside.hints.items c.make_room.new.hints.items c.second.inside.rows.items c.make_room.new.rows.items c.second.invariant c.make_room.ensures.grown c.make_room.ensures.small c.make_room.ensures.rows

pub put_all-requires-clause-fits : goal.put_all-requires-clause-fits
put_all-requires-clause-fits c =
    stored_fit c.args.second.now c.args.second_other.now c.second.inside.root c.second_other.inside.root c.second.inside.rows.items c.make_room.new.rows.items c.second_other.inside.rows.items c.deref-2.result.now
    c.second.view_is c.second_other.view_is c.make_room.ensures.rows c.deref-2.ensures.value c.requires.second_sites_fit
