use Rattle.std.proofs.Common.{◌≡◌, ℕ, ◌≤◌, Bool, true, false, length, reverse, Option, sym, ap₂, subst, ◌∙◌}
use Rattle.spp_dag.specs.Shares.{plus}
use Rattle.spp_site.specs.Rows.{Fits}
use Rattle.spp_ways.specs.declared.log.Log.{Log}
use Rattle.spp_ways.specs.declared.both_ways.BothWays.{BothWays}
use Rattle.spp_ways.specs.Logs.{row_in, rest_in, HasPrefix, AreLinked}
use Rattle.spp_ways.specs.PathSums.{way_of}
use Rattle.spp_ways.proofs.PathSums.{left_fits, right_fits}
use Rattle.spp_ways.proofs.Leading.{leads_rest, rest_whole}
use Rattle.spp_ways.proofs.log.Log.merge.Goals as goal

-- besides ways that enter nothing they have all
whole : (on : Bool) (log : Log) (w : BothWays) (key : Option ℕ) → rest_in on log (way_of on w) (way_of on (record { plain = 0; burdened = 0 })) key ≡ row_in on log (way_of on w) key
whole false log w key = rest_whole false (reverse log.rows.items) w.plain key
whole true log w key = rest_whole true (reverse log.rows.items) w.burdened key

-- ways that lead to others have their rows, and the rest
parts : (log : Log) → AreLinked (reverse log.rows.items) → (w stops : BothWays) → ((on : Bool) → way_of on w ≤ length log.rows.items)
    → ((on : Bool) → HasPrefix on (reverse log.rows.items) (way_of on w) (way_of on stops))
    → (on : Bool) (key : Option ℕ) → row_in on log (way_of on w) key ≡ plus (row_in on log (way_of on stops) key) (rest_in on log (way_of on w) (way_of on stops) key)
parts log linked w stops within p false key = leads_rest false log.rows.items linked w.plain stops.plain (within false) (p false) key
parts log linked w stops within p true key = leads_rest true log.rows.items linked w.burdened stops.burdened (within true) (p true) key

pub merge_rest-requires-clause-fits : goal.merge_rest-requires-clause-fits
merge_rest-requires-clause-fits c on key =
    let log : Log = c.args.self.now in
    let stops : BothWays = c.shared_prefixes-stops.result in
    let is = parts log c.requires.linked c.args.along stops c.requires.along c.shared_prefixes-stops.ensures.along on key in
    subst Fits (sym (whole on log stops key))
    (left_fits (row_in on log (way_of on stops) key) (rest_in on log (way_of on c.args.along) (way_of on stops) key) (subst Fits is (c.requires.along_fits on key)))

pub merge_rest-requires-2-clause-fits : goal.merge_rest-requires-2-clause-fits
merge_rest-requires-2-clause-fits c on key =
    let log : Log = c.args.self.now in
    let stops : BothWays = c.shared_prefixes-stops.result in
    let is = parts log c.requires.linked c.args.along stops c.requires.along c.shared_prefixes-stops.ensures.along on key in
    right_fits (row_in on log (way_of on stops) key) (rest_in on log (way_of on c.args.along) (way_of on stops) key) (subst Fits is (c.requires.along_fits on key))

pub merge_rest-requires-3-clause-fits : goal.merge_rest-requires-3-clause-fits
merge_rest-requires-3-clause-fits c on key =
    let log : Log = c.args.self.now in
    let stops : BothWays = c.shared_prefixes-stops.result in
    let is = parts log c.requires.linked c.args.through stops c.requires.through c.shared_prefixes-stops.ensures.through on key in
    right_fits (row_in on log (way_of on stops) key) (rest_in on log (way_of on c.args.through) (way_of on stops) key) (subst Fits is (c.requires.through_fits on key))

pub returns-clause-along : goal.returns-clause-along
returns-clause-along c on key =
    let log : Log = c.args.self.now in
    let stops : BothWays = c.shared_prefixes-stops.result in
    ap₂ plus (c.in_ok-first.ensures on key ∙ whole on log stops key) (c.in_ok-second.ensures on key)
    ∙ sym (parts log c.requires.linked c.args.along stops c.requires.along c.shared_prefixes-stops.ensures.along on key)

pub returns-clause-through : goal.returns-clause-through
returns-clause-through c on key =
    let log : Log = c.args.self.now in
    let stops : BothWays = c.shared_prefixes-stops.result in
    ap₂ plus (c.in_ok-first.ensures on key ∙ whole on log stops key) (c.in_ok-third.ensures on key)
    ∙ sym (parts log c.requires.linked c.args.through stops c.requires.through c.shared_prefixes-stops.ensures.through on key)
