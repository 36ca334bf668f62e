use Rattle.std.proofs.Common.{◌+◌, ◌++◌, ◌<◌, ℕ, List, take, get_or, refl, subst, arith}
use Rattle.spp_event.specs.Recordings.{Record, records_of}
use Rattle.spp_crew.specs.Blocks.{IsSummaryOfFirst}
use Rattle.spp_crew.specs.declared.block.Block.{Block}
use Rattle.spp_crew.specs.RecordFigures.{rooted}
use Rattle.spp_crew.proofs.RecordProfiles.{come_if, sample_of, sample_begins_as, count_more, good_more, block_at, before_block, block_within, shown_before, shown_behind}
use Rattle.spp_crew.proofs.record_figures.RecordFigures.followed_by_events.Goals as goal

pub followed_by-requires-clause-come : goal.followed_by-requires-clause-come
followed_by-requires-clause-come g c joining is few =
    let p = c.args.self in
    let block : Block = record { version = c.args.version; bytes = c.args.bytes; len = c.args.len; count = c.args.count; first = p.at; sites = p.head.sites; funcs = p.head.funcs; burdens = p.burdens } in
    let rs = c.requires.seen.0 in
    let seen = c.requires.seen.1 in
    let fits : (i : ℕ) → get_or c.args.bytes.items i 0 < 256 = λ i. subst (λ (l : List ℕ). get_or l i 0 < 256) c.as_slice.ensures.value (c.are_bytes.ensures i) in
    let all : List Record = rs ++ records_of c.args.version p.head.sites p.head.funcs c.args.count (take c.args.len c.args.bytes.items) in
    let t = sample_of p.head all in
    let b = sample_begins_as p.head p.limits all (good_more block rs seen.count fits seen.good) (omega (arith, few, count_more block rs seen.count)) in
    let shown = shown_before block rs seen.count IsSummaryOfFirst p.shown t (seen.found t (before_block block rs seen.count t (rooted t p.head) refl refl b)) in
    (t, come_if IsSummaryOfFirst t p.burdens p.at p.shown joining is shown, block_at block rs seen.count t (rooted t p.head) refl refl b)

pub returns-clause-seen : goal.returns-clause-seen
returns-clause-seen g c rs seen =
    let p = c.args.self in
    let block : Block = record { version = c.args.version; bytes = c.args.bytes; len = c.args.len; count = c.args.count; first = p.at; sites = p.head.sites; funcs = p.head.funcs; burdens = p.burdens } in
    let fits : (i : ℕ) → get_or c.args.bytes.items i 0 < 256 = λ i. subst (λ (l : List ℕ). get_or l i 0 < 256) c.as_slice.ensures.value (c.are_bytes.ensures i) in
    record {
      count = count_more block rs seen.count;
      good = good_more block rs seen.count fits seen.good;
      found = λ t b.
          let before = shown_before block rs seen.count IsSummaryOfFirst p.shown t (seen.found t (before_block block rs seen.count t (rooted t p.head) refl refl b)) in
          shown_behind block rs seen.count IsSummaryOfFirst c.with_thread-shown.result t
          (c.with_thread-shown.ensures.same t p.burdens (p.at + c.args.count) (c.in_ok-shown.ensures.shown t (block_within block rs seen.count t (rooted t p.head) refl refl b) before (block_at block rs seen.count t (rooted t p.head) refl refl b)));
    }
