use Rattle.std.proofs.Common.{◌≡◌, ℕ, suc, ◌+◌, length, Ok, refl, ap, subst, ◌∙◌, arith}
use Rattle.spp_event.specs.declared.records.Event.{Event}
use Rattle.spp_event.specs.declared.records.Event.TheVariants.{Strand, Call, Spawn, Ret, Sync}
use Rattle.spp_event.specs.Records.{IsEventOf}
use Rattle.spp_event.specs.Recordings.{record_at}
use Rattle.spp_site.specs.Table.{Sums}
use Rattle.spp_path.specs.Rows.{told, IsRead}
use Rattle.spp_path.specs.Spans.{spans}
use Rattle.spp_path.proofs.AlongPath.{Reads, IsIn, in_part, spans_told, path_told, spans_begun, path_begun, some_event, has_open, can_run, spans_on, is_open, can_count, has_room, strand_on, sync_on, call_on, spawn_on, open_then, spans_can_return, spans_return, can_return, return_on, fits_open, sites_below, share_is}
use Rattle.spp_path.proofs.Events.{SpawnDone}
use Rattle.spp_path.proofs.PartPass.{read_at, ok_more}
use Rattle.spp_path.proofs.Reaching.{outside_below}
use Rattle.spp_path.proofs.part.rows_by.Given as given
use Rattle.spp_path.proofs.part.rows_by.Goals as goal
use Rattle.spp_path.proofs.part.rows_by.Goals.{After-keeps_limits, After-read_known_at, in-Strand, in-Call+in_ok-open-in-Call+in_ok-call-in-Call, in-Spawn+in_ok-open-in-Spawn+in_ok-spawn-in-Spawn, in-Ret+in_ok-outside-in-Ret+in_ok-outside_path-in-Ret+in_ok-ret-in-Ret, in-Sync}

-- what is known of the part
reads : (g : given.Over) (c : After-keeps_limits g) → Reads c.args.part.now c.args.entry
reads g c = record { stands = c.requires.stands; limits = c.keeps_limits.ensures.limits; events = c.keeps_limits.ensures.events; within = c.keeps_limits.ensures.within }

-- and of the event that is read
module _ (g : given.Over) (c : After-read_known_at g) where
  r : Reads c.args.part.now c.args.entry
  r = record { stands = c.requires.stands; limits = c.keeps_limits.ensures.limits; events = c.keeps_limits.ensures.events; within = c.keeps_limits.ensures.within }

  abbrev at : ℕ
  at = c.first-first.result + c.loop-k.k

  d : IsIn c.args.part.now at
  d = in_part c.args.part.now c.first-first.result c.loop-k.k c.first-first.ensures (omega (arith, c.count-k-end.ensures, c.loop-k-test.true))

  read : (e : Event) → record_at c.args.part.now.trace.records (c.args.part.now.first + c.loop-k.k) ≡ Ok e → IsEventOf (length c.args.part.now.trace.sites) (length c.args.part.now.trace.funcs) e
      → IsRead c.args.part.now.trace at e
  read e said within = read_at c.args.part.now.trace c.args.part.now.first c.first-first.result c.loop-k.k e c.first-first.ensures said within

pub loop-k-init : goal.loop-k-init
loop-k-init g c =
    let known = reads g (goal.at.loop-k-init g c).After-keeps_limits in
    let start : c.args.part.now.first ≡ c.first-first.result + 0 = omega (arith, c.first-first.ensures) in
    record {
      weights =
          spans_told
          (spans_begun known c.below-outside.result (spans c.in_ok-spans.spans) c.in_ok-spans.ensures
          (λ f fs h. outside_below c.below-outside.result fs (c.below-outside.ensures.some f fs h) (c.below-outside.ensures.none f fs h)))
          start refl refl;
      path =
          path_told
          (path_begun known c.args.live c.args.trail c.args.entered.now c.requires.goes c.below-outside_path.result (told c.in_ok-rows.rows) c.in_ok-rows.ensures
          (λ f fs h. outside_below c.below-outside_path.result fs (c.below-outside_path.ensures.some f fs h) (c.below-outside_path.ensures.none f fs h)))
          start refl refl c.new-entered.ensures;
      next = subst (λ (n : ℕ). g.R.Reader.stands c.args.events c.args.part.now.trace n) (let e : c.args.part.now.first ≡ c.args.part.now.first + 0 = omega arith in e) c.requires.here;
    }

pub read_known_at-requires-clause-good : goal.read_known_at-requires-clause-good
read_known_at-requires-clause-good g c = some_event (reads g (goal.at.read_known_at-requires-clause-good g c).After-keeps_limits) c.loop-k.k (omega (arith, c.count-k-end.ensures, c.loop-k-test.true))

pub strand-requires : goal.strand-requires
strand-requires g c =
    let h = (goal.at.strand-requires g c).After-read_known_at in
    can_run (r g h) (d g h) h.loop-k.invariant.weights c.in-Strand.count (read g h (Strand c.in-Strand.count) c.in-Strand.ensures.said c.in-Strand.ensures.within)

pub strand-requires-in-Strand-clause-open : goal.strand-requires-in-Strand-clause-open
strand-requires-in-Strand-clause-open g c =
    let h = (goal.at.strand-requires-in-Strand-clause-open g c).After-read_known_at in
    is_open (r g h) (d g h) h.loop-k.invariant.path h.requires.goes

pub strand-requires-in-Strand-clause-fits : goal.strand-requires-in-Strand-clause-fits
strand-requires-in-Strand-clause-fits g c =
    let h = (goal.at.strand-requires-in-Strand-clause-fits g c).After-read_known_at in
    can_count (r g h) (d g h) h.loop-k.invariant.path h.requires.goes c.in-Strand.count (read g h (Strand c.in-Strand.count) c.in-Strand.ensures.said c.in-Strand.ensures.within)

pub call-requires-clause-open : goal.call-requires-clause-open
call-requires-clause-open g c =
    let h = (goal.at.call-requires-clause-open g c).After-read_known_at in
    is_open (r g h) (d g h) h.loop-k.invariant.path h.requires.goes

pub call-requires-clause-room : goal.call-requires-clause-room
call-requires-clause-room g c =
    let h = (goal.at.call-requires-clause-room g c).After-read_known_at in
    has_room (r g h) (d g h) h.loop-k.invariant.path h.requires.goes

pub spawn-requires-clause-open : goal.spawn-requires-clause-open
spawn-requires-clause-open g c =
    let h = (goal.at.spawn-requires-clause-open g c).After-read_known_at in
    is_open (r g h) (d g h) h.loop-k.invariant.path h.requires.goes

pub spawn-requires-clause-room : goal.spawn-requires-clause-room
spawn-requires-clause-room g c =
    let h = (goal.at.spawn-requires-clause-room g c).After-read_known_at in
    has_room (r g h) (d g h) h.loop-k.invariant.path h.requires.goes

pub reach-requires : goal.reach-requires
reach-requires g c =
    let h = (goal.at.reach-requires g c).After-read_known_at in
    has_open (r g h) (d g h) h.loop-k.invariant.weights

pub reach-requires-in-Ret : goal.reach-requires-in-Ret
reach-requires-in-Ret g c =
    let h = (goal.at.reach-requires-in-Ret g c).After-read_known_at in
    is_open (r g h) (d g h) h.loop-k.invariant.path h.requires.goes

pub innermost-span-requires : goal.innermost-span-requires
innermost-span-requires g c =
    let h = (goal.at.innermost-span-requires g c).After-read_known_at in
    open_then (r g h) (d g h) h.loop-k.invariant.weights (read g h Ret c.in-Ret.ensures.said c.in-Ret.ensures.within) c.in_ok-outside-in-Ret.outside (spans c.reach.new.self) c.in_ok-outside-in-Ret.ensures

pub ret-requires : goal.ret-requires
ret-requires g c =
    let h = (goal.at.ret-requires g c).After-read_known_at in
    spans_can_return (r g h) (d g h) h.loop-k.invariant.weights (read g h Ret c.in-Ret.ensures.said c.in-Ret.ensures.within) c.in_ok-outside-in-Ret.outside (spans c.reach.new.self) c.in_ok-outside-in-Ret.ensures c.innermost-span.result c.innermost-span.ensures

pub ret-requires-in-Ret : goal.ret-requires-in-Ret
ret-requires-in-Ret g c =
    let h = (goal.at.ret-requires-in-Ret g c).After-read_known_at in
    can_return (r g h) (d g h) h.loop-k.invariant.weights (read g h Ret c.in-Ret.ensures.said c.in-Ret.ensures.within) c.in_ok-outside-in-Ret.outside (spans c.reach.new.self) c.in_ok-outside-in-Ret.ensures c.innermost-span.result c.innermost-span.ensures h.loop-k.invariant.path h.requires.goes c.in_ok-outside_path-in-Ret.outside_path (told c.reach-in-Ret.new.self) c.in_ok-outside_path-in-Ret.ensures.reached c.in_ok-outside_path-in-Ret.ensures.others

pub sync-requires : goal.sync-requires
sync-requires g c =
    let h = (goal.at.sync-requires g c).After-read_known_at in
    has_open (r g h) (d g h) h.loop-k.invariant.weights

pub loop-k-preserved : goal.loop-k-preserved
loop-k-preserved g c =
    let h = (goal.at.loop-k-preserved g c).After-read_known_at in
    let further : suc (at g h) ≡ c.first-first.result + (c.loop-k.k + 1) = omega arith in
    let now = c.match-read_known_at in
    record {
      weights = elim c.match-read_known_at.branch [
        | in-Strand w ↦
            spans_told (spans_on (r g h) (d g h) h.loop-k.invariant.weights (Strand w.in-Strand.count) (spans w.strand.new.self) (read g h (Strand w.in-Strand.count) w.in-Strand.ensures.said w.in-Strand.ensures.within) (λ e. cc) w.strand.ensures)
            further w.outside-is (ap (λ x. spans x) w.spans-is)
        | in-Call+in_ok-open-in-Call+in_ok-call-in-Call w ↦
            spans_told (spans_on (r g h) (d g h) h.loop-k.invariant.weights (Call w.in-Call.site w.in-Call.func) (spans w.open.new.self) (read g h (Call w.in-Call.site w.in-Call.func) w.in-Call.ensures.said w.in-Call.ensures.within) (λ e. cc) w.in_ok-open-in-Call.ensures)
            further w.outside-is (ap (λ x. spans x) w.spans-is)
        | in-Spawn+in_ok-open-in-Spawn+in_ok-spawn-in-Spawn w ↦
            spans_told (spans_on (r g h) (d g h) h.loop-k.invariant.weights (Spawn w.in-Spawn.site w.in-Spawn.func) (spans w.open-in-Spawn.new.self) (read g h (Spawn w.in-Spawn.site w.in-Spawn.func) w.in-Spawn.ensures.said w.in-Spawn.ensures.within) (λ e. cc) w.in_ok-open-in-Spawn.ensures)
            further w.outside-is (ap (λ x. spans x) w.spans-is)
        | in-Ret+in_ok-outside-in-Ret+in_ok-outside_path-in-Ret+in_ok-ret-in-Ret w ↦
            spans_told (spans_return (r g h) (d g h) h.loop-k.invariant.weights (read g h Ret w.in-Ret.ensures.said w.in-Ret.ensures.within) w.in_ok-outside-in-Ret.outside (spans w.reach.new.self) w.in_ok-outside-in-Ret.ensures w.innermost-span.result w.innermost-span.ensures (spans w.ret.new.self) w.ret.ensures)
            further w.outside-is (ap (λ x. spans x) w.spans-is)
        | in-Sync w ↦
            spans_told (spans_on (r g h) (d g h) h.loop-k.invariant.weights Sync (spans w.sync.new.self) (read g h Sync w.in-Sync.ensures.said w.in-Sync.ensures.within) (λ e. cc) w.sync.ensures)
            further w.outside-is (ap (λ x. spans x) w.spans-is)
      ];
      path = elim c.match-read_known_at.branch [
        | in-Strand w ↦
            path_told (strand_on (r g h) (d g h) h.loop-k.invariant.path h.requires.goes w.in-Strand.count (told w.strand-in-Strand.new.self) (read g h (Strand w.in-Strand.count) w.in-Strand.ensures.said w.in-Strand.ensures.within) (w.strand-in-Strand.ensures.on_path, w.strand-in-Strand.ensures.beside))
            further w.outside_path-is (ap (λ x. told x) w.rows-is) w.entered-is
        | in-Call+in_ok-open-in-Call+in_ok-call-in-Call w ↦
            path_told (call_on (r g h) (d g h) h.loop-k.invariant.path h.requires.goes w.in-Call.site w.in-Call.func (told w.call.new.self) (read g h (Call w.in-Call.site w.in-Call.func) w.in-Call.ensures.said w.in-Call.ensures.within) (w.in_ok-call-in-Call.ensures.enters, w.in_ok-call-in-Call.ensures.skips))
            further w.outside_path-is (ap (λ x. told x) w.rows-is) w.entered-is
        | in-Spawn+in_ok-open-in-Spawn+in_ok-spawn-in-Spawn w ↦
            path_told (spawn_on (r g h) (d g h) h.loop-k.invariant.path h.requires.goes w.in-Spawn.site w.in-Spawn.func (told w.spawn.new.self) (read g h (Spawn w.in-Spawn.site w.in-Spawn.func) w.in-Spawn.ensures.said w.in-Spawn.ensures.within)
            (subst (λ q. SpawnDone q w.in-Spawn.site w.in-Spawn.func (told c.loop-k.rows) (told w.spawn.new.self)) w.takes.ensures.is (w.in_ok-spawn-in-Spawn.ensures.enters, w.in_ok-spawn-in-Spawn.ensures.skips)))
            further w.outside_path-is (ap (λ x. told x) w.rows-is) (w.entered-is ∙ w.takes.ensures.left)
        | in-Ret+in_ok-outside-in-Ret+in_ok-outside_path-in-Ret+in_ok-ret-in-Ret w ↦
            path_told (return_on (r g h) (d g h) h.loop-k.invariant.weights (read g h Ret w.in-Ret.ensures.said w.in-Ret.ensures.within) w.in_ok-outside-in-Ret.outside (spans w.reach.new.self) w.in_ok-outside-in-Ret.ensures w.innermost-span.result w.innermost-span.ensures h.loop-k.invariant.path h.requires.goes w.in_ok-outside_path-in-Ret.outside_path (told w.reach-in-Ret.new.self) w.in_ok-outside_path-in-Ret.ensures.reached w.in_ok-outside_path-in-Ret.ensures.others (told w.ret-in-Ret.new.self) (w.in_ok-ret-in-Ret.ensures.returned, w.in_ok-ret-in-Ret.ensures.skipped))
            further w.outside_path-is (ap (λ x. told x) w.rows-is) w.entered-is
        | in-Sync w ↦
            path_told (sync_on (r g h) (d g h) h.loop-k.invariant.path h.requires.goes (told w.sync-in-Sync.new.self) (read g h Sync w.in-Sync.ensures.said w.in-Sync.ensures.within) (w.sync-in-Sync.ensures.waited, w.sync-in-Sync.ensures.skipped))
            further w.outside_path-is (ap (λ x. told x) w.rows-is) w.entered-is
      ];
      next = subst (λ (n : ℕ). g.R.Reader.stands c.read_known_at.new.events c.args.part.now.trace n) (let e : c.args.part.now.first + c.loop-k.k + 1 ≡ c.args.part.now.first + (c.loop-k.k + 1) = omega arith in e) c.read_known_at.ensures.next;
    }

pub suspend-requires-clause-fits : goal.suspend-requires-clause-fits
suspend-requires-clause-fits g c =
    let known = reads g (goal.at.suspend-requires-clause-fits g c).After-keeps_limits in
    let last : c.first-first.result + c.loop-k.k ≡ c.args.part.now.first + c.args.part.now.count = omega (arith, c.first-first.ensures, c.count-k-end.ensures, c.loop-k.auto.k-end, c.loop-k-test.false) in
    fits_open known c.loop-k.invariant.path c.requires.goes last

pub suspend-requires-clause-sites : goal.suspend-requires-clause-sites
suspend-requires-clause-sites g c =
    let known = reads g (goal.at.suspend-requires-clause-sites g c).After-keeps_limits in
    let last : c.first-first.result + c.loop-k.k ≡ c.args.part.now.first + c.args.part.now.count = omega (arith, c.first-first.ensures, c.count-k-end.ensures, c.loop-k.auto.k-end, c.loop-k-test.false) in
    sites_below known c.loop-k.invariant.path c.requires.goes last

pub returns : goal.returns
returns g c =
    let known = reads g (goal.at.returns g c).After-keeps_limits in
    let last : c.first-first.result + c.loop-k.k ≡ c.args.part.now.first + c.args.part.now.count = omega (arith, c.first-first.ensures, c.count-k-end.ensures, c.loop-k.auto.k-end, c.loop-k-test.false) in
    ok_more _ _ c.suspend.result (λ (q : Sums) h bd right es are. share_is known c.loop-k.invariant.path c.requires.goes last q h bd right es are) c.suspend.ensures
