-- What the way back says where it has come to the beginning of a range.
use Rattle.std.proofs.Common.{◌≡◌, ℕ, suc, ◌+◌, ◌*◌, ◌≤◌, ◌<◌, true, arith, inl, inr, List}
use Rattle.std.proofs.lemmas.Bool.{cases_lt}
use Rattle.spp_event.specs.declared.records.Event.{Event}
use Rattle.spp_dag.specs.Trace.{event_at, spawns, partner, join}
use Rattle.spp_dag.specs.Dag.{On}
use Rattle.spp_path.specs.declared.settling.Onward.{Onward}
use Rattle.spp_path.specs.declared.settling.Onward.TheVariants.{Live, Skip, Seek}
use Rattle.spp_path.specs.declared.settling.WayBack.{WayBack}
use Rattle.spp_path.specs.Ways.{Running, Says, HasCome, StandsAt}

-- between two times stand no end and no join of an entered child
record Still (es : List Event) (ps : List ℕ) (a time : ℕ) : Type 0 where
  after : 2 * a ≤ time
  no_ends : (u : ℕ) → spawns (event_at es u) ≡ true → 2 * partner es u + 1 < time → partner es u < a
  no_joins : (u : ℕ) → spawns (event_at es u) ≡ true → On 0 ps (suc u) → 2 * join es u < time → join es u < a

running_to : (es : List Event) (ps : List ℕ) (a t time : ℕ) → Still es ps a time → 2 * a ≤ t → t ≤ time → Running es ps t → Running es ps (2 * a)
running_to es ps a t time q low high r = record {
  held = λ u o x y. elim (cases_lt (2 * partner es u + 1) t) [
    | inl z ↦ absurd (let w = q.no_ends u o (omega arith) in omega arith)
    | inr z ↦ r.held u o (omega arith) z
  ];
  free = λ s o e x. let z = r.free s o e (omega arith) in let w = q.no_joins s o e (omega arith) in omega arith;
}

pub stands_at : (es : List Event) (ps : List ℕ) (a : ℕ) (s : WayBack) → HasCome es ps a s → StandsAt es ps a s.onward
stands_at es ps a s c = by s.onward c.says
  where
    still : Still es ps a c.time
    still = record { after = c.after; no_ends = c.no_ends; no_joins = c.no_joins }

    by : (o : Onward) → Says es ps c.time o → StandsAt es ps a o
    by Live r = running_to es ps a c.time c.time still c.after (let z : c.time ≤ c.time = omega arith in z) r
    by (Skip u) k =
        let up = k.upper in
        let low = k.lower in
        let after = c.after in
        elim (cases_lt u a) [
          | inl x ↦ inl (record {
            spawned = k.spawned;
            out = k.out;
            lower = omega arith;
            upper = omega arith;
            before = k.before;
          })
          | inr x ↦ inr (x, running_to es ps a (2 * u + 1) c.time still (omega arith) (omega arith) k.before)
        ]
    by (Seek u) k =
        let up = k.upper in
        let low = c.no_ends u k.spawned k.lower in
        let after = c.after in
        record {
          spawned = k.spawned;
          entered = k.entered;
          lower = omega arith;
          upper = omega arith;
        }
