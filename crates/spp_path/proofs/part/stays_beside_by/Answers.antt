use Rattle.std.proofs.Common.{◌≡◌, ℕ, ◌+◌, ◌-◌, ◌<◌, ◌≤◌, Ok, refl, ap, ◌∙◌, arith, inl, inr, subst}
use Rattle.spp_event.specs.declared.records.Event.{Event}
use Rattle.spp_event.specs.declared.records.Event.TheVariants.{Strand, Call, Spawn, Ret, Sync}
use Rattle.spp_event.specs.Recordings.{Record}
use Rattle.spp_path.specs.Beside.{open_after, open_at}
use Rattle.spp_path.proofs.Counting.{open_next, some_next}
use Rattle.spp_path.proofs.part.stays_beside_by.Goals as goal
use Rattle.spp_path.proofs.part.stays_beside_by.Goals.{in-Call, in-Ret+else-open-eq0-2, in-Strand}

pub returns-then-open-eq0-2 : goal.returns-then-open-eq0-2
returns-then-open-eq0-2 g c = (
  (λ e. cc),
  λ stays.
      let part = c.args.part.now in
      let none : c.loop-k.open - 1 ≡ open_at part c.args.skipped (c.loop-k.k + 1) =
      open_next part c.args.skipped c.loop-k.k (Ok Ret) c.loop-k.open (c.loop-k.open - 1) c.in-Ret.ensures.said c.loop-k.invariant.is refl in
      absurd (omega (arith, none, stays (c.loop-k.k + 1) (omega (arith, c.loop-k-test.true, c.count-k-end.ensures)), c.if-open-eq0-2.true)),
)

pub loop-k-preserved : goal.loop-k-preserved
loop-k-preserved g c =
    let part = c.args.part.now in
    let n : ℕ = c.args.skipped in
    let k : ℕ = c.loop-k.k in
    let old : ℕ = c.loop-k.open in
    let new : ℕ = c.match-read_known_at.open in
    let held : 0 < open_at part n k = c.loop-k.invariant.some k (omega arith) in
    let before : old ≡ open_at part n k = c.loop-k.invariant.is in
    let few : old ≤ n + k = c.loop-k.invariant.few in
    let next = λ (e : Event) (is : c.read_known_at.result ≡ e) (same : new ≡ open_after (Ok e) old).
    let r : Record = Ok e in
    open_next part n k r old new (c.read_known_at.ensures.said ∙ ap (λ (x : Event). let y : Record = Ok x in y) is) before same in
    let is : new ≡ open_at part n (k + 1) = elim c.match-read_known_at.branch [
      | in-Call w ↦ elim w.in-Call.is [
        | inl s ↦ next (Call s.0 s.1) s.2 w.open-is
        | inr s ↦ next (Spawn s.0 s.1) s.2 w.open-is
      ]
      | in-Ret+else-open-eq0-2 w ↦ next Ret w.in-Ret.is w.open-is
      | in-Strand w ↦ elim w.in-Strand.is [
        | inl s ↦ next (Strand s.0) s.1 w.open-is
        | inr s ↦ next Sync s w.open-is
      ]
    ] in
    let within : (new ≤ n + (k + 1)) × (0 < new) = elim c.match-read_known_at.branch [
      | in-Call w ↦ (omega (arith, few, w.open-is), omega (arith, w.open-is))
      | in-Ret+else-open-eq0-2 w ↦ (omega (arith, few, w.open-is), omega (arith, w.open-is, w.if-open-eq0-2.false))
      | in-Strand w ↦ (omega (arith, few, w.open-is), omega (arith, held, before, w.open-is))
    ] in
    record { is = is; few = within.0; some = some_next part n k new c.loop-k.invariant.some is within.1; next = subst (λ (j : ℕ). g.R.Reader.stands c.read_known_at.new.events part.trace j) (let e : part.first + k + 1 ≡ part.first + (k + 1) = omega arith in e) c.read_known_at.ensures.next }
