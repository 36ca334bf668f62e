use Rattle.std.proofs.Common.{◌≡◌, ◌-◌, Option, ℕ, length, map, take, Some, None, refl, sym, ap, ◌∙◌, subst, arith}
use Rattle.spp_dag.specs.declared.choices.End.{End}
use Rattle.spp_dag.specs.declared.choices.Choice.{Choice}
use Rattle.spp_path.specs.Hops.{AreBefore, child_skipped, child_beside, hop_to}
use Rattle.spp_path.specs.declared.hops.Left.{Left}
use Rattle.spp_path.specs.declared.settling.Note.TheVariants as note
use Rattle.spp_path.specs.declared.settling.Pace.TheVariants.{Each}
use Rattle.spp_path.specs.declared.settling.Onward.{Onward}
use Rattle.spp_path.specs.declared.settling.WayBack.{WayBack}
use Rattle.spp_path.specs.Settling.{last, later, ended}
use Rattle.spp_path.proofs.Stages.{Settles, settles_joined, settled}
use Rattle.spp_path.proofs.Hopping.{settles_begun, settles_returned, before_most}
use Rattle.spp_path.proofs.settling.WayBack.back_over.Goals as goal

pub loop-note-init : goal.loop-note-init
loop-note-init c =
    let ends = map (λ (e : End). e.at) c.args.ends.now in
    let joins = map (λ (j : Choice). j.at) c.args.joins.now in
    let x : AreBefore ends joins (record { ends = length c.args.ends.now; joins = length c.args.joins.now }) (hop_to c.args.pace (child_skipped c.args.self.now.onward)) c.before-left.result =
    subst (λ (o : Option ℕ). AreBefore ends joins (record { ends = length c.args.ends.now; joins = length c.args.joins.now }) o c.before-left.result) (c.hop_to.ensures ∙ ap (λ o. hop_to c.args.pace o) c.child_skipped.ensures) c.before-left.ensures in
    let most = before_most ends joins _ _ _ x in
    record {
      ends = most.0;
      joins = most.1;
      settles = settles_begun c.args.ends.now c.args.joins.now c.before-left.result c.args.self.now c.args.pace x;
    }

pub loop-note-preserved-then-end-ge-LEAST_HOP : goal.loop-note-preserved-then-end-ge-LEAST_HOP
loop-note-preserved-then-end-ge-LEAST_HOP c =
    let i = c.loop-note.invariant in
    let s : WayBack = c.loop-note.self in
    let e = c.in-End.end in
    let was = c.in-Some.ensures in
    let next : later (last (take c.loop-note.left.ends c.args.ends.now)) (last (take c.loop-note.left.joins c.args.joins.now)) ≡ Some (note.End e) = cc in
    let ends = map (λ (e : End). e.at) c.args.ends.now in
    let joins = map (λ (j : Choice). j.at) c.args.joins.now in
    let less : Left = record { ends = c.loop-note.left.ends - 1; joins = c.loop-note.left.joins } in
    let x : AreBefore ends joins less (hop_to c.args.pace (child_beside e (ended e s.onward))) c.behind-left.result =
    subst (λ (w : Onward). AreBefore ends joins less (hop_to c.args.pace (child_beside e w)) c.behind-left.result) c.pass-self.ensures c.behind-left.ensures in
    let most = before_most ends joins _ _ _ x in
    record {
      ends = omega (arith, i.ends, most.0);
      joins = omega (arith, i.joins, most.1);
      settles = subst (λ (w : Onward). Settles c.args.ends.now c.args.joins.now c.behind-left.result.ends c.behind-left.result.joins c.args.self.now (record s { onward = w })) (sym c.pass-self.ensures)
          (settles_returned c.args.ends.now c.args.joins.now c.loop-note.left.ends c.loop-note.left.joins c.behind-left.result c.args.self.now s e c.args.pace i.ends i.joins next x i.settles);
    }

pub loop-note-preserved-else-end-ge-LEAST_HOP : goal.loop-note-preserved-else-end-ge-LEAST_HOP
loop-note-preserved-else-end-ge-LEAST_HOP c =
    let i = c.loop-note.invariant in
    let s : WayBack = c.loop-note.self in
    let e = c.in-End.end in
    let was = c.in-Some.ensures in
    let next : later (last (take c.loop-note.left.ends c.args.ends.now)) (last (take c.loop-note.left.joins c.args.joins.now)) ≡ Some (note.End e) = cc in
    let less : Left = record { ends = c.loop-note.left.ends - 1; joins = c.loop-note.left.joins } in
    record {
      ends = omega (arith, i.ends);
      joins = i.joins;
      settles = subst (λ (w : Onward). Settles c.args.ends.now c.args.joins.now less.ends less.joins c.args.self.now (record s { onward = w })) (sym c.pass-self.ensures)
          (settles_returned c.args.ends.now c.args.joins.now c.loop-note.left.ends c.loop-note.left.joins less c.args.self.now s e Each i.ends i.joins next refl i.settles);
    }

pub loop-note-preserved : goal.loop-note-preserved
loop-note-preserved c =
    let i = c.loop-note.invariant in
    let s : WayBack = c.loop-note.self in
    let was = c.in-Some.ensures in
    let next : later (last (take c.loop-note.left.ends c.args.ends.now)) (last (take c.loop-note.left.joins c.args.joins.now)) ≡ Some (note.Join c.in-Join.join) = cc in
    record {
      ends = i.ends;
      joins = omega arith;
      settles = settles_joined c.args.ends.now c.args.joins.now c.loop-note.left.ends c.loop-note.left.joins c.args.self.now s c.join.new.self c.in-Join.join i.ends i.joins next c.in_ok-join-in-Join.ensures i.settles;
    }

pub returns : goal.returns
returns c =
    let i = c.loop-note.invariant in
    let was = c.in_default.ensures in
    let none : later (last (take c.loop-note.left.ends c.args.ends.now)) (last (take c.loop-note.left.joins c.args.joins.now)) ≡ None = cc in
    settled c.args.ends.now c.args.joins.now c.loop-note.left.ends c.loop-note.left.joins c.args.self.now c.loop-note.self i.ends i.joins none i.settles
