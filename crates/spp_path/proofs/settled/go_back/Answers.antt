use Rattle.std.proofs.Common.{rules, ◌≡◌, ◌<◌, ◌+◌, ◌-◌, ℕ, suc, List, length, Some, refl, sym, ap, subst, ◌∙◌, arith}
use Rattle.std.specs.Prelude.{slice_get}
use Rattle.std.proofs.lemmas.List.{length-set}
use Rattle.std.proofs.lemmas.Option.{slice_get_within, slice_get-get_or}
use Rattle.spp_dag.specs.declared.choices.Choice.{Choice}
use Rattle.spp_dag.specs.declared.choices.Choices.{Choices}
use Rattle.spp_dag.specs.declared.choices.End.{End}
use Rattle.spp_event.specs.declared.records.Event.{Event}
use Rattle.spp_maxplus.specs.declared.state.Burdens.{Burdens}
use Rattle.spp_dag.specs.Dag.{IsPath}
use Rattle.spp_stack.specs.Chain.{Stacks}
use Rattle.spp_path.specs.declared.settling.WayBack.{WayBack}
use Rattle.spp_path.specs.Settled.{position, burdens_under, AreOfRun}
use Rattle.spp_path.specs.Ways.{HasCome, StandsAt, AreNotesIn}
use Rattle.spp_dag.proofs.Ties.{path_exists}
use Rattle.spp_path.proofs.Standing.{stands_at}
use Rattle.spp_path.proofs.Parts.{last_notes, part_notes, written, sliced}
use Rattle.spp_path.proofs.settled.go_back.Goals as goal

pub loop-part-init : goal.loop-part-init
loop-part-init c =
    let s : Stacks = c.args.entries.now in
    let parts : ℕ = length c.args.choices.now in
    let way : WayBack = c.back_over.new.self in
    let size : length c.in_ok-onwards.onwards.items ≡ parts + 1 = search rules in
    let come = λ (es : List Event) (burdens : Burdens) (root : ℕ) (ps : List ℕ) (run : AreOfRun es burdens root s c.args.choices.now) (path : IsPath es (burdens_under c.args.under burdens) 0 (length es) ps).
    subst (λ k. HasCome es ps k way) (sym run.ends)
    (c.in_ok-back_over.ensures es (burdens_under c.args.under burdens) ps (length es) (suc (length es)) run.well_formed path
    (last_notes es burdens root s c.args.choices.now run c.args.under c.choice_at_end.result c.choice_at_end.ensures c.as_slice.result.now (sliced c.choice_at_end.result c.as_slice.result.now c.as_slice.ensures))
    (c.new-way.ensures es (burdens_under c.args.under burdens) ps run.well_formed path)) in
    record {
      most = omega arith;
      count = length-set c.in_ok-onwards.onwards.items parts way.onward ∙ size;
      come = come;
      stands = λ es burdens root ps run path.
          written (λ k o. StandsAt es ps (position s k) o) c.in_ok-onwards.onwards.items parts way.onward (stands_at es ps (position s parts) way (come es burdens root ps run path))
          (λ k o l e. absurd (let w = slice_get_within c.in_ok-onwards.onwards.items k o e in omega (arith, size)));
    }

pub loop-part-preserved : goal.loop-part-preserved
loop-part-preserved c =
    let i = c.loop-part.invariant in
    let s : Stacks = c.args.entries.now in
    let part : ℕ = c.loop-part.part - 1 in
    let way : WayBack = c.back_over-in-loop-part.new.self in
    let pos : 0 < c.loop-part.part = search rules in
    let next : c.loop-part.part ≡ suc part = omega arith in
    let here : Choices = c.index-choices-part.result in
    let get : slice_get c.args.choices.now part ≡ Some here = slice_get-get_or c.args.choices.now part here (let z = i.most in omega arith) ∙ ap Some (sym c.index-choices-part.is) in
    let come = λ (es : List Event) (burdens : Burdens) (root : ℕ) (ps : List ℕ) (run : AreOfRun es burdens root s c.args.choices.now) (path : IsPath es (burdens_under c.args.under burdens) 0 (length es) ps).
    c.in_ok-back_over-2.ensures es (burdens_under c.args.under burdens) ps (position s part) (position s (suc part)) run.well_formed path
    (subst (λ (x : List End). AreNotesIn es (burdens_under c.args.under burdens) (position s part) (position s (suc part)) x c.joins_of.result.now) (sym c.deref.ensures.value)
    (subst (λ (x : List Choice). AreNotesIn es (burdens_under c.args.under burdens) (position s part) (position s (suc part)) here.ends.items x) (sym c.joins_of.ensures)
    (part_notes es burdens root s c.args.choices.now run c.args.under part here get)))
    (subst (λ k. HasCome es ps (position s k) c.loop-part.way) next (i.come es burdens root ps run path)) in
    record {
      most = (let z = i.most in omega arith);
      count = length-set c.loop-part.onwards.items part way.onward ∙ i.count;
      come = come;
      stands = λ es burdens root ps run path.
          written (λ k o. StandsAt es ps (position s k) o) c.loop-part.onwards.items part way.onward (stands_at es ps (position s part) way (come es burdens root ps run path))
          (λ k o l e. i.stands es burdens root ps run path k o (omega arith) e);
    }

pub returns-clause-spawns : goal.returns-clause-spawns
returns-clause-spawns c es burdens root run =
    let none : c.loop-part.part ≡ 0 = search rules in
    let path = path_exists es run.well_formed (burdens_under c.args.under burdens) 0 refl in
    let come = c.loop-part.invariant.come es burdens root path.0 run path.1 in
    c.in_ok-finish.ensures es (burdens_under c.args.under burdens) path.0 run.well_formed path.1
    (subst (λ k. HasCome es path.0 k c.loop-part.way) (ap (λ k. position c.args.entries.now k) none ∙ run.begins) come)

pub returns-clause-onwards : goal.returns-clause-onwards
returns-clause-onwards c es burdens root ps run path k o e =
    let none : c.loop-part.part ≡ 0 = search rules in
    c.loop-part.invariant.stands es burdens root ps run path k o (omega arith) e
