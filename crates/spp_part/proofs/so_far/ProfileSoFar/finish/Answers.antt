use Rattle.std.proofs.Common.{◌≡◌, true, false, length, sym, subst, arith}
use Rattle.spp_frame.specs.Answers.{IsFaultOf}
use Rattle.spp_frame.specs.declared.profile_fault.ProfileFault.{ProfileFault}
use Rattle.spp_frame.specs.declared.profile_fault.ProfileFault.TheVariants.{Bad}
use Rattle.spp_frame.specs.declared.Why.TheVariants.{Unclosed}
use Rattle.spp_event.specs.Recordings.{Recording}
use Rattle.spp_maxplus.specs.declared.state.Burdens.{Burdens}
use Rattle.spp_dag.specs.Shares.{zero_row}
use Rattle.spp_site.specs.Profiles.{key_row}
use Rattle.spp_pass.specs.declared.counting.Counting.{Counting}
use Rattle.spp_pass.specs.Passes.{no_notes, seen_with}
use Rattle.spp_pass.specs.AsideRows.{aside_row, HasAside}
use Rattle.spp_site.proofs.Keys.{first_two_fit}
use Rattle.spp_part.specs.declared.so_far.ProfileSoFar.{ProfileSoFar}
use Rattle.spp_part.specs.Parts.{IsSoFar, Stands, no_rows}
use Rattle.spp_part.proofs.Standing.{all_fit, with_aside}
use Rattle.spp_part.proofs.Finishing.{some, few, unclosed, can_finish, fits, figures, small, dag, path, profile}
use Rattle.spp_part.proofs.so_far.ProfileSoFar.finish.Goals as goal

-- what stands with the rows that were kept aside
stands_now : (r : ProfileSoFar) (trace : Recording) (burdens : Burdens) → IsSoFar trace burdens (length trace.records) r → (d : Counting) → HasAside r.aside (seen_with r.counting no_notes) (seen_with d no_notes)
    → Stands no_rows trace burdens (length trace.records) false d r.ways
stands_now r trace burdens so = with_aside r trace burdens (length trace.records) so.0

pub add_aside-requires : goal.add_aside-requires
add_aside-requires c key =
    let q = c.requires in
    first_two_fit (key_row c.args.self.counting.table key) (aside_row c.args.self.aside key) zero_row
    (all_fit q.0 q.1 (length q.0.records) false c.args.self.counting c.args.self.ways q.2.0 key)

pub depth-depth-requires-clause-some : goal.depth-depth-requires-clause-some
depth-depth-requires-clause-some c = let q = c.requires in some q.0 q.1 c.add_aside.new.self c.args.self.ways (stands_now c.args.self q.0 q.1 q.2 c.add_aside.new.self c.in_ok-add_aside.ensures)

pub depth-depth-requires-clause-few : goal.depth-depth-requires-clause-few
depth-depth-requires-clause-few c = let q = c.requires in few q.0 q.1 c.add_aside.new.self c.args.self.ways (stands_now c.args.self q.0 q.1 q.2 c.add_aside.new.self c.in_ok-add_aside.ensures)

pub returns-then-depth-gt0-clause-fault : goal.returns-then-depth-gt0-clause-fault
returns-then-depth-gt0-clause-fault c trace burdens so =
    subst (λ (f : ProfileFault). IsFaultOf trace.records f) (sym c.bad.ensures)
    (subst (λ k. IsFaultOf trace.records (Bad (record { at = k; why = Unclosed c.depth-depth.result }))) (sym so.1) (unclosed trace burdens c.add_aside.new.self c.args.self.ways (stands_now c.args.self trace burdens so c.add_aside.new.self c.in_ok-add_aside.ensures) c.depth-depth.result c.depth-depth.ensures (omega (arith, c.if-depth-gt0.true))))

pub finish-ended-requires : goal.finish-ended-requires
finish-ended-requires c = let q = c.requires in let one : length (seen_with c.add_aside.new.self no_notes).frames ≡ 1 = omega (arith, c.depth-depth.ensures, c.if-depth-gt0.false) in can_finish q.0 q.1 c.add_aside.new.self c.args.self.ways (stands_now c.args.self q.0 q.1 q.2 c.add_aside.new.self c.in_ok-add_aside.ensures) one

pub path_table-requires-clause-fits : goal.path_table-requires-clause-fits
path_table-requires-clause-fits c = let q = c.requires in let one : length (seen_with c.add_aside.new.self no_notes).frames ≡ 1 = omega (arith, c.depth-depth.ensures, c.if-depth-gt0.false) in fits q.0 q.1 c.add_aside.new.self c.args.self.ways (stands_now c.args.self q.0 q.1 q.2 c.add_aside.new.self c.in_ok-add_aside.ensures) one c.finish-ended.result c.finish-ended.ensures false

pub path_table-requires-2-clause-fits : goal.path_table-requires-2-clause-fits
path_table-requires-2-clause-fits c = let q = c.requires in let one : length (seen_with c.add_aside.new.self no_notes).frames ≡ 1 = omega (arith, c.depth-depth.ensures, c.if-depth-gt0.false) in fits q.0 q.1 c.add_aside.new.self c.args.self.ways (stands_now c.args.self q.0 q.1 q.2 c.add_aside.new.self c.in_ok-add_aside.ensures) one c.finish-ended.result c.finish-ended.ensures true

pub returns-clause-figures : goal.returns-clause-figures
returns-clause-figures c trace burdens so = let one : length (seen_with c.add_aside.new.self no_notes).frames ≡ 1 = omega (arith, c.depth-depth.ensures, c.if-depth-gt0.false) in figures trace burdens c.add_aside.new.self c.args.self.ways (stands_now c.args.self trace burdens so c.add_aside.new.self c.in_ok-add_aside.ensures) one c.finish-ended.result c.finish-ended.ensures

pub returns-clause-small : goal.returns-clause-small
returns-clause-small c = let q = c.requires in let one : length (seen_with c.add_aside.new.self no_notes).frames ≡ 1 = omega (arith, c.depth-depth.ensures, c.if-depth-gt0.false) in small q.0 q.1 c.add_aside.new.self c.args.self.ways (stands_now c.args.self q.0 q.1 q.2 c.add_aside.new.self c.in_ok-add_aside.ensures) one c.finish-ended.result c.finish-ended.ensures

pub returns-clause-dag : goal.returns-clause-dag
returns-clause-dag c trace burdens so = let one : length (seen_with c.add_aside.new.self no_notes).frames ≡ 1 = omega (arith, c.depth-depth.ensures, c.if-depth-gt0.false) in dag trace burdens c.add_aside.new.self c.args.self.ways (stands_now c.args.self trace burdens so c.add_aside.new.self c.in_ok-add_aside.ensures) one c.finish-ended.result c.finish-ended.ensures

pub returns-clause-path : goal.returns-clause-path
returns-clause-path c trace burdens so = let one : length (seen_with c.add_aside.new.self no_notes).frames ≡ 1 = omega (arith, c.depth-depth.ensures, c.if-depth-gt0.false) in path trace burdens c.add_aside.new.self c.args.self.ways (stands_now c.args.self trace burdens so c.add_aside.new.self c.in_ok-add_aside.ensures) one c.finish-ended.result c.finish-ended.ensures false c.in_ok-path.path c.in_ok-path.ensures

pub returns-clause-burdened_path : goal.returns-clause-burdened_path
returns-clause-burdened_path c trace burdens so = let one : length (seen_with c.add_aside.new.self no_notes).frames ≡ 1 = omega (arith, c.depth-depth.ensures, c.if-depth-gt0.false) in path trace burdens c.add_aside.new.self c.args.self.ways (stands_now c.args.self trace burdens so c.add_aside.new.self c.in_ok-add_aside.ensures) one c.finish-ended.result c.finish-ended.ensures true c.in_ok-burdened_path.burdened_path c.in_ok-burdened_path.ensures

pub returns-clause-profile : goal.returns-clause-profile
returns-clause-profile c trace burdens so = let one : length (seen_with c.add_aside.new.self no_notes).frames ≡ 1 = omega (arith, c.depth-depth.ensures, c.if-depth-gt0.false) in profile trace burdens c.add_aside.new.self c.args.self.ways (stands_now c.args.self trace burdens so c.add_aside.new.self c.in_ok-add_aside.ensures) one c.finish-ended.result c.finish-ended.ensures c.in_ok-path.path c.in_ok-burdened_path.burdened_path c.in_ok-path.ensures c.in_ok-burdened_path.ensures
