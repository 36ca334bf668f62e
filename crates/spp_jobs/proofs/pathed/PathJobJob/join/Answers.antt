use Rattle.std.proofs.Common.{refl, ap, subst}
use Rattle.spp_site.specs.Rows.{Fits}
use Rattle.spp_site.specs.Profiles.{key_row}
use Rattle.spp_jobs.specs.declared.pathed.Pathed.{Pathed}
use Rattle.spp_jobs.proofs.Rows.{plus-comm, sum_turned}
use Rattle.spp_jobs.proofs.Paths.{neighbours_path, neighbours_burdened, neighbours_pathed, pathed_again}
use Rattle.spp_jobs.proofs.pathed.PathJobJob.join.Goals as goal

pub add-requires-clause-path : goal.add-requires-clause-path
add-requires-clause-path c = neighbours_path c.args.left c.args.right c.requires

pub add-requires-clause-burdened : goal.add-requires-clause-burdened
add-requires-clause-burdened c = neighbours_burdened c.args.left c.args.right c.requires

pub returns-in-Ok-clause-joined : goal.returns-in-Ok-clause-joined
returns-in-Ok-clause-joined c = neighbours_pathed c.args.left c.args.right c.add.new.self c.in-Ok.ensures.path c.in-Ok.ensures.burdened

pub returns-in-Err-clause-refused : goal.returns-in-Err-clause-refused
returns-in-Err-clause-refused c = (
  pathed_again c.args.left c.add.new.self (ap (λ (x : Pathed). x.path) c.in-Err.ensures.stays) (ap (λ (x : Pathed). x.burdened_path) c.in-Err.ensures.stays),
  pathed_again c.args.right c.args.right refl refl,
)

pub add-requires-2-clause-path : goal.add-requires-2-clause-path
add-requires-2-clause-path c = λ key. subst Fits (plus-comm (key_row c.args.left.path key) (key_row c.args.right.path key)) (neighbours_path c.args.left c.args.right c.requires key)

pub add-requires-2-clause-burdened : goal.add-requires-2-clause-burdened
add-requires-2-clause-burdened c = λ key.
    subst Fits (plus-comm (key_row c.args.left.burdened_path key) (key_row c.args.right.burdened_path key)) (neighbours_burdened c.args.left c.args.right c.requires key)

pub returns-in-Ok-add-clause-joined : goal.returns-in-Ok-add-clause-joined
returns-in-Ok-add-clause-joined c =
    neighbours_pathed c.args.left c.args.right c.add-2.new.self (sum_turned c.args.left.path c.args.right.path c.add-2.new.self.path c.in-Ok-add.ensures.path)
    (sum_turned c.args.left.burdened_path c.args.right.burdened_path c.add-2.new.self.burdened_path c.in-Ok-add.ensures.burdened)

pub returns-in-Err-add-clause-refused : goal.returns-in-Err-add-clause-refused
returns-in-Err-add-clause-refused c = (
  pathed_again c.args.left c.args.left refl refl,
  pathed_again c.args.right c.add-2.new.self (ap (λ (x : Pathed). x.path) c.in-Err-add.ensures.stays) (ap (λ (x : Pathed). x.burdened_path) c.in-Err-add.ensures.stays),
)
