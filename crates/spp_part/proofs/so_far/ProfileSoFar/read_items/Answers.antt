use Rattle.std.proofs.Common.{◌+◌, ℕ, IfErr, OnOk, subst}
use Rattle.spp_event.specs.declared.version.Version.TheVariants.{Two}
use Rattle.spp_event.specs.Recordings.{Recording}
use Rattle.spp_frame.specs.Answers.{IsFaultOf}
use Rattle.spp_frame.specs.declared.profile_fault.ProfileFault.{ProfileFault}
use Rattle.spp_part.specs.Parts.{IsSoFar}
use Rattle.spp_part.proofs.RecordParts.{Has}
use Rattle.spp_part.proofs.so_far.ProfileSoFar.read_items.Goals as goal

-- as many as were counted
pub returns-clause-so_far : goal.returns-clause-so_far
returns-clause-so_far c = subst
    (λ (n : ℕ). OnOk c.read_bytes_by.result ((trace : Recording) (i : ℕ) → IsSoFar trace c.args.burdens i c.args.self.now → Has Two c.args.sites c.args.funcs n c.args.bytes.now trace i → IsSoFar trace c.args.burdens (i + n) c.read_bytes_by.new.self))
    c.items_in-count.ensures c.read_bytes_by.ensures.so_far

pub returns-clause-fault : goal.returns-clause-fault
returns-clause-fault c = subst
    (λ (n : ℕ). IfErr c.read_bytes_by.result (λ (f : ProfileFault). (trace : Recording) (i : ℕ) → IsSoFar trace c.args.burdens i c.args.self.now → Has Two c.args.sites c.args.funcs n c.args.bytes.now trace i → IsFaultOf trace.records f))
    c.items_in-count.ensures c.read_bytes_by.ensures.fault
