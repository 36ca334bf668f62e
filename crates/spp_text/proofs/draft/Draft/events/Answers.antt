use Rattle.std.proofs.Common.{◌≡◌, length, sym, subst}
use Rattle.spp_text.specs.Reading.{Said}
use Rattle.spp_text.proofs.LastRecords.{length-last_events}
use Rattle.spp_text.proofs.draft.Draft.events.Goals as goal

pub returns : goal.returns
returns c =
    let d = c.self.inside in
    subst (λ (s : Said). d.count ≡ length s.events) c.self.view_is (sym (length-last_events d.count d.bytes.items))
