-- What stands at the places of an opened trace, as contracts see it.
use Rattle.std.proofs.Common.{◌≡◌, ◌<◌, ℕ, List, length, ap, subst, ◌∙◌}
use Rattle.spp_event.specs.declared.version.Version.{Version}
use Rattle.spp_event.specs.declared.version.Version.TheVariants.{One, Two}
use Rattle.spp_event.specs.Items.{read_item}
use Rattle.spp_event.specs.Records.{read_record}
use Rattle.spp_event.specs.Recordings.{Recording, read_at, record_at, records_of, place, item}
use Rattle.spp_event.proofs.RecordPlaces.{length-records_of, record_at-records_of}

-- the records are those of so many sites and functions
pub at_position : (t : Recording) (v : Version) (sites funcs count i : ℕ) (body : List ℕ) → t.records ≡ records_of v sites funcs count body → i < length t.records → record_at t.records i ≡ read_at v sites funcs body i
at_position t v sites funcs count i body e h =
    let n = length-records_of v sites funcs count body in
    ap (λ rs. record_at rs i) e ∙ record_at-records_of v sites funcs count body i (subst (λ (k : ℕ). i < k) (ap (λ rs. length rs) e ∙ n) h)

-- the events of a trace of version 1 are its records, and of one of version 2 its items
pub at_record : (t : Recording) (v : Version) (sites funcs count i : ℕ) (body : List ℕ) → t.records ≡ records_of v sites funcs count body → i < length t.records → v ≡ One → record_at t.records i ≡ read_record sites funcs (place body i)
at_record t v sites funcs count i body e h is = at_position t v sites funcs count i body e h ∙ ap (λ (w : Version). read_at w sites funcs body i) is

pub at_item : (t : Recording) (v : Version) (sites funcs count i : ℕ) (body : List ℕ) → t.records ≡ records_of v sites funcs count body → i < length t.records → v ≡ Two → record_at t.records i ≡ read_item sites funcs (item body i)
at_item t v sites funcs count i body e h is = at_position t v sites funcs count i body e h ∙ ap (λ (w : Version). read_at w sites funcs body i) is
