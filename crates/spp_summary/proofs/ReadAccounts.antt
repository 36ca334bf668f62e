-- The account of events that were read by their bytes.
use Rattle.std.proofs.Common.{◌≡◌, ℕ, List, sym, ap, ap₂, ◌∙◌}
use Rattle.spp_event.specs.declared.version.Version.{Version}
use Rattle.spp_event.specs.Recordings.{records_of}
use Rattle.spp_event.proofs.RecordPlaces.{length-records_of}
use Rattle.spp_maxplus.specs.declared.state.Burdens.{Burdens}
use Rattle.spp_piece.specs.Account.{Account, account_of}
use Rattle.spp_piece.specs.Summary.{Sum, summary_of}

-- what so many events come to is the account of their list
pub account_by : (version : Version) (sites funcs : ℕ) (bytes : List ℕ) (burdens : Burdens) (first n count : ℕ) (s : Sum) → s ≡ summary_of burdens first (records_of version sites funcs count bytes) → count ≡ n
    → record { burdens = burdens; first = first; events = count; sum = s } ≡ account_of burdens first (records_of version sites funcs n bytes)
account_by version sites funcs bytes burdens first n count s is so_many =
    let account : ℕ → Sum → Account = λ m t. record { burdens = burdens; first = first; events = m; sum = t } in
    ap₂ account (so_many ∙ sym (length-records_of version sites funcs n bytes)) (is ∙ ap (λ m. summary_of burdens first (records_of version sites funcs m bytes)) so_many)
