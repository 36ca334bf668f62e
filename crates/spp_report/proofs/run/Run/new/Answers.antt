use Rattle.std.proofs.Common.{◌≡◌, ◌<◌, ◌∙◌, [], length, get_or, arith}
use Rattle.std.specs.String.{string_bytes}
use Rattle.spp_site.specs.Table.{row_at}
use Rattle.spp_report.specs.Comparison.{cells_of}
use Rattle.spp_report.proofs.Comparisons.{site_more}
use Rattle.spp_report.proofs.run.Run.new.Goals as goal

pub loop-site-preserved : goal.loop-site-preserved
loop-site-preserved g c =
    let trace = c.args.named.now.trace.now in
    let profile = c.args.named.now.profile.now in
    let site = c.loop-site.site in
    let here : site < length trace.sites = omega arith in
    let name : string_bytes c.in_ok-name.name ≡ get_or trace.sites site [] = rw c.site_name.ensures at c.in_ok-name.ensures.ok in
    let rows : cells_of c.row-dag.result c.row-path.result ≡ cells_of (row_at profile.dag site) (row_at profile.path site) =
    λ j. cells_of (c.row-dag.ensures j) (c.row-path.ensures j) in
    let cells : c.cells_of_rows.result ≡ cells_of (row_at profile.dag site) (row_at profile.path site) = c.cells_of_rows.ensures ∙ rows in
    site_more trace profile site c.loop-site.sites c.insert.new.self.entries c.in_ok-name.name c.cells_of_rows.result here c.keeps_limits.ensures.names.apart
    c.loop-site.invariant c.in_ok-insert.ensures.entries (λ j. (name j, cells j))
