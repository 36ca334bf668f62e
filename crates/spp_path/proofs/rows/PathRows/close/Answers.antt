use Rattle.std.proofs.Common.{◌≡◌, ◌-◌, List, length, reverse, get_or, take, refl, sym, ap, subst, ◌∙◌, arith}
use Rattle.spp_dag.specs.declared.row.Row.{Row}
use Rattle.spp_site.specs.Table.{IsAdded}
use Rattle.spp_site.specs.Marks.{is_marked}
use Rattle.spp_path.specs.declared.rows.EnteredFrame.{EnteredFrame}
use Rattle.spp_path.specs.Rows.{Told, told, frames_below, OnTop, IsReturned}
use Rattle.spp_path.proofs.Tops.{some_open}
use Rattle.spp_site.proofs.LastFirst.{topped}
use Rattle.spp_path.proofs.rows.PathRows.close.Goals as goal

pub returns : goal.returns
returns c =
    let s : Told = told c.args.self.now in
    let fs : List EnteredFrame = c.args.self.now.frames.items in
    let t = topped fs (some_open _ fs c.requires) in
    let at : c.len-last.result - 1 ≡ length fs - 1 = omega (arith, c.len-last.ensures, c.args.self.now.frames.ok.0) in
    let child : EnteredFrame = c.index-child.result.now in
    let same : child ≡ t.top = c.index-child.ensures ∙ ap (λ k. get_or fs k child) at ∙ t.get child in
    let rest : reverse c.truncate.new.self.items ≡ frames_below (reverse fs) =
    ap reverse c.truncate.ensures.items ∙ ap (λ k. reverse (take k fs)) at ∙ t.less ∙ ap frames_below (sym t.is) in
    let now : Told = record s {
      frames = reverse c.truncate.new.self.items;
      trail = c.resume.new.self;
      open_sites = is_marked c.remove_if.new.self;
      open_funcs = is_marked c.remove_if-2.new.self;
      table = c.close.new.self;
    } in
    let done : IsReturned child c.args.span s now = record {
      frames = rest;
      trail = c.resume.ensures;
      open_sites = λ j y. c.remove_if.ensures y j;
      open_funcs = λ j y. c.remove_if-2.ensures y j;
      work = refl;
      table = subst (λ (r : Row). IsAdded s.table c.close.new.self child.site r) c.closed.ensures c.in_ok-close.ensures.added;
    } in
    subst (λ l. OnTop (λ f. IsReturned f c.args.span s now) l) (sym t.is) (subst (λ f. IsReturned f c.args.span s now) same done)
