use Rattle.std.proofs.Common.{◌≡◌, ◌-◌, not, List, [], ◌∷◌, length, reverse, get_or, ℕ, Bool, sym, ap, ap₂, ◌∙◌, arith}
use Rattle.std.proofs.lemmas.List.{reverse-append}
use Rattle.spp_dag.specs.declared.stack.FrameKind.{FrameKind}
use Rattle.spp_path.specs.declared.rows.EnteredFrame.{EnteredFrame}
use Rattle.spp_path.specs.Rows.{Told, told, entered_frame, enter_frames}
use Rattle.spp_path.proofs.Tops.{some_open}
use Rattle.spp_site.proofs.LastFirst.{topped}
use Rattle.spp_path.proofs.rows.PathRows.enter.Goals as goal

pub returns : goal.returns
returns c =
    let s : Told = told c.args.self.now in
    let fs : List EnteredFrame = c.args.self.now.frames.items in
    let site : ℕ = c.args.site in
    let func : ℕ = c.args.func in
    let kind : FrameKind = c.args.kind in
    let t = topped fs (some_open _ fs c.requires) in
    let at : c.len.result - 1 ≡ length fs - 1 = omega (arith, c.len.ensures, c.args.self.now.frames.ok.0) in
    let read : EnteredFrame = c.index.result.now in
    let same : read ≡ t.top = c.index.ensures ∙ ap (λ k. get_or fs k read) at ∙ t.get read in
    let made : Bool → Bool → EnteredFrame → EnteredFrame = λ a b f. record (entered_frame kind site func s f) { top_site = not a; top_func = not b } in
    let new : EnteredFrame = made c.has.result c.has-2.result read in
    let is : new ≡ entered_frame kind site func s t.top = ap₂ (λ a b. made a b read) c.has.ensures c.has-2.ensures ∙ ap (entered_frame kind site func s) same in
    let frames : reverse c.push.new.self.items ≡ enter_frames kind site func s (reverse fs) =
    ap reverse c.in_ok-push.ensures.items ∙ reverse-append fs (new ∷ []) ∙ ap₂ (λ x l. x ∷ l) is t.is ∙ ap (enter_frames kind site func s) (sym t.is) in
    let sites = c.in_ok-add.ensures.added in
    let funcs = c.in_ok-add-2.ensures.added in
    λ j. record s { frames = frames j; open_sites = λ y. sites y j; open_funcs = λ y. funcs y j }
