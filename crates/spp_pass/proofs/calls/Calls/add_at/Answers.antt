use Rattle.std.proofs.Common.{◌≡◌, ◌+◌, ◌<◌, ℕ, zero, suc, List, [], ◌∷◌, length, get_or, set, refl, sym, ap, subst, ◌∙◌, arith}
use Rattle.spp_dag.specs.Shares.{plus}
use Rattle.spp_site.specs.Rows.{frame_row}
use Rattle.spp_site.specs.declared.closed_frame.ClosedFrame.{ClosedFrame}
use Rattle.spp_pass.specs.declared.calls.CallRow.{CallRow}
use Rattle.spp_pass.specs.CallRows.{no_calls, AreAdded, IsLight, AreLight}
use Rattle.spp_pass.proofs.CallRows.{with_frame, set_added, set_light, light_at, light_more, light_fits}
use Rattle.spp_pass.proofs.calls.Calls.add_at.Goals as goal

-- the row of that number
found : (rows : List CallRow) (k : ℕ) (x : CallRow) → k < length rows → x ≡ get_or rows k x → x ≡ get_or rows k no_calls
found [] k x lt is = absurd (omega arith)
found (r ∷ rows) zero x lt is = is
found (r ∷ rows) (suc k) x lt is = found rows k x (omega arith) is

-- put in its place
put : (rows : List CallRow) (k : ℕ) (x y : CallRow) (f : ClosedFrame) → x ≡ get_or rows k no_calls → y.row ≡ plus x.row (frame_row f) → y.site ≡ x.site → y.caller ≡ x.caller → with_frame rows k f ≡ set rows k y
put rows k x y f is row site caller =
    ap (λ (z : CallRow). set rows k (record z { row = plus z.row (frame_row f) })) (sym is)
    ∙ ap (set rows k) (λ j. record { row = sym row j; site = sym site j; caller = sym caller j })

pub add_to-requires : goal.add_to-requires
add_to-requires c =
    let n = c.requires.light in
    let is = found c.args.self.now.rows.items c.args.k c.index_mut.result.now c.requires.row c.index_mut.ensures.value in
    light_fits (n.0 + 1) (plus c.index_mut.result.now.row (frame_row c.args.frame.now)) (let few : n.0 < 4294967296 = n.1 in omega arith)
    (light_more n.0 c.index_mut.result.now.row c.args.frame.now (subst (λ (x : CallRow). IsLight n.0 x.row) (sym is) (light_at n.0 c.args.self.now.rows.items c.args.k c.requires.row n.2)) n.3)

pub returns-clause-added : goal.returns-clause-added
returns-clause-added c =
    let rows : List CallRow = c.args.self.now.rows.items in
    let x : CallRow = c.index_mut.result.now in
    let is = found rows c.args.k x c.requires.row c.index_mut.ensures.value in
    let y : CallRow = record { row = c.add_to.new.row; site = x.site; caller = x.caller } in
    subst (AreAdded (get_or rows c.args.k no_calls).site (get_or rows c.args.k no_calls).caller c.args.frame.now rows) (put rows c.args.k x y c.args.frame.now is c.add_to.ensures refl refl)
    (set_added (get_or rows c.args.k no_calls).site (get_or rows c.args.k no_calls).caller c.args.frame.now rows c.args.k c.requires.row refl refl)

pub returns-clause-light : goal.returns-clause-light
returns-clause-light c = λ n h light.
    let rows : List CallRow = c.args.self.now.rows.items in
    let x : CallRow = c.index_mut.result.now in
    let is = found rows c.args.k x c.requires.row c.index_mut.ensures.value in
    let y : CallRow = record { row = c.add_to.new.row; site = x.site; caller = x.caller } in
    subst (AreLight (n + 1)) (put rows c.args.k x y c.args.frame.now is c.add_to.ensures refl refl) (set_light n rows c.args.k c.args.frame.now h light)
