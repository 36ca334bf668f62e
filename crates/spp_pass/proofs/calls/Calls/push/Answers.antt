use Rattle.std.proofs.Common.{◌≡◌, ◌+◌, ◌++◌, ◌∷◌, [], ℕ, List, sym, ap, ap₂, subst, ◌∙◌}
use Rattle.spp_dag.specs.declared.row.Row.{Row}
use Rattle.spp_site.specs.Rows.{frame_row}
use Rattle.spp_pass.specs.declared.calls.CallRow.{CallRow}
use Rattle.spp_pass.specs.CallRows.{AreAdded, AreLight}
use Rattle.spp_pass.proofs.CallRows.{more_added, push_light}
use Rattle.spp_pass.proofs.calls.Calls.push.Goals as goal

-- the rows with one more
pushed : (old put new : List CallRow) (r frame : Row) (site caller : ℕ) → put ≡ old → r ≡ frame → new ≡ put ++ (record { row = r; site = site; caller = caller }) ∷ []
    → old ++ (record { row = frame; site = site; caller = caller }) ∷ [] ≡ new
pushed old put new r frame site caller stays is e = sym (e ∙ ap₂ (λ (l : List CallRow) (x : Row). l ++ (record { row = x; site = site; caller = caller }) ∷ []) stays is)

pub returns-clause-added : goal.returns-clause-added
returns-clause-added c =
    let rows : List CallRow = c.args.self.now.rows.items in
    subst (AreAdded c.args.site c.args.caller c.args.frame.now rows)
    (pushed rows c.put.new.self.rows.items c.push.new.self.items c.row.result (frame_row c.args.frame.now) c.args.site c.args.caller (ap (λ (v : _). v.items) (c.put.ensures ∙ c.make_places.ensures)) c.row.ensures c.in_ok-push.ensures.items)
    (more_added c.args.site c.args.caller c.args.frame.now rows)

pub returns-clause-light : goal.returns-clause-light
returns-clause-light c = λ n h light.
    let rows : List CallRow = c.args.self.now.rows.items in
    subst (AreLight (n + 1))
    (pushed rows c.put.new.self.rows.items c.push.new.self.items c.row.result (frame_row c.args.frame.now) c.args.site c.args.caller (ap (λ (v : _). v.items) (c.put.ensures ∙ c.make_places.ensures)) c.row.ensures c.in_ok-push.ensures.items)
    (push_light n rows c.args.site c.args.caller c.args.frame.now h light)
