use Rattle.std.proofs.Common.{◌≡◌, ℕ, List, ◌∷◌, Option, IfOk, subst}
use Rattle.spp_dag.specs.Shares.{plus}
use Rattle.spp_pass.specs.declared.calls.CallRow.{CallRow}
use Rattle.spp_pass.specs.declared.counted_frame.CountedFrame.{CountedFrame}
use Rattle.spp_pass.specs.Passes.{Seen, seen_with, no_notes}
use Rattle.spp_pass.specs.CallRows.{calls_row}
use Rattle.spp_pass.specs.AsideRows.{aside_row}
use Rattle.spp_pass.specs.Stretches.{enclosure}
use Rattle.spp_pass.proofs.counting.Counting.put_aside.Goals as goal

pub returns : goal.returns
returns c =
    let s : Seen = seen_with c.args.self.now no_notes in
    subst
    (λ (l : List CallRow). IfOk c.put_stretch_aside.result
    (λ r. (g : CountedFrame) (gs : List CountedFrame) → s.frames ≡ g ∷ gs → (key : Option ℕ) → aside_row r key ≡ plus (aside_row c.args.aside key) (calls_row (enclosure g s) l key)))
    c.of_rows.ensures c.put_stretch_aside.ensures
