use Rattle.std.proofs.Common.{◌≡◌, ◌<◌, ◌+◌, ◌∙◌, ap, ap₂, sym, subst, refl, arith, length, false, Some, set}
use Rattle.std.specs.Prelude.{map, is_some}
use Rattle.std.specs.Option.{option_map}
use Rattle.std.proofs.Math.ListN.{length-set}
use Rattle.std.proofs.lemmas.List.{map-set, length-map}
use Rattle.spp_book.specs.declared.book.Run.{Run}
use Rattle.spp_book.specs.Books.{AreRuns, count_of, is_accepted, entry}
use Rattle.spp_book.proofs.Lists.{set_entry, flag_is, flags_set}
use Rattle.spp_book.proofs.Runs.{put_runs}
use Rattle.spp_book.proofs.book.Book.put.Goals as goal

pub invariant_of-self : goal.invariant_of-self
invariant_of-self g c =
    let C = g.row.J-Content.Denot in
    let name = g.J.Job.name c.self.inside.job.now in
    let n = c.args.number in
    let runs = c.self.inside.runs.items in
    let notes = c.self.inside.notes.items in
    let part : n < g.J.Job.parts_of name = rw (← c.self.view_is) at c.requires.part in
    let free : is_accepted (map is_some notes) n ≡ false = rw (← c.self.view_is) at c.requires.fresh in
    let value : g.J.Job.is_value name n (n + 1) c.args.content = rw (← c.self.view_is) at c.requires.value in
    let r : Run C = record { end = n + 1; content = c.args.content } in
    let inside : n < length runs = omega (arith, c.self.invariant.runs) in
    let within : n < length notes = omega (arith, c.self.invariant.notes) in
    let flags : n < length (map is_some notes) = omega (arith, length-map notes is_some) in
    record {
      runs = ap length c.fill.ensures ∙ length-set runs n (Some r) ∙ c.self.invariant.runs;
      notes = ap length c.fill-2.ensures ∙ length-set notes n (Some n) ∙ c.self.invariant.notes;
      are = subst (λ rs. AreRuns (g.J.Job.parts_of name) (g.J.Job.is_value name) (entry rs) (entry c.fill-2.new.places.items)) (sym c.fill.ensures)
          (subst (λ ns. AreRuns (g.J.Job.parts_of name) (g.J.Job.is_value name) (entry (set runs n (Some r))) (entry ns)) (sym c.fill-2.ensures)
          (put_runs (g.J.Job.parts_of name) (g.J.Job.is_value name) (entry runs) (entry (set runs n (Some r))) (entry notes) (entry (set notes n (Some n)))
          c.self.invariant.are n part (sym (flag_is notes n) ∙ free) r refl value (set_entry runs n (Some r) inside) (set_entry notes n (Some n) within)));
      counted = ap (λ m. m + 1) c.self.invariant.counted ∙ sym (ap (λ ns. count_of (map is_some ns)) c.fill-2.ensures ∙ ap count_of (map-set is_some notes n (Some n)) ∙ flags_set (map is_some notes) n flags free);
      some = c.self.invariant.some;
      most = c.self.invariant.most;
    }

pub returns-clause-put : goal.returns-clause-put
returns-clause-put g c =
    let C = g.row.J-Content.Denot in
    let n = c.args.number in
    let r : Run C = record { end = n + 1; content = c.args.content } in
    rw (← c.self.view_is) (ap₂ (λ bs rs. record { name = g.J.Job.name c.self.inside.job.now; accepted = bs; runs = rs })
    (ap (λ ns. map is_some ns) c.fill-2.ensures ∙ map-set is_some c.self.inside.notes.items n (Some n))
    (ap (λ rs. map (λ o. option_map (λ (x : Run C). x.end) o) rs) c.fill.ensures ∙ map-set (λ o. option_map (λ (x : Run C). x.end) o) c.self.inside.runs.items n (Some r)))
