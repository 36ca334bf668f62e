use Rattle.std.proofs.Common.{◌≡◌, ◌∙◌, ap, sym, subst, arith, length, replicate, false, None, List, Option}
use Rattle.std.specs.Prelude.{map, is_some}
use Rattle.std.specs.Option.{option_map}
use Rattle.std.proofs.lemmas.List.{length-replicate}
use Rattle.spp_book.specs.declared.book.Run.{Run}
use Rattle.spp_book.specs.Books.{AreRuns, count_of, entry}
use Rattle.spp_book.proofs.Lists.{none_are, none_flags, none_counted, none_ends}
use Rattle.spp_book.proofs.book.Book.new.Goals as goal

pub invariant_of-result : goal.invariant_of-result
invariant_of-result g c =
    let C = g.row.J-Content.Denot in
    let name = g.J.Job.name c.args.job.now in
    let parts = g.J.Job.parts_of name in
    let n = c.parts-parts.result in
    let runs : c.in_ok-places.field-0.items ≡ replicate {A = Option (Run C)} n None = c.in_ok-places.ensures in
    let notes : c.in_ok-places-2.field-0.items ≡ replicate n None = c.in_ok-places-2.ensures in
    record {
      runs = ap length runs ∙ length-replicate {A = Option (Run C)} n None ∙ c.parts-parts.ensures.parts;
      notes = ap length notes ∙ length-replicate n None ∙ c.parts-parts.ensures.parts;
      are = subst (λ (rs : List (Option (Run C))). AreRuns parts (g.J.Job.is_value name) (entry rs) (entry c.in_ok-places-2.field-0.items)) (sym runs)
          (subst (λ ns. AreRuns parts (g.J.Job.is_value name) (entry (replicate {A = Option (Run C)} n None)) (entry ns)) (sym notes) (none_are parts (g.J.Job.is_value name) n));
      counted = sym (ap (λ ns. count_of (map is_some ns)) notes ∙ ap count_of (none_flags n) ∙ none_counted n);
      some = omega (arith, c.parts-parts.ensures.parts, c.parts-parts.ensures.some);
      most = omega (arith, c.parts-parts.ensures.parts, c.parts-parts.ensures.most);
    }

pub returns-clause-accepted : goal.returns-clause-accepted
returns-clause-accepted g c =
    let notes : c.in_ok-places-2.field-0.items ≡ replicate c.parts-parts.result None = c.in_ok-places-2.ensures in
    ap (map is_some) notes ∙ none_flags c.parts-parts.result ∙ ap (λ i. replicate i false) c.parts-parts.ensures.parts

pub returns-clause-runs : goal.returns-clause-runs
returns-clause-runs g c =
    let C = g.row.J-Content.Denot in
    let runs : c.in_ok-places.field-0.items ≡ replicate {A = Option (Run C)} c.parts-parts.result None = c.in_ok-places.ensures in
    ap (map (λ o. option_map (λ (r : Run C). r.end) o)) runs ∙ none_ends C c.parts-parts.result ∙ ap (λ i. replicate i None) c.parts-parts.ensures.parts
