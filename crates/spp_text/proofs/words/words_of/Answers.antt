use Rattle.std.proofs.Common.{◌≡◌, List, length, map, not, rules, tests, nat_eq, Option, Result, Ok, Err, ap, ◌∙◌}
use Rattle.std.specs.Prelude.{⊤, IfOk}
use Rattle.std.proofs.lemmas.Iterator.{YieldsList, items_from_drains}
use Rattle.std.specs.Iterator.{DrainsIf}
use Rattle.std.proofs.lemmas.Iterator.Consumers.{YieldsList-at, YieldsList-from_filter}
use Rattle.std.proofs.lemmas.Iterator.Splits.{YieldsList-from_slice_split}
use Rattle.spp_text.specs.Reading.{is_blank}
use Rattle.spp_text.proofs.words.words_of.Goals as goal

-- what was collected, where v reads each item
view_from_collect : {S A B V E : Type 0} {steps : S → Option A → S → Type 0} {v : A → B} {s : S} {all : List B} (items : V → List A) (r : Result V E) → IfOk r (λ w. (xs : List A) × DrainsIf steps ⊤ s xs × (items w ≡ xs)) → YieldsList steps v s all → IfOk r (λ w. map v (items w) ≡ all)
view_from_collect {v = v} items (Ok w) h y = ap (map v) h.2 ∙ items_from_drains h.0 h.1 y
view_from_collect items (Err e) h y = tt

pub returns : goal.returns
returns c = view_from_collect _ _ c.collect.ensures.ran (YieldsList-from_filter _ (λ w. not (nat_eq (length w) 0)) (YieldsList-at c.filter.ensures.source (YieldsList-from_slice_split _ is_blank c.args.line.now c.split.ensures.rest c.split.ensures.done c.split.ensures.closure (λ x b q k. search (rules, tests)))) c.filter.ensures.closure (λ x b q k. search (rules, tests)))
