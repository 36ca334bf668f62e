use Rattle.std.proofs.Common.{◌≡◌, ◌++◌, ◌∷◌, [], length, map, ◌∙◌, rules}
use Rattle.std.proofs.lemmas.Result.{err_from_is_err_and}
use Rattle.std.proofs.lemmas.List.{map_push, length-map}
use Rattle.spp_event.specs.Checks.{funcs_at}
use Rattle.spp_event.proofs.NamesInTurn.{funcs_go, funcs_end, funcs_done}
use Rattle.spp_event.proofs.header.funcs_of.Goals as goal

pub returns-in_err-name-clause-names : goal.returns-in_err-name-clause-names
returns-in_err-name-clause-names c =
    let p = err_from_is_err_and c.from_residual.result c.from_residual.ensures.1 in
    let n : length (map (λ s. s.now) c.loop-number.names.items) ≡ c.loop-number.number = length-map c.loop-number.names.items (λ s. s.now) ∙ c.loop-number.invariant.count in
    rw (p.1, p.2) (funcs_end c.args.count c.loop-number.number (map (λ s. s.now) c.loop-number.names.items) c.loop-number.rest.now c.in_err-name.field-0.0 (funcs_at c.args.count [] c.args.bytes.now) c.loop-number-test.true n c.in_err-name.ensures c.loop-number.invariant.rest)

pub loop-number-preserved : goal.loop-number-preserved
loop-number-preserved c =
    let n : length (map (λ s. s.now) c.loop-number.names.items) ≡ c.loop-number.number = length-map c.loop-number.names.items (λ s. s.now) ∙ c.loop-number.invariant.count in
    let e : map (λ s. s.now) c.push.new.self.items ≡ map (λ s. s.now) c.loop-number.names.items ++ c.in_ok-name.name.now ∷ [] = rw c.in_ok-push.ensures.items (map_push _ c.loop-number.names.items c.in_ok-name.name) in
    let g = funcs_go c.args.count c.loop-number.number (map (λ s. s.now) c.loop-number.names.items) c.loop-number.rest.now c.in_ok-name.name.now c.in_ok-name.others.now (funcs_at c.args.count [] c.args.bytes.now) c.loop-number-test.true n c.in_ok-name.ensures c.loop-number.invariant.rest in
    record { rest = rw e g; count = rw c.in_ok-push.ensures.items (search rules) }

pub returns-clause-names : goal.returns-clause-names
returns-clause-names c = funcs_done c.args.count c.loop-number.number (map (λ s. s.now) c.loop-number.names.items) c.loop-number.rest.now (funcs_at c.args.count [] c.args.bytes.now) c.loop-number-test.false c.loop-number.invariant.rest
