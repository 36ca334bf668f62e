use Rattle.std.proofs.Common.{◌≡◌, ◌++◌, ◌∷◌, [], length, map, ◌∙◌, sym, rules, true, false}
use Rattle.std.proofs.lemmas.Result.{err_from_is_err_and}
use Rattle.std.proofs.lemmas.List.{map_push, length-map}
use Rattle.spp_event.specs.Checks.{sites_at, is_taken}
use Rattle.spp_event.proofs.NamesInTurn.{sites_go, sites_end, sites_done, sites_same, has_more, taken_root, taken_before, not_taken}
use Rattle.spp_event.proofs.header.sites_of.Goals as goal
use Rattle.spp_event.proofs.header.sites_of.Goals.{then-is_root_name-via-then-is_root_name, then-is_root_name-via-else-is_root_name+then-not-fresh}

pub returns-in_err-name-clause-names : goal.returns-in_err-name-clause-names
returns-in_err-name-clause-names c =
    let p = err_from_is_err_and c.from_residual.result c.from_residual.ensures.1 in
    let n : length (map (λ s. s.now) c.loop-number.names.items) ≡ c.loop-number.number = length-map c.loop-number.names.items (λ s. s.now) ∙ c.loop-number.invariant.count in
    rw (p.1, p.2) (sites_end c.args.count c.args.first c.loop-number.number (map (λ s. s.now) c.loop-number.names.items) c.loop-number.rest.now c.in_err-name.field-0.0 (sites_at c.args.count c.args.first [] c.args.bytes.now) c.loop-number-test.true n c.in_err-name.ensures c.loop-number.invariant.rest)

pub returns-then-is_root_name-clause-names : goal.returns-then-is_root_name-clause-names
returns-then-is_root_name-clause-names c =
    let n : length (map (λ s. s.now) c.loop-number.names.items) ≡ c.loop-number.number = length-map c.loop-number.names.items (λ s. s.now) ∙ c.loop-number.invariant.count in
    let taken : is_taken (map (λ s. s.now) c.loop-number.names.items) c.in_ok-name.name.now ≡ true = elim c.then-is_root_name.branch [ then-is_root_name-via-then-is_root_name w ↦ taken_root (map (λ s. s.now) c.loop-number.names.items) c.in_ok-name.name.now (sym (rw c.as_bytes.ensures.value at c.is_root_name.ensures.checked) ∙ w.if-is_root_name.true) | then-is_root_name-via-else-is_root_name+then-not-fresh w ↦ taken_before (map (λ s. s.now) c.loop-number.names.items) c.in_ok-name.name.now _ _ w.if-not-fresh.true c.in_ok-fresh.ensures.new (c.loop-number.invariant.seen c.in_ok-name.name.now) ] in
    sites_same c.args.count c.args.first c.loop-number.number (map (λ s. s.now) c.loop-number.names.items) c.loop-number.rest.now c.in_ok-name.name.now c.in_ok-name.others.now (sites_at c.args.count c.args.first [] c.args.bytes.now) c.loop-number-test.true n c.in_ok-name.ensures taken c.loop-number.invariant.rest

pub loop-number-preserved : goal.loop-number-preserved
loop-number-preserved c =
    let n : length (map (λ s. s.now) c.loop-number.names.items) ≡ c.loop-number.number = length-map c.loop-number.names.items (λ s. s.now) ∙ c.loop-number.invariant.count in
    let e : map (λ s. s.now) c.push.new.self.items ≡ map (λ s. s.now) c.loop-number.names.items ++ c.in_ok-name.name.now ∷ [] = rw c.in_ok-push.ensures.items (map_push _ c.loop-number.names.items c.in_ok-name.name) in
    let free : is_taken (map (λ s. s.now) c.loop-number.names.items) c.in_ok-name.name.now ≡ false = not_taken (map (λ s. s.now) c.loop-number.names.items) c.in_ok-name.name.now _ _ (sym (rw c.as_bytes.ensures.value at c.is_root_name.ensures.checked) ∙ c.if-is_root_name.false) c.if-not-fresh.false c.in_ok-fresh.ensures.new (c.loop-number.invariant.seen c.in_ok-name.name.now) in
    let g = sites_go c.args.count c.args.first c.loop-number.number (map (λ s. s.now) c.loop-number.names.items) c.loop-number.rest.now c.in_ok-name.name.now c.in_ok-name.others.now (sites_at c.args.count c.args.first [] c.args.bytes.now) c.loop-number-test.true n c.in_ok-name.ensures free c.loop-number.invariant.rest in
    record { rest = rw e g; count = rw c.in_ok-push.ensures.items (search rules); seen = λ q. rw e (has_more [] q c.in_ok-name.name.now (map (λ s. s.now) c.loop-number.names.items) _ _ (c.in_ok-fresh.ensures.has q) (c.loop-number.invariant.seen q)) }

pub returns-clause-names : goal.returns-clause-names
returns-clause-names c = sites_done c.args.count c.args.first c.loop-number.number (map (λ s. s.now) c.loop-number.names.items) c.loop-number.rest.now (sites_at c.args.count c.args.first [] c.args.bytes.now) c.loop-number-test.false c.loop-number.invariant.rest
