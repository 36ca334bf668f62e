use Rattle.std.proofs.Common.{◌≡◌, ◌++◌, ◌<◌, [], List, ℕ, get_or, map, sym, subst, ap, ◌∙◌}
use Rattle.std.proofs.lemmas.List.{get_or-map, length-map}
use Rattle.spp_event.specs.Header.{IsName, name_spelling}
use Rattle.spp_event.proofs.WrittenBytes.{one_of_all, one_more}
use Rattle.spp_event.proofs.migrating.push_names.Goals as goal

pub push_name-requires : goal.push_name-requires
push_name-requires c =
    let names = c.args.names.now in
    let i = c.loop-name.name-index in
    let is : get_or (map (λ n. n.now) names) i [] ≡ (get_or names i (record { ref_ptr = (0, 0); now = [] })).now = get_or-map (λ n. n.now) names i (record { ref_ptr = (0, 0); now = [] }) [] c.loop-name-test.true in
    subst (λ (n : List ℕ). IsName n) (is ∙ sym c.as_bytes.ensures.value) (one_of_all IsName (map (λ n. n.now) names) i [] c.requires (subst (λ (k : ℕ). i < k) (sym (length-map names (λ n. n.now))) c.loop-name-test.true))

pub loop-name-preserved : goal.loop-name-preserved
loop-name-preserved c =
    let names = c.args.names.now in
    let i = c.loop-name.name-index in
    one_more name_spelling (map (λ n. n.now) names) i [] _ c.args.bytes.now.items c.loop-name.bytes.items c.push_name.new.bytes.items (subst (λ (k : ℕ). i < k) (sym (length-map names (λ n. n.now))) c.loop-name-test.true) (get_or-map (λ n. n.now) names i (record { ref_ptr = (0, 0); now = [] }) [] c.loop-name-test.true) c.loop-name.invariant (c.in_ok-push_name.ensures ∙ ap (λ (n : List ℕ). c.loop-name.bytes.items ++ name_spelling n) c.as_bytes.ensures.value)
