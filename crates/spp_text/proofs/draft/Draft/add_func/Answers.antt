use Rattle.std.proofs.Common.{◌≡◌, ◌++◌, ◌∷◌, [], ℕ, List, false, map, unwrap_or, ◌∙◌, ap, sym, subst, arith}
use Rattle.std.proofs.lemmas.List.{map_push, length-map}
use Rattle.spp_text.specs.Reading.{Said, has_event}
use Rattle.spp_text.specs.Drafts.{last_events}
use Rattle.spp_text.proofs.KeptDrafts.{kept_func}
use Rattle.spp_text.proofs.draft.Draft.add_func.Goals as goal

pub invariant_of-self-2 : goal.invariant_of-self-2
invariant_of-self-2 c =
    let d = c.self.inside in
    let e : map (λ n. n.now) c.push.new.self.items ≡ map (λ n. n.now) d.funcs.items ++ c.args.name.now ∷ [] = rw c.in_ok-push.ensures.items (map_push (λ n. n.now) d.funcs.items (record { ref_ptr = c.in_ok-kept.kept.ref_ptr; now = c.in_ok-kept.kept.now }) ∙ ap (λ (n : List ℕ). map (λ n. n.now) d.funcs.items ++ n ∷ []) c.in_ok-kept.ensures) in
    rw e (kept_func d.site_names (map (λ n. n.now) d.funcs.items) (map (λ n. n.now) d.sites.items) (unwrap_or d.root 0) (last_events d.count d.bytes.items) d.bytes.items c.args.name.now c.self.invariant (subst (λ (s : Said). has_event s ≡ false) (sym c.self.view_is) (sym c.has_event.ensures ∙ c.if-has_event.false)) (rw length-map (omega (arith, c.if-len-ge65536.false, c.len.ensures))) (sym c.is_name.ensures.checked ∙ c.if-not-is_name.false))
