use Rattle.std.proofs.Common.{◌≡◌, ◌++◌, ◌∷◌, [], ℕ, List, false, map, unwrap_or, ◌∙◌, ap, sym, subst, arith}
use Rattle.std.proofs.lemmas.List.{map_push, length-map}
use Rattle.std.specs.Str.{bytes_eq}
use Rattle.spp_event.specs.Checks.{is_name}
use Rattle.spp_event.specs.Header.{root_name}
use Rattle.spp_text.specs.Reading.{Said, has_event}
use Rattle.spp_text.specs.Drafts.{last_events}
use Rattle.spp_text.proofs.KeptDrafts.{kept_site, kept_same}
use Rattle.spp_text.proofs.draft.Draft.add_site.Goals as goal

pub invariant_of-self-then-not-branch : goal.invariant_of-self-then-not-branch
invariant_of-self-then-not-branch c =
    let d = c.self.inside in
    rw c.reserve.ensures.items (kept_same d.site_names c.note.new.seen (map (λ n. n.now) d.funcs.items) (map (λ n. n.now) d.sites.items) (unwrap_or d.root 0) (last_events d.count d.bytes.items) d.bytes.items c.in_ok-kept.kept.now c.in_ok-note.field-0 c.self.invariant c.in_ok-note.ensures.new c.if-not-branch.true c.in_ok-note.ensures.has)

pub invariant_of-self-2 : goal.invariant_of-self-2
invariant_of-self-2 c =
    let d = c.self.inside in
    let e : map (λ n. n.now) c.push.new.self.items ≡ map (λ n. n.now) d.sites.items ++ c.in_ok-kept.kept.now ∷ [] = rw (c.in_ok-push.ensures.items, c.reserve.ensures.items) (map_push (λ n. n.now) d.sites.items (record { ref_ptr = c.in_ok-kept.kept.ref_ptr; now = c.in_ok-kept.kept.now })) in
    rw e (kept_site d.site_names c.note.new.seen (map (λ n. n.now) d.funcs.items) (map (λ n. n.now) d.sites.items) (unwrap_or d.root 0) (last_events d.count d.bytes.items) d.bytes.items c.in_ok-kept.kept.now c.in_ok-note.field-0 c.self.invariant (subst (λ (s : Said). has_event s ≡ false) (sym c.self.view_is) (sym c.has_event.ensures ∙ c.if-has_event.false)) (rw length-map (omega (arith, c.if-len-ge65536.false, c.len.ensures))) (ap is_name c.in_ok-kept.ensures ∙ sym c.is_name.ensures.checked ∙ c.if-not-is_name.false) (ap (λ (n : List ℕ). bytes_eq n root_name) c.in_ok-kept.ensures ∙ sym c.is_root_name.ensures.checked ∙ c.if-is_root_name.false) c.in_ok-note.ensures.new c.if-not-branch.false c.in_ok-note.ensures.has)
