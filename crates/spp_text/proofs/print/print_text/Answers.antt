use Rattle.std.proofs.Common.{◌≡◌, ℕ, List, ◌++◌, sym, ap, subst, ◌∙◌, append_assoc}
use Rattle.std.specs.List.{flat_map}
use Rattle.std.specs.String.{string_bytes}
use Rattle.spp_text.specs.Text.{func_line, site_line, root_line, event_line, text_of}
use Rattle.spp_text.specs.Parsed.{Names}
use Rattle.spp_text.proofs.TextLaws.{text_names_trace}
use Rattle.spp_text.proofs.print.print_text.Goals as goal

-- four parts, written one after the other
whole : (a b c d f s r e : List ℕ) → a ≡ f → b ≡ a ++ s → c ≡ b ++ r → d ≡ c ++ e → d ≡ f ++ (s ++ (r ++ e))
whole a b c d f s r e ea eb ec ed =
    ed ∙ ap (λ (t : List ℕ). t ++ e) (ec ∙ ap (λ (t : List ℕ). t ++ r) (eb ∙ ap (λ (t : List ℕ). t ++ s) ea)) ∙ append_assoc (f ++ s) r e ∙ append_assoc f s (r ++ e)

pub returns-clause-names : goal.returns-clause-names
returns-clause-names c =
    let t = c.args.trace.now in
    let lines = c.in_ok-push_events.ensures.lines in
    let es = lines.0 in
    let funcs : string_bytes c.push_funcs.new.text ≡ flat_map func_line t.funcs = c.in_ok-push_funcs.ensures ∙ ap (λ (b : List ℕ). b ++ flat_map func_line t.funcs) c.new-text.ensures.bytes in
    let root : string_bytes c.push_root.new.text ≡ string_bytes c.push_sites.new.text ++ root_line t.root = c.in_ok-push_root.ensures ∙ ap (λ (n : ℕ). string_bytes c.push_sites.new.text ++ root_line n) c.root.ensures in
    let text : string_bytes c.push_events.new.text ≡ text_of t es = whole (string_bytes c.push_funcs.new.text) (string_bytes c.push_sites.new.text) (string_bytes c.push_root.new.text) (string_bytes c.push_events.new.text) (flat_map func_line t.funcs) (flat_map site_line t.sites) (root_line t.root) (flat_map event_line es) funcs c.in_ok-push_sites.ensures root lines.2 in
    subst (λ (b : List ℕ). Names b t) (sym text) (text_names_trace t es c.keeps_limits.ensures.limits c.keeps_limits.ensures.names lines.1 lines.3)
