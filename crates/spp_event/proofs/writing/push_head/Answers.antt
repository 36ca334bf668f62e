use Rattle.std.proofs.Common.{◌≡◌, ◌++◌, List, ℕ, ap, ◌∙◌}
use Rattle.spp_event.specs.Records.{word}
use Rattle.spp_event.specs.Header.{magic}
use Rattle.spp_event.proofs.WrittenBytes.{regrouped}
use Rattle.spp_event.proofs.writing.push_head.Goals as goal

pub returns : goal.returns
returns c =
    let o = c.args.bytes.now.items in
    let m = magic c.args.version in
    let then : (x y z : List ℕ) → x ≡ y → x ++ z ≡ y ++ z = λ x y z e. ap (λ (l : List ℕ). l ++ z) e in
    let b1 = c.in_ok-extend_from_slice.ensures.items ∙ ap (λ (l : List ℕ). o ++ l) c.magic.ensures in
    let b2 = c.in_ok-push_word.ensures ∙ then _ _ (word c.args.funcs) b1 in
    let b3 = c.in_ok-push_word-2.ensures ∙ then _ _ (word c.args.sites) b2 in
    let b4 = c.in_ok-push_word-3.ensures ∙ then _ _ (word c.args.root) b3 in
    c.in_ok-push_word-4.ensures ∙ then _ _ (word c.args.events) b4
    ∙ regrouped o m (word c.args.funcs) (word c.args.sites) (word c.args.root) (word c.args.events)
