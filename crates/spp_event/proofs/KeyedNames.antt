-- Names that stand in a set behind their numbers.
use Rattle.std.proofs.Common.{◌≡◌, ℕ, List, Bool, true, false, ◌&&◌, sym, ◌∙◌, ap, refl}
use Rattle.std.specs.Str.{bytes_eq}
use Rattle.std.specs.Ordering.{nat_cmp, ordering_then, is_eq}
use Rattle.std.specs.Cmp.{tied_then, unsigned_tied}
use Rattle.std.specs.Cmp.Lexicographic.{slice_cmp}
use Rattle.std.proofs.lemmas.Bool.{eq-eqb}
use Rattle.std.proofs.lemmas.Map.Text.{is_eq-slice_cmp}
use Rattle.std.proofs.lemmas.Slice.Eq.{bytes_eq-Decides}
use Rattle.spp_event.specs.NameKeys.{name_key}

and_false : (b : Bool) → (b && false) ≡ false
and_false true = refl
and_false false = refl

-- behind its number a name is the same as another where it is the same alone
pub same_by_key : (key : ℕ) (name q : List ℕ) → key ≡ name_key name → is_eq (ordering_then (nat_cmp key (name_key q)) (slice_cmp nat_cmp name q)) ≡ bytes_eq name q
same_by_key key name q is =
    sym (tied_then (nat_cmp key (name_key q)) (slice_cmp nat_cmp name q))
    ∙ ap (λ b. is_eq (nat_cmp key (name_key q)) && b) (is_eq-slice_cmp name q)
    ∙ go (bytes_eq name q) refl
  where
    go : (b : Bool) → bytes_eq name q ≡ b → (is_eq (nat_cmp key (name_key q)) && bytes_eq name q) ≡ bytes_eq name q
    go true e =
        let same : name ≡ q = (bytes_eq-Decides name q).0 e in
        let keys : key ≡ name_key q = is ∙ ap name_key same in
        let tied : is_eq (nat_cmp key (name_key q)) ≡ true = unsigned_tied key (name_key q) ∙ eq-eqb key (name_key q) keys in
        ap (λ b. b && bytes_eq name q) tied
    go false e = ap (λ b. is_eq (nat_cmp key (name_key q)) && b) e ∙ and_false (is_eq (nat_cmp key (name_key q))) ∙ sym e
