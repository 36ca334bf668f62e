-- How what is told about mending a run is put together.
use Rattle.std.proofs.Common.{◌≡◌, ℕ, ◌+◌, ◌<◌, ◌≤◌, List, [], ◌∷◌, ◌++◌, length, map, take, get_or, refl, sym, subst, ◌∙◌, ap, arith, append_assoc}
use Rattle.std.specs.Prelude.{Option, Some, None, codes}
use Rattle.std.specs.List.{flat_map, AllByRecursion}
use Rattle.std.proofs.lemmas.List.{append-nil, flat_map_more, map_more, take_more}
use Rattle.spp_dag.specs.declared.figures.Figures.{Figures}
use Rattle.spp_maxplus.specs.declared.state.Burdens.{Burdens}
use Rattle.spp_report.specs.declared.advised.ChangedRun.{ChangedRun}
use Rattle.spp_report.specs.declared.advised.ListedSite.{ListedSite}
use Rattle.spp_report.specs.declared.line.Cell.{Cell}
use Rattle.spp_report.specs.Advice.{IsBest, IsHeaviest, burdened_weight, told_cell}
use Rattle.spp_report.specs.Figures.{line}
use Rattle.spp_report.specs.Plain.{aligned, spaced}
use Rattle.spp_report.proofs.Elements.{all_append, all_weaker}

-- ---- texts

-- the text of one element more behind those before it
pub each_more : {X : Type 0} (f : X → List ℕ) (xs : List X) (i : ℕ) (d : X) (old sofar new : List ℕ) → i < length xs
    → sofar ≡ old ++ flat_map f (take i xs) → new ≡ sofar ++ f (get_or xs i d) → new ≡ old ++ flat_map f (take (i + 1) xs)
each_more f xs i d old sofar new h e g =
    let more : flat_map f (take (i + 1) xs) ≡ flat_map f (take i xs) ++ f (get_or xs i d) =
    ap (flat_map f) (take_more xs i d h) ∙ sym (flat_map_more f [] (take i xs) (get_or xs i d)) in
    rw (g, e, more) (append_assoc old _ _)

-- the same of an item of a loop
pub item_more : {X : Type 0} (f : X → List ℕ) (xs : List X) (i : ℕ) (x : X) (old sofar new : List ℕ) → i < length xs → x ≡ get_or xs i x
    → sofar ≡ old ++ flat_map f (take i xs) → new ≡ sofar ++ f x → new ≡ old ++ flat_map f (take (i + 1) xs)
item_more f xs i x old sofar new h is e g = each_more f xs i x old sofar new h e (g ∙ ap (λ y. sofar ++ f y) is)

-- one cell more
pub cell_more : (cs : List Cell) (i : ℕ) (d : Cell) (old sofar new : List ℕ) → i < length cs
    → sofar ≡ old ++ spaced (map told_cell (take i cs)) → new ≡ sofar ++ spaced (told_cell (get_or cs i d) ∷ [])
    → new ≡ old ++ spaced (map told_cell (take (i + 1) cs))
cell_more cs i d old sofar new h e g =
    let more : spaced (map told_cell (take (i + 1) cs)) ≡ spaced (map told_cell (take i cs)) ++ (aligned (told_cell (get_or cs i d)) ++ codes " ") =
    ap spaced (map_more told_cell cs i d h) ∙ sym (flat_map_more (λ text. aligned text ++ codes " ") [] (map told_cell (take i cs)) (told_cell (get_or cs i d))) in
    rw (g, e, more) (append_assoc old _ _ ∙ ap (λ t. old ++ (spaced (map told_cell (take i cs)) ++ t)) (append-nil _))

-- an empty line, a title, and the names of the columns
abbrev pub heads : List ℕ → List ℕ → List ℕ
heads title columns = line [] ++ line title ++ columns

-- the lines of all elements, under their title
pub titled_lines : (old title columns sofar lines all : List ℕ) → sofar ≡ (old ++ heads title columns) ++ lines → lines ≡ all
    → sofar ≡ old ++ ((line [] ++ line title ++ columns) ++ all)
titled_lines old title columns sofar lines all e f = rw (e, f) (append_assoc old (heads title columns) all)

-- the same with a line before them
pub titled_runs : (old title columns first sofar lines all : List ℕ) → sofar ≡ ((old ++ heads title columns) ++ first) ++ lines → lines ≡ all
    → sofar ≡ old ++ ((line [] ++ line title ++ columns) ++ (first ++ all))
titled_runs old title columns first sofar lines all e f =
    rw (e, f) (append_assoc (old ++ heads title columns) first all ∙ append_assoc old (heads title columns) (first ++ all))

saving_together : (b change s old t new c saved n reason e : List ℕ)
    → b ++ (change ++ (s ++ (old ++ (t ++ (new ++ (c ++ (saved ++ (n ++ (reason ++ e))))))))) ≡ (b ++ change ++ s ++ old ++ t ++ new ++ c ++ saved ++ n ++ reason) ++ e
saving_together b change s old t new c saved n reason e = simp append_assoc refl

-- what saves most, as `format!` puts it together
pub saving_parts : (change old new saved reason : List ℕ)
    → codes "most is saved by " ++ (change ++ (codes ", burdened span " ++ (old ++ (codes " to " ++ (new ++ (codes ", " ++ (saved ++ (codes " per cent less, since " ++ (reason ++ codes "\n")))))))))
    ≡ line (codes "most is saved by " ++ change ++ codes ", burdened span " ++ old ++ codes " to " ++ new ++ codes ", " ++ saved ++ codes " per cent less, since " ++ reason)
saving_parts change old new saved reason =
    saving_together (codes "most is saved by ") change (codes ", burdened span ") old (codes " to ") new (codes ", ") saved (codes " per cent less, since ") reason (codes "\n")

share_together : (b name what share cure e : List ℕ) → b ++ (name ++ (what ++ (share ++ (cure ++ e)))) ≡ (b ++ name ++ what ++ share ++ cure) ++ e
share_together b name what share cure e = simp append_assoc refl

-- what to begin with, as `format!` puts it together
pub beginning_parts : (name what share cure : List ℕ)
    → codes "begin with " ++ (name ++ (what ++ (share ++ (cure ++ codes "\n")))) ≡ line (codes "begin with " ++ name ++ what ++ share ++ cure)
beginning_parts name what share cure = share_together (codes "begin with ") name what share cure (codes "\n")

-- ---- the best of the changed runs

-- the burdened span of the best, or that of the recorded run where there is none
abbrev pub least_of : Figures → Option ChangedRun → ℕ
least_of f None = f.burdened
least_of f (Some r) = r.figures.burdened

-- a run that is shorter than the best so far is the best
pub best_taken : (f : Figures) (xs : List ChangedRun) (best : Option ChangedRun) (r : ChangedRun) → IsBest f xs best
    → r.figures.burdened < least_of f best → IsBest f (xs ++ r ∷ []) (Some r)
best_taken f xs None r b h = (xs, [], refl, h, all_weaker _ _ (λ x p. omega (arith, p, h)) xs b, tt)
best_taken f xs (Some s) r b h =
    let shorter : AllByRecursion (λ x. r.figures.burdened < x.figures.burdened) (b.0 ++ s ∷ b.1) =
    all_append _ b.0 (s ∷ b.1) (all_weaker _ _ (λ x p. omega (arith, p, h)) b.0 b.4) (h, all_weaker _ _ (λ x p. omega (arith, p, h)) b.1 b.5) in
    (xs, [], refl, omega (arith, h, b.3), rw b.2 shorter, tt)

-- one that isn't leaves it
pub best_kept : (f : Figures) (xs : List ChangedRun) (best : Option ChangedRun) (r : ChangedRun) → IsBest f xs best
    → least_of f best ≤ r.figures.burdened → IsBest f (xs ++ r ∷ []) best
best_kept f xs None r b h = all_append _ xs (r ∷ []) b (h, tt)
best_kept f xs (Some s) r b h =
    (b.0, b.1 ++ r ∷ [], ap (λ ys. ys ++ r ∷ []) b.2 ∙ append_assoc b.0 (s ∷ b.1) (r ∷ []), b.3, b.4, all_append _ b.1 (r ∷ []) b.5 (h, tt))

-- ---- the heaviest of the sites

-- a site that weighs so much or more is the heaviest: more than the heaviest so far
abbrev pub next_of : Burdens → Option ListedSite → ℕ
next_of burdens None = 0
next_of burdens (Some s) = burdened_weight burdens s + 1

pub heaviest_taken : (burdens : Burdens) (xs : List ListedSite) (heaviest : Option ListedSite) (s : ListedSite) → IsHeaviest burdens xs heaviest
    → next_of burdens heaviest ≤ burdened_weight burdens s → IsHeaviest burdens (xs ++ s ∷ []) (Some s)
heaviest_taken burdens xs None s b h =
    (xs, [], refl, subst (AllByRecursion (λ (t : ListedSite). burdened_weight burdens t < burdened_weight burdens s)) (sym b) tt, tt)
heaviest_taken burdens xs (Some r) s b h =
    let lighter : AllByRecursion (λ t. burdened_weight burdens t < burdened_weight burdens s) (b.0 ++ r ∷ b.1) =
    all_append _ b.0 (r ∷ b.1) (all_weaker _ _ (λ x p. omega (arith, p, h)) b.0 b.3) (omega (arith, h), all_weaker _ _ (λ x p. omega (arith, p, h)) b.1 b.4) in
    (xs, [], refl, rw b.2 lighter, tt)

pub heaviest_kept : (burdens : Burdens) (xs : List ListedSite) (heaviest : Option ListedSite) (s : ListedSite) → IsHeaviest burdens xs heaviest
    → burdened_weight burdens s < next_of burdens heaviest → IsHeaviest burdens (xs ++ s ∷ []) heaviest
heaviest_kept burdens xs None s b h = absurd (omega (arith, h))
heaviest_kept burdens xs (Some r) s b h =
    (b.0, b.1 ++ s ∷ [], ap (λ ys. ys ++ s ∷ []) b.2 ∙ append_assoc b.0 (r ∷ b.1) (s ∷ []), b.3, all_append _ b.1 (s ∷ []) b.4 (omega (arith, h), tt))
