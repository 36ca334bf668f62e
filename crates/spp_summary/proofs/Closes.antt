-- The lists by which unmatched returns are kept.
use Rattle.std.proofs.Common.{◌≡◌, ℕ, ◌+◌, List, [], ◌∷◌, ◌++◌, length, refl, sym, ap, ◌∙◌, arith}
use Rattle.std.proofs.lemmas.List.{append-nil}
use Rattle.spp_piece.specs.declared.segs.Segs.{Segs}
use Rattle.spp_summary.specs.declared.returns.Close.{Close}
use Rattle.spp_summary.specs.declared.returns.Close.TheVariants.{Strand, Kept}
use Rattle.spp_piece.specs.Pair.{strand}
use Rattle.spp_summary.specs.Returns.{returns_of, kept_count, return_of}

pub returns-append : (cs ds : List Close) (gs hs : List Segs) → kept_count cs ≡ length gs → returns_of (cs ++ ds) (gs ++ hs) ≡ returns_of cs gs ++ returns_of ds hs
returns-append [] ds [] hs h = refl
returns-append [] ds (g ∷ gs) hs h = absurd (omega arith)
returns-append (Strand at run ∷ cs) ds gs hs h = ap (λ rs. return_of (strand run) at ∷ rs) (returns-append cs ds gs hs h)
returns-append (Kept at ∷ cs) ds [] hs h = absurd (omega arith)
returns-append (Kept at ∷ cs) ds (g ∷ gs) hs h = ap (λ rs. return_of g at ∷ rs) (returns-append cs ds gs hs (omega arith))

pub count-append : (cs ds : List Close) → kept_count (cs ++ ds) ≡ kept_count cs + kept_count ds
count-append [] ds = omega arith
count-append (Strand at run ∷ cs) ds = count-append cs ds
count-append (Kept at ∷ cs) ds = omega (arith, count-append cs ds)

pub returns_len : (cs : List Close) (gs : List Segs) → length (returns_of cs gs) ≡ length cs
returns_len [] gs = refl
returns_len (Strand at run ∷ cs) gs = omega (arith, returns_len cs gs)
returns_len (Kept at ∷ cs) [] = omega (arith, returns_len cs [])
returns_len (Kept at ∷ cs) (g ∷ gs) = omega (arith, returns_len cs gs)

pub pushed_strand : (cs : List Close) (gs : List Segs) (run at : ℕ) (x : Segs) → kept_count cs ≡ length gs → x ≡ strand run → returns_of (cs ++ Strand at run ∷ []) gs ≡ returns_of cs gs ++ return_of x at ∷ []
pushed_strand cs gs run at x h e =
    ap (returns_of (cs ++ Strand at run ∷ [])) (sym (append-nil gs)) ∙ returns-append cs (Strand at run ∷ []) gs [] h
    ∙ ap (λ x. returns_of cs gs ++ return_of x at ∷ []) (sym e)

pub pushed_kept : (cs : List Close) (gs : List Segs) (at : ℕ) (x : Segs) → kept_count cs ≡ length gs → returns_of (cs ++ Kept at ∷ []) (gs ++ x ∷ []) ≡ returns_of cs gs ++ return_of x at ∷ []
pushed_kept cs gs at x h = returns-append cs (Kept at ∷ []) gs (x ∷ []) h
