-- The text of the figures of a run.
use Rattle.std.specs.Prelude.{ℕ, zero, suc, ◌*◌, ◌/◌, ◌%◌, List, ◌++◌, Option, Some, None, codes, decimal}
use Rattle.spp_dag.specs.declared.figures.Figures.{Figures}

-- the hundredths of a ratio, rounded down; there is none where the divisor is 0
abbrev pub hundredths : ℕ → ℕ → Option ℕ
hundredths work zero = None
hundredths work (suc n) = Some (100 * work / suc n)

-- a number of hundredths with its point, or a dash
abbrev pub ratio_text : Option ℕ → List ℕ
ratio_text None = codes "-"
ratio_text (Some h) = decimal (h / 100) ++ codes "." ++ decimal (h / 10 % 10) ++ decimal (h % 10)

-- a text and the end of its line
abbrev pub line : List ℕ → List ℕ
line text = text ++ codes "\n"

-- five lines
abbrev pub figures_text : Figures → List ℕ
figures_text f =
    line (codes "work " ++ decimal f.work)
    ++ line (codes "span " ++ decimal f.span)
    ++ line (codes "burdened " ++ decimal f.burdened)
    ++ line (codes "parallelism " ++ ratio_text (hundredths f.work f.span))
    ++ line (codes "burdened parallelism " ++ ratio_text (hundredths f.work f.burdened))
