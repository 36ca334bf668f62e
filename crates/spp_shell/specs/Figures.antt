-- What `figures` answers: the figures of the run whose trace the input is. Its line of fault is that of `check`.
use Rattle.std.specs.Prelude.{◌≡◌, ℕ, List, [], ◌∷◌}
use Rattle.spp_event.specs.Recordings.{Recording}
use Rattle.spp_event.specs.Header.{IsTraceOf}
use Rattle.spp_maxplus.specs.declared.state.Burdens.{Burdens}
use Rattle.spp_dag.specs.declared.figures.Figures.{Figures}
use Rattle.spp_dag.specs.Figures.{AreFigures}
use Rattle.spp_report.specs.Figures.{figures_text}

-- the bytes are those of a trace with these figures, and the text tells them
abbrev pub TellsFigures : Burdens → List ℕ → List ℕ → Type 0
TellsFigures burdens bytes text =
    (t : Recording) × (f : Figures) × IsTraceOf bytes t × AreFigures t.records burdens f × (text ≡ figures_text f)

-- the text for one input
abbrev pub IsFiguresText : Burdens → List (List ℕ) → List ℕ → Type 0
IsFiguresText burdens inputs text = (bytes : List ℕ) × (inputs ≡ bytes ∷ []) × TellsFigures burdens bytes text
