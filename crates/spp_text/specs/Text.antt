-- The lines of a trace's text form.
use Rattle.std.specs.Prelude.{ℕ, List, ◌++◌, codes, decimal}
use Rattle.std.specs.List.{flat_map}
use Rattle.spp_event.specs.declared.records.Event.{Event}
use Rattle.spp_event.specs.declared.records.Event.TheVariants.{Strand, Call, Spawn, Ret, Sync}
use Rattle.spp_event.specs.Recordings.{Recording}

abbrev pub func_line : List ℕ → List ℕ
func_line name = codes "func " ++ (name ++ codes "\n")

abbrev pub site_line : List ℕ → List ℕ
site_line name = codes "site " ++ (name ++ codes "\n")

abbrev pub root_line : ℕ → List ℕ
root_line n = codes "root " ++ (decimal n ++ codes "\n")

abbrev pub event_line : Event → List ℕ
event_line (Strand count) = codes "strand " ++ (decimal count ++ codes "\n")
event_line (Call site func) = codes "call " ++ (decimal site ++ (codes " " ++ (decimal func ++ codes "\n")))
event_line (Spawn site func) = codes "spawn " ++ (decimal site ++ (codes " " ++ (decimal func ++ codes "\n")))
event_line Ret = codes "return\n"
event_line Sync = codes "sync\n"

-- the text of a trace with these events
abbrev pub text_of : Recording → List Event → List ℕ
text_of t es = flat_map func_line t.funcs ++ (flat_map site_line t.sites ++ (root_line t.root ++ flat_map event_line es))
