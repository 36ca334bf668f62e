-- The lines that declare functions and sites say the names that are there.
use Rattle.std.proofs.Common.{◌≡◌, ℕ, ◌+◌, ◌≤◌, ◌<◌, false, None, List, [], ◌∷◌, ◌++◌, length, codes, Ok, refl, arith}
use Rattle.std.specs.List.{flat_map, AllByRecursion}
use Rattle.std.proofs.lemmas.Bool.{lt-leb}
use Rattle.std.proofs.lemmas.List.{length-append}
use Rattle.spp_event.specs.Header.{IsName, AreApart}
use Rattle.spp_event.specs.Checks.{is_taken}
use Rattle.spp_event.proofs.GoodNames.{is_name_decides}
use Rattle.spp_event.proofs.TracesPass.{printable_again, Cross, cross_more, is_free}
use Rattle.spp_text.specs.Text.{func_line, site_line}
use Rattle.spp_text.specs.Reading.{Said, read_func, read_site, read_line}
use Rattle.spp_text.proofs.LinesInTurn.{SaysAfter, none_left, next_says}

-- what lines that declare these have said
abbrev pub declared : List (List ℕ) → List (List ℕ) → Said
declared funcs sites = record { funcs = funcs; sites = sites; root = None; events = [] }

func_read : (done : List (List ℕ)) (name : List ℕ) → length done < 65536 → IsName name → read_line (declared done []) (codes "func " ++ name) ≡ Ok (declared (done ++ name ∷ []) [])
unfolding read_line read_func
func_read done name lt h = rw (lt-leb 65536 (length done) lt, (is_name_decides name).1 h) refl

pub funcs_say : (more done : List (List ℕ)) (rest : List ℕ) (u : Said) → AllByRecursion IsName more → length done + length more ≤ 65536
    → SaysAfter (declared (done ++ more) []) rest u → SaysAfter (declared done []) (flat_map func_line more ++ rest) u
funcs_say [] done rest u good le = none_left (λ xs. declared xs []) done rest u
funcs_say (name ∷ more) done rest u good le =
    next_says func_line (λ xs. declared xs []) done name more (codes "func " ++ name) rest u refl (printable_again name good.0.2) (func_read done name (omega arith) good.0)
    (funcs_say more (done ++ name ∷ []) rest u good.1 (omega (arith, length-append done (name ∷ []))))

site_read : (funcs done : List (List ℕ)) (name : List ℕ) → length done < 65536 → IsName name → is_taken done name ≡ false → read_line (declared funcs done) (codes "site " ++ name) ≡ Ok (declared funcs (done ++ name ∷ []))
unfolding read_line read_site
site_read funcs done name lt h free = rw (lt-leb 65536 (length done) lt, (is_name_decides name).1 h, free) refl

pub sites_say : (more done funcs : List (List ℕ)) (rest : List ℕ) (u : Said) → AllByRecursion IsName more → AreApart more → Cross done more → length done + length more ≤ 65536
    → SaysAfter (declared funcs (done ++ more)) rest u → SaysAfter (declared funcs done) (flat_map site_line more ++ rest) u
sites_say [] done funcs rest u good apart cross le = none_left (λ xs. declared funcs xs) done rest u
sites_say (name ∷ more) done funcs rest u good apart cross le =
    next_says site_line (λ xs. declared funcs xs) done name more (codes "site " ++ name) rest u refl (printable_again name good.0.2) (site_read funcs done name (omega arith) good.0 (is_free done name apart.0 cross.0))
    (sites_say more (done ++ name ∷ []) funcs rest u good.1 apart.2 (cross_more done name more cross.1 apart.1) (omega (arith, length-append done (name ∷ []))))
