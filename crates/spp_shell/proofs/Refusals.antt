-- Why a task gives no text, as helpers tell it.
use Rattle.std.proofs.Common.{◌≡◌, List, ℕ, IfOk, Result, Ok, Err, sym, subst}
use Rattle.std.specs.Prelude.{MatchResult}
use Rattle.std.specs.String.{string_bytes}
use Rattle.spp_shell.specs.Tasks.{IfLine}
use Rattle.spp_shell.specs.declared.refusal.Refusal.{Refusal}
use Rattle.spp_shell.specs.declared.refusal.Refusal.TheVariants.{Line, Unread, Memory}

-- a line that was made, where there was memory for it
pub line_made : {E : Type 0} (made : Result _ E) (r : Refusal) (P : List ℕ → Type 0) → MatchResult made (λ text. r ≡ Line text) (λ _. r ≡ Memory) → IfOk made (λ text. P (string_bytes text)) → IfLine r P
line_made (Ok text) r P is p = subst (λ x. IfLine x P) (sym is) p
line_made (Err e) r P is p = subst (λ x. IfLine x P) (sym is) tt

-- what holds of each line of which another fact holds
pub line_then : (r : Refusal) (P Q : List ℕ → Type 0) → IfLine r P → ((told : List ℕ) → P told → Q told) → IfLine r Q
line_then (Line text) P Q p f = f (string_bytes text) p
line_then (Unread trouble) P Q p f = p
line_then Memory P Q p f = tt
