-- Why a task gives no text.
use Rattle.std.specs.Prelude.{◌≡◌, ℕ, List, ◌++◌, ⊤}
use Rattle.std.specs.String.{string_bytes}
use Rattle.spp_shell.specs.Places.{place_words}
use Rattle.spp_shell.specs.declared.place.Place.{Place}
use Rattle.spp_shell.specs.declared.refusal.Refusal.{Refusal}
use Rattle.spp_shell.specs.declared.refusal.Refusal.TheVariants.{Line, Unread, Memory}

-- the input was read, and where a line of fault is given, the fact holds of it
abbrev pub IfLine : Refusal → (List ℕ → Type 0) → Type 0
IfLine (Line told) P = P (string_bytes told)
IfLine (Unread trouble) P = ⊥
IfLine Memory P = ⊤

-- a line with the words for that input before it, or an allocation for it failed; any other refusal stays
abbrev pub PlacedLike : Place → Refusal → Refusal → Type 0
PlacedLike place (Line told) placed = IfLine placed (λ line. line ≡ place_words place ++ string_bytes told)
PlacedLike place (Unread trouble) placed = placed ≡ Unread trouble
PlacedLike place Memory placed = placed ≡ Memory
