-- What the words of the command line come to, by what `clap` says of them.
use Rattle.std.proofs.Common.{◌≡◌, ◌∙◌, ◌⊎◌, ◌≤◌, ap, arith, refl, sym, inl, inr, ℕ, Bool, true, false, List, [], ◌∷◌, Option, Some, None, option_map, cond}
use Rattle.std.specs.Prelude.{IfSome, IsSome, MatchOption, ◌↔◌, Box, Result, Ok, Err, find, unwrap_or}
use Rattle.std.specs.Box.{box_value}
use Rattle.std.specs.Option.{UnwrapsOrElse}
use Rattle.std.specs.Str.Parse.{ParsesUnsigned}
use Rattle.clap.specs.Matches.{ReadsOne}
use Rattle.clap.specs.Walk.{Row, Text, answers_to, stop_after}
use Rattle.clap.specs.Simple.{Shape, argument_words, built, names_of, subcommand_of, entered, is_simple, label_of, rows_at, subcommand_rows}
use Rattle.clap.specs.Faults.{is_simple_and_free}
use Rattle.clap.specs.Kinds.{IsAmong, Kinds}
use Rattle.clap.specs.declared.error.kind.ErrorKind.{ErrorKind}
use Rattle.clap.specs.declared.error.kind.ErrorKind.TheVariants.{OutOfMemory}
use Rattle.clap.specs.declared.parser.matches.SubCommand.{SubCommand}
use Rattle.clap.specs.declared.parser.matches.ArgMatches.TheViews.{out-SubCommand}
use Rattle.clap.proofs.OnLiterals.{clap_on_literals}
use Rattle.spp_request.specs.declared.request.Command.{Command}
use Rattle.spp_request.specs.declared.request.Command.TheVariants.{Check, Figures, Profile, Compare, Encode, Migrate}
use Rattle.spp_request.specs.declared.request.UsageFault.{UsageFault}
use Rattle.spp_request.specs.declared.request.UsageFault.TheVariants.{Shown, Memory}
use Rattle.spp_command_line.specs.Spprof.{spprof}
use Rattle.spp_command_line.specs.Usage.{EndsBy, IsNamed, IsNumberOr, status_of}

-- `clap` says in full which words this command line takes, and what it makes of them
pub spprof_simple : is_simple spprof ≡ true
unfolding clap_on_literals
spprof_simple = refl

pub spprof_free : is_simple_and_free spprof ≡ true
unfolding clap_on_literals
spprof_free = refl

-- a text for one kind of error, where that is among these kinds
pub shown_among : (k : ErrorKind) (kinds : Kinds) (f : UsageFault) → EndsBy (k ∷ []) f → (k ≡ OutOfMemory → f ≡ Memory)
    → (k ≡ OutOfMemory) ⊎ IsAmong k kinds → EndsBy kinds f
shown_among k kinds Memory ends memory known = tt
shown_among k kinds (Shown text status) (other, inl is, so) memory (inl out) =
    let bad = memory out in
    cc
shown_among k kinds (Shown text status) (other, inl is, so) memory (inr among) = (k, among, so ∙ ap status_of is)
shown_among k kinds (Shown text status) (other, inr none, so) memory known = absurd none

-- the name and the rows of the command that a parse entered
pub entered_both : {Z : Type 0} (o : Option (Box SubCommand Z)) (name : Text) (rows : List Row)
    → Some name ≡ option_map (λ b. (out-SubCommand (box_value b)).name.now) o
    → Some rows ≡ option_map (λ p. p.1) (subcommand_rows o)
    → subcommand_rows o ≡ Some (name, rows)
entered_both None name rows n r = cc
entered_both (Some b) name rows n r = cc

-- one of the shapes has the name
abbrev HasName : List Shape → Text → Type 0
HasName [] name = ⊥
HasName (s ∷ rest) name = (s.name ≡ name) ⊎ HasName rest name

abbrev name_in : Option (Text × List Row) → Text
name_in None = []
name_in (Some p) = p.0

found_has_name : (f : Shape → Bool) (words : List Text) (xs : List Shape) (name : Text) (rows : List Row)
    → option_map (λ s. rows_at s words) (find f xs) ≡ Some (name, rows) → HasName xs name
found_has_name f words [] name rows e = cc
found_has_name f words (s ∷ rest) name rows e = go (found_has_name f words rest name rows) (f s) e
  where
    go : (option_map (λ s. rows_at s words) (find f rest) ≡ Some (name, rows) → HasName rest name)
        → (b : Bool) → option_map (λ s. rows_at s words) (cond b (Some s) (find f rest)) ≡ Some (name, rows) → HasName (s ∷ rest) name
    go later true h = inl (ap name_in h)
    go later false h = inr (later h)

-- what `clap` enters is one of the commands
entered_is_command : (stop : Option (Text × List Text)) (name : Text) (rows : List Row)
    → entered (built spprof) stop ≡ Some (name, rows) → (c : Command) × IsNamed name c
entered_is_command None name rows e = cc
entered_is_command (Some p) name rows e = elim (found_has_name (λ s. answers_to p.0 (label_of s)) p.1 (built spprof).subs name rows e) [
  | inl is ↦ (Check, sym is)
  | inr (inl is) ↦ (Figures, sym is)
  | inr (inr (inl is)) ↦ (Profile, inl (sym is))
  | inr (inr (inr (inl is))) ↦ (Profile, inr (sym is))
  | inr (inr (inr (inr (inl is)))) ↦ (Compare, sym is)
  | inr (inr (inr (inr (inr (inl is))))) ↦ (Encode, sym is)
  | inr (inr (inr (inr (inr (inr (inl is)))))) ↦ (Migrate, sym is)
  | inr (inr (inr (inr (inr (inr (inr none)))))) ↦ absurd none
]

pub command_named : (words : List Text) (name : Text) (rows : List Row)
    → subcommand_of spprof words ≡ Some (name, rows) → (c : Command) × IsNamed name c
command_named words name rows e =
    entered_is_command (stop_after (built spprof).top.rules (names_of (built spprof)) (argument_words spprof words)) name rows e

-- the number that `get_one` reads, or the one that goes without saying
pub burden_read : {E : Type 0} (G : List ℕ → Result ℕ E → Type 0) (fallback : ℕ) (text : Option Text) (r : Option ℕ)
    → ((t : Text) (x : Result ℕ E) → G t x → ParsesUnsigned 32 10 t x)
    → (text ≡ None → r ≡ None) → ((t : Text) → text ≡ Some t → ReadsOne G t r)
    → IsNumberOr 0 4294967295 fallback text (unwrap_or r fallback)
burden_read G fallback None r parses none value = ap (λ o. unwrap_or o fallback) (none refl)
burden_read {E} G fallback (Some t) r parses none value = go r (value t refl)
  where
    go : (o : Option ℕ) → ReadsOne G t o → IsNumberOr 0 4294967295 fallback (Some t) (unwrap_or o fallback)
    go (Some v) h =
        let read = parses t (Ok v) h in
        ((λ fits. read.1), (λ bad. absurd (bad (read.0.0, omega arith, omega (arith, read.0.1)))))
    go None h = ((λ fits. absurd (parses t (Err h.0) h.1 (fits.0, omega (arith, fits.2)))), (λ bad. refl))

-- the same of a number from some least one on, which a type of its own keeps
pub count_read : {E : Type 0} (least most fallback : ℕ) → most ≤ 4294967295 → (G : List ℕ → Result ℕ E → Type 0) (text : Option Text) (r o : Option ℕ) (n : ℕ)
    → ((t : Text) (x : Result ℕ E) → G t x → ParsesUnsigned 32 10 t x)
    → (text ≡ None → r ≡ None) → ((t : Text) → text ≡ Some t → ReadsOne G t r)
    → MatchOption r (o ≡ None) (λ x. (IsSome o ↔ ((least ≤ x) × (x ≤ most))) × IfSome o (λ p. p ≡ x))
    → UnwrapsOrElse o (λ p. p ≡ fallback) n
    → IsNumberOr least most fallback text n
count_read least most fallback few G None r o n parses none value made kept = go r o (none refl) made kept
  where
    go : (r o : Option ℕ) → r ≡ None → MatchOption r (o ≡ None) (λ x. (IsSome o ↔ ((least ≤ x) × (x ≤ most))) × IfSome o (λ p. p ≡ x)) → UnwrapsOrElse o (λ p. p ≡ fallback) n → n ≡ fallback
    go (Some v) o e made kept = cc
    go None (Some p) e made kept = cc
    go None None e made kept = kept
count_read least most fallback few G (Some t) r o n parses none value made kept = go r o (value t refl) made kept
  where
    go : (r o : Option ℕ) → ReadsOne G t r
        → MatchOption r (o ≡ None) (λ x. (IsSome o ↔ ((least ≤ x) × (x ≤ most))) × IfSome o (λ p. p ≡ x)) → UnwrapsOrElse o (λ p. p ≡ fallback) n
        → IsNumberOr least most fallback (Some t) n
    go (Some v) (Some p) h made kept =
        let read = parses t (Ok v) h in
        let bounds = made.0.0 refl in
        ((λ fits. kept ∙ made.1 ∙ read.1), (λ bad. absurd (bad (read.0.0, omega (arith, read.1, bounds.0), omega (arith, read.1, bounds.1)))))
    go (Some v) None h made kept =
        let read = parses t (Ok v) h in (
          (λ fits.
              let some : false ≡ true = made.0.1 (omega (arith, read.1, fits.1), omega (arith, read.1, fits.2)) in
              cc),
          (λ bad. kept),
        )
    go None (Some p) h made kept = cc
    go None None h made kept = ((λ fits. absurd (parses t (Err h.0) h.1 (fits.0, omega (arith, fits.2, few)))), (λ bad. kept))
