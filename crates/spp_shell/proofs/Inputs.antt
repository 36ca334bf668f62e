-- Why a run has no answer, from what its inputs gave.
use Rattle.std.proofs.Common.{◌≡◌, ℕ, List, [], ◌∷◌, ◌++◌, inl, inr, ap, refl, sym, subst}
use Rattle.std.specs.Prelude.{slice_index_or, Result, Ok, Err, IfOk, IfErr, IsErrAnd}
use Rattle.std.specs.String.{string_bytes}
use Rattle.std.proofs.lemmas.Result.{err_from_is_err_and}
use Rattle.spp_shell.specs.Check.{IsOneCheckLine, TellsHeader}
use Rattle.spp_shell.specs.Compare.{IsCompareLine, IsGoodTrace, TellsFault, TellsFaultAt}
use Rattle.spp_shell.specs.Devices.{Giving, WasRead, inputs_of}
use Rattle.spp_shell.specs.Inputs.{IsInputRefused, IsRefusedBy, NoLine}
use Rattle.spp_shell.specs.Places.{place_words}
use Rattle.spp_shell.specs.Tasks.{IfLine, PlacedLike}
use Rattle.spp_shell.specs.declared.place.Place.{Place}
use Rattle.spp_shell.specs.declared.place.Place.TheVariants.{Before, After}
use Rattle.spp_shell.specs.declared.refusal.Refusal.{Refusal}
use Rattle.spp_shell.specs.declared.refusal.Refusal.TheVariants as refusal

-- of two inputs the first is refused, and the second was not used
pub before_refused : (g h : Giving) → h.Untouched → (r : Refusal) → IsInputRefused g Before (TellsFaultAt Before) r → IsRefusedBy (inputs_of g h) Before IsCompareLine r
before_refused g h unused (refusal.Line told) (inl (bytes, gave, line)) = inl (bytes ∷ [], (gave, unused), inl (bytes, refl, line))
before_refused g h unused (refusal.Line told) (inr (front, began, line)) =
    inr ([], front, (began, unused), λ more. inl (front ++ more, refl, line more))
before_refused g h unused (refusal.Unread trouble) (fault, is, refused) = inl (fault, is, refused, unused)
before_refused g h unused refusal.Memory within = inl (within, unused)

-- of two inputs the first is good, and the second is refused
pub after_refused : (g h : Giving) (before : List ℕ) → g.Gave before → IsGoodTrace before → (r : Refusal) → IsInputRefused h After (TellsFaultAt After) r
    → IsRefusedBy (inputs_of g h) Before IsCompareLine r
after_refused g h before gave good (refusal.Line told) (inl (bytes, gave2, line)) =
    inl (before ∷ bytes ∷ [], (gave, gave2), inr (before, bytes, refl, good, line))
after_refused g h before gave good (refusal.Line told) (inr (front, began, line)) =
    inr (before ∷ [], front, (gave, began), λ more. inr (before, front ++ more, refl, good, line more))
after_refused g h before gave good (refusal.Unread trouble) (fault, is, refused) = inr (fault, is, (refl, (before, gave, good)), refused)
after_refused g h before gave good refusal.Memory within = inr ((refl, (before, gave, good)), within)

-- the line for bytes that are refused, with the words for their input before it
placed_line : (place : Place) (bytes told line : List ℕ) → IsOneCheckLine bytes told → line ≡ place_words place ++ told → TellsFaultAt place bytes line
placed_line place bytes told line (read, same, tells) is =
    (told, subst (λ (l : List ℕ). TellsFault l told) (sym (ap (λ (inputs : List (List ℕ)). slice_index_or inputs 0 []) same)) tells, is)

-- the same of an input; any other refusal stays
pub placed_refused : (g : Giving) (place : Place) → ((bytes : List ℕ) → g.Gave bytes → g.Within) → ((front : List ℕ) → g.Began front → g.Within)
    → (r placed : Refusal) → IsInputRefused g place IsOneCheckLine r → PlacedLike place r placed → IsInputRefused g place (TellsFaultAt place) placed
placed_refused g place within begun (refusal.Line told) (refusal.Line line) (inl (bytes, gave, tells)) is =
    inl (bytes, gave, placed_line place bytes (string_bytes told) (string_bytes line) tells is)
placed_refused g place within begun (refusal.Line told) (refusal.Line line) (inr (front, began, tells)) is =
    inr (front, began, λ more. placed_line place (front ++ more) (string_bytes told) (string_bytes line) (tells more) is)
placed_refused g place within begun (refusal.Line told) (refusal.Unread trouble) refused is = absurd is
placed_refused g place within begun (refusal.Line told) refusal.Memory (inl (bytes, gave, tells)) is = within bytes gave
placed_refused g place within begun (refusal.Line told) refusal.Memory (inr (front, began, tells)) is = begun front began
placed_refused g place within begun (refusal.Unread trouble) placed refused is = subst (λ x. IsInputRefused g place (TellsFaultAt place) x) (sym is) refused
placed_refused g place within begun refusal.Memory placed refused is = subst (λ x. IsInputRefused g place (TellsFaultAt place) x) (sym is) refused

-- lines of one kind are of another
pub refused_as : (g : Giving) (place : Place) (P Q : List ℕ → List ℕ → Type 0) → ((bytes told : List ℕ) → P bytes told → Q bytes told) → (r : Refusal)
    → IsInputRefused g place P r → IsInputRefused g place Q r
refused_as g place P Q all (refusal.Line told) (inl (bytes, gave, line)) = inl (bytes, gave, all bytes (string_bytes told) line)
refused_as g place P Q all (refusal.Line told) (inr (front, began, line)) = inr (front, began, λ more. all (front ++ more) (string_bytes told) (line more))
refused_as g place P Q all (refusal.Unread trouble) refused = refused
refused_as g place P Q all refusal.Memory within = within

pub refused_unread : (g : Giving) (place : Place) (Q : List ℕ → List ℕ → Type 0) (r : Refusal) → IsInputRefused g place NoLine r → IsInputRefused g place Q r
refused_unread g place Q r is = refused_as g place NoLine Q (λ bytes told no. absurd no) r is

-- an input that began with bytes that have the line whatever follows them
pub foreseen_refused : (g : Giving) (place : Place) (LineFor : List ℕ → List ℕ → Type 0) (front : List ℕ) → g.Began front → g.Within → (r : Refusal)
    → IfLine r (λ told. (more : List ℕ) → LineFor (front ++ more) told) → IsInputRefused g place LineFor r
foreseen_refused g place LineFor front began within (refusal.Line told) is = inr (front, began, is)
foreseen_refused g place LineFor front began within (refusal.Unread trouble) is = absurd is
foreseen_refused g place LineFor front began within refusal.Memory is = within

-- the line for the header is that of `check`
pub header_checked : (bytes told : List ℕ) → TellsHeader bytes told → IsOneCheckLine bytes told
header_checked bytes told tells = (bytes, refl, inl tells)

-- of the inputs of a run the first alone was used, and is refused
pub told_so : (g h : Giving) → h.Untouched → (place : Place) (LineFor : List (List ℕ) → List ℕ → Type 0) (e : Refusal)
    → IsInputRefused g place (λ bytes told. LineFor (bytes ∷ []) told) e → IsRefusedBy (inputs_of g h) place LineFor e
told_so g h unused place LineFor (refusal.Line told) (inl (bytes, gave, line)) = inl (bytes ∷ [], (gave, unused), line)
told_so g h unused place LineFor (refusal.Line told) (inr (front, began, line)) = inr ([], front, (began, unused), line)
told_so g h unused place LineFor (refusal.Unread trouble) (fault, is, refused) = inl (fault, is, refused, unused)
told_so g h unused place LineFor refusal.Memory within = inl (within, unused)

-- the exit of a `?`, of whose error a fact holds
pub err_again : {T : Type 0} (r : Result T Refusal) (e : Refusal) (P : Refusal → Type 0) → IsErrAnd r (λ y. y ≡ e) → P e → IfErr r P
err_again r e P is p =
    let found = err_from_is_err_and r is in
    subst (λ x. IfErr x P) (sym found.1) (subst P (sym found.2) p)

-- what is answered for the one input that a task reads
module _ {T : Type 0} (items : T → List ℕ) (g h : Giving) (unused : h.Untouched) where
  pub answered_by : (TextFor : List (List ℕ) → List ℕ → Type 0) (r : Result T Refusal) → IfOk r (λ text. (bytes : List ℕ) × g.Gave bytes × TextFor (bytes ∷ []) (items text))
      → IfOk r (λ text. (inputs : List (List ℕ)) × WasRead (inputs_of g h) inputs × TextFor inputs (items text))
  answered_by TextFor (Ok text) (bytes, gave, is) = (bytes ∷ [], (gave, unused), is)
  answered_by TextFor (Err e) is = tt

  pub told_by : (place : Place) (LineFor : List (List ℕ) → List ℕ → Type 0) (r : Result T Refusal) → IfErr r (IsInputRefused g place (λ bytes told. LineFor (bytes ∷ []) told))
      → IfErr r (IsRefusedBy (inputs_of g h) place LineFor)
  told_by place LineFor (Ok text) is = tt
  told_by place LineFor (Err e) is = told_so g h unused place LineFor e is
