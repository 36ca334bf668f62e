-- What is told of an input, from the bytes that it gave.
use Rattle.std.proofs.Common.{◌≡◌, ℕ, List, [], ap, inl}
use Rattle.std.specs.Prelude.{Result, Ok, Err, IfOk, IfErr}
use Rattle.spp_event.specs.Recordings.{Recording}
use Rattle.spp_event.specs.declared.version.Version.TheVariants.{One}
use Rattle.spp_site.specs.declared.profile.Profile.{Profile}
use Rattle.spp_report.specs.Plain.{plain_text}
use Rattle.spp_shell.specs.Devices.{Giving}
use Rattle.spp_shell.specs.Inputs.{IsInputRefused}
use Rattle.spp_shell.specs.Tasks.{IfLine}
use Rattle.spp_shell.specs.declared.place.Place.{Place}
use Rattle.spp_shell.specs.declared.refusal.Refusal.{Refusal}
use Rattle.spp_shell.specs.declared.refusal.Refusal.TheVariants as refusal

-- what is told of bytes that an input gave
pub told_of_given : {T : Type 0} (g : Giving) (bytes : List ℕ) → g.Gave bytes → (Tells : List ℕ → T → Type 0) (r : Result T Refusal) → IfOk r (Tells bytes) → IfOk r (λ told. (bytes : List ℕ) × g.Gave bytes × Tells bytes told)
told_of_given g bytes gave Tells (Ok told) is = (bytes, gave, is)
told_of_given g bytes gave Tells (Err e) is = tt

-- the line for them
pub line_of_given : (g : Giving) (bytes : List ℕ) → g.Gave bytes → g.Within → (place : Place) (LineFor : List ℕ → List ℕ → Type 0) (e : Refusal) → IfLine e (LineFor bytes) → IsInputRefused g place LineFor e
line_of_given g bytes gave within place LineFor (refusal.Line told) is = inl (bytes, gave, is)
line_of_given g bytes gave within place LineFor (refusal.Unread trouble) is = absurd is
line_of_given g bytes gave within place LineFor refusal.Memory is = within

-- why nothing is told of them
pub refused_of_given : {T : Type 0} (g : Giving) (bytes : List ℕ) → g.Gave bytes → g.Within → (place : Place) (LineFor : List ℕ → List ℕ → Type 0) (r : Result T Refusal) → IfErr r (λ e. IfLine e (LineFor bytes))
    → IfErr r (IsInputRefused g place LineFor)
refused_of_given g bytes gave within place LineFor (Ok told) is = tt
refused_of_given g bytes gave within place LineFor (Err e) is = line_of_given g bytes gave within place LineFor e is

-- the text depends on the names alone
pub plain_like : (t u : Recording) (p : Profile) → t.sites ≡ u.sites → plain_text t p ≡ plain_text u p
plain_like t u p same = ap (λ (names : List (List ℕ)). plain_text (record { funcs = []; sites = names; root = 0; records = []; version = One; body = [] }) p) same
