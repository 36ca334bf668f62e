use Rattle.std.proofs.Common.{◌≡◌, ◌∙◌, ◌==◌, inl, inr, refl, sym, arith, subst, ℕ, true, false, List, [], ◌∷◌, Option, Some, None, unwrap_or, codes, ap, ap₂}
use Rattle.std.specs.Option.{option_map}
use Rattle.std.specs.Str.{bytes_eq}
use Rattle.std.specs.String.{string_bytes}
use Rattle.clap.specs.Walk.{Row, Text}
use Rattle.clap.specs.Simple.{subcommand_of}
use Rattle.clap.specs.declared.parser.matches.ValueSource.TheVariants.{CommandLine, DefaultValue}
use Rattle.clap.specs.declared.builder.value_parser.Reading.{Reading}
use Rattle.clap.specs.declared.builder.value_parser.Reading.TheVariants.{AsWritten, WithoutMinus}
use Rattle.spp_maxplus.specs.declared.state.Burdens.{Burdens}
use Rattle.spp_maxplus.specs.State.{equal}
use Rattle.spp_command_line.specs.Spprof.{spprof}
use Rattle.spp_command_line.specs.Laws.{AreOptions, Ask, AskAdvice, CommandAlone, Dash, Fail, Help, HelpBefore, OneWord, TwoWords, name_of}
use Rattle.clap.proofs.OnLiterals.{clap_on_literals}
use Rattle.spp_request.specs.declared.advise_options.AdviseOptions.{AdviseOptions}
use Rattle.spp_request.specs.declared.request.Command.{Command}
use Rattle.spp_request.specs.declared.request.Command.TheVariants.{Check, Figures, Profile, Compare, Encode, Migrate}
use Rattle.spp_command_line.specs.Usage.{Gives, GivesAdvice, IsAdvised, IsAskedBy, IsFlag, IsNamed, IsNumberIn, IsNumberOr, number_of, paths_of, spoken}
use Rattle.clap.specs.declared.error.kind.ErrorKind.TheVariants.{DisplayHelp, UnknownArgument}
use Rattle.spp_command_line.proofs.laws.word_laws.Goals as goal

-- a name is one command's
is_check : (c : Command) → IsNamed (codes "check") c → c ≡ Check
is_check Check e = refl
is_check Figures e =
    let bad : true ≡ false = ap (λ (t : Text). bytes_eq t (codes "check")) e in
    cc
is_check Profile (inl e) =
    let bad : true ≡ false = ap (λ (t : Text). bytes_eq t (codes "check")) e in
    cc
is_check Profile (inr e) =
    let bad : true ≡ false = ap (λ (t : Text). bytes_eq t (codes "check")) e in
    cc
is_check Compare e =
    let bad : true ≡ false = ap (λ (t : Text). bytes_eq t (codes "check")) e in
    cc
is_check Encode e =
    let bad : true ≡ false = ap (λ (t : Text). bytes_eq t (codes "check")) e in
    cc
is_check Migrate e =
    let bad : true ≡ false = ap (λ (t : Text). bytes_eq t (codes "check")) e in
    cc

is_figures : (c : Command) → IsNamed (codes "figures") c → c ≡ Figures
is_figures Check e =
    let bad : true ≡ false = ap (λ (t : Text). bytes_eq t (codes "figures")) e in
    cc
is_figures Figures e = refl
is_figures Profile (inl e) =
    let bad : true ≡ false = ap (λ (t : Text). bytes_eq t (codes "figures")) e in
    cc
is_figures Profile (inr e) =
    let bad : true ≡ false = ap (λ (t : Text). bytes_eq t (codes "figures")) e in
    cc
is_figures Compare e =
    let bad : true ≡ false = ap (λ (t : Text). bytes_eq t (codes "figures")) e in
    cc
is_figures Encode e =
    let bad : true ≡ false = ap (λ (t : Text). bytes_eq t (codes "figures")) e in
    cc
is_figures Migrate e =
    let bad : true ≡ false = ap (λ (t : Text). bytes_eq t (codes "figures")) e in
    cc

is_profile : (c : Command) → IsNamed (codes "profile") c → c ≡ Profile
is_profile Check e =
    let bad : true ≡ false = ap (λ (t : Text). bytes_eq t (codes "profile")) e in
    cc
is_profile Figures e =
    let bad : true ≡ false = ap (λ (t : Text). bytes_eq t (codes "profile")) e in
    cc
is_profile Profile e = refl
is_profile Compare e =
    let bad : true ≡ false = ap (λ (t : Text). bytes_eq t (codes "profile")) e in
    cc
is_profile Encode e =
    let bad : true ≡ false = ap (λ (t : Text). bytes_eq t (codes "profile")) e in
    cc
is_profile Migrate e =
    let bad : true ≡ false = ap (λ (t : Text). bytes_eq t (codes "profile")) e in
    cc

is_advise : (c : Command) → IsNamed (codes "advise") c → c ≡ Profile
is_advise Check e =
    let bad : true ≡ false = ap (λ (t : Text). bytes_eq t (codes "advise")) e in
    cc
is_advise Figures e =
    let bad : true ≡ false = ap (λ (t : Text). bytes_eq t (codes "advise")) e in
    cc
is_advise Profile e = refl
is_advise Compare e =
    let bad : true ≡ false = ap (λ (t : Text). bytes_eq t (codes "advise")) e in
    cc
is_advise Encode e =
    let bad : true ≡ false = ap (λ (t : Text). bytes_eq t (codes "advise")) e in
    cc
is_advise Migrate e =
    let bad : true ≡ false = ap (λ (t : Text). bytes_eq t (codes "advise")) e in
    cc

is_encode : (c : Command) → IsNamed (codes "encode") c → c ≡ Encode
is_encode Check e =
    let bad : true ≡ false = ap (λ (t : Text). bytes_eq t (codes "encode")) e in
    cc
is_encode Figures e =
    let bad : true ≡ false = ap (λ (t : Text). bytes_eq t (codes "encode")) e in
    cc
is_encode Profile (inl e) =
    let bad : true ≡ false = ap (λ (t : Text). bytes_eq t (codes "encode")) e in
    cc
is_encode Profile (inr e) =
    let bad : true ≡ false = ap (λ (t : Text). bytes_eq t (codes "encode")) e in
    cc
is_encode Compare e =
    let bad : true ≡ false = ap (λ (t : Text). bytes_eq t (codes "encode")) e in
    cc
is_encode Encode e = refl
is_encode Migrate e =
    let bad : true ≡ false = ap (λ (t : Text). bytes_eq t (codes "encode")) e in
    cc

is_migrate : (c : Command) → IsNamed (codes "migrate") c → c ≡ Migrate
is_migrate Check e =
    let bad : true ≡ false = ap (λ (t : Text). bytes_eq t (codes "migrate")) e in
    cc
is_migrate Figures e =
    let bad : true ≡ false = ap (λ (t : Text). bytes_eq t (codes "migrate")) e in
    cc
is_migrate Profile (inl e) =
    let bad : true ≡ false = ap (λ (t : Text). bytes_eq t (codes "migrate")) e in
    cc
is_migrate Profile (inr e) =
    let bad : true ≡ false = ap (λ (t : Text). bytes_eq t (codes "migrate")) e in
    cc
is_migrate Compare e =
    let bad : true ≡ false = ap (λ (t : Text). bytes_eq t (codes "migrate")) e in
    cc
is_migrate Encode e =
    let bad : true ≡ false = ap (λ (t : Text). bytes_eq t (codes "migrate")) e in
    cc
is_migrate Migrate e = refl

is_compare : (c : Command) → IsNamed (codes "compare") c → c ≡ Compare
is_compare Check e =
    let bad : true ≡ false = ap (λ (t : Text). bytes_eq t (codes "compare")) e in
    cc
is_compare Figures e =
    let bad : true ≡ false = ap (λ (t : Text). bytes_eq t (codes "compare")) e in
    cc
is_compare Profile (inl e) =
    let bad : true ≡ false = ap (λ (t : Text). bytes_eq t (codes "compare")) e in
    cc
is_compare Profile (inr e) =
    let bad : true ≡ false = ap (λ (t : Text). bytes_eq t (codes "compare")) e in
    cc
is_compare Compare e = refl
is_compare Encode e =
    let bad : true ≡ false = ap (λ (t : Text). bytes_eq t (codes "compare")) e in
    cc
is_compare Migrate e =
    let bad : true ≡ false = ap (λ (t : Text). bytes_eq t (codes "compare")) e in
    cc

-- --burden alone is for edges of both kinds
as_given : (b : Burdens) {n : ℕ} → (b.continuation ≡ n) × (b.join ≡ b.continuation) → b ≡ equal n
as_given b e = ap₂ (λ c j. let x : Burdens = record { continuation = c; join = j } in x) e.0 (e.1 ∙ e.0)

-- and --join-burden for one kind
each_given : (b : Burdens) {m n : ℕ} → b.continuation ≡ m → b.join ≡ n → b ≡ record { continuation = m; join = n }
each_given b p q = ap₂ (λ c j. let x : Burdens = record { continuation = c; join = j } in x) p q

burden_0 : IsNumberIn 0 4294967295 (codes "0")
burden_0 = ((omega arith, (omega arith, tt)), omega arith, omega arith)

burden_3 : IsNumberIn 0 4294967295 (codes "3")
burden_3 = ((omega arith, (omega arith, tt)), omega arith, omega arith)

burden_most : IsNumberIn 0 4294967295 (codes "4294967295")
burden_most = ((omega arith, (omega arith, (omega arith, (omega arith, (omega arith, (omega arith, (omega arith, (omega arith, (omega arith, (omega arith, (omega arith, tt))))))))))), omega arith, omega arith)

burden_7 : IsNumberIn 0 4294967295 (codes "7")
burden_7 = ((omega arith, (omega arith, tt)), omega arith, omega arith)

parts_4 : IsNumberIn 1 65536 (codes "4")
parts_4 = ((omega arith, (omega arith, tt)), omega arith, omega arith)

parts_unsaid : IsNumberIn 1 65536 (codes "16")
parts_unsaid = ((omega arith, (omega arith, (omega arith, tt))), omega arith, omega arith)

parts_7 : IsNumberIn 1 65536 (codes "7")
parts_7 = ((omega arith, (omega arith, tt)), omega arith, omega arith)

workers_2 : IsNumberIn 1 64 (codes "2")
workers_2 = ((omega arith, (omega arith, tt)), omega arith, omega arith)

workers_unsaid : IsNumberIn 1 64 (codes "4")
workers_unsaid = ((omega arith, (omega arith, tt)), omega arith, omega arith)

burden_unsaid : IsNumberIn 0 4294967295 (codes "15000")
burden_unsaid = ((omega arith, (omega arith, (omega arith, (omega arith, (omega arith, (omega arith, tt)))))), omega arith, omega arith)

-- a text that spells a number in the bounds gives that number
spells : {least most fallback : ℕ} (text : Text) → IsNumberIn least most text → IsNumberOr least most fallback (Some text) (number_of text)
spells text fits = ((λ yes. refl), (λ no. absurd (no fits)))

-- a flag that the command hasn't got, one that isn't set, and one that is
no_flag : IsFlag None false
no_flag = ((λ e. refl), (λ e. refl), (λ e. cc))

flag_off : IsFlag (Some (codes "false")) false
flag_off = ((λ e. refl), (λ e. refl), bad)
  where
    bad : Some (codes "false") ≡ Some (codes "true") → false ≡ true
    bad e = ap (λ (o : Option Text). bytes_eq (unwrap_or o []) (codes "true")) e

flag_on : IsFlag (Some (codes "true")) true
flag_on = ((λ e. cc), bad, (λ e. refl))
  where
    bad : Some (codes "true") ≡ Some (codes "false") → true ≡ false
    bad e = ap (λ (o : Option Text). bytes_eq (unwrap_or o []) (codes "true")) e

pub returns-clause-figures_in_parts : goal.returns-clause-figures_in_parts
unfolding clap_on_literals
returns-clause-figures_in_parts c = (refl, (λ a h. (is_figures a.request.command h.0, h.1, as_given a.request.burdens (h.2.0.0 burden_7, h.2.1), h.3.0 parts_4, h.4.0 workers_unsaid, h.5.0 refl, h.6.1 refl)), (refl, refl, (spells (codes "7") burden_7, refl), spells (codes "4") parts_4, spells (codes "4") workers_unsaid, no_flag, flag_off))

pub returns-clause-profile_as_csv : goal.returns-clause-profile_as_csv
unfolding clap_on_literals
returns-clause-profile_as_csv c = (refl, (λ a h. (is_profile a.request.command h.0, h.1, as_given a.request.burdens (h.2.0.0 burden_unsaid, h.2.1), h.3.0 parts_unsaid, h.4.0 workers_unsaid, h.5.2 refl, h.6.1 refl)), (inl refl, refl, (spells (codes "15000") burden_unsaid, refl), spells (codes "16") parts_unsaid, spells (codes "4") workers_unsaid, flag_on, flag_off))

pub returns-clause-profile_by_workers : goal.returns-clause-profile_by_workers
unfolding clap_on_literals
returns-clause-profile_by_workers c = (
  refl,
  (λ a h. (is_profile a.request.command h.0, h.1, as_given a.request.burdens (h.2.0.0 burden_unsaid, h.2.1), h.3.0 parts_7, h.4.0 workers_2, h.5.1 refl, h.6.1 refl)),
  (inl refl, refl, (spells (codes "15000") burden_unsaid, refl), spells (codes "7") parts_7, spells (codes "2") workers_2, flag_off, flag_off),
)

pub returns-clause-explained : goal.returns-clause-explained
unfolding clap_on_literals
returns-clause-explained c = (
  (refl, (λ a h. (is_check a.request.command h.0, h.1, as_given a.request.burdens h.2, h.3, h.4, h.5.0 refl, h.6.2 refl)), (refl, refl, (refl, refl), refl, refl, no_flag, flag_on)),
  (refl, (λ a h. (is_figures a.request.command h.0, h.1, as_given a.request.burdens (h.2.0.0 burden_unsaid, h.2.1), h.3.0 parts_unsaid, h.4.0 workers_unsaid, h.5.0 refl, h.6.2 refl)), (refl, refl, (spells (codes "15000") burden_unsaid, refl), spells (codes "16") parts_unsaid, spells (codes "4") workers_unsaid, no_flag, flag_on)),
  (refl, (λ a h. (is_profile a.request.command h.0, h.1, as_given a.request.burdens (h.2.0.0 burden_unsaid, h.2.1), h.3.0 parts_unsaid, h.4.0 workers_unsaid, h.5.2 refl, h.6.2 refl)), (inl refl, refl, (spells (codes "15000") burden_unsaid, refl), spells (codes "16") parts_unsaid, spells (codes "4") workers_unsaid, flag_on, flag_on)),
  (refl, (λ a h. (is_compare a.request.command h.0, h.1, as_given a.request.burdens (h.2.0.0 burden_unsaid, h.2.1), h.3.0 parts_unsaid, h.4.0 workers_unsaid, h.5.0 refl, h.6.2 refl)), (refl, refl, (spells (codes "15000") burden_unsaid, refl), spells (codes "16") parts_unsaid, spells (codes "4") workers_unsaid, no_flag, flag_on)),
  (refl, (λ a h. (is_encode a.request.command h.0, h.1, as_given a.request.burdens h.2, h.3, h.4, h.5.0 refl, h.6.2 refl)), (refl, refl, (refl, refl), refl, refl, no_flag, flag_on)),
  (refl, (λ a h. (is_migrate a.request.command h.0, h.1, as_given a.request.burdens h.2, h.3, h.4, h.5.0 refl, h.6.2 refl)), (refl, refl, (refl, refl), refl, refl, no_flag, flag_on)),
)

pub returns-clause-join_burden : goal.returns-clause-join_burden
unfolding clap_on_literals
returns-clause-join_burden c = (
  refl,
  (λ a h. (is_figures a.request.command h.0, h.1, each_given a.request.burdens (h.2.0.0 burden_unsaid) (h.2.1.0 burden_3), h.3.0 parts_unsaid, h.4.0 workers_unsaid, h.5.0 refl, h.6.1 refl)),
  (refl, refl, (spells (codes "15000") burden_unsaid, spells (codes "3") burden_3), spells (codes "16") parts_unsaid, spells (codes "4") workers_unsaid, no_flag, flag_off),
)

pub returns-clause-two_burdens : goal.returns-clause-two_burdens
unfolding clap_on_literals
returns-clause-two_burdens c = (
  (
    refl,
    (λ a h. (is_profile a.request.command h.0, h.1, each_given a.request.burdens (h.2.0.0 burden_3) (h.2.1.0 burden_0), h.3.0 parts_unsaid, h.4.0 workers_unsaid, h.5.1 refl, h.6.1 refl)),
    (inl refl, refl, (spells (codes "3") burden_3, spells (codes "0") burden_0), spells (codes "16") parts_unsaid, spells (codes "4") workers_unsaid, flag_off, flag_off),
  ),
  (
    refl,
    (λ a h. (is_profile a.request.command h.0, h.1, each_given a.request.burdens (h.2.0.0 burden_3) (h.2.1.0 burden_0), h.3.0 parts_unsaid, h.4.0 workers_unsaid, h.5.1 refl, h.6.1 refl)),
    (inl refl, refl, (spells (codes "3") burden_3, spells (codes "0") burden_0), spells (codes "16") parts_unsaid, spells (codes "4") workers_unsaid, flag_off, flag_off),
  ),
)

pub returns-clause-great_burdens : goal.returns-clause-great_burdens
unfolding clap_on_literals
returns-clause-great_burdens c = (
  (refl, (λ a h. (is_figures a.request.command h.0, h.1, as_given a.request.burdens (h.2.0.0 burden_most, h.2.1), h.3.0 parts_unsaid, h.4.0 workers_unsaid, h.5.0 refl, h.6.1 refl)), (refl, refl, (spells (codes "4294967295") burden_most, refl), spells (codes "16") parts_unsaid, spells (codes "4") workers_unsaid, no_flag, flag_off)),
  (
    refl,
    (λ a h. (is_figures a.request.command h.0, h.1, each_given a.request.burdens (h.2.0.0 burden_0) (h.2.1.0 burden_most), h.3.0 parts_unsaid, h.4.0 workers_unsaid, h.5.0 refl, h.6.1 refl)),
    (refl, refl, (spells (codes "0") burden_0, spells (codes "4294967295") burden_most), spells (codes "16") parts_unsaid, spells (codes "4") workers_unsaid, no_flag, flag_off),
  ),
  refl,
  refl,
)

pub returns-clause-no_command : goal.returns-clause-no_command
unfolding clap_on_literals
returns-clause-no_command c = refl

pub returns-clause-version : goal.returns-clause-version
unfolding clap_on_literals
returns-clause-version c = refl

pub returns-clause-no_parts : goal.returns-clause-no_parts
unfolding clap_on_literals
returns-clause-no_parts c = (refl, refl)

pub returns-clause-no_workers : goal.returns-clause-no_workers
unfolding clap_on_literals
returns-clause-no_workers c = (refl, refl, refl, refl)

-- what `clap` holds for words of the command line, and for defaults
unfoldable given : Text → List Text → Row
given id values = record { id = id; values = values; count = None; source = Some CommandLine; reading = AsWritten }

unfoldable unsaid : Text → Text → Reading → Row
unsaid id value how = record { id = id; values = value ∷ []; count = None; source = Some DefaultValue; reading = how }

one_check : (x : ℕ) (rest : Text) → (x == 45) ≡ false → Ask (codes "check" ∷ (x ∷ rest) ∷ []) Check ((x ∷ rest) ∷ []) (equal 15000) 16 4 false
unfolding clap_on_literals given unsaid
one_check x rest plain =
    let rows : List Row = given (codes "FILE") ((x ∷ rest) ∷ []) ∷ unsaid (codes "explain") (codes "false") AsWritten ∷ [] in
    let found : subcommand_of spprof (codes "spprof" ∷ codes "check" ∷ (x ∷ rest) ∷ []) ≡ Some (codes "check", rows) = simp plain in
    let path : paths_of (Some (x ∷ rest)) None None ≡ (x ∷ rest) ∷ [] = simp plain in (
      simp plain,
      (λ a h.
          let q : IsAskedBy (Some (codes "check", rows)) a = subst (λ o. IsAskedBy o a) found h in
          (is_check a.request.command q.0, q.1 ∙ path, as_given a.request.burdens q.2, q.3, q.4, q.5.0 refl, q.6.1 refl)),
      subst (λ o. Gives o Check ((x ∷ rest) ∷ []) (equal 15000) 16 4 false false) (sym found) (refl, sym path, (refl, refl), refl, refl, no_flag, flag_off),
    )

one_figures : (x : ℕ) (rest : Text) → (x == 45) ≡ false → Ask (codes "figures" ∷ (x ∷ rest) ∷ []) Figures ((x ∷ rest) ∷ []) (equal 15000) 16 4 false
unfolding clap_on_literals given unsaid
one_figures x rest plain =
    let rows : List Row = given (codes "FILE") ((x ∷ rest) ∷ []) ∷ unsaid (codes "burden") (codes "15000") WithoutMinus ∷ unsaid (codes "parts") (codes "16") WithoutMinus ∷ unsaid (codes "workers") (codes "4") WithoutMinus ∷ unsaid (codes "explain") (codes "false") AsWritten ∷ [] in
    let found : subcommand_of spprof (codes "spprof" ∷ codes "figures" ∷ (x ∷ rest) ∷ []) ≡ Some (codes "figures", rows) = simp plain in
    let path : paths_of (Some (x ∷ rest)) None None ≡ (x ∷ rest) ∷ [] = simp plain in (
      simp plain,
      (λ a h.
          let q : IsAskedBy (Some (codes "figures", rows)) a = subst (λ o. IsAskedBy o a) found h in
          (is_figures a.request.command q.0, q.1 ∙ path, as_given a.request.burdens (q.2.0.0 burden_unsaid, q.2.1), q.3.0 parts_unsaid, q.4.0 workers_unsaid, q.5.0 refl, q.6.1 refl)),
      subst (λ o. Gives o Figures ((x ∷ rest) ∷ []) (equal 15000) 16 4 false false) (sym found) (refl, sym path, (spells (codes "15000") burden_unsaid, refl), spells (codes "16") parts_unsaid, spells (codes "4") workers_unsaid, no_flag, flag_off),
    )

one_profile : (x : ℕ) (rest : Text) → (x == 45) ≡ false → Ask (codes "profile" ∷ (x ∷ rest) ∷ []) Profile ((x ∷ rest) ∷ []) (equal 15000) 16 4 false
unfolding clap_on_literals given unsaid
one_profile x rest plain =
    let rows : List Row = given (codes "FILE") ((x ∷ rest) ∷ []) ∷ unsaid (codes "burden") (codes "15000") WithoutMinus ∷ unsaid (codes "parts") (codes "16") WithoutMinus ∷ unsaid (codes "workers") (codes "4") WithoutMinus ∷ unsaid (codes "csv") (codes "false") AsWritten ∷ unsaid (codes "explain") (codes "false") AsWritten ∷ [] in
    let found : subcommand_of spprof (codes "spprof" ∷ codes "profile" ∷ (x ∷ rest) ∷ []) ≡ Some (codes "profile", rows) = simp plain in
    let path : paths_of (Some (x ∷ rest)) None None ≡ (x ∷ rest) ∷ [] = simp plain in (
      simp plain,
      (λ a h.
          let q : IsAskedBy (Some (codes "profile", rows)) a = subst (λ o. IsAskedBy o a) found h in
          (is_profile a.request.command q.0, q.1 ∙ path, as_given a.request.burdens (q.2.0.0 burden_unsaid, q.2.1), q.3.0 parts_unsaid, q.4.0 workers_unsaid, q.5.1 refl, q.6.1 refl)),
      subst (λ o. Gives o Profile ((x ∷ rest) ∷ []) (equal 15000) 16 4 false false) (sym found) (inl refl, sym path, (spells (codes "15000") burden_unsaid, refl), spells (codes "16") parts_unsaid, spells (codes "4") workers_unsaid, flag_off, flag_off),
    )

one_encode : (x : ℕ) (rest : Text) → (x == 45) ≡ false → Ask (codes "encode" ∷ (x ∷ rest) ∷ []) Encode ((x ∷ rest) ∷ []) (equal 15000) 16 4 false
unfolding clap_on_literals given unsaid
one_encode x rest plain =
    let rows : List Row = given (codes "FILE") ((x ∷ rest) ∷ []) ∷ unsaid (codes "explain") (codes "false") AsWritten ∷ [] in
    let found : subcommand_of spprof (codes "spprof" ∷ codes "encode" ∷ (x ∷ rest) ∷ []) ≡ Some (codes "encode", rows) = simp plain in
    let path : paths_of (Some (x ∷ rest)) None None ≡ (x ∷ rest) ∷ [] = simp plain in (
      simp plain,
      (λ a h.
          let q : IsAskedBy (Some (codes "encode", rows)) a = subst (λ o. IsAskedBy o a) found h in
          (is_encode a.request.command q.0, q.1 ∙ path, as_given a.request.burdens q.2, q.3, q.4, q.5.0 refl, q.6.1 refl)),
      subst (λ o. Gives o Encode ((x ∷ rest) ∷ []) (equal 15000) 16 4 false false) (sym found) (refl, sym path, (refl, refl), refl, refl, no_flag, flag_off),
    )

one_migrate : (x : ℕ) (rest : Text) → (x == 45) ≡ false → Ask (codes "migrate" ∷ (x ∷ rest) ∷ []) Migrate ((x ∷ rest) ∷ []) (equal 15000) 16 4 false
unfolding clap_on_literals given unsaid
one_migrate x rest plain =
    let rows : List Row = given (codes "FILE") ((x ∷ rest) ∷ []) ∷ unsaid (codes "explain") (codes "false") AsWritten ∷ [] in
    let found : subcommand_of spprof (codes "spprof" ∷ codes "migrate" ∷ (x ∷ rest) ∷ []) ≡ Some (codes "migrate", rows) = simp plain in
    let path : paths_of (Some (x ∷ rest)) None None ≡ (x ∷ rest) ∷ [] = simp plain in (
      simp plain,
      (λ a h.
          let q : IsAskedBy (Some (codes "migrate", rows)) a = subst (λ o. IsAskedBy o a) found h in
          (is_migrate a.request.command q.0, q.1 ∙ path, as_given a.request.burdens q.2, q.3, q.4, q.5.0 refl, q.6.1 refl)),
      subst (λ o. Gives o Migrate ((x ∷ rest) ∷ []) (equal 15000) 16 4 false false) (sym found) (refl, sym path, (refl, refl), refl, refl, no_flag, flag_off),
    )

pub returns-clause-one_word : goal.returns-clause-one_word
returns-clause-one_word c = one
  where
    one : OneWord
    one Check x rest over plain = one_check x rest plain
    one Figures x rest over plain = one_figures x rest plain
    one Profile x rest over plain = one_profile x rest plain
    one Compare x rest over plain = absurd over
    one Encode x rest over plain = one_encode x rest plain
    one Migrate x rest over plain = one_migrate x rest plain

two_words : TwoWords
unfolding clap_on_literals
two_words Check x y rest more over plain plain2 = simp (plain, plain2)
two_words Figures x y rest more over plain plain2 = simp (plain, plain2)
two_words Profile x y rest more over plain plain2 = simp (plain, plain2)
two_words Compare x y rest more over plain plain2 = absurd over
two_words Encode x y rest more over plain plain2 = simp (plain, plain2)
two_words Migrate x y rest more over plain plain2 = simp (plain, plain2)

pub returns-clause-two_words : goal.returns-clause-two_words
returns-clause-two_words c = two_words

alone : CommandAlone
unfolding clap_on_literals
alone Check over = (refl, (λ a h. (is_check a.request.command h.0, h.1, as_given a.request.burdens h.2, h.3, h.4, h.5.0 refl, h.6.1 refl)), (refl, refl, (refl, refl), refl, refl, no_flag, flag_off))
alone Figures over = (refl, (λ a h. (is_figures a.request.command h.0, h.1, as_given a.request.burdens (h.2.0.0 burden_unsaid, h.2.1), h.3.0 parts_unsaid, h.4.0 workers_unsaid, h.5.0 refl, h.6.1 refl)), (refl, refl, (spells (codes "15000") burden_unsaid, refl), spells (codes "16") parts_unsaid, spells (codes "4") workers_unsaid, no_flag, flag_off))
alone Profile over = (refl, (λ a h. (is_profile a.request.command h.0, h.1, as_given a.request.burdens (h.2.0.0 burden_unsaid, h.2.1), h.3.0 parts_unsaid, h.4.0 workers_unsaid, h.5.1 refl, h.6.1 refl)), (inl refl, refl, (spells (codes "15000") burden_unsaid, refl), spells (codes "16") parts_unsaid, spells (codes "4") workers_unsaid, flag_off, flag_off))
alone Compare over = absurd over
alone Encode over = (refl, (λ a h. (is_encode a.request.command h.0, h.1, as_given a.request.burdens h.2, h.3, h.4, h.5.0 refl, h.6.1 refl)), (refl, refl, (refl, refl), refl, refl, no_flag, flag_off))
alone Migrate over = (refl, (λ a h. (is_migrate a.request.command h.0, h.1, as_given a.request.burdens h.2, h.3, h.4, h.5.0 refl, h.6.1 refl)), (refl, refl, (refl, refl), refl, refl, no_flag, flag_off))

pub returns-clause-command_alone : goal.returns-clause-command_alone
returns-clause-command_alone c = alone

dash : Dash
unfolding clap_on_literals
dash Check over = (refl, (λ a h. (is_check a.request.command h.0, h.1, as_given a.request.burdens h.2, h.3, h.4, h.5.0 refl, h.6.1 refl)), (refl, refl, (refl, refl), refl, refl, no_flag, flag_off))
dash Figures over = (refl, (λ a h. (is_figures a.request.command h.0, h.1, as_given a.request.burdens (h.2.0.0 burden_unsaid, h.2.1), h.3.0 parts_unsaid, h.4.0 workers_unsaid, h.5.0 refl, h.6.1 refl)), (refl, refl, (spells (codes "15000") burden_unsaid, refl), spells (codes "16") parts_unsaid, spells (codes "4") workers_unsaid, no_flag, flag_off))
dash Profile over = (refl, (λ a h. (is_profile a.request.command h.0, h.1, as_given a.request.burdens (h.2.0.0 burden_unsaid, h.2.1), h.3.0 parts_unsaid, h.4.0 workers_unsaid, h.5.1 refl, h.6.1 refl)), (inl refl, refl, (spells (codes "15000") burden_unsaid, refl), spells (codes "16") parts_unsaid, spells (codes "4") workers_unsaid, flag_off, flag_off))
dash Compare over = absurd over
dash Encode over = (refl, (λ a h. (is_encode a.request.command h.0, h.1, as_given a.request.burdens h.2, h.3, h.4, h.5.0 refl, h.6.1 refl)), (refl, refl, (refl, refl), refl, refl, no_flag, flag_off))
dash Migrate over = (refl, (λ a h. (is_migrate a.request.command h.0, h.1, as_given a.request.burdens h.2, h.3, h.4, h.5.0 refl, h.6.1 refl)), (refl, refl, (refl, refl), refl, refl, no_flag, flag_off))

pub returns-clause-dash : goal.returns-clause-dash
returns-clause-dash c = dash

help : Help
unfolding clap_on_literals
help = (refl, of)
  where
    of : (command : Command) → Fail (name_of command ∷ codes "--help" ∷ []) DisplayHelp
    of Check = refl
    of Figures = refl
    of Profile = refl
    of Compare = refl
    of Encode = refl
    of Migrate = refl

pub returns-clause-help : goal.returns-clause-help
returns-clause-help c = help

help_before : HelpBefore
unfolding clap_on_literals
help_before = (refl, of)
  where
    of : (command : Command) → Fail (codes "help" ∷ name_of command ∷ []) DisplayHelp
    of Check = refl
    of Figures = refl
    of Profile = refl
    of Compare = refl
    of Encode = refl
    of Migrate = refl

pub returns-clause-help_before : goal.returns-clause-help_before
returns-clause-help_before c = help_before

pub returns-clause-compare_both : goal.returns-clause-compare_both
unfolding clap_on_literals
returns-clause-compare_both c = (
  refl,
  (λ a h. (is_compare a.request.command h.0, h.1, as_given a.request.burdens (h.2.0.0 burden_unsaid, h.2.1), h.3.0 parts_unsaid, h.4.0 workers_unsaid, h.5.0 refl, h.6.1 refl)),
  (refl, refl, (spells (codes "15000") burden_unsaid, refl), spells (codes "16") parts_unsaid, spells (codes "4") workers_unsaid, no_flag, flag_off),
)

pub returns-clause-compare_in_parts : goal.returns-clause-compare_in_parts
unfolding clap_on_literals
returns-clause-compare_in_parts c = (
  refl,
  (λ a h. (is_compare a.request.command h.0, h.1, each_given a.request.burdens (h.2.0.0 burden_3) (h.2.1.0 burden_0), h.3.0 parts_7, h.4.0 workers_2, h.5.0 refl, h.6.1 refl)),
  (refl, refl, (spells (codes "3") burden_3, spells (codes "0") burden_0), spells (codes "7") parts_7, spells (codes "2") workers_2, no_flag, flag_off),
)

pub returns-clause-no_compare : goal.returns-clause-no_compare
unfolding clap_on_literals
returns-clause-no_compare c = (refl, refl, refl, refl, refl, refl)

top_unsaid : IsNumberIn 0 4294967295 (codes "10")
top_unsaid = ((omega arith, (omega arith, (omega arith, tt))), omega arith, omega arith)

top_3 : IsNumberIn 0 4294967295 (codes "3")
top_3 = burden_3

faster_unsaid : IsNumberIn 2 1000 (codes "2")
faster_unsaid = ((omega arith, (omega arith, tt)), omega arith, omega arith)

faster_most : IsNumberIn 2 1000 (codes "1000")
faster_most = ((omega arith, (omega arith, (omega arith, (omega arith, (omega arith, tt))))), omega arith, omega arith)

-- the options are what their words spell
as_advised : (found : Option (Text × List Row)) (o : Option AdviseOptions) (top factor : ℕ) (site : Option Text) → (IsAdvised found None → ⊥)
    → ((p : AdviseOptions) → GivesAdvice found p.top p.factor (option_map string_bytes p.site) → AreOptions (Some p) top factor site)
    → IsAdvised found o → AreOptions o top factor site
as_advised None None top factor site asked same is = absurd is
as_advised None (Some p) top factor site asked same is = absurd is
as_advised (Some (name, rows)) None top factor site asked same is = absurd (asked is)
as_advised (Some (name, rows)) (Some p) top factor site asked same is = same p is

one_advise : (x : ℕ) (rest : Text) → (x == 45) ≡ false → AskAdvice (codes "advise" ∷ (x ∷ rest) ∷ []) ((x ∷ rest) ∷ []) false 10 2 None
unfolding clap_on_literals given unsaid
one_advise x rest plain =
    let rows : List Row = given (codes "FILE") ((x ∷ rest) ∷ []) ∷ unsaid (codes "burden") (codes "15000") WithoutMinus ∷ unsaid (codes "parts") (codes "16") WithoutMinus ∷ unsaid (codes "workers") (codes "4") WithoutMinus ∷ unsaid (codes "top") (codes "10") WithoutMinus ∷ unsaid (codes "faster") (codes "2") WithoutMinus ∷ unsaid (codes "csv") (codes "false") AsWritten ∷ unsaid (codes "explain") (codes "false") AsWritten ∷ [] in
    let found : subcommand_of spprof (codes "spprof" ∷ codes "advise" ∷ (x ∷ rest) ∷ []) ≡ Some (codes "advise", rows) = simp plain in
    let path : paths_of (Some (x ∷ rest)) None None ≡ (x ∷ rest) ∷ [] = simp plain in (
      (
        rw plain (rw plain refl),
        (λ a h.
            let q : IsAskedBy (Some (codes "advise", rows)) a = subst (λ o. IsAskedBy o a) found h in
            (is_advise a.request.command q.0, q.1 ∙ path, as_given a.request.burdens (q.2.0.0 burden_unsaid, q.2.1), q.3.0 parts_unsaid, q.4.0 workers_unsaid, q.5.1 refl, q.6.1 refl)),
        subst (λ o. Gives o Profile ((x ∷ rest) ∷ []) (equal 15000) 16 4 false false) (sym found) (inr refl, sym path, (spells (codes "15000") burden_unsaid, refl), spells (codes "16") parts_unsaid, spells (codes "4") workers_unsaid, flag_off, flag_off),
      ),
      (λ o h. as_advised (Some (codes "advise", rows)) o 10 2 None (λ other. other refl) (λ p are. (are.1.0 top_unsaid, are.2.0 faster_unsaid, are.3)) (subst (λ f. IsAdvised f o) found h)),
      subst (λ f. GivesAdvice f 10 2 None) (sym found) (refl, spells (codes "10") top_unsaid, spells (codes "2") faster_unsaid, refl),
    )

pub returns-clause-advise : goal.returns-clause-advise
unfolding clap_on_literals
returns-clause-advise c = (
  (
    (refl, (λ a h. (is_advise a.request.command h.0, h.1, as_given a.request.burdens (h.2.0.0 burden_unsaid, h.2.1), h.3.0 parts_unsaid, h.4.0 workers_unsaid, h.5.1 refl, h.6.1 refl)), (inr refl, refl, (spells (codes "15000") burden_unsaid, refl), spells (codes "16") parts_unsaid, spells (codes "4") workers_unsaid, flag_off, flag_off)),
    (λ o h. as_advised (subcommand_of spprof (spoken (codes "spprof" ∷ codes "advise" ∷ []))) o 10 2 None (λ other. other refl) (λ p are. (are.1.0 top_unsaid, are.2.0 faster_unsaid, are.3)) h),
    (refl, spells (codes "10") top_unsaid, spells (codes "2") faster_unsaid, refl),
  ),
  (
    (refl, (λ a h. (is_advise a.request.command h.0, h.1, as_given a.request.burdens (h.2.0.0 burden_unsaid, h.2.1), h.3.0 parts_unsaid, h.4.0 workers_unsaid, h.5.1 refl, h.6.1 refl)), (inr refl, refl, (spells (codes "15000") burden_unsaid, refl), spells (codes "16") parts_unsaid, spells (codes "4") workers_unsaid, flag_off, flag_off)),
    (λ o h. as_advised (subcommand_of spprof (spoken (codes "spprof" ∷ codes "advise" ∷ codes "-" ∷ []))) o 10 2 None (λ other. other refl) (λ p are. (are.1.0 top_unsaid, are.2.0 faster_unsaid, are.3)) h),
    (refl, spells (codes "10") top_unsaid, spells (codes "2") faster_unsaid, refl),
  ),
  one_advise,
  (
    (refl, (λ a h. (is_advise a.request.command h.0, h.1, as_given a.request.burdens (h.2.0.0 burden_unsaid, h.2.1), h.3.0 parts_unsaid, h.4.0 workers_unsaid, h.5.2 refl, h.6.1 refl)), (inr refl, refl, (spells (codes "15000") burden_unsaid, refl), spells (codes "16") parts_unsaid, spells (codes "4") workers_unsaid, flag_on, flag_off)),
    (λ o h. as_advised (subcommand_of spprof (spoken (codes "spprof" ∷ codes "advise" ∷ codes "--top" ∷ codes "3" ∷ codes "--site" ∷ codes "b" ∷ codes "--faster=1000" ∷ codes "--csv" ∷ codes "a" ∷ []))) o 3 1000 (Some (codes "b")) (λ other. other refl) (λ p are. (are.1.0 top_3, are.2.0 faster_most, are.3)) h),
    (refl, spells (codes "3") top_3, spells (codes "1000") faster_most, refl),
  ),
)

no_second : (x y : ℕ) (rest more : Text) → (x == 45) ≡ false → (y == 45) ≡ false → Fail (codes "advise" ∷ (x ∷ rest) ∷ (y ∷ more) ∷ []) UnknownArgument
unfolding clap_on_literals
no_second x y rest more plain plain2 = simp (plain, plain2)

pub returns-clause-no_advise : goal.returns-clause-no_advise
unfolding clap_on_literals
returns-clause-no_advise c = (no_second, refl, refl, refl, refl, refl)

pub returns-clause-advise_help : goal.returns-clause-advise_help
unfolding clap_on_literals
returns-clause-advise_help c = (refl, refl)
