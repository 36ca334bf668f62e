-- A header keeps the fault that it has first, whatever follows, but for `short`, and for `trailing`, of which nothing is said here.
use Rattle.std.proofs.Common.{◌≡◌, ◌≢◌, ℕ, ◌≤◌, List, ◌++◌, length, take, drop, refl, sym, ap, subst, ◌∙◌, append_assoc, length-append, arith, inl, inr}
use Rattle.std.specs.Prelude.{Contains, nat_eq, if◌then◌else◌}
use Rattle.std.specs.List.{flat_map, AllByRecursion}
use Rattle.std.specs.Int.{w16, w32, from_be_bytes, IsInRange}
use Rattle.std.proofs.lemmas.List.{drop-append-le, get_or_append_left, length-drop, take-append-le}
use Rattle.spp_event.specs.declared.header.HeaderFault.{HeaderFault}
use Rattle.spp_event.specs.declared.header.HeaderFault.TheVariants.{Short, Magic, Limits, Name, SameName, RootFunc, Trailing, Memory}
use Rattle.spp_event.specs.declared.version.Version.TheVariants.{One, Two}
use Rattle.spp_event.specs.Records.{word_at}
use Rattle.spp_event.specs.Header.{magic, version_in, name_spelling, name_len, AreApart, funcs_in, sites_in, root_in, events_in, HasBadName, HasGoodHead, HasNames, IsHeaderFault, IsWithinLimits}

module _ (front more : List ℕ) (long : 24 ≤ length front) where
  longer : 24 ≤ length (front ++ more)
  longer = omega (arith, length-append front more)

  -- the numbers and the magic stay
  word_same : (k : ℕ) → k ≤ 20 → word_at (front ++ more) k ≡ word_at front k
  word_same k le =
      ap (λ (l : List ℕ). from_be_bytes w32 (take 4 l)) (drop-append-le k front more (omega arith))
      ∙ ap (from_be_bytes w32) (take-append-le 4 (drop k front) more (omega (arith, length-drop k front)))

  funcs_same : funcs_in (front ++ more) ≡ funcs_in front
  funcs_same = word_same 8 (omega arith)

  sites_same : sites_in (front ++ more) ≡ sites_in front
  sites_same = word_same 12 (omega arith)

  root_same : root_in (front ++ more) ≡ root_in front
  root_same = word_same 16 (omega arith)

  events_same : events_in (front ++ more) ≡ events_in front
  events_same = word_same 20 (omega arith)

  version_same : version_in (front ++ more) ≡ version_in front
  version_same = ap (λ (b : ℕ). if nat_eq b 50 then Two else One) (get_or_append_left front more 0 7 (omega arith))

  begins_same : take 8 (front ++ more) ≡ take 8 front
  begins_same = take-append-le 8 front more (omega arith)

  magic_kept : take 8 front ≡ magic (version_in front) → take 8 (front ++ more) ≡ magic (version_in (front ++ more))
  magic_kept is = begins_same ∙ is ∙ ap magic (sym version_same)

  magic_lost : take 8 front ≢ magic (version_in front) → take 8 (front ++ more) ≢ magic (version_in (front ++ more))
  magic_lost isnt is = isnt (sym begins_same ∙ is ∙ ap magic version_same)

  limits_kept : IsWithinLimits front → IsWithinLimits (front ++ more)
  limits_kept l =
      let some = l.some_func in let funcs = l.funcs in let sites = l.sites in let events = l.events in
      record { some_func = omega (arith, funcs_same); funcs = omega (arith, funcs_same); sites = omega (arith, sites_same); events = omega (arith, events_same) }

  limits_lost : ¬ IsWithinLimits front → ¬ IsWithinLimits (front ++ more)
  limits_lost outside l =
      let some = l.some_func in let funcs = l.funcs in let sites = l.sites in let events = l.events in
      outside (record { some_func = omega (arith, funcs_same); funcs = omega (arith, funcs_same); sites = omega (arith, sites_same); events = omega (arith, events_same) })

  head_kept : HasGoodHead front → HasGoodHead (front ++ more)
  head_kept h = let root = h.root in record { long = longer; magic = magic_kept h.magic; limits = limits_kept h.limits; root = omega (arith, funcs_same, root_same) }

  -- the names stay, and more follows the rest
  names_kept : (names : List (List ℕ)) (rest : List ℕ) → HasNames front names rest → HasNames (front ++ more) names (rest ++ more)
  names_kept names rest h =
      let few = h.few in
      record {
        head = head_kept h.head;
        spelled = drop-append-le 24 front more long ∙ ap (λ (l : List ℕ). l ++ more) h.spelled ∙ append_assoc (flat_map name_spelling names) rest more;
        few = omega (arith, funcs_same, sites_same);
        good = h.good;
        apart = subst (λ (k : ℕ). AreApart (drop k names)) (sym funcs_same) h.apart;
      }

-- a bad name stays
bad_name_kept : (rest more : List ℕ) → HasBadName rest → HasBadName (rest ++ more)
bad_name_kept rest more (long, why) =
    let same : name_len (rest ++ more) ≡ name_len rest = ap (from_be_bytes w16) (take-append-le 2 rest more long) in
    let longer : 2 ≤ length (rest ++ more) = omega (arith, length-append rest more) in (
      longer,
      elim why [
        | inl none ↦ inl (same ∙ none)
        | inr (inl many) ↦ inr (inl (omega (arith, same)))
        | inr (inr (there, bad)) ↦
            let name : take (name_len (rest ++ more)) (drop 2 (rest ++ more)) ≡ take (name_len rest) (drop 2 rest) =
            ap (λ (k : ℕ). take k (drop 2 (rest ++ more))) same
            ∙ ap (λ (l : List ℕ). take (name_len rest) l) (drop-append-le 2 rest more long)
            ∙ take-append-le (name_len rest) (drop 2 rest) more (omega (arith, length-drop 2 rest)) in
            inr (inr (omega (arith, same, length-append rest more), λ all. bad (subst (AllByRecursion (IsInRange 32 126)) name all)))
      ],
    )

pub fault_stays : (front : List ℕ) (fault : HeaderFault) → fault ≢ Short → fault ≢ Trailing → IsHeaderFault front fault → (more : List ℕ) → IsHeaderFault (front ++ more) fault
fault_stays front Short short trailing is more = absurd (short refl)
fault_stays front Magic short trailing (long, isnt) more = (longer front more long, magic_lost front more long isnt)
fault_stays front Limits short trailing (long, is, outside) more = (longer front more long, magic_kept front more long is, limits_lost front more long outside)
fault_stays front RootFunc short trailing (long, is, within, none) more =
    (longer front more long, magic_kept front more long is, limits_kept front more long within, omega (arith, funcs_same front more long, root_same front more long))
fault_stays front (Name number) short trailing (names, rest, have, wants, numbered, bad) more =
    let long = have.head.long in
    (names, rest ++ more, names_kept front more long names rest have, omega (arith, funcs_same front more long, sites_same front more long), numbered, bad_name_kept rest more bad)
fault_stays front (SameName number) short trailing (names, name, rest, have, wants, numbered, site, good, taken) more =
    let long = have.head.long in
    let same = funcs_same front more long in (
      names,
      name,
      rest ++ more,
      subst (HasNames (front ++ more) names) (append_assoc (name_spelling name) rest more) (names_kept front more long names (name_spelling name ++ rest) have),
      omega (arith, same, sites_same front more long),
      numbered,
      omega (arith, same),
      good,
      elim taken [
        | inl root ↦ inl root
        | inr other ↦ inr (subst (λ (k : ℕ). Contains (drop k names) name) (sym same) other)
      ],
    )
fault_stays front Trailing short trailing is more = absurd (trailing refl)
fault_stays front Memory short trailing is more = absurd is
