-- What a header and the bytes behind it are together, whatever these bytes are.
use Rattle.std.proofs.Common.{◌≡◌, ℕ, ◌+◌, ◌≤◌, ◌<◌, ◌^◌, List, [], ◌∷◌, ◌++◌, length, take, drop, refl, sym, ap, subst, ◌∙◌, length-append, arith}
use Rattle.std.specs.List.{flat_map, AllByRecursion}
use Rattle.std.proofs.lemmas.List.{drop_at}
use Rattle.std.proofs.lemmas.List.Concat.{flat_map-append}
use Rattle.std.proofs.lemmas.Nat.{from_be_bytes-to_be_bytes_4}
use Rattle.spp_event.specs.declared.header.HeaderFault.TheVariants.{Trailing}
use Rattle.spp_event.specs.declared.version.Version.{Version}
use Rattle.spp_event.specs.declared.version.Version.TheVariants.{One, Two}
use Rattle.spp_event.specs.Records.{word}
use Rattle.spp_event.specs.Recordings.{Recording, InLimits, records_of, room, filled}
use Rattle.spp_event.specs.Header.{magic, version_in, name_spelling, IsName, AreApart, HasGoodNames, IsTraceOf, IsHeaderFault, HasGoodHead, HasNames, IsWithinLimits, funcs_in, sites_in, root_in, events_in}
use Rattle.spp_event.specs.Heads.{IsHeadOf}
use Rattle.spp_event.proofs.RecordPlaces.{length-records_of}

-- the same trace with another body, of that version
abbrev pub with_body : Version → Recording → List ℕ → Recording
with_body v t body = record { funcs = t.funcs; sites = t.sites; root = t.root; records = records_of v (length t.sites) (length t.funcs) (length t.records) body; version = v; body = body }

abbrev names_spelled : Recording → List ℕ
names_spelled t = flat_map name_spelling t.funcs ++ flat_map name_spelling t.sites

abbrev spelled_with : Recording → Version → ℕ → List ℕ
spelled_with t v n = magic v ++ (word (length t.funcs) ++ word (length t.sites) ++ word t.root ++ word n ++ names_spelled t)

-- with no more behind it than its events have room for it is a trace
pub head_traced : (v : Version) (head body : List ℕ) (s f n : ℕ) → IsHeadOf v head s f n → filled v body ≤ room v n → (t : Recording) × IsTraceOf (head ++ body) t × (t.records ≡ records_of v s f n body)
head_traced v head body s f n h few =
    let t = h.trace in
    let m : length (records_of v (length t.sites) (length t.funcs) (length t.records) body) ≡ length t.records = length-records_of v (length t.sites) (length t.funcs) (length t.records) body in
    let k = h.count_is in
    let whole : IsTraceOf (head ++ body) (with_body v t body) = record {
      header = ap (λ (l : List ℕ). l ++ body) (h.spelled ∙ ap (λ (w : Version). spelled_with t w (length t.records)) h.version_is ∙ ap (λ (j : ℕ). spelled_with t v j) (sym m));
      limits = record { some_func = h.limits.some_func; funcs = h.limits.funcs; sites = h.limits.sites; root = h.limits.root; events = subst (λ (j : ℕ). j ≤ 2 ^ 28) (sym m) h.limits.events };
      names = record { func_names = h.names.func_names; site_names = h.names.site_names; apart = h.names.apart };
      room = subst (λ (j : ℕ). filled v body ≤ room v j) (sym k ∙ sym m) few;
      records = ap (λ (j : ℕ). records_of v (length t.sites) (length t.funcs) j body) (sym m);
    } in (
      with_body v t body,
      whole,
      ap (λ (j : ℕ). records_of v j (length t.funcs) (length t.records) body) h.sites_are
          ∙ ap (λ (j : ℕ). records_of v s j (length t.records) body) h.funcs_are
          ∙ ap (λ (j : ℕ). records_of v s f j body) k,
    )

all_both : {X : Type 0} (P : X → Type 0) (xs ys : List X) → AllByRecursion P xs → AllByRecursion P ys → AllByRecursion P (xs ++ ys)
all_both P [] ys h k = k
all_both P (x ∷ xs) ys h k = (h.0, all_both P xs ys h.1 k)

-- the same header, byte by byte as far as its numbers go
abbrev bytes_with : Version → Recording → List ℕ → List ℕ
bytes_with v t body = spelled_with t v (length t.records) ++ body

-- what its first 24 bytes say, and what stands behind them
record Says (v : Version) (t : Recording) (body : List ℕ) : Type 0 where
  funcs : funcs_in (bytes_with v t body) ≡ length t.funcs
  sites : sites_in (bytes_with v t body) ≡ length t.sites
  root : root_in (bytes_with v t body) ≡ t.root
  events : events_in (bytes_with v t body) ≡ length t.records
  long : 24 ≤ length (bytes_with v t body)
  version : version_in (bytes_with v t body) ≡ v
  magic : take 8 (bytes_with v t body) ≡ magic v
  rest : drop 24 (bytes_with v t body) ≡ names_spelled t ++ body

says : (v : Version) (t : Recording) (body : List ℕ) → InLimits t → Says v t body
says One t body l =
    let some = l.some_func in let few = l.funcs in let sites = l.sites in let root = l.root in let events = l.events in
    record {
      funcs = from_be_bytes-to_be_bytes_4 (length t.funcs) (omega arith);
      sites = from_be_bytes-to_be_bytes_4 (length t.sites) (omega arith);
      root = from_be_bytes-to_be_bytes_4 t.root (omega arith);
      events = from_be_bytes-to_be_bytes_4 (length t.records) (omega arith);
      long = omega arith;
      version = refl;
      magic = refl;
      rest = refl;
    }
says Two t body l =
    let some = l.some_func in let few = l.funcs in let sites = l.sites in let root = l.root in let events = l.events in
    record {
      funcs = from_be_bytes-to_be_bytes_4 (length t.funcs) (omega arith);
      sites = from_be_bytes-to_be_bytes_4 (length t.sites) (omega arith);
      root = from_be_bytes-to_be_bytes_4 t.root (omega arith);
      events = from_be_bytes-to_be_bytes_4 (length t.records) (omega arith);
      long = omega arith;
      version = refl;
      magic = refl;
      rest = refl;
    }

trails_in : (v : Version) (t : Recording) (body : List ℕ) → InLimits t → HasGoodNames t → room v (length t.records) < filled v body → IsHeaderFault (bytes_with v t body) Trailing
trails_in v t body l g over =
    let bytes = bytes_with v t body in
    let said = says v t body l in
    let some = l.some_func in let few = l.funcs in let sites = l.sites in let root = l.root in let events = l.events in
    let f_is = said.funcs in
    let s_is = said.sites in
    let r_is = said.root in
    let n_is = said.events in
    let both : length (t.funcs ++ t.sites) ≡ funcs_in bytes + sites_in bytes = omega (arith, length-append t.funcs t.sites, f_is, s_is) in
    let limits : IsWithinLimits bytes = record { some_func = omega (arith, f_is); funcs = omega (arith, f_is); sites = omega (arith, s_is); events = omega (arith, n_is) } in
    let head : HasGoodHead bytes = record { long = said.long; magic = said.magic ∙ sym (ap magic said.version); limits = limits; root = omega (arith, f_is, r_is) } in
    let apart : AreApart (drop (funcs_in bytes) (t.funcs ++ t.sites)) = subst (λ (k : ℕ). AreApart (drop k (t.funcs ++ t.sites))) (sym f_is) (subst AreApart (sym (drop_at t.funcs t.sites (length t.funcs) refl)) g.apart) in
    let names : HasNames bytes (t.funcs ++ t.sites) body = record {
      head = head;
      spelled = said.rest ∙ ap (λ (x : List ℕ). x ++ body) (sym (flat_map-append name_spelling t.funcs t.sites));
      few = omega (arith, both);
      good = all_both IsName t.funcs t.sites g.func_names g.site_names;
      apart = apart;
    } in
    let more : room (version_in bytes) (events_in bytes) < filled (version_in bytes) body =
    subst (λ (w : Version). room w (events_in bytes) < filled w body) (sym said.version) (subst (λ (j : ℕ). room v j < filled v body) (sym n_is) over) in
    (t.funcs ++ t.sites, body, names, both, more)

-- with more behind it the first fault is what trails
pub head_trails : (v : Version) (head body : List ℕ) (s f n : ℕ) → IsHeadOf v head s f n → room v n < filled v body → IsHeaderFault (head ++ body) Trailing
head_trails v head body s f n h over =
    let t = h.trace in
    let spelled : head ++ body ≡ bytes_with v t body = ap (λ (l : List ℕ). l ++ body) (h.spelled ∙ ap (λ (w : Version). spelled_with t w (length t.records)) h.version_is) in
    subst (λ (l : List ℕ). IsHeaderFault l Trailing) (sym spelled) (trails_in v t body h.limits h.names (subst (λ (j : ℕ). room v j < filled v body) (sym h.count_is) over))
