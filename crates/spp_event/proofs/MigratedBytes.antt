-- A header and the items of events are the bytes of a trace of version 2.
use Rattle.std.proofs.Common.{◌≡◌, ℕ, suc, ◌<◌, List, [], ◌∷◌, ◌++◌, length, get_or, map, true, false, Ok, Err, refl, sym, ap, subst, ◌∙◌, arith}
use Rattle.std.specs.Prelude.{IfOk}
use Rattle.std.specs.List.{flat_map}
use Rattle.std.proofs.lemmas.List.{ext_get_or, length-map, get_or-map}
use Rattle.std.proofs.lemmas.List.Concat.{flat_map-cons}
use Rattle.spp_event.specs.declared.records.Event.{Event}
use Rattle.spp_event.specs.declared.records.Event.TheVariants.{Ret}
use Rattle.spp_event.specs.declared.records.EventFault.TheVariants.{Truncated}
use Rattle.spp_event.specs.declared.version.Version.TheVariants.{Two}
use Rattle.spp_event.specs.Items.{items, item_of, read_item}
use Rattle.spp_event.specs.Records.{IsEventOf}
use Rattle.spp_event.specs.Recordings.{Record, Recording, InLimits, AreEventsOf, record_at, records_of, item}
use Rattle.spp_event.specs.Header.{HasGoodNames, IsTraceOf, header_spelling}
use Rattle.spp_event.specs.Migrating.{AreGoodTo, compact, item_in}
use Rattle.spp_event.proofs.ItemBodies.{items_are_parted}
use Rattle.spp_event.proofs.ItemsRead.{item_is_read}
use Rattle.spp_event.proofs.RecordPlaces.{length-records_of, record_at-records_of}

-- records without a fault are events
record Events (rs : List Record) : Type 0 where
  es : List Event
  are : rs ≡ map (λ e. Ok e) es

all_events : (rs : List Record) → AreGoodTo rs (length rs) → Events rs
all_events [] h = record { es = []; are = refl }
all_events (Ok e ∷ rs) h = let r = all_events rs (λ i l. h (suc i) (omega arith)) in record { es = e ∷ r.es; are = ap (λ (l : List Record). Ok e ∷ l) r.are }
all_events (Err f ∷ rs) h = absurd (let z : false ≡ true = h 0 (omega arith) in cc)

their_items : (es : List Event) → flat_map item_in (map (λ e. Ok e) es) ≡ flat_map item_of es
their_items [] = refl
their_items (e ∷ es) = flat_map-cons item_in (Ok e) (map (λ x. Ok x) es) ∙ ap (λ (l : List ℕ). item_of e ++ l) (their_items es) ∙ sym (flat_map-cons item_of e es)

pub is_migrated : (t : Recording) (bytes : List ℕ) → InLimits t → HasGoodNames t → AreEventsOf (length t.sites) (length t.funcs) t.records → AreGoodTo t.records (length t.records)
    → bytes ≡ header_spelling (compact t) ++ flat_map item_in t.records → IsTraceOf bytes (compact t)
is_migrated t bytes l names within good is =
    let ev = all_events t.records good in
    let es = ev.es in
    let body = flat_map item_in t.records in
    let spelled : body ≡ flat_map item_of es = ap (λ (rs : List Record). flat_map item_in rs) ev.are ∙ their_items es in
    let parted : items body ≡ map item_of es = ap items spelled ∙ items_are_parted es in
    let n : length t.records ≡ length es = ap (λ (rs : List Record). length rs) ev.are ∙ length-map es (λ e. Ok e) in
    let few_sites = l.sites in let few_funcs = l.funcs in
    record {
      header = is;
      limits = record { some_func = l.some_func; funcs = l.funcs; sites = l.sites; root = l.root; events = l.events };
      names = record { func_names = names.func_names; site_names = names.site_names; apart = names.apart };
      room = omega (arith, n, ap (λ (x : List (List ℕ)). length x) parted, length-map es item_of);
      records = ext_get_or (Err Truncated) t.records (records_of Two (length t.sites) (length t.funcs) (length t.records) body)
          (sym (length-records_of Two (length t.sites) (length t.funcs) (length t.records) body))
          (λ i lt.
          let in_es : i < length es = omega arith in
          let said : record_at t.records i ≡ Ok (get_or es i Ret) = ap (λ (rs : List Record). get_or rs i (Err Truncated)) ev.are ∙ get_or-map (λ e. Ok e) es i Ret (Err Truncated) in_es in
          let there : item body i ≡ item_of (get_or es i Ret) = ap (λ (x : List (List ℕ)). get_or x i []) parted ∙ get_or-map item_of es i Ret [] in_es in
          let own : IsEventOf (length t.sites) (length t.funcs) (get_or es i Ret) = subst (λ (r : Record). IfOk r (IsEventOf (length t.sites) (length t.funcs))) said (within i lt) in
          said
          ∙ sym (item_is_read (length t.sites) (length t.funcs) (get_or es i Ret) (omega arith) (omega arith) own)
          ∙ ap (λ (x : List ℕ). read_item (length t.sites) (length t.funcs) x) (sym there)
          ∙ sym (record_at-records_of Two (length t.sites) (length t.funcs) (length t.records) body i lt));
    }
